-- Made by tools/evaluate/write: change what it reads, in tools/evaluate/runs, and run it again.
use Rattle.std.specs.Prelude.{[], ◌∷◌}
use Rattle.generated_runs.specs.Agreement.{Run, lines}

-- the run's code:
-- 0000000c addi x6,x0,-1849
-- 00000010 addi x10,x0,1381
-- 00000014 auipc x1,0x0
-- 00000018 addi x1,x1,48
-- 0000001c addi x18,x0,5
-- 00000020 lbu x8,-26(x2)
-- 00000024 andi x16,x8,60
-- 00000028 sub x16,x2,x16
-- 0000002c lw x11,0(x16)
-- 00000030 xori x8,x10,1323
-- 00000034 lw x13,-1064(x2)
-- 00000038 div x13,x13,x2
-- 0000003c bne x13,x13,+60
-- 00000040 lbu x6,-580(x2)
-- 00000044 sw x6,-192(x2)
-- 00000048 lw x7,-192(x2)
-- 0000004c andi x11,x7,508
-- 00000050 sub x11,x2,x11
-- 00000054 lw x11,0(x11)
-- 00000058 blt x0,x6,+8
-- 0000005c sltu x8,x16,x7
-- 00000060 lbu x5,-57(x2)
-- 00000064 lw x8,0(x6)
-- 00000068 andi x10,x8,12
-- 0000006c sub x10,x2,x10
-- 00000070 lw x10,0(x10)
-- 00000074 sra x5,x16,x0
-- 00000078 lw x13,-12(x2)
-- 0000007c jalr x0,20(x13)
-- 00000080 auipc x14,0x0
-- 00000084 add x13,x13,x14
-- 00000088 fence
-- 0000008c lw x5,-704(x2)
-- 00000090 rem x10,x10,x5
-- 00000094 addi x18,x18,-1
-- 00000098 bne x18,x0,-120
-- 0000009c addi x17,x0,93
-- 000000a0 ecall
abbrev pub run_34 : Run
run_34 = record {
  description = lines (
      "[core]" ∷
      "fetch_width = 2" ∷
      "retire_width = 3" ∷
      "rob = 18" ∷
      "stations = 16" ∷
      "loads = 1" ∷
      "stores = 1" ∷
      "queue = 1" ∷
      "[units]" ∷
      "alus = 1" ∷
      "mul_latency = 4" ∷
      "[predictor]" ∷
      "counters = 8" ∷
      "btb = 1" ∷
      "[cache]" ∷
      "sets = 1" ∷
      "ways = 5" ∷
      "line = 32" ∷
      "hit_latency = 5" ∷
      "miss_latency = 6" ∷
      "mshrs = 8" ∷
      "[ram]" ∷
      "base = 0" ∷
      "size = 4096" ∷
      "[stt]" ∷
      "model = \"spectre\"" ∷
      []);
  image =
      0x464c457f ∷ 0x00010101 ∷ 0x00000000 ∷ 0x00000000 ∷ 0x00f30002 ∷ 0x00000001 ∷ 0x0000000c ∷ 0x00000034 ∷
      0x00000000 ∷ 0x00000000 ∷ 0x00200034 ∷ 0x00000002 ∷ 0x00000000 ∷ 0x00000001 ∷ 0x00000074 ∷ 0x0000000c ∷
      0x0000000c ∷ 0x00000098 ∷ 0x00000098 ∷ 0x00000001 ∷ 0x00000004 ∷ 0x00000001 ∷ 0x0000010c ∷ 0x00000fc0 ∷
      0x00000fc0 ∷ 0x00000040 ∷ 0x00000040 ∷ 0x00000006 ∷ 0x00000004 ∷ 0x8c700313 ∷ 0x56500513 ∷ 0x00000097 ∷
      0x03008093 ∷ 0x00500913 ∷ 0xfe614403 ∷ 0x03c47813 ∷ 0x41010833 ∷ 0x00082583 ∷ 0x52b54413 ∷ 0xbd812683 ∷
      0x0226c6b3 ∷ 0x02d69e63 ∷ 0xdbc14303 ∷ 0xf4612023 ∷ 0xf4012383 ∷ 0x1fc3f593 ∷ 0x40b105b3 ∷ 0x0005a583 ∷
      0x00604463 ∷ 0x00783433 ∷ 0xfc714283 ∷ 0x00032403 ∷ 0x00c47513 ∷ 0x40a10533 ∷ 0x00052503 ∷ 0x400852b3 ∷
      0xff412683 ∷ 0x01468067 ∷ 0x00000717 ∷ 0x00e686b3 ∷ 0x0ff0000f ∷ 0xd4012283 ∷ 0x02556533 ∷ 0xfff90913 ∷
      0xf80914e3 ∷ 0x05d00893 ∷ 0x00000073 ∷ 0x00000000 ∷ 0x00000000 ∷ 0x000000e4 ∷ 0x2bade864 ∷ 0x00000750 ∷
      0x00000018 ∷ 0x00000050 ∷ 0x00000000 ∷ 0x00000000 ∷ 0xff592e1d ∷ 0x00000000 ∷ 0x00000574 ∷ 0xbc2934bf ∷
      0x00000000 ∷ 0x00000000 ∷ 0x0000001c ∷
      [];
  cycles = 400;
  trace = lines (
      "1 fet:0000000c" ∷
      "2 ren:0:0000000c fet:00000010" ∷
      "3 alu:0 ren:1:00000010 fet:00000014" ∷
      "4 done:0 ret:0 alu:1 ren:2:00000014 fet:00000018" ∷
      "5 done:1 ret:1 alu:2 ren:3:00000018 fet:0000001c" ∷
      "6 done:2 ret:2 alu:3 ren:4:0000001c fet:00000020" ∷
      "7 done:3 ret:3 alu:4 ren:5:00000020 fet:00000024" ∷
      "8 done:4 ret:4 ld:5:00000fc0:m ren:6:00000024 fet:00000028" ∷
      "9 ren:7:00000028 fet:0000002c" ∷
      "10" ∷
      "11" ∷
      "12" ∷
      "13" ∷
      "14 fill:00000fc0 done:5 ret:5 alu:6 ren:8:0000002c fet:00000030" ∷
      "15 done:6 ret:6 alu:7 ren:9:00000030 fet:00000034" ∷
      "16 done:7 ret:7 ld:8:00000fe0:m alu:9" ∷
      "17 done:9" ∷
      "18" ∷
      "19" ∷
      "20" ∷
      "21" ∷
      "22 fill:00000fe0 done:8 ret:8 ret:9 ren:10:00000034 fet:00000038" ∷
      "23 ld:10:00000bc0:m ren:11:00000038 fet:0000003c" ∷
      "24 ren:12:0000003c fet:00000040" ∷
      "25" ∷
      "26" ∷
      "27" ∷
      "28" ∷
      "29 fill:00000bc0 done:10 ret:10 div:11:3 ren:13:00000040 fet:00000044" ∷
      "30 ld:13:00000da0:m ren:14:00000044 fet:00000048" ∷
      "31" ∷
      "32 done:11 ret:11 alu:12" ∷
      "33 done:12 res:12:N bp:7:0 ret:12" ∷
      "34" ∷
      "35" ∷
      "36 fill:00000da0 done:13 ret:13 agu:14 ren:15:00000048 fet:0000004c" ∷
      "37 done:14 ret:14 st:14:00000f20:m ld:15:00000f20:m ren:16:0000004c fet:00000050" ∷
      "38 ren:17:00000050 fet:00000054" ∷
      "39" ∷
      "40" ∷
      "41" ∷
      "42" ∷
      "43 fill:00000f20 done:15 ret:15 alu:16 ren:18:00000054 fet:00000058" ∷
      "44 done:16 ret:16 alu:17 ren:19:00000058 fet:0000005c" ∷
      "45 done:17 ret:17 ld:18:00000fe0:h alu:19 ren:20:0000005c fet:00000060" ∷
      "46 done:19 res:19:N bp:6:0 alu:20" ∷
      "47 done:20" ∷
      "48" ∷
      "49" ∷
      "50 done:18 ret:18 ret:19 ret:20 ren:21:00000060 fet:00000064" ∷
      "51 ld:21:00000fa0:m" ∷
      "52" ∷
      "53" ∷
      "54" ∷
      "55" ∷
      "56" ∷
      "57 fill:00000fa0 done:21 ret:21 ren:22:00000064 fet:00000068" ∷
      "58 ld:22:00000000:m ren:23:00000068 fet:0000006c" ∷
      "59 ren:24:0000006c fet:00000070" ∷
      "60" ∷
      "61" ∷
      "62" ∷
      "63" ∷
      "64 fill:00000000 done:22 ret:22 alu:23 ren:25:00000070 fet:00000074" ∷
      "65 done:23 ret:23 alu:24 ren:26:00000074 fet:00000078" ∷
      "66 done:24 ret:24 ld:25:00000fe0:h alu:26" ∷
      "67 done:26" ∷
      "68" ∷
      "69" ∷
      "70" ∷
      "71 done:25 ret:25 ret:26 ren:27:00000078 fet:0000007c" ∷
      "72 ld:27:00000fe0:h ren:28:0000007c fet:00000080" ∷
      "73 ren:29:00000080 fet:00000084" ∷
      "74 alu:29 ren:30:00000084 fet:00000088" ∷
      "75 done:29 ren:31:00000088 fet:0000008c" ∷
      "76 alu:31" ∷
      "77 done:27 done:31 ret:27 alu:28 ren:32:0000008c fet:00000090" ∷
      "78 done:28 res:28:J bt:0:ff592e30 sq:5 ret:28 fet:ff592e30" ∷
      "79 ren:33:ff592e30" ∷
      "80" ∷
      "end trap 1 ff592e30 retired 29 cycles 80" ∷
      []);
}
