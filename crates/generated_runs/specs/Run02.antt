-- Made by tools/evaluate/write: change what it reads, in tools/evaluate/runs, and run it again.
use Rattle.std.specs.Prelude.{[], ◌∷◌}
use Rattle.generated_runs.specs.Agreement.{Run, lines}

-- the run's code:
-- 0000001c addi x7,x0,-139
-- 00000020 addi x10,x0,151
-- 00000024 auipc x1,0x0
-- 00000028 addi x1,x1,72
-- 0000002c addi x15,x2,-784
-- 00000030 sw x15,-32(x2)
-- 00000034 lw x12,-4(x2)
-- 00000038 or x12,x12,x2
-- 0000003c andi x12,x12,0
-- 00000040 add x12,x12,x2
-- 00000044 sw x2,-32(x12)
-- 00000048 lw x5,-32(x2)
-- 0000004c lw x7,0(x5)
-- 00000050 sw x7,-1784(x2)
-- 00000054 lw x7,-1784(x2)
-- 00000058 andi x10,x7,252
-- 0000005c sub x10,x2,x10
-- 00000060 lw x11,0(x10)
-- 00000064 lw x12,8(x2)
-- 00000068 or x12,x12,x12
-- 0000006c lw x5,1(x0)
-- 00000070 lbu x6,-772(x2)
-- 00000074 blt x6,x6,+8
-- 00000078 and x8,x10,x9
-- 0000007c lb x9,-359(x2)
-- 00000080 andi x6,x6,8
-- 00000084 auipc x9,0x0
-- 00000088 add x6,x6,x9
-- 0000008c jalr x1,12(x6)
-- 00000090 addi x17,x0,94
-- 00000094 ecall
abbrev pub run_02 : Run
run_02 = record {
  description = lines (
      "[core]" ∷
      "fetch_width = 2" ∷
      "retire_width = 4" ∷
      "rob = 17" ∷
      "stations = 32" ∷
      "loads = 16" ∷
      "stores = 16" ∷
      "queue = 7" ∷
      "[units]" ∷
      "alus = 1" ∷
      "mul_latency = 5" ∷
      "[predictor]" ∷
      "counters = 8" ∷
      "btb = 8" ∷
      "[cache]" ∷
      "sets = 2" ∷
      "ways = 8" ∷
      "line = 16" ∷
      "hit_latency = 2" ∷
      "miss_latency = 11" ∷
      "mshrs = 8" ∷
      "[ram]" ∷
      "base = 0" ∷
      "size = 4096" ∷
      "[stt]" ∷
      "model = \"futuristic\"" ∷
      []);
  image =
      0x464c457f ∷ 0x00010101 ∷ 0x00000000 ∷ 0x00000000 ∷ 0x00f30002 ∷ 0x00000001 ∷ 0x0000001c ∷ 0x00000034 ∷
      0x00000000 ∷ 0x00000000 ∷ 0x00200034 ∷ 0x00000002 ∷ 0x00000000 ∷ 0x00000001 ∷ 0x00000074 ∷ 0x0000001c ∷
      0x0000001c ∷ 0x0000007c ∷ 0x0000007c ∷ 0x00000007 ∷ 0x00000004 ∷ 0x00000001 ∷ 0x000000f0 ∷ 0x00000fc0 ∷
      0x00000fc0 ∷ 0x00000040 ∷ 0x00000040 ∷ 0x00000006 ∷ 0x00000004 ∷ 0xf7500393 ∷ 0x09700513 ∷ 0x00000097 ∷
      0x04808093 ∷ 0xcf010793 ∷ 0xfef12023 ∷ 0xffc12603 ∷ 0x00266633 ∷ 0x00067613 ∷ 0x00260633 ∷ 0xfe262023 ∷
      0xfe012283 ∷ 0x0002a383 ∷ 0x90712423 ∷ 0x90812383 ∷ 0x0fc3f513 ∷ 0x40a10533 ∷ 0x00052583 ∷ 0x00812603 ∷
      0x00c66633 ∷ 0x00102283 ∷ 0xcfc14303 ∷ 0x00634463 ∷ 0x00957433 ∷ 0xe9910483 ∷ 0x00837313 ∷ 0x00000497 ∷
      0x00930333 ∷ 0x00c300e7 ∷ 0x05e00893 ∷ 0x00000073 ∷ 0x00000040 ∷ 0x00000046 ∷ 0x00000000 ∷ 0x46a865d5 ∷
      0x00000000 ∷ 0x00000c60 ∷ 0xcf759ccb ∷ 0x2ef559f8 ∷ 0x00000730 ∷ 0x00000003 ∷ 0x000000fe ∷ 0x00000000 ∷
      0x8e7255a1 ∷ 0x00000025 ∷ 0x00000078 ∷ 0x00000050 ∷
      [];
  cycles = 400;
  trace = lines (
      "1 fet:0000001c fet:00000020" ∷
      "2 ren:0:0000001c ren:1:00000020 fet:00000024 fet:00000028" ∷
      "3 alu:0 ren:2:00000024 ren:3:00000028 fet:0000002c fet:00000030" ∷
      "4 done:0 ret:0 alu:1 ren:4:0000002c ren:5:00000030 fet:00000034 fet:00000038" ∷
      "5 done:1 ret:1 alu:2 ren:6:00000034 ren:7:00000038 fet:0000003c fet:00000040" ∷
      "6 done:2 ret:2 alu:3 ren:8:0000003c ren:9:00000040 fet:00000044 fet:00000048" ∷
      "7 done:3 ret:3 alu:4 ren:10:00000044 ren:11:00000048 fet:0000004c fet:00000050" ∷
      "8 done:4 ret:4 agu:5 ren:12:0000004c ren:13:00000050 fet:00000054 fet:00000058" ∷
      "9 done:5 ret:5 st:5:00000fd0:m ld:6:00000fe0:m ren:14:00000054 ren:15:00000058 fet:0000005c fet:00000060" ∷
      "10 ren:16:0000005c ren:17:00000060 fet:00000064 fet:00000068" ∷
      "11 ren:18:00000064 ren:19:00000068 fet:0000006c fet:00000070" ∷
      "12 ren:20:0000006c ren:21:00000070 fet:00000074 fet:00000078" ∷
      "13 ren:22:00000074 fet:0000007c fet:00000080" ∷
      "14 fet:00000084 fet:00000088" ∷
      "15 fet:0000008c fet:00000090" ∷
      "16" ∷
      "17" ∷
      "18" ∷
      "19" ∷
      "20 fill:00000fe0 done:6 ret:6 alu:7 ren:23:00000078 fet:00000094" ∷
      "21 done:7 ret:7 alu:8 ren:24:0000007c fet:00000098" ∷
      "22 done:8 ret:8 alu:9 ren:25:00000080" ∷
      "23 done:9 ret:9 agu:10 ren:26:00000084" ∷
      "24 done:10 ret:10 st:10:00000fd0:m ld:11:00000fd0:m alu:26 ren:27:00000088" ∷
      "25 done:26" ∷
      "26" ∷
      "27" ∷
      "28" ∷
      "29" ∷
      "30" ∷
      "31" ∷
      "32" ∷
      "33" ∷
      "34" ∷
      "35 fill:00000fd0 done:11 ret:11 ld:12:00000ff0:m ren:28:0000008c" ∷
      "36" ∷
      "37" ∷
      "38" ∷
      "39" ∷
      "40" ∷
      "41" ∷
      "42" ∷
      "43" ∷
      "44" ∷
      "45" ∷
      "46 fill:00000ff0 done:12 ret:12 agu:13 ren:29:00000090" ∷
      "47 done:13 ret:13 st:13:000008f0:m ld:14:000008f0:m alu:29" ∷
      "48 done:29 ld:18:00000ff0:h" ∷
      "49 ld:20:x" ∷
      "50 done:18 done:20 alu:19 ld:21:00000ce0:m" ∷
      "51 done:19 ld:24:00000e80:m" ∷
      "52" ∷
      "53" ∷
      "54" ∷
      "55" ∷
      "56" ∷
      "57" ∷
      "58 fill:000008f0 done:14 ret:14 alu:15" ∷
      "59 done:15 ret:15 alu:16" ∷
      "60 done:16 ret:16 ld:17:00000f50:m alu:23" ∷
      "61 fill:00000ce0 done:21 done:23 alu:22" ∷
      "62 fill:00000e80 done:22 done:24 alu:25" ∷
      "63 done:25 alu:27" ∷
      "64 done:27 alu:28" ∷
      "65 done:28" ∷
      "66" ∷
      "67" ∷
      "68" ∷
      "69" ∷
      "70" ∷
      "71 fill:00000f50 done:17 ret:17 ret:18 ret:19" ∷
      "end trap 4 0000006c retired 20 cycles 71" ∷
      []);
}
