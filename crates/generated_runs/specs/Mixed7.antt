-- Made by tools/evaluate/write: change what it reads, in tools/evaluate/runs, and run it again.
use Rattle.std.specs.Prelude.{[], ◌∷◌}
use Rattle.generated_runs.specs.Agreement.{Run, lines}

-- the run's code:
-- 00010000 addi x8,x2,-128
-- 00010004 sub x5,x9,x12
-- 00010008 bne x11,x10,+16
-- 0001000c div x9,x6,x7
-- 00010010 andi x13,x7,60
-- 00010014 add x13,x13,x8
-- 00010018 lw x5,0(x8)
-- 0001001c sh x7,0(x8)
-- 00010020 div x7,x11,x6
-- 00010024 andi x13,x11,12
-- 00010028 add x13,x13,x8
-- 0001002c andi x13,x11,12
-- 00010030 add x13,x13,x8
-- 00010034 mul x7,x9,x12
-- 00010038 rem x11,x2,x0
-- 0001003c sub x7,x12,x6
-- 00010040 rem x9,x2,x0
-- 00010044 div x12,x6,x9
-- 00010048 mul x10,x11,x6
-- 0001004c mul x10,x11,x12
-- 00010050 sh x9,0(x8)
-- 00010054 sh x9,0(x8)
-- 00010058 lhu x6,12(x8)
-- 0001005c sub x6,x9,x12
-- 00010060 sub x6,x11,x5
-- 00010064 blt x10,x0,+8
-- 00010068 div x6,x11,x11
-- 0001006c add x5,x11,x11
-- 00010070 bne x11,x0,+8
-- 00010074 add x9,x11,x10
-- 00010078 xor x12,x5,x6
-- 0001007c lbu x5,16(x8)
-- 00010080 lw x10,4(x13)
-- 00010084 sb x10,0(x8)
-- 00010088 andi x13,x11,28
-- 0001008c add x13,x13,x8
-- 00010090 mul x9,x6,x11
-- 00010094 addi x17,x0,93
-- 00010098 ecall
-- 0001009c ecall
-- 000100a0 ecall
-- 000100a4 ecall
abbrev pub mixed_7 : Run
mixed_7 = record {
  description = lines (
      "version = 2" ∷
      "[core]" ∷
      "fetch_width = 1" ∷
      "retire_width = 4" ∷
      "rob = 70" ∷
      "stations = 96" ∷
      "loads = 64" ∷
      "stores = 17" ∷
      "queue = 32" ∷
      "[units]" ∷
      "alus = 4" ∷
      "mul_latency = 1" ∷
      "[predictor]" ∷
      "counters = 16" ∷
      "btb = 4" ∷
      "[cache]" ∷
      "sets = 4" ∷
      "ways = 2" ∷
      "line = 32" ∷
      "hit_latency = 1" ∷
      "miss_latency = 9" ∷
      "mshrs = 3" ∷
      "[ram]" ∷
      "base = 65536" ∷
      "size = 65536" ∷
      "[stt]" ∷
      "model = \"spectre\"" ∷
      []);
  image =
      0x464c457f ∷ 0x00010101 ∷ 0x00000000 ∷ 0x00000000 ∷ 0x00f30002 ∷ 0x00000001 ∷ 0x00010000 ∷ 0x00000034 ∷
      0x00000000 ∷ 0x00000000 ∷ 0x00200034 ∷ 0x00000002 ∷ 0x00000000 ∷ 0x00000001 ∷ 0x00000074 ∷ 0x00010000 ∷
      0x00010000 ∷ 0x000000a8 ∷ 0x000000a8 ∷ 0x00000005 ∷ 0x00000004 ∷ 0x00000001 ∷ 0x0000011c ∷ 0x0001ff70 ∷
      0x0001ff70 ∷ 0x00000040 ∷ 0x00000040 ∷ 0x00000006 ∷ 0x00000004 ∷ 0xf8010413 ∷ 0x40c482b3 ∷ 0x00a59863 ∷
      0x027344b3 ∷ 0x03c3f693 ∷ 0x008686b3 ∷ 0x00042283 ∷ 0x00741023 ∷ 0x0265c3b3 ∷ 0x00c5f693 ∷ 0x008686b3 ∷
      0x00c5f693 ∷ 0x008686b3 ∷ 0x02c483b3 ∷ 0x020165b3 ∷ 0x406603b3 ∷ 0x020164b3 ∷ 0x02934633 ∷ 0x02658533 ∷
      0x02c58533 ∷ 0x00941023 ∷ 0x00941023 ∷ 0x00c45303 ∷ 0x40c48333 ∷ 0x40558333 ∷ 0x00054463 ∷ 0x02b5c333 ∷
      0x00b582b3 ∷ 0x00059463 ∷ 0x00a584b3 ∷ 0x0062c633 ∷ 0x01044283 ∷ 0x0046a503 ∷ 0x00a40023 ∷ 0x01c5f693 ∷
      0x008686b3 ∷ 0x02b304b3 ∷ 0x05d00893 ∷ 0x00000073 ∷ 0x00000073 ∷ 0x00000073 ∷ 0x00000073 ∷ 0x08004c08 ∷
      0x00000401 ∷ 0xc0003130 ∷ 0x01c20004 ∷ 0x01000004 ∷ 0x04040108 ∷ 0x04040004 ∷ 0x08010008 ∷ 0x08000100 ∷
      0x010004ee ∷ 0x04080000 ∷ 0x0001bf00 ∷ 0x04040000 ∷ 0x01040101 ∷ 0x00040004 ∷ 0x0008005d ∷
      [];
  cycles = 400;
  trace = lines (
      "1 fet:00010000" ∷
      "2 ren:0:00010000 fet:00010004" ∷
      "3 alu:0 ren:1:00010004 fet:00010008" ∷
      "4 done:0 ret:0 alu:1 ren:2:00010008 fet:0001000c" ∷
      "5 done:1 ret:1 alu:2 ren:3:0001000c fet:00010010" ∷
      "6 done:2 res:2:N bp:2:0 ret:2 div:3:3 ren:4:00010010 fet:00010014" ∷
      "7 alu:4 ren:5:00010014 fet:00010018" ∷
      "8 done:4 alu:5 ren:6:00010018 fet:0001001c" ∷
      "9 done:3 done:5 ret:3 ret:4 ret:5 ld:6:0001ff60:m ren:7:0001001c fet:00010020" ∷
      "10 agu:7 std:7 ren:8:00010020 fet:00010024" ∷
      "11 done:7 div:8:3 ren:9:00010024 fet:00010028" ∷
      "12 alu:9 ren:10:00010028 fet:0001002c" ∷
      "13 done:9 alu:10 ren:11:0001002c fet:00010030" ∷
      "14 done:8 done:10 alu:11 ren:12:00010030 fet:00010034" ∷
      "15 done:11 alu:12 ren:13:00010034 fet:00010038" ∷
      "16 done:12 mul:13 ren:14:00010038 fet:0001003c" ∷
      "17 done:13 div:14:20 ren:15:0001003c fet:00010040" ∷
      "18 fill:0001ff60 done:6 ret:6 ret:7 st:7:0001ff60:h ret:8 ret:9 alu:15 ren:16:00010040 fet:00010044" ∷
      "19 done:15 ret:10 ret:11 ret:12 ret:13 ren:17:00010044 fet:00010048" ∷
      "20 ren:18:00010048 fet:0001004c" ∷
      "21 ren:19:0001004c fet:00010050" ∷
      "22 ren:20:00010050 fet:00010054" ∷
      "23 agu:20 ren:21:00010054 fet:00010058" ∷
      "24 agu:21 ren:22:00010058 fet:0001005c" ∷
      "25 ld:22:0001ff60:h ren:23:0001005c fet:00010060" ∷
      "26 done:22 ren:24:00010060 fet:00010064" ∷
      "27 ren:25:00010064 fet:00010068" ∷
      "28 ren:26:00010068 fet:0001006c" ∷
      "29 ren:27:0001006c fet:00010070" ∷
      "30 ren:28:00010070 fet:00010074" ∷
      "31 ren:29:00010074 fet:00010078" ∷
      "32 ren:30:00010078 fet:0001007c" ∷
      "33 ren:31:0001007c fet:00010080" ∷
      "34 ld:31:0001ff80:m ren:32:00010080 fet:00010084" ∷
      "35 ld:32:0001ff60:h ren:33:00010084 fet:00010088" ∷
      "36 done:32 agu:33 std:33 ren:34:00010088 fet:0001008c" ∷
      "37 done:14 done:33 ret:14 ret:15 div:16:20 mul:18 alu:24 alu:27 alu:28 alu:34 ren:35:0001008c fet:00010090" ∷
      "38 done:18 done:24 done:27 done:28 done:34 res:28:T bp:12:2 sq:8 fet:00010078" ∷
      "39 ren:36:00010078 fet:0001007c" ∷
      "40 ren:37:0001007c fet:00010080" ∷
      "41 ld:37:0001ff80:j ren:38:00010080 fet:00010084" ∷
      "42 ld:38:0001ff60:h ren:39:00010084 fet:00010088" ∷
      "43 fill:0001ff80 done:37 done:38 agu:39 std:39 ren:40:00010088 fet:0001008c" ∷
      "44 done:39 alu:40 ren:41:0001008c fet:00010090" ∷
      "45 done:40 alu:41 ren:42:00010090 fet:00010094" ∷
      "46 done:41 ren:43:00010094 fet:00010098" ∷
      "47 alu:43 fet:0001009c" ∷
      "48 done:43 fet:000100a0" ∷
      "49 fet:000100a4" ∷
      "50 fet:000100a8" ∷
      "51" ∷
      "52" ∷
      "53" ∷
      "54" ∷
      "55" ∷
      "56" ∷
      "57 done:16 ret:16 div:17:3 std:20" ∷
      "58 done:20 std:21" ∷
      "59 done:21" ∷
      "60 done:17 ret:17 ret:18 mul:19 alu:23 div:26:20" ∷
      "61 done:19 done:23 ret:19 ret:20 st:20:0001ff60:h alu:25" ∷
      "62 done:25 res:25:N bp:9:0 ret:21 st:21:0001ff60:h ret:22 ret:23 ret:24" ∷
      "63 ret:25" ∷
      "64" ∷
      "65" ∷
      "66" ∷
      "67" ∷
      "68" ∷
      "69" ∷
      "70" ∷
      "71" ∷
      "72" ∷
      "73" ∷
      "74" ∷
      "75" ∷
      "76" ∷
      "77" ∷
      "78" ∷
      "79" ∷
      "80 done:26 ret:26 ret:27 ret:28 alu:36 mul:42" ∷
      "81 done:36 done:42 ret:36 ret:37 ret:38 ret:39 st:39:0001ff60:h" ∷
      "82 ret:40 ret:41 ret:42 ret:43 ren:44:00010098" ∷
      "83 ret:44 call:44:0" ∷
      "end exit 1025 retired 38 cycles 83" ∷
      []);
}
