-- Made by tools/evaluate/write: change what it reads, in tools/evaluate/runs, and run it again.
use Rattle.std.specs.Prelude.{[], ◌∷◌}
use Rattle.generated_runs.specs.Agreement.{Run, lines}

-- the run's code:
-- 00010000 addi x8,x2,-128
-- 00010004 blt x12,x0,+8
-- 00010008 andi x13,x9,12
-- 0001000c add x13,x13,x8
-- 00010010 lw x6,12(x8)
-- 00010014 div x11,x11,x9
-- 00010018 add x6,x5,x5
-- 0001001c sw x9,12(x8)
-- 00010020 xor x9,x11,x12
-- 00010024 sb x5,4(x8)
-- 00010028 lb x7,8(x8)
-- 0001002c lhu x9,0(x8)
-- 00010030 bgeu x6,x0,+12
-- 00010034 sub x10,x6,x5
-- 00010038 lh x9,0(x8)
-- 0001003c sh x7,0(x13)
-- 00010040 lbu x12,0(x13)
-- 00010044 andi x13,x9,12
-- 00010048 add x13,x13,x8
-- 0001004c lbu x11,0(x8)
-- 00010050 sw x9,20(x8)
-- 00010054 sw x5,16(x8)
-- 00010058 sw x5,16(x8)
-- 0001005c div x7,x11,x12
-- 00010060 xor x9,x6,x12
-- 00010064 div x12,x11,x7
-- 00010068 sw x10,20(x8)
-- 0001006c bgeu x12,x0,+16
-- 00010070 lhu x7,0(x8)
-- 00010074 sw x6,0(x13)
-- 00010078 sh x9,20(x8)
-- 0001007c sw x7,0(x8)
-- 00010080 lw x10,32(x8)
-- 00010084 xor x12,x5,x12
-- 00010088 andi x13,x12,28
-- 0001008c add x13,x13,x8
-- 00010090 div x6,x5,x7
-- 00010094 lhu x10,4(x8)
-- 00010098 div x11,x10,x7
-- 0001009c lw x5,12(x8)
-- 000100a0 sw x12,20(x8)
-- 000100a4 mul x9,x11,x12
-- 000100a8 mul x12,x5,x7
-- 000100ac sb x6,16(x13)
-- 000100b0 addi x17,x0,93
-- 000100b4 ecall
-- 000100b8 ecall
-- 000100bc ecall
-- 000100c0 ecall
abbrev pub mixed_8 : Run
mixed_8 = record {
  description = lines (
      "version = 2" ∷
      "[core]" ∷
      "fetch_width = 1" ∷
      "retire_width = 1" ∷
      "rob = 16" ∷
      "stations = 8" ∷
      "loads = 4" ∷
      "stores = 2" ∷
      "queue = 1" ∷
      "[units]" ∷
      "alus = 4" ∷
      "mul_latency = 3" ∷
      "[predictor]" ∷
      "counters = 16" ∷
      "btb = 1" ∷
      "[cache]" ∷
      "sets = 2" ∷
      "ways = 2" ∷
      "line = 4" ∷
      "hit_latency = 3" ∷
      "miss_latency = 6" ∷
      "mshrs = 2" ∷
      "[ram]" ∷
      "base = 65536" ∷
      "size = 65536" ∷
      "[stt]" ∷
      "model = \"futuristic\"" ∷
      []);
  image =
      0x464c457f ∷ 0x00010101 ∷ 0x00000000 ∷ 0x00000000 ∷ 0x00f30002 ∷ 0x00000001 ∷ 0x00010000 ∷ 0x00000034 ∷
      0x00000000 ∷ 0x00000000 ∷ 0x00200034 ∷ 0x00000002 ∷ 0x00000000 ∷ 0x00000001 ∷ 0x00000074 ∷ 0x00010000 ∷
      0x00010000 ∷ 0x000000c4 ∷ 0x000000c4 ∷ 0x00000005 ∷ 0x00000004 ∷ 0x00000001 ∷ 0x00000138 ∷ 0x0001ff70 ∷
      0x0001ff70 ∷ 0x00000040 ∷ 0x00000040 ∷ 0x00000006 ∷ 0x00000004 ∷ 0xf8010413 ∷ 0x00064463 ∷ 0x00c4f693 ∷
      0x008686b3 ∷ 0x00c42303 ∷ 0x0295c5b3 ∷ 0x00528333 ∷ 0x00942623 ∷ 0x00c5c4b3 ∷ 0x00540223 ∷ 0x00840383 ∷
      0x00045483 ∷ 0x00037663 ∷ 0x40530533 ∷ 0x00041483 ∷ 0x00769023 ∷ 0x0006c603 ∷ 0x00c4f693 ∷ 0x008686b3 ∷
      0x00044583 ∷ 0x00942a23 ∷ 0x00542823 ∷ 0x00542823 ∷ 0x02c5c3b3 ∷ 0x00c344b3 ∷ 0x0275c633 ∷ 0x00a42a23 ∷
      0x00067863 ∷ 0x00045383 ∷ 0x0066a023 ∷ 0x00941a23 ∷ 0x00742023 ∷ 0x02042503 ∷ 0x00c2c633 ∷ 0x01c67693 ∷
      0x008686b3 ∷ 0x0272c333 ∷ 0x00445503 ∷ 0x027545b3 ∷ 0x00c42283 ∷ 0x00c42a23 ∷ 0x02c584b3 ∷ 0x02728633 ∷
      0x00668823 ∷ 0x05d00893 ∷ 0x00000073 ∷ 0x00000073 ∷ 0x00000073 ∷ 0x00000073 ∷ 0x0c010000 ∷ 0x08000404 ∷
      0xe6000100 ∷ 0x0400006f ∷ 0x080801c2 ∷ 0x51010191 ∷ 0x00040004 ∷ 0x0004045a ∷ 0x08000104 ∷ 0x01000d21 ∷
      0x01000101 ∷ 0x00510000 ∷ 0x00006f08 ∷ 0x08d60008 ∷ 0x01040104 ∷ 0x08040000 ∷
      [];
  cycles = 400;
  trace = lines (
      "1 fet:00010000" ∷
      "2 ren:0:00010000 fet:00010004" ∷
      "3 alu:0 ren:1:00010004 fet:00010008" ∷
      "4 done:0 ret:0 alu:1 ren:2:00010008 fet:0001000c" ∷
      "5 done:1 res:1:N bp:1:0 ret:1 alu:2 ren:3:0001000c fet:00010010" ∷
      "6 done:2 ret:2 alu:3 ren:4:00010010 fet:00010014" ∷
      "7 done:3 ret:3 ld:4:0001ff7c:m ren:5:00010014 fet:00010018" ∷
      "8 div:5:3 ren:6:00010018 fet:0001001c" ∷
      "9 alu:6 ren:7:0001001c fet:00010020" ∷
      "10 done:6 agu:7 std:7 ren:8:00010020 fet:00010024" ∷
      "11 done:5 done:7 alu:8 ren:9:00010024 fet:00010028" ∷
      "12 done:8 agu:9 std:9 ren:10:00010028 fet:0001002c" ∷
      "13 fill:0001ff7c done:4 done:9 ret:4 ld:10:0001ff78:m ren:11:0001002c fet:00010030" ∷
      "14 ret:5 ld:11:0001ff70:m ren:12:00010030 fet:00010034" ∷
      "15 ret:6 alu:12 ren:13:00010034 fet:00010038" ∷
      "16 done:12 res:12:T bp:12:2 sq:2 ret:7 st:7:0001ff7c:h fet:0001003c" ∷
      "17 ret:8 ren:14:0001003c fet:00010040" ∷
      "18 ret:9 st:9:0001ff74:m agu:14 ren:15:00010040 fet:00010044" ∷
      "19 fill:0001ff78 done:10 ret:10 std:14 ren:16:00010044 fet:00010048" ∷
      "20 fill:0001ff70 done:11 done:14 ret:11 ld:15:f alu:16 ren:17:00010048 fet:0001004c" ∷
      "21 done:15 done:16 ret:12 alu:17 ren:18:0001004c fet:00010050" ∷
      "22 done:17 ret:14 st:14:0001ff70:h ld:18:0001ff70:h ren:19:00010050 fet:00010054" ∷
      "23 ret:15 agu:19 std:19 ren:20:00010054 fet:00010058" ∷
      "24 done:19 ret:16 agu:20 std:20" ∷
      "25 done:18 done:20 ret:17" ∷
      "26 ret:18" ∷
      "27 ret:19 st:19:0001ff84:m ren:21:00010058 fet:0001005c" ∷
      "28 ret:20 st:20:0001ff80:m agu:21 std:21 ren:22:0001005c fet:00010060" ∷
      "29 done:21 ret:21 st:21:0001ff80:m div:22:3 ren:23:00010060 fet:00010064" ∷
      "30 alu:23 ren:24:00010064 fet:00010068" ∷
      "31 done:23 ren:25:00010068 fet:0001006c" ∷
      "32 done:22 ret:22 div:24:3 agu:25 std:25 ren:26:0001006c fet:00010070" ∷
      "33 done:25 ret:23 ren:27:00010070 fet:00010074" ∷
      "34 ld:27:0001ff70:h ren:28:00010074 fet:00010078" ∷
      "35 done:24 ret:24 alu:26 agu:28 std:28" ∷
      "36 done:26 done:28 res:26:T bp:11:2 sq:3 ret:25 st:25:0001ff84:m fet:0001007c" ∷
      "37 ret:26 ren:29:0001007c fet:00010080" ∷
      "38 agu:29 std:29 ren:30:00010080 fet:00010084" ∷
      "39 done:29 ret:29 st:29:0001ff70:h ld:30:0001ff90:m ren:31:00010084 fet:00010088" ∷
      "40 alu:31 ren:32:00010088 fet:0001008c" ∷
      "41 done:31 alu:32 ren:33:0001008c fet:00010090" ∷
      "42 done:32 alu:33 ren:34:00010090 fet:00010094" ∷
      "43 done:33 div:34:3 ren:35:00010094 fet:00010098" ∷
      "44 ld:35:0001ff74:m ren:36:00010098 fet:0001009c" ∷
      "45 fill:0001ff90 done:30 ret:30 ren:37:0001009c fet:000100a0" ∷
      "46 done:34 ret:31 ld:37:0001ff7c:h ren:38:000100a0 fet:000100a4" ∷
      "47 ret:32 agu:38 std:38 ren:39:000100a4 fet:000100a8" ∷
      "48 done:38 ret:33 ren:40:000100a8 fet:000100ac" ∷
      "49 done:37 ret:34 mul:40 ren:41:000100ac fet:000100b0" ∷
      "50 fill:0001ff74 done:35 ret:35 div:36:14 agu:41 std:41 ren:42:000100b0 fet:000100b4" ∷
      "51 done:41 alu:42" ∷
      "52 done:40 done:42" ∷
      "53" ∷
      "54" ∷
      "55" ∷
      "56" ∷
      "57" ∷
      "58" ∷
      "59" ∷
      "60" ∷
      "61" ∷
      "62" ∷
      "63" ∷
      "64 done:36 ret:36 mul:39" ∷
      "65 ret:37" ∷
      "66 ret:38 st:38:0001ff84:m" ∷
      "67 done:39 ret:39" ∷
      "68 ret:40" ∷
      "69 ret:41 st:41:0001ff80:m" ∷
      "70 ret:42 ren:43:000100b4 fet:000100b8" ∷
      "71 ret:43 call:43:0" ∷
      "end exit 1024 retired 41 cycles 71" ∷
      []);
}
