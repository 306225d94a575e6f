-- Made by tools/evaluate/write: change what it reads, in tools/evaluate/runs, and run it again.
use Rattle.std.specs.Prelude.{[], ◌∷◌}
use Rattle.generated_runs.specs.Agreement.{Run, lines}

-- the run's code:
-- 00010008 addi x7,x2,44
-- 0001000c addi x8,x0,339
-- 00010010 addi x10,x2,-705
-- 00010014 auipc x1,0x0
-- 00010018 addi x1,x1,72
-- 0001001c lui x5,0x5c2cc
-- 00010020 addi x5,x5,-1659
-- 00010024 lui x6,0x0
-- 00010028 addi x6,x6,0
-- 0001002c lui x7,0xf6804
-- 00010030 addi x7,x7,-1203
-- 00010034 lui x8,0x0
-- 00010038 addi x8,x8,-1
-- 0001003c lui x9,0xb4f9d
-- 00010040 addi x9,x9,-1802
-- 00010044 lui x10,0x0
-- 00010048 addi x10,x10,25
-- 0001004c lui x11,0x80000
-- 00010050 addi x11,x11,-1
-- 00010054 lui x12,0x0
-- 00010058 addi x12,x12,-1
-- 0001005c lui x13,0x291b0
-- 00010060 addi x13,x13,-1431
-- 00010064 lui x14,0x80000
-- 00010068 addi x14,x14,0
-- 0001006c lui x15,0x80000
-- 00010070 addi x15,x15,0
-- 00010074 srl x16,x14,x10
-- 00010078 srai x17,x7,19
-- 0001007c xor x19,x15,x6
-- 00010080 srli x20,x6,24
-- 00010084 mul x21,x13,x11
-- 00010088 srli x22,x8,5
-- 0001008c blt x8,x15,+8
-- 00010090 addi x8,x8,1
-- 00010094 mulhsu x23,x16,x6
-- 00010098 slti x24,x16,-792
-- 0001009c sb x16,-40(x2)
-- 000100a0 lb x24,-40(x2)
-- 000100a4 add x25,x6,x8
-- 000100a8 mulh x26,x12,x6
-- 000100ac mulhu x27,x5,x15
-- 000100b0 sb x5,-52(x2)
-- 000100b4 lhu x27,-52(x2)
-- 000100b8 srl x28,x7,x6
-- 000100bc and x29,x18,x6
-- 000100c0 div x30,x7,x8
-- 000100c4 ori x31,x7,-396
-- 000100c8 addi x10,x23,0
abbrev pub run_18 : Run
run_18 = record {
  description = lines (
      "[core]" ∷
      "fetch_width = 2" ∷
      "retire_width = 3" ∷
      "rob = 23" ∷
      "stations = 21" ∷
      "loads = 4" ∷
      "stores = 1" ∷
      "queue = 10" ∷
      "[units]" ∷
      "alus = 4" ∷
      "mul_latency = 7" ∷
      "[predictor]" ∷
      "counters = 4" ∷
      "btb = 8" ∷
      "[cache]" ∷
      "sets = 64" ∷
      "ways = 1" ∷
      "line = 8" ∷
      "hit_latency = 1" ∷
      "miss_latency = 13" ∷
      "mshrs = 8" ∷
      "[ram]" ∷
      "base = 65536" ∷
      "size = 4096" ∷
      "[stt]" ∷
      "model = \"spectre\"" ∷
      []);
  image =
      0x464c457f ∷ 0x00010101 ∷ 0x00000000 ∷ 0x00000000 ∷ 0x00f30002 ∷ 0x00000001 ∷ 0x00010008 ∷ 0x00000034 ∷
      0x00000000 ∷ 0x00000000 ∷ 0x00200034 ∷ 0x00000002 ∷ 0x00000000 ∷ 0x00000001 ∷ 0x00000074 ∷ 0x00010008 ∷
      0x00010008 ∷ 0x000000c4 ∷ 0x000000c4 ∷ 0x00000005 ∷ 0x00000004 ∷ 0x00000001 ∷ 0x00000138 ∷ 0x00010ed4 ∷
      0x00010ed4 ∷ 0x0000012c ∷ 0x0000012c ∷ 0x00000006 ∷ 0x00000004 ∷ 0x02c10393 ∷ 0x15300413 ∷ 0xd3f10513 ∷
      0x00000097 ∷ 0x04808093 ∷ 0x5c2cc2b7 ∷ 0x98528293 ∷ 0x00000337 ∷ 0x00030313 ∷ 0xf68043b7 ∷ 0xb4d38393 ∷
      0x00000437 ∷ 0xfff40413 ∷ 0xb4f9d4b7 ∷ 0x8f648493 ∷ 0x00000537 ∷ 0x01950513 ∷ 0x800005b7 ∷ 0xfff58593 ∷
      0x00000637 ∷ 0xfff60613 ∷ 0x291b06b7 ∷ 0xa6968693 ∷ 0x80000737 ∷ 0x00070713 ∷ 0x800007b7 ∷ 0x00078793 ∷
      0x00a75833 ∷ 0x4133d893 ∷ 0x0067c9b3 ∷ 0x01835a13 ∷ 0x02b68ab3 ∷ 0x00545b13 ∷ 0x00f44463 ∷ 0x00140413 ∷
      0x02682bb3 ∷ 0xce882c13 ∷ 0xfd010c23 ∷ 0xfd810c03 ∷ 0x00830cb3 ∷ 0x02661d33 ∷ 0x02f2bdb3 ∷ 0xfc510623 ∷
      0xfcc15d83 ∷ 0x0063de33 ∷ 0x00697eb3 ∷ 0x0283cf33 ∷ 0xe743ef93 ∷ 0x000b8513 ∷ 0x00000000 ∷ 0x00000000 ∷
      0x00000000 ∷ 0xff786e04 ∷ 0x00010a00 ∷ 0x00000000 ∷ 0x000000c0 ∷ 0x00000000 ∷ 0x00000000 ∷ 0x00010034 ∷
      0x00010698 ∷ 0x59c966a8 ∷ 0x00010754 ∷ 0x00000000 ∷ 0x00010118 ∷ 0x00000000 ∷ 0x000000d3 ∷ 0x00010ff4 ∷
      0x00000000 ∷ 0x00000026 ∷ 0x0001058c ∷ 0x00010034 ∷ 0x00010038 ∷ 0x00010044 ∷ 0x00000000 ∷ 0x00000000 ∷
      0x00000000 ∷ 0x00000000 ∷ 0x00000000 ∷ 0x00010f9c ∷ 0x000101b8 ∷ 0x00000000 ∷ 0x00010178 ∷ 0x00010040 ∷
      0xc8391479 ∷ 0x000000ed ∷ 0x00000000 ∷ 0x00010024 ∷ 0x00000000 ∷ 0x00000000 ∷ 0x00000046 ∷ 0x00000000 ∷
      0x00010020 ∷ 0xd9e49a0e ∷ 0x00010014 ∷ 0x00000000 ∷ 0x00010018 ∷ 0x00000000 ∷ 0x1275c8b5 ∷ 0x000000c0 ∷
      0x000100c0 ∷ 0x00010010 ∷ 0xf389c28d ∷ 0x00010528 ∷ 0x00000077 ∷ 0x00010068 ∷ 0x0000003e ∷ 0x00010010 ∷
      0x00010400 ∷ 0x00010ae8 ∷ 0xaac2ccf0 ∷ 0x00000000 ∷ 0x0000005d ∷ 0x00000000 ∷ 0x00000004 ∷ 0x12c2fe7a ∷
      0xfc16e01d ∷ 0x00000000 ∷ 0x2cab1aac ∷ 0x392b82a3 ∷ 0x000000b9 ∷ 0x0000001b ∷ 0x00010014 ∷ 0x00000000 ∷
      0x7ea61625 ∷
      [];
  cycles = 400;
  trace = lines (
      "1 fet:00010008 fet:0001000c" ∷
      "2 ren:0:00010008 ren:1:0001000c fet:00010010 fet:00010014" ∷
      "3 alu:0 alu:1 ren:2:00010010 ren:3:00010014 fet:00010018 fet:0001001c" ∷
      "4 done:0 done:1 ret:0 ret:1 alu:2 alu:3 ren:4:00010018 ren:5:0001001c fet:00010020 fet:00010024" ∷
      "5 done:2 done:3 ret:2 ret:3 alu:4 alu:5 ren:6:00010020 ren:7:00010024 fet:00010028 fet:0001002c" ∷
      "6 done:4 done:5 ret:4 ret:5 alu:6 alu:7 ren:8:00010028 ren:9:0001002c fet:00010030 fet:00010034" ∷
      "7 done:6 done:7 ret:6 ret:7 alu:8 alu:9 ren:10:00010030 ren:11:00010034 fet:00010038 fet:0001003c" ∷
      "8 done:8 done:9 ret:8 ret:9 alu:10 alu:11 ren:12:00010038 ren:13:0001003c fet:00010040 fet:00010044" ∷
      "9 done:10 done:11 ret:10 ret:11 alu:12 alu:13 ren:14:00010040 ren:15:00010044 fet:00010048 fet:0001004c" ∷
      "10 done:12 done:13 ret:12 ret:13 alu:14 alu:15 ren:16:00010048 ren:17:0001004c fet:00010050 fet:00010054" ∷
      "11 done:14 done:15 ret:14 ret:15 alu:16 alu:17 ren:18:00010050 ren:19:00010054 fet:00010058 fet:0001005c" ∷
      "12 done:16 done:17 ret:16 ret:17 alu:18 alu:19 ren:20:00010058 ren:21:0001005c fet:00010060 fet:00010064" ∷
      "13 done:18 done:19 ret:18 ret:19 alu:20 alu:21 ren:22:00010060 ren:23:00010064 fet:00010068 fet:0001006c" ∷
      "14 done:20 done:21 ret:20 ret:21 alu:22 alu:23 ren:24:00010068 ren:25:0001006c fet:00010070 fet:00010074" ∷
      "15 done:22 done:23 ret:22 ret:23 alu:24 alu:25 ren:26:00010070 ren:27:00010074 fet:00010078 fet:0001007c" ∷
      "16 done:24 done:25 ret:24 ret:25 alu:26 alu:27 ren:28:00010078 ren:29:0001007c fet:00010080 fet:00010084" ∷
      "17 done:26 done:27 ret:26 ret:27 alu:28 alu:29 ren:30:00010080 ren:31:00010084 fet:00010088 fet:0001008c" ∷
      "18 done:28 done:29 ret:28 ret:29 alu:30 mul:31 ren:32:00010088 ren:33:0001008c fet:00010090 fet:00010094" ∷
      "19 done:30 ret:30 alu:32 alu:33 ren:34:00010090 ren:35:00010094 fet:00010098 fet:0001009c" ∷
      "20 done:32 done:33 res:33:N bp:3:0 alu:34 mul:35 ren:36:00010098 ren:37:0001009c fet:000100a0 fet:000100a4" ∷
      "21 done:34 alu:36 agu:37 ren:38:000100a0 ren:39:000100a4 fet:000100a8 fet:000100ac" ∷
      "22 done:36 done:37 ld:38:f alu:39 ren:40:000100a8 ren:41:000100ac fet:000100b0 fet:000100b4" ∷
      "23 done:38 done:39 mul:40 fet:000100b8 fet:000100bc" ∷
      "24 mul:41 fet:000100c0 fet:000100c4" ∷
      "25 done:31 ret:31 ret:32 ret:33 fet:000100c8 fet:000100cc" ∷
      "26 ret:34" ∷
      "27 done:35 ret:35 ret:36 ret:37 st:37:00010fc8:m ren:42:000100b0 ren:43:000100b4" ∷
      "28 ret:38 ret:39 agu:42 ren:44:000100b8 ren:45:000100bc" ∷
      "29 done:42 ld:43:00010fb8:m alu:44 alu:45 ren:46:000100c0 ren:47:000100c4" ∷
      "30 done:40 done:44 done:45 ret:40 div:46:31 alu:47 ren:48:000100c8 ren:49:000100cc" ∷
      "31 done:41 done:47 ret:41 ret:42 st:42:00010fb8:m alu:48" ∷
      "32 done:48" ∷
      "33" ∷
      "34" ∷
      "35" ∷
      "36" ∷
      "37" ∷
      "38" ∷
      "39" ∷
      "40" ∷
      "41" ∷
      "42 fill:00010fb8 done:43 ret:43 ret:44 ret:45" ∷
      "43" ∷
      "44" ∷
      "45" ∷
      "46" ∷
      "47" ∷
      "48" ∷
      "49" ∷
      "50" ∷
      "51" ∷
      "52" ∷
      "53" ∷
      "54" ∷
      "55" ∷
      "56" ∷
      "57" ∷
      "58" ∷
      "59" ∷
      "60" ∷
      "61 done:46 ret:46 ret:47 ret:48" ∷
      "62" ∷
      "end trap 1 000100cc retired 49 cycles 62" ∷
      []);
}
