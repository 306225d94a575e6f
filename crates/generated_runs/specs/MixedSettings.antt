-- Made by tools/evaluate/write: change what it reads, in tools/evaluate/runs, and run it again.
use Rattle.std.specs.Prelude.{[], ◌∷◌}
use Rattle.generated_runs.specs.Agreement.{Run, lines}

-- the run's code:
-- 0001001c addi x7,x0,-1475
-- 00010020 addi x8,x0,-1273
-- 00010024 addi x11,x0,-239
-- 00010028 auipc x1,0x0
-- 0001002c addi x1,x1,64
-- 00010030 ori x16,x11,-846
-- 00010034 addi x12,x2,0
-- 00010038 div x12,x12,x12
-- 0001003c bge x12,x12,+28
-- 00010040 lhu x8,-552(x2)
-- 00010044 mul x16,x8,x8
-- 00010048 xor x16,x16,x8
-- 0001004c andi x11,x16,12
-- 00010050 sub x11,x2,x11
-- 00010054 lw x16,0(x11)
-- 00010058 addi x15,x2,-956
-- 0001005c sw x15,-44(x2)
-- 00010060 lw x13,-56(x2)
-- 00010064 andi x13,x13,0
-- 00010068 add x13,x13,x2
-- 0001006c sw x2,-44(x13)
-- 00010070 lw x6,-44(x2)
-- 00010074 lw x7,0(x6)
-- 00010078 andi x16,x7,4
-- 0001007c add x16,x2,x16
-- 00010080 sw x5,-36(x16)
-- 00010084 lw x8,-36(x2)
-- 00010088 sb x8,-44(x2)
-- 0001008c addi x15,x2,-616
-- 00010090 sw x15,-36(x2)
-- 00010094 addi x12,x2,0
-- 00010098 andi x12,x12,0
-- 0001009c add x12,x12,x2
-- 000100a0 sw x2,-36(x12)
-- 000100a4 lw x5,-36(x2)
-- 000100a8 lw x7,0(x5)
-- 000100ac bgeu x7,x2,+16
-- 000100b0 addi x7,x2,843
-- 000100b4 lh x9,-668(x2)
-- 000100b8 lw x12,12(x2)
-- 000100bc bgeu x12,x0,+56
-- 000100c0 lbu x5,-928(x2)
-- 000100c4 andi x5,x5,4
-- 000100c8 auipc x9,0x0
-- 000100cc add x5,x5,x9
-- 000100d0 jalr x1,12(x5)
-- 000100d4 div x11,x6,x16
-- 000100d8 bne x5,x0,+12
-- 000100dc andi x7,x9,1538
-- 000100e0 lhu x16,-126(x2)
-- 000100e4 andi x5,x5,12
-- 000100e8 auipc x9,0x0
-- 000100ec add x5,x5,x9
-- 000100f0 jalr x7,12(x5)
-- 000100f4 addi x17,x0,93
-- 000100f8 ecall
abbrev pub mixed_settings : Run
mixed_settings = record {
  description = lines (
      "version = 2" ∷
      "[core]" ∷
      "fetch_width = 4" ∷
      "retire_width = 1" ∷
      "rob = 113" ∷
      "stations = 39" ∷
      "loads = 64" ∷
      "stores = 48" ∷
      "queue = 6" ∷
      "[units]" ∷
      "alus = 1" ∷
      "mul_latency = 1" ∷
      "[predictor]" ∷
      "counters = 2" ∷
      "btb = 1" ∷
      "depend = 4" ∷
      "history = 12" ∷
      "returns = 2" ∷
      "[cache]" ∷
      "sets = 1" ∷
      "ways = 1" ∷
      "line = 32" ∷
      "hit_latency = 6" ∷
      "miss_latency = 12" ∷
      "mshrs = 1" ∷
      "second_sets = 4" ∷
      "second_ways = 1" ∷
      "second_latency = 7" ∷
      "prefetch = 1" ∷
      "[ram]" ∷
      "base = 65536" ∷
      "size = 4096" ∷
      "misaligned = 0" ∷
      "[stt]" ∷
      "model = \"spectre\"" ∷
      "defence = \"hold\"" ∷
      []);
  image =
      0x464c457f ∷ 0x00010101 ∷ 0x00000000 ∷ 0x00000000 ∷ 0x00f30002 ∷ 0x00000001 ∷ 0x0001001c ∷ 0x00000034 ∷
      0x00000000 ∷ 0x00000000 ∷ 0x00200034 ∷ 0x00000002 ∷ 0x00000000 ∷ 0x00000001 ∷ 0x00000074 ∷ 0x0001001c ∷
      0x0001001c ∷ 0x000000e0 ∷ 0x000000e0 ∷ 0x00000001 ∷ 0x00000004 ∷ 0x00000001 ∷ 0x00000154 ∷ 0x00010f00 ∷
      0x00010f00 ∷ 0x00000100 ∷ 0x00000100 ∷ 0x00000006 ∷ 0x00000004 ∷ 0xa3d00393 ∷ 0xb0700413 ∷ 0xf1100593 ∷
      0x00000097 ∷ 0x04008093 ∷ 0xcb25e813 ∷ 0x00010613 ∷ 0x02c64633 ∷ 0x00c65e63 ∷ 0xdd815403 ∷ 0x02840833 ∷
      0x00884833 ∷ 0x00c87593 ∷ 0x40b105b3 ∷ 0x0005a803 ∷ 0xc4410793 ∷ 0xfcf12a23 ∷ 0xfc812683 ∷ 0x0006f693 ∷
      0x002686b3 ∷ 0xfc26aa23 ∷ 0xfd412303 ∷ 0x00032383 ∷ 0x0043f813 ∷ 0x01010833 ∷ 0xfc582e23 ∷ 0xfdc12403 ∷
      0xfc810a23 ∷ 0xd9810793 ∷ 0xfcf12e23 ∷ 0x00010613 ∷ 0x00067613 ∷ 0x00260633 ∷ 0xfc262e23 ∷ 0xfdc12283 ∷
      0x0002a383 ∷ 0x0023f863 ∷ 0x34b10393 ∷ 0xd6411483 ∷ 0x00c12603 ∷ 0x02067c63 ∷ 0xc6014283 ∷ 0x0042f293 ∷
      0x00000497 ∷ 0x009282b3 ∷ 0x00c280e7 ∷ 0x030345b3 ∷ 0x00029663 ∷ 0x6024f393 ∷ 0xf8215803 ∷ 0x00c2f293 ∷
      0x00000497 ∷ 0x009282b3 ∷ 0x00c283e7 ∷ 0x05d00893 ∷ 0x00000073 ∷ 0x00010054 ∷ 0x0000000c ∷ 0x00000000 ∷
      0x00000000 ∷ 0x00000000 ∷ 0x00000000 ∷ 0x00000000 ∷ 0x00000049 ∷ 0x000000a3 ∷ 0x00000000 ∷ 0x00000000 ∷
      0x0000000f ∷ 0x00000000 ∷ 0x00010040 ∷ 0x9e64ec94 ∷ 0x00010b08 ∷ 0x00000006 ∷ 0x00000000 ∷ 0x0001001c ∷
      0x000106cc ∷ 0x00010434 ∷ 0x000000ab ∷ 0x00000000 ∷ 0x00000000 ∷ 0x00000000 ∷ 0x0000000b ∷ 0x00010034 ∷
      0x00000000 ∷ 0x00010e24 ∷ 0x00000000 ∷ 0x00000000 ∷ 0x00010054 ∷ 0x00000000 ∷ 0x0000003f ∷ 0x00010624 ∷
      0x00000000 ∷ 0x0000009d ∷ 0x00000000 ∷ 0x12612887 ∷ 0x000000c8 ∷ 0xc5766947 ∷ 0x00000000 ∷ 0x551734f0 ∷
      0x00010028 ∷ 0x00010ad0 ∷ 0x0001001c ∷ 0x00000010 ∷ 0x00000000 ∷ 0x00000004 ∷ 0x00000027 ∷ 0x00000000 ∷
      0x00010034 ∷ 0x00010030 ∷ 0x00000095 ∷ 0xe8b29767 ∷ 0x00010b10 ∷ 0xc26d62f5 ∷ 0xd2c78506 ∷ 0x444c76b0 ∷
      0xe5d0b4ca ∷ 0x00010988 ∷ 0x000000ce ∷ 0x00000000 ∷ 0x00010048 ∷
      [];
  cycles = 41;
  trace = lines (
      "1 fet:0001001c fet:00010020 fet:00010024 fet:00010028" ∷
      "2 ren:0:0001001c ren:1:00010020 ren:2:00010024 ren:3:00010028 fet:0001002c fet:00010030 fet:00010034 fet:00010038" ∷
      "3 alu:0 ren:4:0001002c ren:5:00010030 ren:6:00010034 ren:7:00010038 fet:0001003c fet:00010040 fet:00010044 fet:00010048" ∷
      "4 done:0 ret:0 alu:1 ren:8:0001003c ren:9:00010040 ren:10:00010044 ren:11:00010048 fet:0001004c fet:00010050 fet:00010054 fet:00010058" ∷
      "5 done:1 ret:1 alu:2 ld:9:00010dc0:m ren:12:0001004c ren:13:00010050 ren:14:00010054 ren:15:00010058 fet:0001005c fet:00010060 fet:00010064 fet:00010068" ∷
      "6 done:2 ret:2 alu:3 ren:16:0001005c ren:17:00010060 ren:18:00010064 ren:19:00010068 fet:0001006c fet:00010070 fet:00010074 fet:00010078" ∷
      "7 done:3 ret:3 alu:4 agu:16 ren:20:0001006c ren:21:00010070 ren:22:00010074 ren:23:00010078 fet:0001007c fet:00010080 fet:00010084 fet:00010088" ∷
      "8 done:4 clr:16 ret:4 alu:5 std:20 ren:24:0001007c ren:25:00010080 ren:26:00010084 ren:27:00010088 fet:0001008c fet:00010090 fet:00010094 fet:00010098" ∷
      "9 done:5 ret:5 alu:6 std:25 agu:27 ren:28:0001008c ren:29:00010090 ren:30:00010094 ren:31:00010098 fet:0001009c fet:000100a0 fet:000100a4 fet:000100a8" ∷
      "10 done:6 clr:27 ret:6 div:7:20 alu:15 agu:29 ren:32:0001009c ren:33:000100a0 ren:34:000100a4 ren:35:000100a8 fet:000100ac fet:000100b0 fet:000100b4 fet:000100b8" ∷
      "11 done:15 clr:29 std:16 alu:28 ren:36:000100ac ren:37:000100b0 ren:38:000100b4 ren:39:000100b8 fet:000100bc fet:000100c0 fet:000100c4 fet:000100c8" ∷
      "12 done:16 done:28 std:29 alu:30 ren:40:000100bc ren:41:000100c0 ren:42:000100c4 ren:43:000100c8 fet:000100cc fet:000100d0 fet:000100d4 fet:000100d8" ∷
      "13 done:29 done:30 alu:31 std:33 ren:44:000100cc ren:45:000100d0 ren:46:000100d4 ren:47:000100d8 fet:000100dc fet:000100e0 fet:000100e4 fet:000100e8" ∷
      "14 done:31 alu:32 ren:48:000100dc ren:49:000100e0 ren:50:000100e4 ren:51:000100e8 fet:000100ec fet:000100f0 fet:000100f4 fet:000100f8" ∷
      "15 done:32 agu:33 alu:37 ren:52:000100ec ren:53:000100f0 ren:54:000100f4 fet:000100fc" ∷
      "16 done:33 done:37 clr:33 alu:43" ∷
      "17 fill:00010dc0 done:9 done:43 ld:17:00010fa0:m alu:48" ∷
      "18 done:48 alu:51" ∷
      "19 done:51 alu:54" ∷
      "20 done:54" ∷
      "21" ∷
      "22" ∷
      "23" ∷
      "24" ∷
      "25" ∷
      "26" ∷
      "27" ∷
      "28" ∷
      "29 fill:00010fa0 done:17 ld:21:00010fc0:m" ∷
      "30 done:7 ret:7 alu:8 ld:26:00010fc0:j" ∷
      "31 done:8 res:8:T bp:1:2 sq:48 ret:8 fet:00010058 fet:0001005c fet:00010060 fet:00010064" ∷
      "32 ren:55:00010058 ren:56:0001005c ren:57:00010060 ren:58:00010064 fet:00010068 fet:0001006c fet:00010070 fet:00010074" ∷
      "33 alu:55 agu:56 ld:57:00010fa0:h ren:59:00010068 ren:60:0001006c ren:61:00010070 ren:62:00010074 fet:00010078 fet:0001007c fet:00010080 fet:00010084" ∷
      "34 done:55 clr:56 ret:55 std:56 ren:63:00010078 ren:64:0001007c ren:65:00010080 ren:66:00010084 fet:00010088 fet:0001008c fet:00010090 fet:00010094" ∷
      "35 done:56 ret:56 st:56:00010fc0:m std:60 ld:61:00010fc0:j ren:67:00010088 ren:68:0001008c ren:69:00010090 ren:70:00010094 fet:00010098 fet:0001009c fet:000100a0 fet:000100a4" ∷
      "36 std:65 agu:67 alu:68 ren:71:00010098 ren:72:0001009c ren:73:000100a0 ren:74:000100a4 fet:000100a8 fet:000100ac fet:000100b0 fet:000100b4" ∷
      "37 done:68 clr:67 ld:66:00010fc0:j agu:69 std:69 alu:70 ren:75:000100a8 ren:76:000100ac ren:77:000100b0 ren:78:000100b4 fet:000100b8 fet:000100bc fet:000100f4 fet:000100f8" ∷
      "38 done:69 done:70 clr:69 alu:71 std:73 ld:74:00010fc0:j ren:79:000100b8 ren:80:000100bc ren:81:000100f4 fet:000100fc" ∷
      "39 done:57 done:71 ret:57 alu:58" ∷
      "40 done:58 ret:58 alu:59" ∷
      "41 fill:00010fc0 done:59 done:61 done:66 done:74 ret:59 agu:60 alu:72 ld:78:00010d40:m" ∷
      "end budget retired 14 cycles 41" ∷
      []);
}
