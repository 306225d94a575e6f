-- Made by tools/evaluate/write: change what it reads, in tools/evaluate/runs, and run it again.
use Rattle.std.specs.Prelude.{[], ◌∷◌}
use Rattle.generated_runs.specs.Agreement.{Run, lines}

-- the run's code:
-- 00010000 addi x8,x2,-128
-- 00010004 addi x15,x0,2
-- 00010008 andi x13,x12,4
-- 0001000c add x13,x13,x8
-- 00010010 sb x11,16(x13)
-- 00010014 xor x6,x10,x6
-- 00010018 sh x11,0(x13)
-- 0001001c div x12,x11,x7
-- 00010020 sub x10,x9,x5
-- 00010024 lbu x9,5(x13)
-- 00010028 andi x13,x6,12
-- 0001002c add x13,x13,x8
-- 00010030 sw x10,4(x13)
-- 00010034 mul x10,x10,x6
-- 00010038 andi x13,x10,4
-- 0001003c add x13,x13,x8
-- 00010040 bne x7,x0,+16
-- 00010044 div x6,x11,x9
-- 00010048 sw x12,12(x8)
-- 0001004c sw x11,4(x8)
-- 00010050 mul x7,x5,x12
-- 00010054 bgeu x5,x0,+16
-- 00010058 add x10,x5,x12
-- 0001005c bne x10,x0,+12
-- 00010060 blt x10,x0,+12
-- 00010064 sw x6,0(x8)
-- 00010068 bgeu x7,x0,+12
-- 0001006c div x9,x5,x12
-- 00010070 lh x6,0(x13)
-- 00010074 xor x5,x11,x6
-- 00010078 andi x13,x6,28
-- 0001007c add x13,x13,x8
-- 00010080 add x12,x12,x10
-- 00010084 sh x5,4(x8)
-- 00010088 lw x11,4(x13)
-- 0001008c mul x12,x12,x5
-- 00010090 div x7,x7,x10
-- 00010094 lw x12,4(x13)
-- 00010098 mul x12,x10,x10
-- 0001009c div x10,x12,x9
-- 000100a0 lb x7,32(x8)
-- 000100a4 rem x9,x2,x0
-- 000100a8 andi x13,x5,12
-- 000100ac add x13,x13,x8
-- 000100b0 addi x15,x15,-1
-- 000100b4 bne x15,x0,-68
-- 000100b8 addi x17,x0,93
-- 000100bc ecall
-- 000100c0 ecall
-- 000100c4 ecall
-- 000100c8 ecall
abbrev pub mixed_2 : Run
mixed_2 = record {
  description = lines (
      "version = 2" ∷
      "[core]" ∷
      "fetch_width = 4" ∷
      "retire_width = 4" ∷
      "rob = 192" ∷
      "stations = 64" ∷
      "loads = 17" ∷
      "stores = 48" ∷
      "queue = 17" ∷
      "[units]" ∷
      "alus = 1" ∷
      "mul_latency = 3" ∷
      "[predictor]" ∷
      "counters = 16" ∷
      "btb = 1" ∷
      "[cache]" ∷
      "sets = 4" ∷
      "ways = 1" ∷
      "line = 32" ∷
      "hit_latency = 2" ∷
      "miss_latency = 5" ∷
      "mshrs = 8" ∷
      "[ram]" ∷
      "base = 65536" ∷
      "size = 65536" ∷
      "[stt]" ∷
      "model = \"spectre\"" ∷
      []);
  image =
      0x464c457f ∷ 0x00010101 ∷ 0x00000000 ∷ 0x00000000 ∷ 0x00f30002 ∷ 0x00000001 ∷ 0x00010000 ∷ 0x00000034 ∷
      0x00000000 ∷ 0x00000000 ∷ 0x00200034 ∷ 0x00000002 ∷ 0x00000000 ∷ 0x00000001 ∷ 0x00000074 ∷ 0x00010000 ∷
      0x00010000 ∷ 0x000000cc ∷ 0x000000cc ∷ 0x00000005 ∷ 0x00000004 ∷ 0x00000001 ∷ 0x00000140 ∷ 0x0001ff70 ∷
      0x0001ff70 ∷ 0x00000040 ∷ 0x00000040 ∷ 0x00000006 ∷ 0x00000004 ∷ 0xf8010413 ∷ 0x00200793 ∷ 0x00467693 ∷
      0x008686b3 ∷ 0x00b68823 ∷ 0x00654333 ∷ 0x00b69023 ∷ 0x0275c633 ∷ 0x40548533 ∷ 0x0056c483 ∷ 0x00c37693 ∷
      0x008686b3 ∷ 0x00a6a223 ∷ 0x02650533 ∷ 0x00457693 ∷ 0x008686b3 ∷ 0x00039863 ∷ 0x0295c333 ∷ 0x00c42623 ∷
      0x00b42223 ∷ 0x02c283b3 ∷ 0x0002f863 ∷ 0x00c28533 ∷ 0x00051663 ∷ 0x00054663 ∷ 0x00642023 ∷ 0x0003f663 ∷
      0x02c2c4b3 ∷ 0x00069303 ∷ 0x0065c2b3 ∷ 0x01c37693 ∷ 0x008686b3 ∷ 0x00a60633 ∷ 0x00541223 ∷ 0x0046a583 ∷
      0x02560633 ∷ 0x02a3c3b3 ∷ 0x0046a603 ∷ 0x02a50633 ∷ 0x02964533 ∷ 0x02040383 ∷ 0x020164b3 ∷ 0x00c2f693 ∷
      0x008686b3 ∷ 0xfff78793 ∷ 0xfa079ee3 ∷ 0x05d00893 ∷ 0x00000073 ∷ 0x00000073 ∷ 0x00000073 ∷ 0x00000073 ∷
      0x00080804 ∷ 0x08000001 ∷ 0x0036c300 ∷ 0x0400ee08 ∷ 0x003c0804 ∷ 0x000008c7 ∷ 0x01000000 ∷ 0x08ff0101 ∷
      0x08040801 ∷ 0x00000804 ∷ 0x08000800 ∷ 0xc2040804 ∷ 0x00000100 ∷ 0x0101e301 ∷ 0x08010000 ∷ 0x0800d800 ∷
      [];
  cycles = 400;
  trace = lines (
      "1 fet:00010000 fet:00010004 fet:00010008 fet:0001000c" ∷
      "2 ren:0:00010000 ren:1:00010004 ren:2:00010008 ren:3:0001000c fet:00010010 fet:00010014 fet:00010018 fet:0001001c" ∷
      "3 alu:0 ren:4:00010010 ren:5:00010014 ren:6:00010018 ren:7:0001001c fet:00010020 fet:00010024 fet:00010028 fet:0001002c" ∷
      "4 done:0 ret:0 alu:1 std:4 div:7:3 ren:8:00010020 ren:9:00010024 ren:10:00010028 ren:11:0001002c fet:00010030 fet:00010034 fet:00010038 fet:0001003c" ∷
      "5 done:1 ret:1 alu:2 std:6 ren:12:00010030 ren:13:00010034 ren:14:00010038 ren:15:0001003c fet:00010040 fet:00010044 fet:00010048 fet:0001004c" ∷
      "6 done:2 ret:2 alu:3 ren:16:00010040 ren:17:00010044 ren:18:00010048 ren:19:0001004c fet:00010050 fet:00010054 fet:00010058 fet:0001005c" ∷
      "7 done:3 done:7 ret:3 agu:4 alu:5 std:18 ren:20:00010050 ren:21:00010054 ren:22:00010058 ren:23:0001005c fet:00010060 fet:00010064 fet:00010068 fet:0001006c" ∷
      "8 done:4 done:5 ret:4 st:4:0001ff80:m ret:5 agu:6 alu:8 std:19 mul:20 ren:24:00010060 ren:25:00010064 ren:26:00010068 ren:27:0001006c fet:00010070 fet:00010074 fet:00010078 fet:0001007c" ∷
      "9 done:6 done:8 ret:6 st:6:0001ff60:m ret:7 ret:8 ld:9:0001ff60:m alu:10 std:12 mul:13 agu:18 div:27:3 ren:28:00010070 ren:29:00010074 ren:30:00010078 ren:31:0001007c fet:00010080 fet:00010084 fet:00010088 fet:0001008c" ∷
      "10 done:10 done:18 alu:11 agu:19 ren:32:00010080 ren:33:00010084 ren:34:00010088 ren:35:0001008c fet:00010090 fet:00010094 fet:00010098 fet:0001009c" ∷
      "11 done:11 done:19 done:20 agu:12 alu:16 ren:36:00010090 ren:37:00010094 ren:38:00010098 ren:39:0001009c fet:000100a0 fet:000100a4 fet:000100a8 fet:000100ac" ∷
      "12 done:12 done:13 done:16 done:27 res:16:N bp:0:0 alu:14 agu:25 ren:40:000100a0 ren:41:000100a4 ren:42:000100a8 ren:43:000100ac fet:000100b0 fet:000100b4 fet:000100b8 fet:000100bc" ∷
      "13 done:14 alu:15 agu:33 div:41:20 ren:44:000100b0 ren:45:000100b4 ren:46:000100b8 fet:000100c0 fet:000100c4 fet:000100c8 fet:000100cc" ∷
      "14 fill:0001ff60 done:9 done:15 ret:9 ret:10 ret:11 ret:12 st:12:0001ff60:h alu:21 ld:40:0001ff80:m" ∷
      "15 done:21 res:21:T bp:5:2 sq:30 ret:13 ret:14 ret:15 ret:16 div:17:3 fet:00010064 fet:00010068 fet:0001006c fet:00010070" ∷
      "16 ren:47:00010064 ren:48:00010068 ren:49:0001006c ren:50:00010070 fet:00010074 fet:00010078 fet:0001007c fet:00010080" ∷
      "17 agu:47 alu:48 ren:51:00010074 ren:52:00010078 ren:53:0001007c ren:54:00010080 fet:00010084 fet:00010088 fet:0001008c fet:00010090" ∷
      "18 done:17 done:48 res:48:T bp:10:2 sq:10 ret:17 ret:18 st:18:0001ff60:h std:47 fet:00010074 fet:00010078 fet:0001007c fet:00010080" ∷
      "19 fill:0001ff80 done:47 ret:19 st:19:0001ff60:h ret:20 ret:21 ren:55:00010074 ren:56:00010078 ren:57:0001007c ren:58:00010080 fet:00010084 fet:00010088 fet:0001008c fet:00010090" ∷
      "20 ret:47 st:47:0001ff60:h ret:48 alu:55 ren:59:00010084 ren:60:00010088 ren:61:0001008c ren:62:00010090 fet:00010094 fet:00010098 fet:0001009c fet:000100a0" ∷
      "21 done:55 ret:55 alu:56 agu:59 std:59 div:62:3 ren:63:00010094 ren:64:00010098 ren:65:0001009c ren:66:000100a0 fet:000100a4 fet:000100a8 fet:000100ac fet:000100b0" ∷
      "22 done:56 done:59 ret:56 alu:57 mul:64 ld:66:0001ff80:h ren:67:000100a4 ren:68:000100a8 ren:69:000100ac ren:70:000100b0 fet:000100b4 fet:000100b8 fet:000100bc fet:000100c0" ∷
      "23 done:57 ret:57 alu:58 ld:60:0001ff80:h ren:71:000100b4 ren:72:000100b8 fet:000100c4 fet:000100c8 fet:000100cc" ∷
      "24 done:58 done:62 done:66 ret:58 ret:59 st:59:0001ff60:h mul:61 ld:63:0001ff80:h div:67:20 alu:68" ∷
      "25 done:60 done:64 done:68 ret:60 alu:69" ∷
      "26 done:63 done:69 alu:70" ∷
      "27 done:61 done:70 ret:61 ret:62 ret:63 ret:64 alu:71" ∷
      "28 done:71 res:71:T bp:13:2 sq:6 fet:00010070 fet:00010074 fet:00010078 fet:0001007c" ∷
      "29 ren:73:00010070 ren:74:00010074 ren:75:00010078 ren:76:0001007c fet:00010080 fet:00010084 fet:00010088 fet:0001008c" ∷
      "30 ld:73:0001ff60:h ren:77:00010080 ren:78:00010084 ren:79:00010088 ren:80:0001008c fet:00010090 fet:00010094 fet:00010098 fet:0001009c" ∷
      "31 agu:78 ren:81:00010090 ren:82:00010094 ren:83:00010098 ren:84:0001009c fet:000100a0 fet:000100a4 fet:000100a8 fet:000100ac" ∷
      "32 done:73 alu:74 ren:85:000100a0 ren:86:000100a4 ren:87:000100a8 ren:88:000100ac fet:000100b0 fet:000100b4 fet:00010070 fet:00010074" ∷
      "33 done:74 alu:75 std:78 ld:85:0001ff80:h ren:89:000100b0 ren:90:000100b4 ren:91:00010070 ren:92:00010074 fet:00010078 fet:0001007c fet:00010080 fet:00010084" ∷
      "34 done:75 done:78 alu:76 ren:93:00010078 ren:94:0001007c ren:95:00010080 ren:96:00010084 fet:00010088 fet:0001008c fet:00010090 fet:00010094" ∷
      "35 done:76 done:85 ld:79:0001ff80:h alu:87 agu:96 ren:97:00010088 ren:98:0001008c ren:99:00010090 ren:100:00010094 fet:00010098 fet:0001009c fet:000100a0 fet:000100a4" ∷
      "36 done:87 ld:82:0001ff80:h alu:88 ren:101:00010098 ren:102:0001009c ren:103:000100a0 ren:104:000100a4 fet:000100a8 fet:000100ac fet:000100b0 fet:000100b4" ∷
      "37 done:79 done:88 alu:89 ld:91:0001ff60:h ren:105:000100a8 ren:106:000100ac ren:107:000100b0 ren:108:000100b4 fet:00010070 fet:00010074 fet:00010078 fet:0001007c" ∷
      "38 done:82 done:89 alu:90 ld:103:0001ff80:h ren:109:00010070 ren:110:00010074 ren:111:00010078 ren:112:0001007c fet:00010080 fet:00010084 fet:00010088 fet:0001008c" ∷
      "39 done:90 done:91 res:90:N bp:13:1 sq:26 fet:000100b8 fet:000100bc fet:000100c0 fet:000100c4" ∷
      "40 ren:113:000100b8 fet:000100c8 fet:000100cc" ∷
      "41 alu:113" ∷
      "42 done:113" ∷
      "43" ∷
      "44 done:67 div:65:3" ∷
      "45" ∷
      "46" ∷
      "47 done:65 ret:65 ret:66 ret:67 ret:68 alu:77 div:81:4 mul:83" ∷
      "48 done:77 ret:69 ret:70 ret:71 ret:73 mul:80" ∷
      "49 ret:74 ret:75 ret:76 ret:77" ∷
      "50 done:83 ret:78 st:78:0001ff60:h ret:79" ∷
      "51 done:80 done:81 ret:80 ret:81 ret:82 ret:83 div:84:4" ∷
      "52" ∷
      "53" ∷
      "54" ∷
      "55 done:84 ret:84 ret:85 div:86:20" ∷
      "56" ∷
      "57" ∷
      "58" ∷
      "59" ∷
      "60" ∷
      "61" ∷
      "62" ∷
      "63" ∷
      "64" ∷
      "65" ∷
      "66" ∷
      "67" ∷
      "68" ∷
      "69" ∷
      "70" ∷
      "71" ∷
      "72" ∷
      "73" ∷
      "74" ∷
      "75 done:86 ret:86 ret:87 ret:88 ret:89" ∷
      "76 ret:90 ret:113 ren:114:000100bc" ∷
      "77 ret:114 call:114:0" ∷
      "end exit 0 retired 61 cycles 77" ∷
      []);
}
