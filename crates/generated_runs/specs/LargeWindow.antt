-- Made by tools/evaluate/write: change what it reads, in tools/evaluate/runs, and run it again.
use Rattle.std.specs.Prelude.{[], ◌∷◌}
use Rattle.generated_runs.specs.Agreement.{Run, lines}

-- the run's code:
-- 00010000 rem x5,x2,x0
-- 00010004 rem x5,x5,x0
-- 00010008 rem x5,x5,x0
-- 0001000c addi x8,x0,20
-- 00010010 add x6,x2,x0
-- 00010014 addi x6,x6,-256
-- 00010018 sw x5,0(x6)
-- 0001001c lw x7,128(x6)
-- 00010020 add x9,x9,x5
-- 00010024 addi x8,x8,-1
-- 00010028 addi x6,x6,4
-- 0001002c bne x8,x0,-20
-- 00010030 addi x17,x0,93
-- 00010034 ecall
abbrev pub large_window : Run
large_window = record {
  description = lines (
      "version = 2" ∷
      "[core]" ∷
      "fetch_width = 4" ∷
      "retire_width = 4" ∷
      "rob = 192" ∷
      "stations = 96" ∷
      "loads = 64" ∷
      "stores = 48" ∷
      "queue = 32" ∷
      "[units]" ∷
      "alus = 4" ∷
      "mul_latency = 3" ∷
      "[predictor]" ∷
      "counters = 16" ∷
      "btb = 4" ∷
      "[cache]" ∷
      "sets = 2" ∷
      "ways = 2" ∷
      "line = 16" ∷
      "hit_latency = 2" ∷
      "miss_latency = 4" ∷
      "mshrs = 2" ∷
      "[ram]" ∷
      "base = 65536" ∷
      "size = 65536" ∷
      "[stt]" ∷
      "model = \"spectre\"" ∷
      []);
  image =
      0x464c457f ∷ 0x00010101 ∷ 0x00000000 ∷ 0x00000000 ∷ 0x00f30002 ∷ 0x00000001 ∷ 0x00010000 ∷ 0x00000034 ∷
      0x00000000 ∷ 0x00000000 ∷ 0x00200034 ∷ 0x00000001 ∷ 0x00000000 ∷ 0x00000001 ∷ 0x00000054 ∷ 0x00010000 ∷
      0x00010000 ∷ 0x00000038 ∷ 0x00000038 ∷ 0x00000005 ∷ 0x00000004 ∷ 0x020162b3 ∷ 0x0202e2b3 ∷ 0x0202e2b3 ∷
      0x01400413 ∷ 0x00010333 ∷ 0xf0030313 ∷ 0x00532023 ∷ 0x08032383 ∷ 0x005484b3 ∷ 0xfff40413 ∷ 0x00430313 ∷
      0xfe0416e3 ∷ 0x05d00893 ∷ 0x00000073 ∷
      [];
  cycles = 100;
  trace = lines (
      "1 fet:00010000 fet:00010004 fet:00010008 fet:0001000c" ∷
      "2 ren:0:00010000 ren:1:00010004 ren:2:00010008 ren:3:0001000c fet:00010010 fet:00010014 fet:00010018 fet:0001001c" ∷
      "3 div:0:20 alu:3 ren:4:00010010 ren:5:00010014 ren:6:00010018 ren:7:0001001c fet:00010020 fet:00010024 fet:00010028 fet:0001002c" ∷
      "4 done:3 alu:4 ren:8:00010020 ren:9:00010024 ren:10:00010028 ren:11:0001002c fet:00010030 fet:00010034 fet:00010038" ∷
      "5 done:4 alu:5 alu:9 ren:12:00010030" ∷
      "6 done:5 done:9 agu:6 alu:10 alu:11 alu:12" ∷
      "7 done:10 done:11 done:12 res:11:T bp:11:2 sq:3 ld:7:0001ff70:m fet:00010018 fet:0001001c fet:00010020 fet:00010024" ∷
      "8 ren:13:00010018 ren:14:0001001c ren:15:00010020 ren:16:00010024 fet:00010028 fet:0001002c fet:00010018 fet:0001001c" ∷
      "9 agu:13 alu:16 ren:17:00010028 ren:18:0001002c ren:19:00010018 ren:20:0001001c fet:00010020 fet:00010024 fet:00010028 fet:0001002c" ∷
      "10 done:16 ld:14:0001ff70:j alu:17 alu:18 ren:21:00010020 ren:22:00010024 ren:23:00010028 ren:24:0001002c fet:00010018 fet:0001001c fet:00010020 fet:00010024" ∷
      "11 fill:0001ff70 done:7 done:14 done:17 done:18 res:18:T bp:11:3 agu:19 alu:22 alu:23 ren:25:00010018 ren:26:0001001c ren:27:00010020 ren:28:00010024 fet:00010028 fet:0001002c fet:00010018 fet:0001001c" ∷
      "12 done:22 done:23 ld:20:0001ff70:h alu:24 agu:25 alu:28 ren:29:00010028 ren:30:0001002c ren:31:00010018 ren:32:0001001c fet:00010020 fet:00010024 fet:00010028 fet:0001002c" ∷
      "13 done:24 done:28 res:24:T bp:11:3 ld:26:0001ff70:h alu:29 alu:30 ren:33:00010020 ren:34:00010024 ren:35:00010028 ren:36:0001002c fet:00010018 fet:0001001c fet:00010020 fet:00010024" ∷
      "14 done:20 done:29 done:30 res:30:T bp:11:3 agu:31 alu:34 alu:35 ren:37:00010018 ren:38:0001001c ren:39:00010020 ren:40:00010024 fet:00010028 fet:0001002c fet:00010018 fet:0001001c" ∷
      "15 done:26 done:34 done:35 ld:32:0001ff80:m alu:36 agu:37 alu:40 ren:41:00010028 ren:42:0001002c ren:43:00010018 ren:44:0001001c fet:00010020 fet:00010024 fet:00010028 fet:0001002c" ∷
      "16 done:36 done:40 res:36:T bp:11:3 ld:38:0001ff80:j alu:41 alu:42 ren:45:00010020 ren:46:00010024 ren:47:00010028 ren:48:0001002c fet:00010018 fet:0001001c fet:00010020 fet:00010024" ∷
      "17 done:41 done:42 res:42:T bp:11:3 agu:43 alu:46 alu:47 ren:49:00010018 ren:50:0001001c ren:51:00010020 ren:52:00010024 fet:00010028 fet:0001002c fet:00010018 fet:0001001c" ∷
      "18 done:46 done:47 ld:44:0001ff80:j alu:48 agu:49 alu:52 ren:53:00010028 ren:54:0001002c ren:55:00010018 ren:56:0001001c fet:00010020 fet:00010024 fet:00010028 fet:0001002c" ∷
      "19 fill:0001ff80 done:32 done:38 done:44 done:48 done:52 res:48:T bp:11:3 ld:50:0001ff80:h alu:53 alu:54 ren:57:00010020 ren:58:00010024 ren:59:00010028 ren:60:0001002c fet:00010018 fet:0001001c fet:00010020 fet:00010024" ∷
      "20 done:53 done:54 res:54:T bp:11:3 agu:55 alu:58 alu:59 ren:61:00010018 ren:62:0001001c ren:63:00010020 ren:64:00010024 fet:00010028 fet:0001002c fet:00010018 fet:0001001c" ∷
      "21 done:50 done:58 done:59 ld:56:0001ff90:m alu:60 agu:61 alu:64 ren:65:00010028 ren:66:0001002c ren:67:00010018 ren:68:0001001c fet:00010020 fet:00010024 fet:00010028 fet:0001002c" ∷
      "22 done:60 done:64 res:60:T bp:11:3 ld:62:0001ff90:j alu:65 alu:66 ren:69:00010020 ren:70:00010024 ren:71:00010028 ren:72:0001002c fet:00010018 fet:0001001c fet:00010020 fet:00010024" ∷
      "23 done:0 done:65 done:66 res:66:T bp:11:3 ret:0 div:1:20 agu:67 alu:70 alu:71 ren:73:00010018 ren:74:0001001c ren:75:00010020 ren:76:00010024 fet:00010028 fet:0001002c fet:00010018 fet:0001001c" ∷
      "24 done:70 done:71 ld:68:0001ff90:j alu:72 agu:73 alu:76 ren:77:00010028 ren:78:0001002c ren:79:00010018 ren:80:0001001c fet:00010020 fet:00010024 fet:00010028 fet:0001002c" ∷
      "25 fill:0001ff90 done:56 done:62 done:68 done:72 done:76 res:72:T bp:11:3 ld:74:0001ff90:h alu:77 alu:78 ren:81:00010020 ren:82:00010024 ren:83:00010028 ren:84:0001002c fet:00010018 fet:0001001c fet:00010020 fet:00010024" ∷
      "26 done:77 done:78 res:78:T bp:11:3 agu:79 alu:82 alu:83 ren:85:00010018 ren:86:0001001c ren:87:00010020 ren:88:00010024 fet:00010028 fet:0001002c fet:00010018 fet:0001001c" ∷
      "27 done:74 done:82 done:83 ld:80:0001ffa0:m alu:84 agu:85 alu:88 ren:89:00010028 ren:90:0001002c ren:91:00010018 ren:92:0001001c fet:00010020 fet:00010024 fet:00010028 fet:0001002c" ∷
      "28 done:84 done:88 res:84:T bp:11:3 ld:86:0001ffa0:j alu:89 alu:90 ren:93:00010020 ren:94:00010024 ren:95:00010028 ren:96:0001002c fet:00010018 fet:0001001c fet:00010020 fet:00010024" ∷
      "29 done:89 done:90 res:90:T bp:11:3 agu:91 alu:94 alu:95 ren:97:00010018 ren:98:0001001c ren:99:00010020 ren:100:00010024 fet:00010028 fet:0001002c fet:00010018 fet:0001001c" ∷
      "30 done:94 done:95 ld:92:0001ffa0:j alu:96 agu:97 alu:100 ren:101:00010028 ren:102:0001002c ren:103:00010018 ren:104:0001001c fet:00010020 fet:00010024 fet:00010028 fet:0001002c" ∷
      "31 fill:0001ffa0 done:80 done:86 done:92 done:96 done:100 res:96:T bp:11:3 ld:98:0001ffa0:h alu:101 alu:102 ren:105:00010020 ren:106:00010024 ren:107:00010028 ren:108:0001002c fet:00010018 fet:0001001c fet:00010020 fet:00010024" ∷
      "32 done:101 done:102 res:102:T bp:11:3 agu:103 alu:106 alu:107 ren:109:00010018 ren:110:0001001c ren:111:00010020 ren:112:00010024 fet:00010028 fet:0001002c fet:00010018 fet:0001001c" ∷
      "33 done:98 done:106 done:107 ld:104:0001ffb0:m alu:108 agu:109 alu:112 ren:113:00010028 ren:114:0001002c ren:115:00010018 ren:116:0001001c fet:00010020 fet:00010024 fet:00010028 fet:0001002c" ∷
      "34 done:108 done:112 res:108:T bp:11:3 ld:110:0001ffb0:j alu:113 alu:114 ren:117:00010020 ren:118:00010024 ren:119:00010028 ren:120:0001002c fet:00010018 fet:0001001c fet:00010020 fet:00010024" ∷
      "35 done:113 done:114 res:114:T bp:11:3 agu:115 alu:118 alu:119 ren:121:00010018 ren:122:0001001c ren:123:00010020 ren:124:00010024 fet:00010028 fet:0001002c fet:00010018 fet:0001001c" ∷
      "36 done:118 done:119 ld:116:0001ffb0:j alu:120 agu:121 alu:124 ren:125:00010028 ren:126:0001002c ren:127:00010018 ren:128:0001001c fet:00010020 fet:00010024 fet:00010028 fet:0001002c" ∷
      "37 fill:0001ffb0 done:104 done:110 done:116 done:120 done:124 res:120:T bp:11:3 ld:122:0001ffb0:h alu:125 alu:126 ren:129:00010020 ren:130:00010024 ren:131:00010028 ren:132:0001002c fet:00010018 fet:0001001c fet:00010020 fet:00010024" ∷
      "38 done:125 done:126 res:126:N bp:11:2 sq:10 fet:00010030 fet:00010034 fet:00010038" ∷
      "39 done:122 ren:133:00010030" ∷
      "40 alu:133" ∷
      "41 done:133" ∷
      "42" ∷
      "43 done:1 ret:1 div:2:20" ∷
      "44" ∷
      "45" ∷
      "46" ∷
      "47" ∷
      "48" ∷
      "49" ∷
      "50" ∷
      "51" ∷
      "52" ∷
      "53" ∷
      "54" ∷
      "55" ∷
      "56" ∷
      "57" ∷
      "58" ∷
      "59" ∷
      "60" ∷
      "61" ∷
      "62" ∷
      "63 done:2 ret:2 ret:3 ret:4 ret:5 std:6 alu:8" ∷
      "64 done:6 done:8 ret:6 st:6:0001fef0:m ret:7 ret:8 ret:9 std:13 alu:15" ∷
      "65 done:13 done:15 ret:10 ret:11 ret:13 st:13:0001fef0:m ret:14 std:19 alu:21" ∷
      "66 done:19 done:21 ret:15 ret:16 ret:17 ret:18 std:25 alu:27" ∷
      "67 done:25 done:27 ret:19 st:19:0001fef0:m ret:20 ret:21 ret:22 std:31 alu:33" ∷
      "68 done:31 done:33 ret:23 ret:24 ret:25 st:25:0001fef0:m ret:26 std:37 alu:39" ∷
      "69 done:37 done:39 ret:27 ret:28 ret:29 ret:30 std:43 alu:45" ∷
      "70 done:43 done:45 ret:31 st:31:0001ff00:m ret:32 ret:33 ret:34 std:49 alu:51" ∷
      "71 done:49 done:51 ret:35 ret:36 ret:37 st:37:0001ff00:m ret:38 std:55 alu:57" ∷
      "72 done:55 done:57 ret:39 ret:40 ret:41 ret:42 std:61 alu:63" ∷
      "73 done:61 done:63 ret:43 st:43:0001ff00:m ret:44 ret:45 ret:46 std:67 alu:69" ∷
      "74 done:67 done:69 ret:47 ret:48 ret:49 st:49:0001ff00:m ret:50 std:73 alu:75" ∷
      "75 done:73 done:75 ret:51 ret:52 ret:53 ret:54 std:79 alu:81" ∷
      "76 done:79 done:81 ret:55 st:55:0001ff10:m ret:56 ret:57 ret:58 std:85 alu:87" ∷
      "77 done:85 done:87 ret:59 ret:60 ret:61 st:61:0001ff10:m ret:62 std:91 alu:93" ∷
      "78 done:91 done:93 ret:63 ret:64 ret:65 ret:66 std:97 alu:99" ∷
      "79 done:97 done:99 ret:67 st:67:0001ff10:m ret:68 ret:69 ret:70 std:103 alu:105" ∷
      "80 done:103 done:105 ret:71 ret:72 ret:73 st:73:0001ff10:m ret:74 std:109 alu:111" ∷
      "81 done:109 done:111 ret:75 ret:76 ret:77 ret:78 std:115 alu:117" ∷
      "82 done:115 done:117 ret:79 st:79:0001ff20:m ret:80 ret:81 ret:82 std:121 alu:123" ∷
      "83 done:121 done:123 ret:83 ret:84 ret:85 st:85:0001ff20:m ret:86" ∷
      "84 ret:87 ret:88 ret:89 ret:90" ∷
      "85 ret:91 st:91:0001ff20:m ret:92 ret:93 ret:94" ∷
      "86 ret:95 ret:96 ret:97 st:97:0001ff20:m ret:98" ∷
      "87 ret:99 ret:100 ret:101 ret:102" ∷
      "88 ret:103 st:103:0001ff30:m ret:104 ret:105 ret:106" ∷
      "89 ret:107 ret:108 ret:109 st:109:0001ff30:m ret:110" ∷
      "90 ret:111 ret:112 ret:113 ret:114" ∷
      "91 ret:115 st:115:0001ff30:m ret:116 ret:117 ret:118" ∷
      "92 ret:119 ret:120 ret:121 st:121:0001ff30:m ret:122" ∷
      "93 ret:123 ret:124 ret:125 ret:126" ∷
      "94 ret:133 ren:134:00010034" ∷
      "95 ret:134 call:134:0" ∷
      "end exit 0 retired 128 cycles 95" ∷
      []);
}
