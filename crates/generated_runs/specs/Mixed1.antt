-- Made by tools/evaluate/write: change what it reads, in tools/evaluate/runs, and run it again.
use Rattle.std.specs.Prelude.{[], ◌∷◌}
use Rattle.generated_runs.specs.Agreement.{Run, lines}

-- the run's code:
-- 00010000 addi x8,x2,-128
-- 00010004 addi x15,x0,4
-- 00010008 andi x13,x6,28
-- 0001000c add x13,x13,x8
-- 00010010 bgeu x12,x0,+16
-- 00010014 sb x5,0(x8)
-- 00010018 lh x10,4(x13)
-- 0001001c mul x11,x7,x5
-- 00010020 sh x11,0(x13)
-- 00010024 lw x6,4(x8)
-- 00010028 sw x9,0(x8)
-- 0001002c andi x13,x10,28
-- 00010030 add x13,x13,x8
-- 00010034 andi x13,x5,12
-- 00010038 add x13,x13,x8
-- 0001003c beq x11,x0,+16
-- 00010040 sw x9,0(x13)
-- 00010044 lb x9,4(x13)
-- 00010048 sw x7,0(x8)
-- 0001004c rem x6,x2,x0
-- 00010050 sw x12,0(x13)
-- 00010054 addi x15,x15,-1
-- 00010058 bne x15,x0,-52
-- 0001005c addi x17,x0,93
-- 00010060 ecall
-- 00010064 ecall
-- 00010068 ecall
-- 0001006c ecall
abbrev pub mixed_1 : Run
mixed_1 = record {
  description = lines (
      "version = 2" ∷
      "[core]" ∷
      "fetch_width = 2" ∷
      "retire_width = 1" ∷
      "rob = 192" ∷
      "stations = 96" ∷
      "loads = 17" ∷
      "stores = 17" ∷
      "queue = 32" ∷
      "[units]" ∷
      "alus = 2" ∷
      "mul_latency = 1" ∷
      "[predictor]" ∷
      "counters = 2" ∷
      "btb = 4" ∷
      "[cache]" ∷
      "sets = 1" ∷
      "ways = 2" ∷
      "line = 8" ∷
      "hit_latency = 3" ∷
      "miss_latency = 11" ∷
      "mshrs = 1" ∷
      "[ram]" ∷
      "base = 65536" ∷
      "size = 65536" ∷
      "[stt]" ∷
      "model = \"spectre\"" ∷
      []);
  image =
      0x464c457f ∷ 0x00010101 ∷ 0x00000000 ∷ 0x00000000 ∷ 0x00f30002 ∷ 0x00000001 ∷ 0x00010000 ∷ 0x00000034 ∷
      0x00000000 ∷ 0x00000000 ∷ 0x00200034 ∷ 0x00000002 ∷ 0x00000000 ∷ 0x00000001 ∷ 0x00000074 ∷ 0x00010000 ∷
      0x00010000 ∷ 0x00000070 ∷ 0x00000070 ∷ 0x00000005 ∷ 0x00000004 ∷ 0x00000001 ∷ 0x000000e4 ∷ 0x0001ff70 ∷
      0x0001ff70 ∷ 0x00000040 ∷ 0x00000040 ∷ 0x00000006 ∷ 0x00000004 ∷ 0xf8010413 ∷ 0x00400793 ∷ 0x01c37693 ∷
      0x008686b3 ∷ 0x00067863 ∷ 0x00540023 ∷ 0x00469503 ∷ 0x025385b3 ∷ 0x00b69023 ∷ 0x00442303 ∷ 0x00942023 ∷
      0x01c57693 ∷ 0x008686b3 ∷ 0x00c2f693 ∷ 0x008686b3 ∷ 0x00058863 ∷ 0x0096a023 ∷ 0x00468483 ∷ 0x00742023 ∷
      0x02016333 ∷ 0x00c6a023 ∷ 0xfff78793 ∷ 0xfc0796e3 ∷ 0x05d00893 ∷ 0x00000073 ∷ 0x00000073 ∷ 0x00000073 ∷
      0x00000073 ∷ 0x086c0804 ∷ 0x1e012504 ∷ 0xa0080808 ∷ 0x00001208 ∷ 0x8f080801 ∷ 0x04200800 ∷ 0x00080800 ∷
      0x01000400 ∷ 0x04010400 ∷ 0x0001db00 ∷ 0x92000801 ∷ 0x00000004 ∷ 0x00000800 ∷ 0x00080000 ∷ 0x71720104 ∷
      0x00080400 ∷
      [];
  cycles = 400;
  trace = lines (
      "1 fet:00010000 fet:00010004" ∷
      "2 ren:0:00010000 ren:1:00010004 fet:00010008 fet:0001000c" ∷
      "3 alu:0 alu:1 ren:2:00010008 ren:3:0001000c fet:00010010 fet:00010014" ∷
      "4 done:0 done:1 ret:0 alu:2 ren:4:00010010 ren:5:00010014 fet:00010018 fet:0001001c" ∷
      "5 done:2 ret:1 alu:3 alu:4 agu:5 std:5 ren:6:00010018 ren:7:0001001c fet:00010020 fet:00010024" ∷
      "6 done:3 done:4 done:5 res:4:T bp:0:2 sq:5 ret:2 fet:00010020 fet:00010024" ∷
      "7 ret:3 ren:8:00010020 ren:9:00010024 fet:00010028 fet:0001002c" ∷
      "8 ret:4 agu:8 std:8 ren:10:00010028 ren:11:0001002c fet:00010030 fet:00010034" ∷
      "9 done:8 ret:8 st:8:0001ff70:m ld:9:0001ff70:m agu:10 std:10 alu:11 ren:12:00010030 ren:13:00010034 fet:00010038 fet:0001003c" ∷
      "10 done:10 done:11 alu:12 alu:13 ren:14:00010038 ren:15:0001003c fet:00010040 fet:00010044" ∷
      "11 done:12 done:13 alu:14 alu:15 ren:16:00010040 ren:17:00010044 fet:00010048 fet:0001004c" ∷
      "12 done:14 done:15 res:15:T bp:1:2 sq:4 fet:0001004c fet:00010050" ∷
      "13 ren:18:0001004c ren:19:00010050 fet:00010054 fet:00010058" ∷
      "14 div:18:20 agu:19 std:19 ren:20:00010054 ren:21:00010058 fet:00010024 fet:00010028" ∷
      "15 done:19 alu:20 ren:22:00010024 ren:23:00010028 fet:0001002c fet:00010030" ∷
      "16 done:20 alu:21 ld:22:0001ff70:j agu:23 std:23 ren:24:0001002c ren:25:00010030 fet:00010034 fet:00010038" ∷
      "17 done:21 done:23 res:21:T bp:0:3 alu:24 ren:26:00010034 ren:27:00010038 fet:0001003c fet:0001004c" ∷
      "18 done:24 alu:25 alu:26 ren:28:0001003c ren:29:0001004c fet:00010050 fet:00010054" ∷
      "19 done:25 done:26 alu:27 alu:28 ren:30:00010050 ren:31:00010054 fet:00010058 fet:00010024" ∷
      "20 fill:0001ff70 done:9 done:22 done:27 done:28 res:28:T bp:1:3 ret:9 agu:30 std:30 alu:31 ren:32:00010058 ren:33:00010024 fet:00010028 fet:0001002c" ∷
      "21 done:30 done:31 ret:10 st:10:0001ff70:h alu:32 ld:33:0001ff70:h ren:34:00010028 ren:35:0001002c fet:00010030 fet:00010034" ∷
      "22 done:32 res:32:T bp:0:3 ret:11 agu:34 std:34 alu:35 ren:36:00010030 ren:37:00010034 fet:00010038 fet:0001003c" ∷
      "23 done:34 done:35 ret:12 alu:36 alu:37 ren:38:00010038 ren:39:0001003c fet:0001004c fet:00010050" ∷
      "24 done:33 done:36 done:37 ret:13 alu:38 alu:39 ren:40:0001004c ren:41:00010050 fet:00010054 fet:00010058" ∷
      "25 done:38 done:39 res:39:T bp:1:3 ret:14 agu:41 std:41 ren:42:00010054 ren:43:00010058 fet:00010024 fet:00010028" ∷
      "26 done:41 ret:15 alu:42 ren:44:00010024 ren:45:00010028 fet:0001002c fet:00010030" ∷
      "27 done:42 alu:43 ld:44:0001ff70:h agu:45 std:45 ren:46:0001002c ren:47:00010030 fet:00010034 fet:00010038" ∷
      "28 done:43 done:45 res:43:T bp:0:3 alu:46 ren:48:00010034 ren:49:00010038 fet:0001003c fet:0001004c" ∷
      "29 done:46 alu:47 alu:48 ren:50:0001003c ren:51:0001004c fet:00010050 fet:00010054" ∷
      "30 done:44 done:47 done:48 alu:49 alu:50 ren:52:00010050 ren:53:00010054 fet:00010058 fet:00010024" ∷
      "31 done:49 done:50 res:50:T bp:1:3 agu:52 std:52 alu:53 ren:54:00010058 ren:55:00010024 fet:00010028 fet:0001002c" ∷
      "32 done:52 done:53 alu:54 ld:55:0001ff70:h ren:56:00010028 ren:57:0001002c fet:00010030 fet:00010034" ∷
      "33 done:54 res:54:N bp:0:2 sq:5 fet:0001005c fet:00010060" ∷
      "34 done:18 ret:18 div:29:20 ren:58:0001005c fet:00010064 fet:00010068" ∷
      "35 ret:19 st:19:0001ff70:h alu:58 fet:0001006c fet:00010070" ∷
      "36 done:58 ret:20" ∷
      "37 ret:21" ∷
      "38 ret:22" ∷
      "39 ret:23 st:23:0001ff70:h" ∷
      "40 ret:24" ∷
      "41 ret:25" ∷
      "42 ret:26" ∷
      "43 ret:27" ∷
      "44 ret:28" ∷
      "45" ∷
      "46" ∷
      "47" ∷
      "48" ∷
      "49" ∷
      "50" ∷
      "51" ∷
      "52" ∷
      "53" ∷
      "54 done:29 ret:29 div:40:20" ∷
      "55 ret:30 st:30:0001ff70:h" ∷
      "56 ret:31" ∷
      "57 ret:32" ∷
      "58 ret:33" ∷
      "59 ret:34 st:34:0001ff70:h" ∷
      "60 ret:35" ∷
      "61 ret:36" ∷
      "62 ret:37" ∷
      "63 ret:38" ∷
      "64 ret:39" ∷
      "65" ∷
      "66" ∷
      "67" ∷
      "68" ∷
      "69" ∷
      "70" ∷
      "71" ∷
      "72" ∷
      "73" ∷
      "74 done:40 ret:40 div:51:20" ∷
      "75 ret:41 st:41:0001ff70:h" ∷
      "76 ret:42" ∷
      "77 ret:43" ∷
      "78 ret:44" ∷
      "79 ret:45 st:45:0001ff70:h" ∷
      "80 ret:46" ∷
      "81 ret:47" ∷
      "82 ret:48" ∷
      "83 ret:49" ∷
      "84 ret:50" ∷
      "85" ∷
      "86" ∷
      "87" ∷
      "88" ∷
      "89" ∷
      "90" ∷
      "91" ∷
      "92" ∷
      "93" ∷
      "94 done:51 ret:51" ∷
      "95 ret:52 st:52:0001ff70:h" ∷
      "96 ret:53" ∷
      "97 ret:54" ∷
      "98 ret:58 ren:59:00010060" ∷
      "99 ret:59 call:59:0" ∷
      "end exit 0 retired 52 cycles 99" ∷
      []);
}
