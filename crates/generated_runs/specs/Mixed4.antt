-- Made by tools/evaluate/write: change what it reads, in tools/evaluate/runs, and run it again.
use Rattle.std.specs.Prelude.{[], ◌∷◌}
use Rattle.generated_runs.specs.Agreement.{Run, lines}

-- the run's code:
-- 00010000 addi x8,x2,-128
-- 00010004 addi x15,x0,3
-- 00010008 blt x7,x0,+16
-- 0001000c bne x7,x11,+12
-- 00010010 bne x12,x10,+8
-- 00010014 andi x13,x11,60
-- 00010018 add x13,x13,x8
-- 0001001c mul x12,x7,x10
-- 00010020 add x5,x9,x6
-- 00010024 lhu x7,4(x8)
-- 00010028 add x12,x12,x7
-- 0001002c andi x13,x7,28
-- 00010030 add x13,x13,x8
-- 00010034 sh x7,0(x8)
-- 00010038 sb x7,0(x8)
-- 0001003c lb x5,0(x8)
-- 00010040 sw x10,16(x8)
-- 00010044 addi x15,x15,-1
-- 00010048 bne x15,x0,-32
-- 0001004c addi x17,x0,93
-- 00010050 ecall
-- 00010054 ecall
-- 00010058 ecall
-- 0001005c ecall
abbrev pub mixed_4 : Run
mixed_4 = record {
  description = lines (
      "version = 2" ∷
      "[core]" ∷
      "fetch_width = 4" ∷
      "retire_width = 2" ∷
      "rob = 128" ∷
      "stations = 64" ∷
      "loads = 64" ∷
      "stores = 17" ∷
      "queue = 32" ∷
      "[units]" ∷
      "alus = 1" ∷
      "mul_latency = 3" ∷
      "[predictor]" ∷
      "counters = 2" ∷
      "btb = 4" ∷
      "[cache]" ∷
      "sets = 2" ∷
      "ways = 2" ∷
      "line = 4" ∷
      "hit_latency = 3" ∷
      "miss_latency = 6" ∷
      "mshrs = 3" ∷
      "[ram]" ∷
      "base = 65536" ∷
      "size = 65536" ∷
      "[stt]" ∷
      "model = \"futuristic\"" ∷
      []);
  image =
      0x464c457f ∷ 0x00010101 ∷ 0x00000000 ∷ 0x00000000 ∷ 0x00f30002 ∷ 0x00000001 ∷ 0x00010000 ∷ 0x00000034 ∷
      0x00000000 ∷ 0x00000000 ∷ 0x00200034 ∷ 0x00000002 ∷ 0x00000000 ∷ 0x00000001 ∷ 0x00000074 ∷ 0x00010000 ∷
      0x00010000 ∷ 0x00000060 ∷ 0x00000060 ∷ 0x00000005 ∷ 0x00000004 ∷ 0x00000001 ∷ 0x000000d4 ∷ 0x0001ff70 ∷
      0x0001ff70 ∷ 0x00000040 ∷ 0x00000040 ∷ 0x00000006 ∷ 0x00000004 ∷ 0xf8010413 ∷ 0x00300793 ∷ 0x0003c863 ∷
      0x00b39663 ∷ 0x00a61463 ∷ 0x03c5f693 ∷ 0x008686b3 ∷ 0x02a38633 ∷ 0x006482b3 ∷ 0x00445383 ∷ 0x00760633 ∷
      0x01c3f693 ∷ 0x008686b3 ∷ 0x00741023 ∷ 0x00740023 ∷ 0x00040283 ∷ 0x00a42823 ∷ 0xfff78793 ∷ 0xfe0790e3 ∷
      0x05d00893 ∷ 0x00000073 ∷ 0x00000073 ∷ 0x00000073 ∷ 0x00000073 ∷ 0x01080400 ∷ 0x04000800 ∷ 0x00090101 ∷
      0x04000400 ∷ 0x01000004 ∷ 0x0101c701 ∷ 0x040800e0 ∷ 0x04010001 ∷ 0x005b017c ∷ 0x00de0408 ∷ 0x00040004 ∷
      0x04000047 ∷ 0x04021901 ∷ 0x04010400 ∷ 0x04080400 ∷ 0x00010804 ∷
      [];
  cycles = 400;
  trace = lines (
      "1 fet:00010000 fet:00010004 fet:00010008 fet:0001000c" ∷
      "2 ren:0:00010000 ren:1:00010004 ren:2:00010008 ren:3:0001000c fet:00010010 fet:00010014 fet:00010018 fet:0001001c" ∷
      "3 alu:0 ren:4:00010010 ren:5:00010014 ren:6:00010018 ren:7:0001001c fet:00010020 fet:00010024 fet:00010028 fet:0001002c" ∷
      "4 done:0 ret:0 alu:1 mul:7 ren:8:00010020 ren:9:00010024 ren:10:00010028 ren:11:0001002c fet:00010030 fet:00010034 fet:00010038 fet:0001003c" ∷
      "5 done:1 ret:1 alu:2 ld:9:0001ff74:m ren:12:00010030 ren:13:00010034 ren:14:00010038 ren:15:0001003c fet:00010040 fet:00010044 fet:00010048 fet:0001004c" ∷
      "6 done:2 res:2:N bp:0:0 ret:2 alu:3 agu:13 ren:16:00010040 ren:17:00010044 ren:18:00010048 ren:19:0001004c fet:00010050 fet:00010054 fet:00010058 fet:0001005c" ∷
      "7 done:3 done:7 res:3:N bp:1:0 ret:3 alu:4 agu:14 std:16 fet:00010060" ∷
      "8 done:4 res:4:N bp:0:0 ret:4 alu:5 agu:16" ∷
      "9 done:5 done:16 ret:5 alu:6" ∷
      "10 done:6 ret:6 ret:7 alu:8" ∷
      "11 fill:0001ff74 done:8 done:9 ret:8 ret:9 alu:10 std:13" ∷
      "12 done:10 done:13 ret:10 alu:11 std:14" ∷
      "13 done:11 done:14 ret:11 alu:12 ld:15:f" ∷
      "14 done:12 done:15 ret:12 ret:13 st:13:0001ff70:m alu:17" ∷
      "15 done:17 ret:14 st:14:0001ff70:m ret:15 alu:18" ∷
      "16 done:18 res:18:T bp:0:1 sq:6 ret:16 st:16:0001ff80:m ret:17 fet:00010028 fet:0001002c fet:00010030 fet:00010034" ∷
      "17 ret:18 ren:20:00010028 ren:21:0001002c ren:22:00010030 ren:23:00010034 fet:00010038 fet:0001003c fet:00010040 fet:00010044" ∷
      "18 alu:20 agu:23 std:23 ren:24:00010038 ren:25:0001003c ren:26:00010040 ren:27:00010044 fet:00010048 fet:0001004c fet:00010050 fet:00010054" ∷
      "19 done:20 done:23 ret:20 alu:21 agu:24 std:24 ren:28:00010048 ren:29:0001004c fet:00010058 fet:0001005c fet:00010060" ∷
      "20 done:21 done:24 ret:21 alu:22 ld:25:f agu:26 std:26" ∷
      "21 done:22 done:25 done:26 ret:22 ret:23 st:23:0001ff70:m alu:27" ∷
      "22 done:27 ret:24 st:24:0001ff70:m ret:25 alu:28" ∷
      "23 done:28 res:28:T bp:0:2 sq:6 ret:26 st:26:0001ff80:m ret:27 fet:00010028 fet:0001002c fet:00010030 fet:00010034" ∷
      "24 ret:28 ren:30:00010028 ren:31:0001002c ren:32:00010030 ren:33:00010034 fet:00010038 fet:0001003c fet:00010040 fet:00010044" ∷
      "25 alu:30 agu:33 std:33 ren:34:00010038 ren:35:0001003c ren:36:00010040 ren:37:00010044 fet:00010048 fet:00010028 fet:0001002c fet:00010030" ∷
      "26 done:30 done:33 ret:30 alu:31 agu:34 std:34 ren:38:00010048 ren:39:00010028 ren:40:0001002c ren:41:00010030 fet:00010034 fet:00010038 fet:0001003c fet:00010040" ∷
      "27 done:31 done:34 ret:31 alu:32 ld:35:f agu:36 std:36 ren:42:00010034 ren:43:00010038 ren:44:0001003c ren:45:00010040 fet:00010044 fet:00010048 fet:00010028 fet:0001002c" ∷
      "28 done:32 done:35 done:36 ret:32 ret:33 st:33:0001ff70:m alu:37 agu:42 std:42 ren:46:00010044 ren:47:00010048 ren:48:00010028 ren:49:0001002c fet:00010030 fet:00010034 fet:00010038 fet:0001003c" ∷
      "29 done:37 done:42 ret:34 st:34:0001ff70:m ret:35 alu:38 agu:43 std:43 ren:50:00010030 ren:51:00010034 ren:52:00010038 ren:53:0001003c fet:00010040 fet:00010044 fet:00010048 fet:00010028" ∷
      "30 done:38 done:43 res:38:N bp:0:1 sq:19 ret:36 st:36:0001ff80:m ret:37 fet:0001004c fet:00010050 fet:00010054 fet:00010058" ∷
      "31 ret:38 ren:54:0001004c fet:0001005c fet:00010060" ∷
      "32 alu:54" ∷
      "33 done:54 ret:54 ren:55:00010050" ∷
      "34 ret:55 call:55:0" ∷
      "end exit 0 retired 39 cycles 34" ∷
      []);
}
