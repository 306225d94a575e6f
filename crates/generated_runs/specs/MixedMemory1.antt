-- Made by tools/evaluate/write: change what it reads, in tools/evaluate/runs, and run it again.
use Rattle.std.specs.Prelude.{[], ◌∷◌}
use Rattle.generated_runs.specs.Agreement.{Run, lines}

-- the run's code:
-- 00010000 addi x8,x2,-7
-- 00010004 addi x9,x0,4
-- 00010008 addi x5,x8,55
-- 0001000c mulh x5,x7,x0
-- 00010010 xori x6,x7,18
-- 00010014 remu x7,x9,x0
-- 00010018 sb x5,9(x8)
-- 0001001c xori x6,x7,27
-- 00010020 mulhu x6,x6,x1
-- 00010024 lw x6,-13(x8)
-- 00010028 remu x7,x0,x9
-- 0001002c lw x5,-26(x8)
-- 00010030 sw x9,-28(x8)
-- 00010034 addi x9,x9,-1
-- 00010038 bne x9,x0,-16
-- 0001003c lw x6,-36(x2)
-- 00010040 sb x5,1(x2)
-- 00010044 add x6,x8,x0
-- 00010048 lbu x5,-62(x6)
-- 0001004c addi x17,x0,93
-- 00010050 ecall
abbrev pub mixed_memory_1 : Run
mixed_memory_1 = record {
  description = lines (
      "version = 2" ∷
      "[core]" ∷
      "fetch_width = 2" ∷
      "retire_width = 4" ∷
      "rob = 4" ∷
      "stations = 16" ∷
      "loads = 8" ∷
      "stores = 4" ∷
      "queue = 4" ∷
      "[units]" ∷
      "alus = 1" ∷
      "mul_latency = 1" ∷
      "[predictor]" ∷
      "counters = 16" ∷
      "btb = 2" ∷
      "[cache]" ∷
      "sets = 1" ∷
      "ways = 1" ∷
      "line = 16" ∷
      "hit_latency = 3" ∷
      "miss_latency = 7" ∷
      "mshrs = 2" ∷
      "second_sets = 2" ∷
      "second_ways = 2" ∷
      "second_latency = 6" ∷
      "prefetch = 1" ∷
      "[ram]" ∷
      "base = 65536" ∷
      "size = 65536" ∷
      "misaligned = 1" ∷
      "[stt]" ∷
      "model = \"spectre\"" ∷
      []);
  image =
      0x464c457f ∷ 0x00010101 ∷ 0x00000000 ∷ 0x00000000 ∷ 0x00f30002 ∷ 0x00000001 ∷ 0x00010000 ∷ 0x00000034 ∷
      0x00000000 ∷ 0x00000000 ∷ 0x00200034 ∷ 0x00000001 ∷ 0x00000000 ∷ 0x00000001 ∷ 0x00000054 ∷ 0x00010000 ∷
      0x00010000 ∷ 0x00000054 ∷ 0x00000054 ∷ 0x00000005 ∷ 0x00000004 ∷ 0xff910413 ∷ 0x00400493 ∷ 0x03740293 ∷
      0x020392b3 ∷ 0x0123c313 ∷ 0x0204f3b3 ∷ 0x005404a3 ∷ 0x01b3c313 ∷ 0x02133333 ∷ 0xff342303 ∷ 0x029073b3 ∷
      0xfe642283 ∷ 0xfe942223 ∷ 0xfff48493 ∷ 0xfe0498e3 ∷ 0xfdc12303 ∷ 0x005100a3 ∷ 0x00040333 ∷ 0xfc234283 ∷
      0x05d00893 ∷ 0x00000073 ∷
      [];
  cycles = 160;
  trace = lines (
      "1 fet:00010000 fet:00010004" ∷
      "2 ren:0:00010000 ren:1:00010004 fet:00010008 fet:0001000c" ∷
      "3 alu:0 ren:2:00010008 ren:3:0001000c fet:00010010 fet:00010014" ∷
      "4 done:0 ret:0 alu:1 mul:3 ren:4:00010010 fet:00010018 fet:0001001c" ∷
      "5 done:1 done:3 ret:1 alu:2 ren:5:00010014 fet:00010020 fet:00010024" ∷
      "6 done:2 ret:2 ret:3 alu:4 div:5:6 ren:6:00010018 ren:7:0001001c fet:00010028 fet:0001002c" ∷
      "7 done:4 ret:4 agu:6 std:6 ren:8:00010020 fet:00010030" ∷
      "8 done:6" ∷
      "9" ∷
      "10" ∷
      "11" ∷
      "12 done:5 ret:5 ret:6 st:6:0001fff0:m alu:7 ren:9:00010024 ren:10:00010028 fet:00010034 fet:00010038" ∷
      "13 done:7 ret:7 mul:8 ld:9:0001ffd0:m pf:0001ffe0:m div:10:3 ren:11:0001002c fet:0001003c" ∷
      "14 done:8 ret:8 ren:12:00010030 fet:00010040" ∷
      "15 agu:12 std:12" ∷
      "16 done:10 done:12" ∷
      "17" ∷
      "18" ∷
      "19" ∷
      "20 fill:0001ffd0 fill:0001ffe0 done:9 ret:9 ret:10 ld:11:0001ffc0:m ld:11:0001ffd0:2 ren:13:00010034 ren:14:00010038 fet:00010044 fet:00010048" ∷
      "21 alu:13" ∷
      "22 done:13 alu:14" ∷
      "23 done:14 res:14:T bp:14:2 sq:4 fet:00010028 fet:0001002c" ∷
      "24 fet:00010030 fet:00010034" ∷
      "25" ∷
      "26 fill:0001ffd0" ∷
      "27 fill:0001ffc0 done:11 ret:11 ret:12 st:12:0001ffc0:h st:12:0001ffd0:m ret:13 ret:14 ren:15:00010028 ren:16:0001002c fet:00010038 fet:00010028" ∷
      "28 div:15:3 ld:16:0001ffc0:h ld:16:0001ffd0:2 pf:0001ffe0:2 ren:17:00010030 ren:18:00010034 fet:0001002c fet:00010030" ∷
      "29 agu:17 std:17 alu:18" ∷
      "30 done:17 done:18" ∷
      "31 done:15 ret:15 ren:19:00010038 fet:00010034" ∷
      "32 alu:19" ∷
      "33 done:19 res:19:T bp:14:3" ∷
      "34 fill:0001ffd0 fill:0001ffe0 done:16 ret:16 ret:17 st:17:0001ffc0:m st:17:0001ffd0:m ret:18 ret:19 ren:20:00010028 ren:21:0001002c fet:00010038 fet:00010028" ∷
      "35 div:20:3 ld:21:0001ffc0:2 ld:21:0001ffd0:2 ren:22:00010030 ren:23:00010034 fet:0001002c fet:00010030" ∷
      "36 agu:22 std:22 alu:23" ∷
      "37 done:22 done:23" ∷
      "38 done:20 ret:20 ren:24:00010038 fet:00010034" ∷
      "39 alu:24" ∷
      "40 done:24 res:24:T bp:14:3" ∷
      "41 fill:0001ffc0 fill:0001ffd0 done:21 ret:21 ret:22 st:22:0001ffc0:m st:22:0001ffd0:h ret:23 ret:24 ren:25:00010028 ren:26:0001002c fet:00010038 fet:00010028" ∷
      "42 div:25:3 ld:26:0001ffc0:2 ld:26:0001ffd0:h pf:0001ffe0:2 ren:27:00010030 ren:28:00010034 fet:0001002c fet:00010030" ∷
      "43 agu:27 std:27 alu:28" ∷
      "44 done:27 done:28" ∷
      "45 done:25 ret:25 ren:29:00010038 fet:00010034" ∷
      "46 alu:29" ∷
      "47 done:29 res:29:N bp:14:2 sq:4 fet:0001003c fet:00010040" ∷
      "48 fill:0001ffc0 fill:0001ffe0 done:26 ret:26 ret:27 st:27:0001ffc0:m st:27:0001ffd0:m ret:28 ret:29 ren:30:0001003c ren:31:00010040 fet:00010044 fet:00010048" ∷
      "49 ld:30:0001ffc0:2 pf:0001ffd0:2 agu:31 std:31 ren:32:00010044 ren:33:00010048 fet:0001004c fet:00010050" ∷
      "50 done:31 alu:32 fet:00010054" ∷
      "51 done:32" ∷
      "52" ∷
      "53" ∷
      "54" ∷
      "55 fill:0001ffc0 fill:0001ffd0 done:30 ret:30 ret:31 st:31:0001fff0:m ret:32 ld:33:0001ffa0:m pf:0001ffb0:m ren:34:0001004c" ∷
      "56 alu:34" ∷
      "57 done:34" ∷
      "58" ∷
      "59" ∷
      "60" ∷
      "61" ∷
      "62 fill:0001ffa0 fill:0001ffb0 done:33 ret:33 ret:34 ren:35:00010050" ∷
      "63 ret:35 call:35:0" ∷
      "end exit 0 retired 36 cycles 63" ∷
      []);
}
