-- Made by tools/evaluate/write: change what it reads, in tools/evaluate/runs, and run it again.
use Rattle.std.specs.Prelude.{[], ◌∷◌}
use Rattle.generated_runs.specs.Agreement.{Run, lines}

-- the run's code:
-- 00010000 addi x8,x2,-16
-- 00010004 addi x9,x0,3
-- 00010008 mul x6,x7,x9
-- 0001000c sh x1,-82(x8)
-- 00010010 lw x5,-12(x2)
-- 00010014 auipc x5,0x0
-- 00010018 jalr x0,8(x5)
-- 0001001c addi x6,x9,52
-- 00010020 lw x7,12(x8)
-- 00010024 addi x9,x9,-1
-- 00010028 bne x9,x0,-24
-- 0001002c jalr x0,4(x1)
-- 00010030 div x5,x0,x0
-- 00010034 mul x7,x9,x0
-- 00010038 lw x6,-80(x8)
-- 0001003c lw x6,-76(x8)
-- 00010040 addi x17,x0,93
-- 00010044 ecall
abbrev pub mixed_history_1 : Run
mixed_history_1 = record {
  description = lines (
      "version = 2" ∷
      "[core]" ∷
      "fetch_width = 3" ∷
      "retire_width = 4" ∷
      "rob = 32" ∷
      "stations = 4" ∷
      "loads = 8" ∷
      "stores = 1" ∷
      "queue = 1" ∷
      "[units]" ∷
      "alus = 1" ∷
      "mul_latency = 3" ∷
      "[predictor]" ∷
      "counters = 16" ∷
      "btb = 1" ∷
      "history = 3" ∷
      "returns = 4" ∷
      "[cache]" ∷
      "sets = 2" ∷
      "ways = 2" ∷
      "line = 16" ∷
      "hit_latency = 3" ∷
      "miss_latency = 7" ∷
      "mshrs = 2" ∷
      "[ram]" ∷
      "base = 65536" ∷
      "size = 65536" ∷
      "[stt]" ∷
      "model = \"spectre\"" ∷
      []);
  image =
      0x464c457f ∷ 0x00010101 ∷ 0x00000000 ∷ 0x00000000 ∷ 0x00f30002 ∷ 0x00000001 ∷ 0x00010000 ∷ 0x00000034 ∷
      0x00000000 ∷ 0x00000000 ∷ 0x00200034 ∷ 0x00000001 ∷ 0x00000000 ∷ 0x00000001 ∷ 0x00000054 ∷ 0x00010000 ∷
      0x00010000 ∷ 0x00000048 ∷ 0x00000048 ∷ 0x00000005 ∷ 0x00000004 ∷ 0xff010413 ∷ 0x00300493 ∷ 0x02938333 ∷
      0xfa141723 ∷ 0xff412283 ∷ 0x00000297 ∷ 0x00828067 ∷ 0x03448313 ∷ 0x00c42383 ∷ 0xfff48493 ∷ 0xfe0494e3 ∷
      0x00408067 ∷ 0x020042b3 ∷ 0x020483b3 ∷ 0xfb042303 ∷ 0xfb442303 ∷ 0x05d00893 ∷ 0x00000073 ∷
      [];
  cycles = 160;
  trace = lines (
      "1 fet:00010000" ∷
      "2 ren:0:00010000 fet:00010004" ∷
      "3 alu:0 ren:1:00010004 fet:00010008" ∷
      "4 done:0 ret:0 alu:1 ren:2:00010008 fet:0001000c" ∷
      "5 done:1 ret:1 mul:2 ren:3:0001000c fet:00010010" ∷
      "6 agu:3 std:3 ren:4:00010010 fet:00010014" ∷
      "7 done:3 ld:4:0001ffe0:m ren:5:00010014 fet:00010018" ∷
      "8 done:2 ret:2 ret:3 st:3:0001ff80:m alu:5 ren:6:00010018 fet:0001001c" ∷
      "9 done:5 alu:6 ren:7:0001001c fet:00010020" ∷
      "10 done:6 res:6:J bt:0:0001001c alu:7 ren:8:00010020 fet:00010024" ∷
      "11 done:7 ld:8:0001ffe0:j ren:9:00010024 fet:00010028" ∷
      "12 alu:9 ren:10:00010028 fet:0001002c" ∷
      "13 done:9 alu:10 ren:11:0001002c fet:00010030" ∷
      "14 fill:0001ffe0 done:4 done:8 done:10 res:10:T bp:10:2 sq:2 ret:4 ret:5 ret:6 ret:7 fet:00010010" ∷
      "15 ret:8 ret:9 ret:10 ren:12:00010010 fet:00010014" ∷
      "16 ld:12:0001ffe0:h ren:13:00010014 fet:00010018" ∷
      "17 alu:13 ren:14:00010018 fet:0001001c" ∷
      "18 done:13 alu:14 ren:15:0001001c fet:00010020" ∷
      "19 done:12 done:14 res:14:J bt:0:0001001c ret:12 ret:13 ret:14 alu:15 ren:16:00010020 fet:00010024" ∷
      "20 done:15 ret:15 ld:16:0001ffe0:h ren:17:00010024 fet:00010028" ∷
      "21 alu:17 ren:18:00010028 fet:0001002c" ∷
      "22 done:17 alu:18 ren:19:0001002c fet:00010030" ∷
      "23 done:16 done:18 res:18:T bp:11:2 sq:2 ret:16 ret:17 ret:18 fet:00010010" ∷
      "24 ren:20:00010010 fet:00010014" ∷
      "25 ld:20:0001ffe0:h ren:21:00010014 fet:00010018" ∷
      "26 alu:21 ren:22:00010018 fet:0001001c" ∷
      "27 done:21 alu:22 ren:23:0001001c fet:00010020" ∷
      "28 done:20 done:22 res:22:J bt:0:0001001c ret:20 ret:21 ret:22 alu:23 ren:24:00010020 fet:00010024" ∷
      "29 done:23 ret:23 ld:24:0001ffe0:h ren:25:00010024 fet:00010028" ∷
      "30 alu:25 ren:26:00010028 fet:0001002c" ∷
      "31 done:25 alu:26 ren:27:0001002c fet:00010030" ∷
      "32 done:24 done:26 res:26:N bp:9:0 ret:24 ret:25 ret:26 alu:27 ren:28:00010030 fet:00010034" ∷
      "33 done:27 res:27:J bt:0:00000004 sq:2 ret:27 fet:00000004" ∷
      "34 ren:29:00000004" ∷
      "35" ∷
      "end trap 1 00000004 retired 26 cycles 35" ∷
      []);
}
