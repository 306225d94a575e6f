-- Made by tools/evaluate/write: change what it reads, in tools/evaluate/runs, and run it again.
use Rattle.std.specs.Prelude.{[], ◌∷◌}
use Rattle.generated_runs.specs.Agreement.{Run, lines}

-- the run's code:
-- 00010000 div x9,x2,x2
-- 00010004 sw x2,0(x2)
-- 00010008 mul x5,x2,x2
-- 0001000c sw x5,0(x2)
-- 00010010 sw x0,4(x2)
-- 00010014 lw x10,0(x2)
-- 00010018 lh x11,2(x2)
-- 0001001c addi x17,x0,93
-- 00010020 ecall
abbrev pub younger_store : Run
younger_store = record {
  description = lines (
      "version = 2" ∷
      "[core]" ∷
      "fetch_width = 2" ∷
      "retire_width = 2" ∷
      "rob = 16" ∷
      "stations = 8" ∷
      "loads = 2" ∷
      "stores = 4" ∷
      "queue = 8" ∷
      "[units]" ∷
      "alus = 2" ∷
      "mul_latency = 3" ∷
      "[predictor]" ∷
      "counters = 16" ∷
      "btb = 4" ∷
      "[cache]" ∷
      "sets = 2" ∷
      "ways = 2" ∷
      "line = 16" ∷
      "hit_latency = 2" ∷
      "miss_latency = 10" ∷
      "mshrs = 2" ∷
      "[ram]" ∷
      "base = 65536" ∷
      "size = 65536" ∷
      "[stt]" ∷
      "model = \"spectre\"" ∷
      []);
  image =
      0x464c457f ∷ 0x00010101 ∷ 0x00000000 ∷ 0x00000000 ∷ 0x00f30002 ∷ 0x00000001 ∷ 0x00010000 ∷ 0x00000034 ∷
      0x00000000 ∷ 0x00000000 ∷ 0x00200034 ∷ 0x00000001 ∷ 0x00000000 ∷ 0x00000001 ∷ 0x00000054 ∷ 0x00010000 ∷
      0x00010000 ∷ 0x00000024 ∷ 0x00000024 ∷ 0x00000005 ∷ 0x00000004 ∷ 0x022144b3 ∷ 0x00212023 ∷ 0x022102b3 ∷
      0x00512023 ∷ 0x00012223 ∷ 0x00012503 ∷ 0x00211583 ∷ 0x05d00893 ∷ 0x00000073 ∷
      [];
  cycles = 100;
  trace = lines (
      "1 fet:00010000 fet:00010004" ∷
      "2 ren:0:00010000 ren:1:00010004 fet:00010008 fet:0001000c" ∷
      "3 div:0:20 agu:1 std:1 ren:2:00010008 ren:3:0001000c fet:00010010 fet:00010014" ∷
      "4 done:1 mul:2 agu:3 ren:4:00010010 ren:5:00010014 fet:00010018 fet:0001001c" ∷
      "5 agu:4 std:4 ren:6:00010018 ren:7:0001001c fet:00010020 fet:00010024" ∷
      "6 done:4 alu:7" ∷
      "7 done:2 done:7 std:3" ∷
      "8 done:3 ld:5:f" ∷
      "9 done:5 ld:6:f" ∷
      "10 done:6" ∷
      "11" ∷
      "12" ∷
      "13" ∷
      "14" ∷
      "15" ∷
      "16" ∷
      "17" ∷
      "18" ∷
      "19" ∷
      "20" ∷
      "21" ∷
      "22" ∷
      "23 done:0 ret:0 ret:1 st:1:0001fff0:m" ∷
      "24 ret:2 ret:3 st:3:0001fff0:m" ∷
      "25 ret:4 st:4:0001fff0:m ret:5" ∷
      "26 ret:6 ret:7 ren:8:00010020" ∷
      "27 ret:8 call:8:0" ∷
      "end exit 4290773248 retired 9 cycles 27" ∷
      []);
}
