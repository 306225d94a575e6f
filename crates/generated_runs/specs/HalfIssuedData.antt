-- Made by tools/evaluate/write: change what it reads, in tools/evaluate/runs, and run it again.
use Rattle.std.specs.Prelude.{[], ◌∷◌}
use Rattle.generated_runs.specs.Agreement.{Run, lines}

-- the run's code:
-- 00010000 rem x6,x2,x0
-- 00010004 sw x2,0(x6)
-- 00010008 sw x6,4(x6)
-- 0001000c addi x7,x0,1
-- 00010010 addi x8,x0,1
-- 00010014 addi x17,x0,93
-- 00010018 ecall
abbrev pub half_issued_data : Run
half_issued_data = record {
  description = lines (
      "version = 2" ∷
      "[core]" ∷
      "fetch_width = 2" ∷
      "retire_width = 2" ∷
      "rob = 16" ∷
      "stations = 3" ∷
      "loads = 4" ∷
      "stores = 4" ∷
      "queue = 8" ∷
      "[units]" ∷
      "alus = 2" ∷
      "mul_latency = 3" ∷
      "[predictor]" ∷
      "counters = 16" ∷
      "btb = 4" ∷
      "[cache]" ∷
      "sets = 2" ∷
      "ways = 2" ∷
      "line = 16" ∷
      "hit_latency = 2" ∷
      "miss_latency = 10" ∷
      "mshrs = 2" ∷
      "[ram]" ∷
      "base = 65536" ∷
      "size = 65536" ∷
      "[stt]" ∷
      "model = \"spectre\"" ∷
      []);
  image =
      0x464c457f ∷ 0x00010101 ∷ 0x00000000 ∷ 0x00000000 ∷ 0x00f30002 ∷ 0x00000001 ∷ 0x00010000 ∷ 0x00000034 ∷
      0x00000000 ∷ 0x00000000 ∷ 0x00200034 ∷ 0x00000001 ∷ 0x00000000 ∷ 0x00000001 ∷ 0x00000054 ∷ 0x00010000 ∷
      0x00010000 ∷ 0x0000001c ∷ 0x0000001c ∷ 0x00000005 ∷ 0x00000004 ∷ 0x02016333 ∷ 0x00232023 ∷ 0x00632223 ∷
      0x00100393 ∷ 0x00100413 ∷ 0x05d00893 ∷ 0x00000073 ∷
      [];
  cycles = 100;
  trace = lines (
      "1 fet:00010000 fet:00010004" ∷
      "2 ren:0:00010000 ren:1:00010004 fet:00010008 fet:0001000c" ∷
      "3 div:0:20 std:1 ren:2:00010008 ren:3:0001000c fet:00010010 fet:00010014" ∷
      "4 alu:3 ren:4:00010010 fet:00010018 fet:0001001c" ∷
      "5 done:3 alu:4 ren:5:00010014" ∷
      "6 done:4 alu:5" ∷
      "7 done:5" ∷
      "8" ∷
      "9" ∷
      "10" ∷
      "11" ∷
      "12" ∷
      "13" ∷
      "14" ∷
      "15" ∷
      "16" ∷
      "17" ∷
      "18" ∷
      "19" ∷
      "20" ∷
      "21" ∷
      "22" ∷
      "23 done:0 ret:0 agu:1 std:2" ∷
      "24 done:1 ret:1 st:1:0001fff0:m agu:2" ∷
      "25 done:2 ret:2 st:2:0001fff0:m ret:3" ∷
      "26 ret:4 ret:5 ren:6:00010018" ∷
      "27 ret:6 call:6:0" ∷
      "end exit 0 retired 7 cycles 27" ∷
      []);
}
