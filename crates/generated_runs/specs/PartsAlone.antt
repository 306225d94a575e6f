-- Made by tools/evaluate/write: change what it reads, in tools/evaluate/runs, and run it again.
use Rattle.std.specs.Prelude.{[], ◌∷◌}
use Rattle.generated_runs.specs.Agreement.{Run, lines}

-- the run's code:
-- 00010000 mul x5,x2,x2
-- 00010004 sw x5,0(x2)
-- 00010008 mul x6,x0,x0
-- 0001000c sw x2,8(x6)
-- 00010010 addi x17,x0,93
-- 00010014 ecall
abbrev pub parts_alone : Run
parts_alone = record {
  description = lines (
      "version = 2" ∷
      "[core]" ∷
      "fetch_width = 2" ∷
      "retire_width = 2" ∷
      "rob = 16" ∷
      "stations = 8" ∷
      "loads = 4" ∷
      "stores = 4" ∷
      "queue = 8" ∷
      "[units]" ∷
      "alus = 2" ∷
      "mul_latency = 3" ∷
      "[predictor]" ∷
      "counters = 16" ∷
      "btb = 4" ∷
      "[cache]" ∷
      "sets = 2" ∷
      "ways = 2" ∷
      "line = 16" ∷
      "hit_latency = 2" ∷
      "miss_latency = 10" ∷
      "mshrs = 2" ∷
      "[ram]" ∷
      "base = 65536" ∷
      "size = 65536" ∷
      "[stt]" ∷
      "model = \"spectre\"" ∷
      []);
  image =
      0x464c457f ∷ 0x00010101 ∷ 0x00000000 ∷ 0x00000000 ∷ 0x00f30002 ∷ 0x00000001 ∷ 0x00010000 ∷ 0x00000034 ∷
      0x00000000 ∷ 0x00000000 ∷ 0x00200034 ∷ 0x00000001 ∷ 0x00000000 ∷ 0x00000001 ∷ 0x00000054 ∷ 0x00010000 ∷
      0x00010000 ∷ 0x00000018 ∷ 0x00000018 ∷ 0x00000005 ∷ 0x00000004 ∷ 0x022102b3 ∷ 0x00512023 ∷ 0x02000333 ∷
      0x00232423 ∷ 0x05d00893 ∷ 0x00000073 ∷
      [];
  cycles = 100;
  trace = lines (
      "1 fet:00010000 fet:00010004" ∷
      "2 ren:0:00010000 ren:1:00010004 fet:00010008 fet:0001000c" ∷
      "3 mul:0 agu:1 ren:2:00010008 ren:3:0001000c fet:00010010 fet:00010014" ∷
      "4 mul:2 std:3 ren:4:00010010 fet:00010018" ∷
      "5 alu:4" ∷
      "6 done:0 done:4 ret:0 std:1" ∷
      "7 done:1 done:2 ret:1 st:1:0001fff0:m ret:2 agu:3" ∷
      "8 done:3" ∷
      "end trap 7 0001000c retired 3 cycles 8" ∷
      []);
}
