-- Made by tools/evaluate/write: change what it reads, in tools/evaluate/runs, and run it again.
use Rattle.std.specs.Prelude.{[], ◌∷◌}
use Rattle.generated_runs.specs.Agreement.{Run, lines}

-- the run's code:
-- 00010000 jal x1,+12
-- 00010004 addi x17,x0,93
-- 00010008 ecall
-- 0001000c addi x5,x1,0
-- 00010010 jalr x0,0(x5)
abbrev pub return_by_another_register : Run
return_by_another_register = record {
  description = lines (
      "version = 2" ∷
      "[core]" ∷
      "fetch_width = 2" ∷
      "retire_width = 2" ∷
      "rob = 16" ∷
      "stations = 8" ∷
      "loads = 4" ∷
      "stores = 4" ∷
      "queue = 8" ∷
      "[units]" ∷
      "alus = 2" ∷
      "mul_latency = 3" ∷
      "[predictor]" ∷
      "counters = 16" ∷
      "btb = 4" ∷
      "returns = 4" ∷
      "[cache]" ∷
      "sets = 2" ∷
      "ways = 2" ∷
      "line = 16" ∷
      "hit_latency = 2" ∷
      "miss_latency = 10" ∷
      "mshrs = 2" ∷
      "[ram]" ∷
      "base = 65536" ∷
      "size = 65536" ∷
      "[stt]" ∷
      "model = \"spectre\"" ∷
      []);
  image =
      0x464c457f ∷ 0x00010101 ∷ 0x00000000 ∷ 0x00000000 ∷ 0x00f30002 ∷ 0x00000001 ∷ 0x00010000 ∷ 0x00000034 ∷
      0x00000000 ∷ 0x00000000 ∷ 0x00200034 ∷ 0x00000001 ∷ 0x00000000 ∷ 0x00000001 ∷ 0x00000054 ∷ 0x00010000 ∷
      0x00010000 ∷ 0x00000014 ∷ 0x00000014 ∷ 0x00000005 ∷ 0x00000004 ∷ 0x00c000ef ∷ 0x05d00893 ∷ 0x00000073 ∷
      0x00008293 ∷ 0x00028067 ∷
      [];
  cycles = 200;
  trace = lines (
      "1 fet:00010000 fet:0001000c" ∷
      "2 ren:0:00010000 ren:1:0001000c fet:00010010 fet:00010014" ∷
      "3 alu:0 ren:2:00010010 ren:3:00010014" ∷
      "4 done:0 ret:0 alu:1" ∷
      "5 done:1 ret:1 alu:2" ∷
      "6 done:2 res:2:J bt:0:00010004 sq:1 ret:2 fet:00010004 fet:00010008" ∷
      "7 ren:4:00010004 fet:0001000c fet:00010010" ∷
      "8 alu:4 fet:00010004 fet:00010008" ∷
      "9 done:4 ret:4 ren:5:00010008 fet:0001000c fet:00010010" ∷
      "10 ret:5 call:5:0" ∷
      "end exit 0 retired 5 cycles 10" ∷
      []);
}
