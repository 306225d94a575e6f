-- Made by tools/evaluate/write: change what it reads, in tools/evaluate/runs, and run it again.
use Rattle.std.specs.Prelude.{[], ◌∷◌}
use Rattle.generated_runs.specs.Agreement.{Run, lines}

-- the run's code:
-- 00010000 sw x2,0(x2)
-- 00010004 bne x2,x0,+8
-- 00010008 00000000, which is no instruction
-- 0001000c addi x17,x0,93
-- 00010010 ecall
abbrev pub cleared_at_a_squash : Run
cleared_at_a_squash = record {
  description = lines (
      "version = 2" ∷
      "[core]" ∷
      "fetch_width = 2" ∷
      "retire_width = 2" ∷
      "rob = 16" ∷
      "stations = 8" ∷
      "loads = 4" ∷
      "stores = 4" ∷
      "queue = 8" ∷
      "[units]" ∷
      "alus = 2" ∷
      "mul_latency = 3" ∷
      "[predictor]" ∷
      "counters = 16" ∷
      "btb = 4" ∷
      "depend = 16" ∷
      "history = 0" ∷
      "returns = 0" ∷
      "[cache]" ∷
      "sets = 2" ∷
      "ways = 2" ∷
      "line = 16" ∷
      "hit_latency = 2" ∷
      "miss_latency = 10" ∷
      "mshrs = 2" ∷
      "second_sets = 0" ∷
      "second_ways = 1" ∷
      "second_latency = 2" ∷
      "prefetch = 0" ∷
      "[ram]" ∷
      "base = 65536" ∷
      "size = 65536" ∷
      "misaligned = 0" ∷
      "[stt]" ∷
      "model = \"spectre\"" ∷
      "defence = \"stt\"" ∷
      []);
  image =
      0x464c457f ∷ 0x00010101 ∷ 0x00000000 ∷ 0x00000000 ∷ 0x00f30002 ∷ 0x00000001 ∷ 0x00010000 ∷ 0x00000034 ∷
      0x00000000 ∷ 0x00000000 ∷ 0x00200034 ∷ 0x00000001 ∷ 0x00000000 ∷ 0x00000001 ∷ 0x00000054 ∷ 0x00010000 ∷
      0x00010000 ∷ 0x00000014 ∷ 0x00000014 ∷ 0x00000005 ∷ 0x00000004 ∷ 0x00212023 ∷ 0x00011463 ∷ 0x00000000 ∷
      0x05d00893 ∷ 0x00000073 ∷
      [];
  cycles = 60;
  trace = lines (
      "1 fet:00010000 fet:00010004" ∷
      "2 ren:0:00010000 ren:1:00010004 fet:00010008" ∷
      "3 agu:0 std:0 alu:1 ren:2:00010008" ∷
      "4 done:0 done:1 res:1:T bp:1:2 sq:1 clr:0 ret:0 st:0:0001fff0:m ret:1 fet:0001000c fet:00010010" ∷
      "5 ren:3:0001000c fet:00010014" ∷
      "6 alu:3" ∷
      "7 done:3 ret:3 ren:4:00010010" ∷
      "8 ret:4 call:4:0" ∷
      "end exit 0 retired 4 cycles 8" ∷
      []);
}
