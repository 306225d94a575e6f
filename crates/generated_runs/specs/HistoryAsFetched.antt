-- Made by tools/evaluate/write: change what it reads, in tools/evaluate/runs, and run it again.
use Rattle.std.specs.Prelude.{[], ◌∷◌}
use Rattle.generated_runs.specs.Agreement.{Run, lines}

-- the run's code:
-- 00010000 beq x0,x0,+8
-- 00010004 addi x6,x0,1
-- 00010008 bne x0,x0,+8
-- 0001000c bne x0,x0,+8
-- 00010010 addi x17,x0,93
-- 00010014 ecall
abbrev pub history_as_fetched : Run
history_as_fetched = record {
  description = lines (
      "version = 2" ∷
      "[core]" ∷
      "fetch_width = 2" ∷
      "retire_width = 2" ∷
      "rob = 16" ∷
      "stations = 8" ∷
      "loads = 4" ∷
      "stores = 4" ∷
      "queue = 8" ∷
      "[units]" ∷
      "alus = 2" ∷
      "mul_latency = 3" ∷
      "[predictor]" ∷
      "counters = 16" ∷
      "btb = 4" ∷
      "history = 3" ∷
      "[cache]" ∷
      "sets = 2" ∷
      "ways = 2" ∷
      "line = 16" ∷
      "hit_latency = 2" ∷
      "miss_latency = 10" ∷
      "mshrs = 2" ∷
      "[ram]" ∷
      "base = 65536" ∷
      "size = 65536" ∷
      "[stt]" ∷
      "model = \"spectre\"" ∷
      []);
  image =
      0x464c457f ∷ 0x00010101 ∷ 0x00000000 ∷ 0x00000000 ∷ 0x00f30002 ∷ 0x00000001 ∷ 0x00010000 ∷ 0x00000034 ∷
      0x00000000 ∷ 0x00000000 ∷ 0x00200034 ∷ 0x00000001 ∷ 0x00000000 ∷ 0x00000001 ∷ 0x00000054 ∷ 0x00010000 ∷
      0x00010000 ∷ 0x00000018 ∷ 0x00000018 ∷ 0x00000005 ∷ 0x00000004 ∷ 0x00000463 ∷ 0x00100313 ∷ 0x00001463 ∷
      0x00001463 ∷ 0x05d00893 ∷ 0x00000073 ∷
      [];
  cycles = 200;
  trace = lines (
      "1 fet:00010000 fet:00010004" ∷
      "2 ren:0:00010000 ren:1:00010004 fet:00010008 fet:0001000c" ∷
      "3 alu:0 alu:1 ren:2:00010008 ren:3:0001000c fet:00010010 fet:00010014" ∷
      "4 done:0 done:1 res:0:T bp:0:2 sq:5 ret:0 fet:00010008 fet:0001000c" ∷
      "5 ren:4:00010008 ren:5:0001000c fet:00010010 fet:00010014" ∷
      "6 alu:4 alu:5 ren:6:00010010 fet:00010018" ∷
      "7 done:4 done:5 res:4:N bp:3:0 ret:4 alu:6" ∷
      "8 done:6 res:5:N bp:1:0 ret:5 ret:6 ren:7:00010014" ∷
      "9 ret:7 call:7:0" ∷
      "end exit 0 retired 5 cycles 9" ∷
      []);
}
