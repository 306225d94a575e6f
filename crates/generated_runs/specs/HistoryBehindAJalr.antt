-- Made by tools/evaluate/write: change what it reads, in tools/evaluate/runs, and run it again.
use Rattle.std.specs.Prelude.{[], ◌∷◌}
use Rattle.generated_runs.specs.Agreement.{Run, lines}

-- the run's code:
-- 00010000 beq x0,x0,+8
-- 00010004 addi x0,x0,0
-- 00010008 auipc x6,0x0
-- 0001000c jalr x1,16(x6)
-- 00010010 addi x0,x0,0
-- 00010014 addi x0,x0,0
-- 00010018 beq x0,x0,+8
-- 0001001c addi x17,x0,93
-- 00010020 ecall
abbrev pub history_behind_a_jalr : Run
history_behind_a_jalr = record {
  description = lines (
      "version = 2" ∷
      "[core]" ∷
      "fetch_width = 2" ∷
      "retire_width = 2" ∷
      "rob = 16" ∷
      "stations = 8" ∷
      "loads = 4" ∷
      "stores = 4" ∷
      "queue = 8" ∷
      "[units]" ∷
      "alus = 2" ∷
      "mul_latency = 3" ∷
      "[predictor]" ∷
      "counters = 16" ∷
      "btb = 4" ∷
      "depend = 0" ∷
      "history = 1" ∷
      "returns = 0" ∷
      "[cache]" ∷
      "sets = 2" ∷
      "ways = 2" ∷
      "line = 16" ∷
      "hit_latency = 2" ∷
      "miss_latency = 10" ∷
      "mshrs = 2" ∷
      "second_sets = 0" ∷
      "second_ways = 1" ∷
      "second_latency = 2" ∷
      "prefetch = 0" ∷
      "[ram]" ∷
      "base = 65536" ∷
      "size = 65536" ∷
      "misaligned = 0" ∷
      "[stt]" ∷
      "model = \"spectre\"" ∷
      "defence = \"stt\"" ∷
      []);
  image =
      0x464c457f ∷ 0x00010101 ∷ 0x00000000 ∷ 0x00000000 ∷ 0x00f30002 ∷ 0x00000001 ∷ 0x00010000 ∷ 0x00000034 ∷
      0x00000000 ∷ 0x00000000 ∷ 0x00200034 ∷ 0x00000001 ∷ 0x00000000 ∷ 0x00000001 ∷ 0x00000054 ∷ 0x00010000 ∷
      0x00010000 ∷ 0x00000024 ∷ 0x00000024 ∷ 0x00000005 ∷ 0x00000004 ∷ 0x00000463 ∷ 0x00000013 ∷ 0x00000317 ∷
      0x010300e7 ∷ 0x00000013 ∷ 0x00000013 ∷ 0x00000463 ∷ 0x05d00893 ∷ 0x00000073 ∷
      [];
  cycles = 200;
  trace = lines (
      "1 fet:00010000 fet:00010004" ∷
      "2 ren:0:00010000 ren:1:00010004 fet:00010008 fet:0001000c" ∷
      "3 alu:0 alu:1 ren:2:00010008 ren:3:0001000c fet:00010010 fet:00010014" ∷
      "4 done:0 done:1 res:0:T bp:0:2 sq:5 ret:0 fet:00010008 fet:0001000c" ∷
      "5 ren:4:00010008 ren:5:0001000c fet:00010010 fet:00010014" ∷
      "6 alu:4 ren:6:00010010 ren:7:00010014 fet:00010018 fet:0001001c" ∷
      "7 done:4 ret:4 alu:5 alu:6 ren:8:00010018 ren:9:0001001c fet:00010020 fet:00010024" ∷
      "8 done:5 done:6 res:5:J bt:3:00010018 sq:6 ret:5 fet:00010018 fet:0001001c" ∷
      "9 ren:10:00010018 ren:11:0001001c fet:00010020 fet:00010024" ∷
      "10 alu:10 alu:11" ∷
      "11 done:10 done:11 res:10:T bp:7:2 sq:3 ret:10 fet:00010020 fet:00010024" ∷
      "12 ren:12:00010020" ∷
      "13 ret:12 call:12:0 ren:13:00010024" ∷
      "14" ∷
      "end trap 1 00010024 retired 5 cycles 14" ∷
      []);
}
