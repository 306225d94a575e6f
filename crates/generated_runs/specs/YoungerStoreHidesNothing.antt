-- Made by tools/evaluate/write: change what it reads, in tools/evaluate/runs, and run it again.
use Rattle.std.specs.Prelude.{[], ◌∷◌}
use Rattle.generated_runs.specs.Agreement.{Run, lines}

-- the run's code:
-- 00010000 auipc x6,0x0
-- 00010004 lbu x8,0(x6)
-- 00010008 sh x6,0(x2)
-- 0001000c beq x6,x8,+8
-- 00010010 lbu x7,0(x2)
-- 00010014 sw x2,-2(x7)
-- 00010018 addi x17,x0,93
-- 0001001c ecall
abbrev pub younger_store_hides_nothing : Run
younger_store_hides_nothing = record {
  description = lines (
      "version = 2" ∷
      "[core]" ∷
      "fetch_width = 2" ∷
      "retire_width = 2" ∷
      "rob = 16" ∷
      "stations = 8" ∷
      "loads = 4" ∷
      "stores = 4" ∷
      "queue = 8" ∷
      "[units]" ∷
      "alus = 2" ∷
      "mul_latency = 3" ∷
      "[predictor]" ∷
      "counters = 16" ∷
      "btb = 4" ∷
      "depend = 0" ∷
      "history = 0" ∷
      "returns = 0" ∷
      "[cache]" ∷
      "sets = 2" ∷
      "ways = 2" ∷
      "line = 16" ∷
      "hit_latency = 2" ∷
      "miss_latency = 10" ∷
      "mshrs = 2" ∷
      "second_sets = 0" ∷
      "second_ways = 1" ∷
      "second_latency = 2" ∷
      "prefetch = 0" ∷
      "[ram]" ∷
      "base = 65536" ∷
      "size = 65536" ∷
      "misaligned = 0" ∷
      "[stt]" ∷
      "model = \"spectre\"" ∷
      "defence = \"stt\"" ∷
      []);
  image =
      0x464c457f ∷ 0x00010101 ∷ 0x00000000 ∷ 0x00000000 ∷ 0x00f30002 ∷ 0x00000001 ∷ 0x00010000 ∷ 0x00000034 ∷
      0x00000000 ∷ 0x00000000 ∷ 0x00200034 ∷ 0x00000001 ∷ 0x00000000 ∷ 0x00000001 ∷ 0x00000054 ∷ 0x00010000 ∷
      0x00010000 ∷ 0x00000020 ∷ 0x00000020 ∷ 0x00000005 ∷ 0x00000004 ∷ 0x00000317 ∷ 0x00034403 ∷ 0x00611023 ∷
      0x00830463 ∷ 0x00014383 ∷ 0xfe23af23 ∷ 0x05d00893 ∷ 0x00000073 ∷
      [];
  cycles = 200;
  trace = lines (
      "1 fet:00010000 fet:00010004" ∷
      "2 ren:0:00010000 ren:1:00010004 fet:00010008 fet:0001000c" ∷
      "3 alu:0 ren:2:00010008 ren:3:0001000c fet:00010010 fet:00010014" ∷
      "4 done:0 ret:0 ld:1:00010000:m agu:2 std:2 ren:4:00010010 ren:5:00010014 fet:00010018 fet:0001001c" ∷
      "5 done:2 ld:4:f std:5 ren:6:00010018 fet:00010020" ∷
      "6 done:4 agu:5 alu:6" ∷
      "7 done:5 done:6" ∷
      "8" ∷
      "9" ∷
      "10" ∷
      "11" ∷
      "12" ∷
      "13" ∷
      "14 fill:00010000 done:1 ret:1 ret:2 st:2:0001fff0:m alu:3" ∷
      "15 done:3 res:3:N bp:3:0 ret:3 ret:4" ∷
      "16" ∷
      "end trap 6 00010014 retired 5 cycles 16" ∷
      []);
}
