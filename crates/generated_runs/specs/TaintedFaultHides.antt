-- Made by tools/evaluate/write: change what it reads, in tools/evaluate/runs, and run it again.
use Rattle.std.specs.Prelude.{[], ◌∷◌}
use Rattle.generated_runs.specs.Agreement.{Run, lines}

-- the run's code:
-- 00010000 div x9,x2,x2
-- 00010004 beq x9,x0,+8
-- 00010008 lw x5,8(x2)
-- 0001000c sw x2,0(x2)
-- 00010010 sw x0,0(x5)
-- 00010014 lw x6,0(x2)
-- 00010018 addi x17,x0,93
-- 0001001c ecall
abbrev pub tainted_fault_hides : Run
tainted_fault_hides = record {
  description = lines (
      "version = 2" ∷
      "[core]" ∷
      "fetch_width = 2" ∷
      "retire_width = 2" ∷
      "rob = 16" ∷
      "stations = 8" ∷
      "loads = 4" ∷
      "stores = 4" ∷
      "queue = 8" ∷
      "[units]" ∷
      "alus = 2" ∷
      "mul_latency = 3" ∷
      "[predictor]" ∷
      "counters = 16" ∷
      "btb = 4" ∷
      "depend = 0" ∷
      "history = 0" ∷
      "returns = 0" ∷
      "[cache]" ∷
      "sets = 2" ∷
      "ways = 2" ∷
      "line = 16" ∷
      "hit_latency = 2" ∷
      "miss_latency = 10" ∷
      "mshrs = 2" ∷
      "second_sets = 0" ∷
      "second_ways = 1" ∷
      "second_latency = 2" ∷
      "prefetch = 0" ∷
      "[ram]" ∷
      "base = 65536" ∷
      "size = 65536" ∷
      "misaligned = 0" ∷
      "[stt]" ∷
      "model = \"spectre\"" ∷
      "defence = \"stt\"" ∷
      []);
  image =
      0x464c457f ∷ 0x00010101 ∷ 0x00000000 ∷ 0x00000000 ∷ 0x00f30002 ∷ 0x00000001 ∷ 0x00010000 ∷ 0x00000034 ∷
      0x00000000 ∷ 0x00000000 ∷ 0x00200034 ∷ 0x00000001 ∷ 0x00000000 ∷ 0x00000001 ∷ 0x00000054 ∷ 0x00010000 ∷
      0x00010000 ∷ 0x00000020 ∷ 0x00000020 ∷ 0x00000005 ∷ 0x00000004 ∷ 0x022144b3 ∷ 0x00048463 ∷ 0x00812283 ∷
      0x00212023 ∷ 0x0002a023 ∷ 0x00012303 ∷ 0x05d00893 ∷ 0x00000073 ∷
      [];
  cycles = 200;
  trace = lines (
      "1 fet:00010000 fet:00010004" ∷
      "2 ren:0:00010000 ren:1:00010004 fet:00010008 fet:0001000c" ∷
      "3 div:0:20 ren:2:00010008 ren:3:0001000c fet:00010010 fet:00010014" ∷
      "4 ld:2:0001fff0:m agu:3 std:3 ren:4:00010010 ren:5:00010014 fet:00010018 fet:0001001c" ∷
      "5 done:3 std:4 ren:6:00010018 fet:00010020" ∷
      "6 alu:6" ∷
      "7 done:6" ∷
      "8" ∷
      "9" ∷
      "10" ∷
      "11" ∷
      "12" ∷
      "13" ∷
      "14 fill:0001fff0 done:2 agu:4" ∷
      "15 done:4 ld:5:0001fff0:h" ∷
      "16" ∷
      "17 done:5" ∷
      "18" ∷
      "19" ∷
      "20" ∷
      "21" ∷
      "22" ∷
      "23 done:0 ret:0 alu:1" ∷
      "24 done:1 res:1:N bp:1:0 ret:1 ret:2" ∷
      "25 ret:3 st:3:0001fff0:h" ∷
      "end trap 7 00010010 retired 4 cycles 25" ∷
      []);
}
