-- Made by tools/evaluate/write: change what it reads, in tools/evaluate/runs, and run it again.
use Rattle.std.specs.Prelude.{[], ◌∷◌}
use Rattle.generated_runs.specs.Agreement.{Run, lines}

-- the run's code:
-- 00010000 mul x5,x0,x0
-- 00010004 add x5,x5,x2
-- 00010008 sw x2,0(x5)
-- 0001000c sw x0,0(x2)
-- 00010010 lw x6,0(x2)
-- 00010014 addi x17,x0,93
-- 00010018 ecall
abbrev pub violated_behind_a_younger_store : Run
violated_behind_a_younger_store = record {
  description = lines (
      "version = 2" ∷
      "[core]" ∷
      "fetch_width = 2" ∷
      "retire_width = 2" ∷
      "rob = 16" ∷
      "stations = 8" ∷
      "loads = 4" ∷
      "stores = 4" ∷
      "queue = 8" ∷
      "[units]" ∷
      "alus = 2" ∷
      "mul_latency = 3" ∷
      "[predictor]" ∷
      "counters = 16" ∷
      "btb = 4" ∷
      "depend = 16" ∷
      "history = 0" ∷
      "returns = 0" ∷
      "[cache]" ∷
      "sets = 2" ∷
      "ways = 2" ∷
      "line = 16" ∷
      "hit_latency = 2" ∷
      "miss_latency = 10" ∷
      "mshrs = 2" ∷
      "second_sets = 0" ∷
      "second_ways = 1" ∷
      "second_latency = 2" ∷
      "prefetch = 0" ∷
      "[ram]" ∷
      "base = 65536" ∷
      "size = 65536" ∷
      "misaligned = 0" ∷
      "[stt]" ∷
      "model = \"spectre\"" ∷
      "defence = \"stt\"" ∷
      []);
  image =
      0x464c457f ∷ 0x00010101 ∷ 0x00000000 ∷ 0x00000000 ∷ 0x00f30002 ∷ 0x00000001 ∷ 0x00010000 ∷ 0x00000034 ∷
      0x00000000 ∷ 0x00000000 ∷ 0x00200034 ∷ 0x00000001 ∷ 0x00000000 ∷ 0x00000001 ∷ 0x00000054 ∷ 0x00010000 ∷
      0x00010000 ∷ 0x0000001c ∷ 0x0000001c ∷ 0x00000005 ∷ 0x00000004 ∷ 0x020002b3 ∷ 0x002282b3 ∷ 0x0022a023 ∷
      0x00012023 ∷ 0x00012303 ∷ 0x05d00893 ∷ 0x00000073 ∷
      [];
  cycles = 60;
  trace = lines (
      "1 fet:00010000 fet:00010004" ∷
      "2 ren:0:00010000 ren:1:00010004 fet:00010008 fet:0001000c" ∷
      "3 mul:0 ren:2:00010008 ren:3:0001000c fet:00010010 fet:00010014" ∷
      "4 std:2 agu:3 ren:4:00010010 ren:5:00010014 fet:00010018 fet:0001001c" ∷
      "5 clr:3 std:3 alu:5" ∷
      "6 done:0 done:3 done:5 ret:0 alu:1 ld:4:f" ∷
      "7 done:1 done:4 ret:1 agu:2" ∷
      "8 done:2 clr:2 vio:4 dp:4:1 sq:4 ret:2 st:2:0001fff0:m fet:00010010 fet:00010014" ∷
      "9 ret:3 st:3:0001fff0:m ren:6:00010010 ren:7:00010014 fet:00010018 fet:0001001c" ∷
      "10 ld:6:0001fff0:m alu:7" ∷
      "11 done:7" ∷
      "12" ∷
      "13" ∷
      "14" ∷
      "15" ∷
      "16" ∷
      "17" ∷
      "18" ∷
      "19" ∷
      "20 fill:0001fff0 done:6 ret:6 ret:7 ren:8:00010018" ∷
      "21 ret:8 call:8:0" ∷
      "end exit 0 retired 7 cycles 21" ∷
      []);
}
