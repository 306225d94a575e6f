-- Made by tools/evaluate/write: change what it reads, in tools/evaluate/runs, and run it again.
use Rattle.std.specs.Prelude.{[], ◌∷◌}
use Rattle.generated_runs.specs.Agreement.{Run, lines}

-- the run's code:
-- 00010000 auipc x6,0x0
-- 00010004 lw x7,6(x6)
-- 00010008 add x9,x8,x2
-- 0001000c sw x7,-1(x9)
-- 00010010 lbu x9,0(x2)
-- 00010014 addi x17,x0,93
-- 00010018 ecall
abbrev pub violated_without_data : Run
violated_without_data = record {
  description = lines (
      "version = 2" ∷
      "[core]" ∷
      "fetch_width = 2" ∷
      "retire_width = 2" ∷
      "rob = 16" ∷
      "stations = 8" ∷
      "loads = 4" ∷
      "stores = 4" ∷
      "queue = 8" ∷
      "[units]" ∷
      "alus = 2" ∷
      "mul_latency = 3" ∷
      "[predictor]" ∷
      "counters = 16" ∷
      "btb = 4" ∷
      "depend = 1" ∷
      "history = 0" ∷
      "returns = 0" ∷
      "[cache]" ∷
      "sets = 2" ∷
      "ways = 2" ∷
      "line = 16" ∷
      "hit_latency = 2" ∷
      "miss_latency = 10" ∷
      "mshrs = 2" ∷
      "second_sets = 0" ∷
      "second_ways = 1" ∷
      "second_latency = 2" ∷
      "prefetch = 0" ∷
      "[ram]" ∷
      "base = 65536" ∷
      "size = 65536" ∷
      "misaligned = 1" ∷
      "[stt]" ∷
      "model = \"spectre\"" ∷
      "defence = \"stt\"" ∷
      []);
  image =
      0x464c457f ∷ 0x00010101 ∷ 0x00000000 ∷ 0x00000000 ∷ 0x00f30002 ∷ 0x00000001 ∷ 0x00010000 ∷ 0x00000034 ∷
      0x00000000 ∷ 0x00000000 ∷ 0x00200034 ∷ 0x00000001 ∷ 0x00000000 ∷ 0x00000001 ∷ 0x00000054 ∷ 0x00010000 ∷
      0x00010000 ∷ 0x0000001c ∷ 0x0000001c ∷ 0x00000005 ∷ 0x00000004 ∷ 0x00000317 ∷ 0x00632383 ∷ 0x002404b3 ∷
      0xfe74afa3 ∷ 0x00014483 ∷ 0x05d00893 ∷ 0x00000073 ∷
      [];
  cycles = 200;
  trace = lines (
      "1 fet:00010000 fet:00010004" ∷
      "2 ren:0:00010000 ren:1:00010004 fet:00010008 fet:0001000c" ∷
      "3 alu:0 ren:2:00010008 ren:3:0001000c fet:00010010 fet:00010014" ∷
      "4 done:0 ret:0 ld:1:00010000:m alu:2 ren:4:00010010 ren:5:00010014 fet:00010018 fet:0001001c" ∷
      "5 done:2 agu:3 ld:4:0001fff0:m alu:5" ∷
      "6 done:5 clr:3 vio:4 dp:0:1 sq:4 fet:00010010 fet:00010014" ∷
      "7 ren:6:00010010 ren:7:00010014 fet:00010018 fet:0001001c" ∷
      "8 alu:7" ∷
      "9 done:7" ∷
      "10" ∷
      "11" ∷
      "12" ∷
      "13" ∷
      "14 fill:00010000 done:1 ret:1 ret:2 std:3" ∷
      "15 fill:0001fff0 done:3 ret:3 st:3:0001ffe0:m st:3:0001fff0:h ld:6:0001fff0:h" ∷
      "16" ∷
      "17 done:6 ret:6 ret:7 ren:8:00010018" ∷
      "18 ret:8 call:8:0" ∷
      "end exit 0 retired 7 cycles 18" ∷
      []);
}
