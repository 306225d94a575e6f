-- Made by tools/evaluate/write: change what it reads, in tools/evaluate/runs, and run it again.
use Rattle.std.specs.Prelude.{[], ◌∷◌}
use Rattle.generated_runs.specs.Agreement.{Run, lines}

-- the run's code:
-- 00010000 div x9,x2,x2
-- 00010004 mul x5,x0,x0
-- 00010008 add x5,x5,x2
-- 0001000c sw x2,0(x5)
-- 00010010 lw x6,0(x2)
-- 00010014 div x9,x2,x2
-- 00010018 addi x17,x0,93
-- 0001001c ecall
abbrev pub divider_kept_at_a_violation : Run
divider_kept_at_a_violation = record {
  description = lines (
      "version = 2" ∷
      "[core]" ∷
      "fetch_width = 2" ∷
      "retire_width = 2" ∷
      "rob = 16" ∷
      "stations = 8" ∷
      "loads = 4" ∷
      "stores = 4" ∷
      "queue = 8" ∷
      "[units]" ∷
      "alus = 2" ∷
      "mul_latency = 3" ∷
      "[predictor]" ∷
      "counters = 16" ∷
      "btb = 4" ∷
      "depend = 16" ∷
      "history = 0" ∷
      "returns = 0" ∷
      "[cache]" ∷
      "sets = 2" ∷
      "ways = 2" ∷
      "line = 16" ∷
      "hit_latency = 2" ∷
      "miss_latency = 10" ∷
      "mshrs = 2" ∷
      "second_sets = 0" ∷
      "second_ways = 1" ∷
      "second_latency = 2" ∷
      "prefetch = 0" ∷
      "[ram]" ∷
      "base = 65536" ∷
      "size = 65536" ∷
      "misaligned = 0" ∷
      "[stt]" ∷
      "model = \"spectre\"" ∷
      "defence = \"stt\"" ∷
      []);
  image =
      0x464c457f ∷ 0x00010101 ∷ 0x00000000 ∷ 0x00000000 ∷ 0x00f30002 ∷ 0x00000001 ∷ 0x00010000 ∷ 0x00000034 ∷
      0x00000000 ∷ 0x00000000 ∷ 0x00200034 ∷ 0x00000001 ∷ 0x00000000 ∷ 0x00000001 ∷ 0x00000054 ∷ 0x00010000 ∷
      0x00010000 ∷ 0x00000020 ∷ 0x00000020 ∷ 0x00000005 ∷ 0x00000004 ∷ 0x022144b3 ∷ 0x020002b3 ∷ 0x002282b3 ∷
      0x0022a023 ∷ 0x00012303 ∷ 0x022144b3 ∷ 0x05d00893 ∷ 0x00000073 ∷
      [];
  cycles = 60;
  trace = lines (
      "1 fet:00010000 fet:00010004" ∷
      "2 ren:0:00010000 ren:1:00010004 fet:00010008 fet:0001000c" ∷
      "3 div:0:20 mul:1 ren:2:00010008 ren:3:0001000c fet:00010010 fet:00010014" ∷
      "4 std:3 ren:4:00010010 ren:5:00010014 fet:00010018 fet:0001001c" ∷
      "5 ld:4:0001fff0:m ren:6:00010018 fet:00010020" ∷
      "6 done:1 alu:2 alu:6" ∷
      "7 done:2 done:6 agu:3" ∷
      "8 done:3 clr:3 vio:4 dp:4:1 sq:5 fet:00010010 fet:00010014" ∷
      "9 ren:7:00010010 ren:8:00010014 fet:00010018 fet:0001001c" ∷
      "10 ld:7:f ren:9:00010018 fet:00010020" ∷
      "11 done:7 alu:9" ∷
      "12 done:9" ∷
      "13" ∷
      "14" ∷
      "15 fill:0001fff0" ∷
      "16" ∷
      "17" ∷
      "18" ∷
      "19" ∷
      "20" ∷
      "21" ∷
      "22" ∷
      "23 done:0 ret:0 ret:1 div:8:20" ∷
      "24 ret:2 ret:3 st:3:0001fff0:h" ∷
      "25 ret:7" ∷
      "26" ∷
      "27" ∷
      "28" ∷
      "29" ∷
      "30" ∷
      "31" ∷
      "32" ∷
      "33" ∷
      "34" ∷
      "35" ∷
      "36" ∷
      "37" ∷
      "38" ∷
      "39" ∷
      "40" ∷
      "41" ∷
      "42" ∷
      "43 done:8 ret:8 ret:9 ren:10:0001001c" ∷
      "44 ret:10 call:10:0" ∷
      "end exit 0 retired 8 cycles 44" ∷
      []);
}
