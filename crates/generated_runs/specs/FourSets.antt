-- Made by tools/evaluate/write: change what it reads, in tools/evaluate/runs, and run it again.
use Rattle.std.specs.Prelude.{[], ◌∷◌}
use Rattle.generated_runs.specs.Agreement.{Run, lines}

-- the run's code:
-- 00010000 lw x5,0(x2)
-- 00010004 add x6,x5,x2
-- 00010008 lw x5,-32(x6)
-- 0001000c add x6,x5,x2
-- 00010010 lw x7,0(x6)
-- 00010014 addi x17,x0,93
-- 00010018 ecall
abbrev pub four_sets : Run
four_sets = record {
  description = lines (
      "version = 2" ∷
      "[core]" ∷
      "fetch_width = 2" ∷
      "retire_width = 2" ∷
      "rob = 16" ∷
      "stations = 8" ∷
      "loads = 4" ∷
      "stores = 4" ∷
      "queue = 8" ∷
      "[units]" ∷
      "alus = 2" ∷
      "mul_latency = 3" ∷
      "[predictor]" ∷
      "counters = 16" ∷
      "btb = 4" ∷
      "depend = 0" ∷
      "history = 0" ∷
      "returns = 0" ∷
      "[cache]" ∷
      "sets = 4" ∷
      "ways = 1" ∷
      "line = 16" ∷
      "hit_latency = 2" ∷
      "miss_latency = 10" ∷
      "mshrs = 2" ∷
      "second_sets = 0" ∷
      "second_ways = 1" ∷
      "second_latency = 2" ∷
      "prefetch = 0" ∷
      "[ram]" ∷
      "base = 65536" ∷
      "size = 65536" ∷
      "misaligned = 0" ∷
      "[stt]" ∷
      "model = \"spectre\"" ∷
      "defence = \"stt\"" ∷
      []);
  image =
      0x464c457f ∷ 0x00010101 ∷ 0x00000000 ∷ 0x00000000 ∷ 0x00f30002 ∷ 0x00000001 ∷ 0x00010000 ∷ 0x00000034 ∷
      0x00000000 ∷ 0x00000000 ∷ 0x00200034 ∷ 0x00000001 ∷ 0x00000000 ∷ 0x00000001 ∷ 0x00000054 ∷ 0x00010000 ∷
      0x00010000 ∷ 0x0000001c ∷ 0x0000001c ∷ 0x00000005 ∷ 0x00000004 ∷ 0x00012283 ∷ 0x00228333 ∷ 0xfe032283 ∷
      0x00228333 ∷ 0x00032383 ∷ 0x05d00893 ∷ 0x00000073 ∷
      [];
  cycles = 200;
  trace = lines (
      "1 fet:00010000 fet:00010004" ∷
      "2 ren:0:00010000 ren:1:00010004 fet:00010008 fet:0001000c" ∷
      "3 ld:0:0001fff0:m ren:2:00010008 ren:3:0001000c fet:00010010 fet:00010014" ∷
      "4 ren:4:00010010 ren:5:00010014 fet:00010018 fet:0001001c" ∷
      "5 alu:5" ∷
      "6 done:5" ∷
      "7" ∷
      "8" ∷
      "9" ∷
      "10" ∷
      "11" ∷
      "12" ∷
      "13 fill:0001fff0 done:0 ret:0 alu:1" ∷
      "14 done:1 ret:1 ld:2:0001ffd0:m" ∷
      "15" ∷
      "16" ∷
      "17" ∷
      "18" ∷
      "19" ∷
      "20" ∷
      "21" ∷
      "22" ∷
      "23" ∷
      "24 fill:0001ffd0 done:2 ret:2 alu:3" ∷
      "25 done:3 ret:3 ld:4:0001fff0:h" ∷
      "26" ∷
      "27 done:4 ret:4 ret:5 ren:6:00010018" ∷
      "28 ret:6 call:6:0" ∷
      "end exit 0 retired 7 cycles 28" ∷
      []);
}
