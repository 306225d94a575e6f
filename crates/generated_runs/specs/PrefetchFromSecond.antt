-- Made by tools/evaluate/write: change what it reads, in tools/evaluate/runs, and run it again.
use Rattle.std.specs.Prelude.{[], ◌∷◌}
use Rattle.generated_runs.specs.Agreement.{Run, lines}

-- the run's code:
-- 00010000 add x6,x5,x2
-- 00010004 lw x5,-16(x6)
-- 00010008 add x6,x5,x2
-- 0001000c lw x5,-32(x6)
-- 00010010 add x6,x5,x2
-- 00010014 lw x7,-16(x6)
-- 00010018 addi x17,x0,93
-- 0001001c ecall
abbrev pub prefetch_from_second : Run
prefetch_from_second = record {
  description = lines (
      "version = 2" ∷
      "[core]" ∷
      "fetch_width = 2" ∷
      "retire_width = 2" ∷
      "rob = 16" ∷
      "stations = 8" ∷
      "loads = 4" ∷
      "stores = 4" ∷
      "queue = 8" ∷
      "[units]" ∷
      "alus = 2" ∷
      "mul_latency = 3" ∷
      "[predictor]" ∷
      "counters = 16" ∷
      "btb = 4" ∷
      "[cache]" ∷
      "sets = 1" ∷
      "ways = 1" ∷
      "line = 16" ∷
      "hit_latency = 2" ∷
      "miss_latency = 10" ∷
      "mshrs = 2" ∷
      "second_sets = 1" ∷
      "second_ways = 4" ∷
      "second_latency = 5" ∷
      "prefetch = 1" ∷
      "[ram]" ∷
      "base = 65536" ∷
      "size = 65536" ∷
      "[stt]" ∷
      "model = \"spectre\"" ∷
      []);
  image =
      0x464c457f ∷ 0x00010101 ∷ 0x00000000 ∷ 0x00000000 ∷ 0x00f30002 ∷ 0x00000001 ∷ 0x00010000 ∷ 0x00000034 ∷
      0x00000000 ∷ 0x00000000 ∷ 0x00200034 ∷ 0x00000001 ∷ 0x00000000 ∷ 0x00000001 ∷ 0x00000054 ∷ 0x00010000 ∷
      0x00010000 ∷ 0x00000020 ∷ 0x00000020 ∷ 0x00000005 ∷ 0x00000004 ∷ 0x00228333 ∷ 0xff032283 ∷ 0x00228333 ∷
      0xfe032283 ∷ 0x00228333 ∷ 0xff032383 ∷ 0x05d00893 ∷ 0x00000073 ∷
      [];
  cycles = 200;
  trace = lines (
      "1 fet:00010000 fet:00010004" ∷
      "2 ren:0:00010000 ren:1:00010004 fet:00010008 fet:0001000c" ∷
      "3 alu:0 ren:2:00010008 ren:3:0001000c fet:00010010 fet:00010014" ∷
      "4 done:0 ret:0 ld:1:0001ffe0:m pf:0001fff0:m ren:4:00010010 ren:5:00010014 fet:00010018 fet:0001001c" ∷
      "5 ren:6:00010018 fet:00010020" ∷
      "6 alu:6" ∷
      "7 done:6" ∷
      "8" ∷
      "9" ∷
      "10" ∷
      "11" ∷
      "12" ∷
      "13" ∷
      "14 fill:0001ffe0 fill:0001fff0 done:1 ret:1 alu:2" ∷
      "15 done:2 ret:2 ld:3:0001ffd0:m pf:0001ffe0:2" ∷
      "16" ∷
      "17" ∷
      "18" ∷
      "19" ∷
      "20 fill:0001ffe0" ∷
      "21" ∷
      "22" ∷
      "23" ∷
      "24" ∷
      "25 fill:0001ffd0 done:3 ret:3 alu:4" ∷
      "26 done:4 ret:4 ld:5:0001ffe0:2 pf:0001fff0:2" ∷
      "27" ∷
      "28" ∷
      "29" ∷
      "30" ∷
      "31 fill:0001ffe0 fill:0001fff0 done:5 ret:5 ret:6 ren:7:0001001c" ∷
      "32 ret:7 call:7:0" ∷
      "end exit 0 retired 8 cycles 32" ∷
      []);
}
