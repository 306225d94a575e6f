-- Made by tools/evaluate/write: change what it reads, in tools/evaluate/runs, and run it again.
use Rattle.std.specs.Prelude.{[], ◌∷◌}
use Rattle.generated_runs.specs.Agreement.{Run, lines}

-- the run's code:
-- 00010000 lw x5,0(x2)
-- 00010004 add x6,x5,x2
-- 00010008 lw x5,-64(x6)
-- 0001000c add x6,x5,x2
-- 00010010 lw x5,-16(x6)
-- 00010014 add x6,x5,x2
-- 00010018 lw x5,-128(x6)
-- 0001001c add x6,x5,x2
-- 00010020 lw x8,0(x6)
-- 00010024 addi x17,x0,93
-- 00010028 ecall
abbrev pub prefetch_moves_second : Run
prefetch_moves_second = record {
  description = lines (
      "version = 2" ∷
      "[core]" ∷
      "fetch_width = 2" ∷
      "retire_width = 2" ∷
      "rob = 16" ∷
      "stations = 8" ∷
      "loads = 4" ∷
      "stores = 4" ∷
      "queue = 8" ∷
      "[units]" ∷
      "alus = 2" ∷
      "mul_latency = 3" ∷
      "[predictor]" ∷
      "counters = 16" ∷
      "btb = 4" ∷
      "depend = 0" ∷
      "history = 0" ∷
      "returns = 0" ∷
      "[cache]" ∷
      "sets = 1" ∷
      "ways = 1" ∷
      "line = 16" ∷
      "hit_latency = 2" ∷
      "miss_latency = 10" ∷
      "mshrs = 4" ∷
      "second_sets = 1" ∷
      "second_ways = 5" ∷
      "second_latency = 5" ∷
      "prefetch = 1" ∷
      "[ram]" ∷
      "base = 65536" ∷
      "size = 65536" ∷
      "misaligned = 0" ∷
      "[stt]" ∷
      "model = \"spectre\"" ∷
      "defence = \"stt\"" ∷
      []);
  image =
      0x464c457f ∷ 0x00010101 ∷ 0x00000000 ∷ 0x00000000 ∷ 0x00f30002 ∷ 0x00000001 ∷ 0x00010000 ∷ 0x00000034 ∷
      0x00000000 ∷ 0x00000000 ∷ 0x00200034 ∷ 0x00000001 ∷ 0x00000000 ∷ 0x00000001 ∷ 0x00000054 ∷ 0x00010000 ∷
      0x00010000 ∷ 0x0000002c ∷ 0x0000002c ∷ 0x00000005 ∷ 0x00000004 ∷ 0x00012283 ∷ 0x00228333 ∷ 0xfc032283 ∷
      0x00228333 ∷ 0xff032283 ∷ 0x00228333 ∷ 0xf8032283 ∷ 0x00228333 ∷ 0x00032403 ∷ 0x05d00893 ∷ 0x00000073 ∷
      [];
  cycles = 160;
  trace = lines (
      "1 fet:00010000 fet:00010004" ∷
      "2 ren:0:00010000 ren:1:00010004 fet:00010008 fet:0001000c" ∷
      "3 ld:0:0001fff0:m ren:2:00010008 ren:3:0001000c fet:00010010 fet:00010014" ∷
      "4 ren:4:00010010 ren:5:00010014 fet:00010018 fet:0001001c" ∷
      "5 ren:6:00010018 ren:7:0001001c fet:00010020 fet:00010024" ∷
      "6 fet:00010028 fet:0001002c" ∷
      "7" ∷
      "8" ∷
      "9" ∷
      "10" ∷
      "11" ∷
      "12" ∷
      "13 fill:0001fff0 done:0 ret:0 alu:1 ren:8:00010020 ren:9:00010024" ∷
      "14 done:1 ret:1 ld:2:0001ffb0:m pf:0001ffc0:m alu:9" ∷
      "15 done:9" ∷
      "16" ∷
      "17" ∷
      "18" ∷
      "19" ∷
      "20" ∷
      "21" ∷
      "22" ∷
      "23" ∷
      "24 fill:0001ffb0 fill:0001ffc0 done:2 ret:2 alu:3" ∷
      "25 done:3 ret:3 ld:4:0001ffe0:m pf:0001fff0:2" ∷
      "26" ∷
      "27" ∷
      "28" ∷
      "29" ∷
      "30 fill:0001fff0" ∷
      "31" ∷
      "32" ∷
      "33" ∷
      "34" ∷
      "35 fill:0001ffe0 done:4 ret:4 alu:5" ∷
      "36 done:5 ret:5 ld:6:0001ff70:m pf:0001ff80:m" ∷
      "37" ∷
      "38" ∷
      "39" ∷
      "40" ∷
      "41" ∷
      "42" ∷
      "43" ∷
      "44" ∷
      "45" ∷
      "46 fill:0001ff70 fill:0001ff80 done:6 ret:6 alu:7" ∷
      "47 done:7 ret:7 ld:8:0001fff0:2" ∷
      "48" ∷
      "49" ∷
      "50" ∷
      "51" ∷
      "52 fill:0001fff0 done:8 ret:8 ret:9 ren:10:00010028" ∷
      "53 ret:10 call:10:0" ∷
      "end exit 0 retired 11 cycles 53" ∷
      []);
}
