-- Made by tools/evaluate/write: change what it reads, in tools/evaluate/runs, and run it again.
use Rattle.std.specs.Prelude.{[], ◌∷◌}
use Rattle.generated_runs.specs.Agreement.{Run, lines}

-- the run's code:
-- 00010000 lw x5,0(x2)
-- 00010004 lw x6,-16(x2)
-- 00010008 add x7,x6,x2
-- 0001000c div x9,x7,x2
-- 00010010 sw x5,0(x7)
-- 00010014 lw x8,0(x7)
-- 00010018 lw x10,-32(x7)
-- 0001001c add x12,x10,x7
-- 00010020 lw x11,-16(x12)
-- 00010024 addi x17,x0,93
-- 00010028 ecall
abbrev pub forwarded_moves_no_line : Run
forwarded_moves_no_line = record {
  description = lines (
      "[core]" ∷
      "fetch_width = 2" ∷
      "retire_width = 2" ∷
      "rob = 16" ∷
      "stations = 8" ∷
      "loads = 4" ∷
      "stores = 4" ∷
      "queue = 8" ∷
      "[units]" ∷
      "alus = 2" ∷
      "mul_latency = 3" ∷
      "[predictor]" ∷
      "counters = 16" ∷
      "btb = 4" ∷
      "[cache]" ∷
      "sets = 1" ∷
      "ways = 2" ∷
      "line = 16" ∷
      "hit_latency = 2" ∷
      "miss_latency = 10" ∷
      "mshrs = 2" ∷
      "[ram]" ∷
      "base = 65536" ∷
      "size = 65536" ∷
      "[stt]" ∷
      "model = \"spectre\"" ∷
      []);
  image =
      0x464c457f ∷ 0x00010101 ∷ 0x00000000 ∷ 0x00000000 ∷ 0x00f30002 ∷ 0x00000001 ∷ 0x00010000 ∷ 0x00000034 ∷
      0x00000000 ∷ 0x00000000 ∷ 0x00200034 ∷ 0x00000001 ∷ 0x00000000 ∷ 0x00000001 ∷ 0x00000054 ∷ 0x00010000 ∷
      0x00010000 ∷ 0x0000002c ∷ 0x0000002c ∷ 0x00000005 ∷ 0x00000004 ∷ 0x00012283 ∷ 0xff012303 ∷ 0x002303b3 ∷
      0x0223c4b3 ∷ 0x0053a023 ∷ 0x0003a403 ∷ 0xfe03a503 ∷ 0x00750633 ∷ 0xff062583 ∷ 0x05d00893 ∷ 0x00000073 ∷
      [];
  cycles = 90;
  trace = lines (
      "1 fet:00010000 fet:00010004" ∷
      "2 ren:0:00010000 ren:1:00010004 fet:00010008 fet:0001000c" ∷
      "3 ld:0:0001fff0:m ren:2:00010008 ren:3:0001000c fet:00010010 fet:00010014" ∷
      "4 ld:1:0001ffe0:m ren:4:00010010 ren:5:00010014 fet:00010018 fet:0001001c" ∷
      "5 ren:6:00010018 ren:7:0001001c fet:00010020 fet:00010024" ∷
      "6 fet:00010028 fet:0001002c" ∷
      "7" ∷
      "8" ∷
      "9" ∷
      "10" ∷
      "11" ∷
      "12" ∷
      "13 fill:0001fff0 done:0 ret:0 ren:8:00010020 ren:9:00010024" ∷
      "14 fill:0001ffe0 done:1 ret:1 alu:2 alu:9" ∷
      "15 done:2 done:9 ret:2 div:3:20 agu:4" ∷
      "16 done:4 ld:5:f" ∷
      "17 done:5 ld:6:0001ffd0:m" ∷
      "18" ∷
      "19" ∷
      "20" ∷
      "21" ∷
      "22" ∷
      "23" ∷
      "24" ∷
      "25" ∷
      "26" ∷
      "27 fill:0001ffd0 done:6 alu:7" ∷
      "28 done:7 ld:8:0001ffe0:h" ∷
      "29" ∷
      "30 done:8" ∷
      "31" ∷
      "32" ∷
      "33" ∷
      "34" ∷
      "35 done:3 ret:3 ret:4 st:4:0001fff0:m" ∷
      "36 ret:5 ret:6" ∷
      "37 ret:7 ret:8" ∷
      "38 ret:9 ren:10:00010028" ∷
      "39 ret:10 call:10:0" ∷
      "end exit 0 retired 11 cycles 39" ∷
      []);
}
