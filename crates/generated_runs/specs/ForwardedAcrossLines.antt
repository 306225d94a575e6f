-- Made by tools/evaluate/write: change what it reads, in tools/evaluate/runs, and run it again.
use Rattle.std.specs.Prelude.{[], ◌∷◌}
use Rattle.generated_runs.specs.Agreement.{Run, lines}

-- the run's code:
-- 00010000 div x9,x2,x2
-- 00010004 sw x2,-2(x2)
-- 00010008 lh x5,-1(x2)
-- 0001000c slli x6,x5,4
-- 00010010 sub x6,x2,x6
-- 00010014 lw x7,0(x6)
-- 00010018 addi x17,x0,93
-- 0001001c ecall
abbrev pub forwarded_across_lines : Run
forwarded_across_lines = record {
  description = lines (
      "version = 2" ∷
      "[core]" ∷
      "fetch_width = 2" ∷
      "retire_width = 2" ∷
      "rob = 16" ∷
      "stations = 8" ∷
      "loads = 4" ∷
      "stores = 4" ∷
      "queue = 8" ∷
      "[units]" ∷
      "alus = 2" ∷
      "mul_latency = 3" ∷
      "[predictor]" ∷
      "counters = 16" ∷
      "btb = 4" ∷
      "[cache]" ∷
      "sets = 2" ∷
      "ways = 2" ∷
      "line = 16" ∷
      "hit_latency = 2" ∷
      "miss_latency = 10" ∷
      "mshrs = 2" ∷
      "[ram]" ∷
      "base = 65536" ∷
      "size = 65536" ∷
      "misaligned = 1" ∷
      "[stt]" ∷
      "model = \"spectre\"" ∷
      []);
  image =
      0x464c457f ∷ 0x00010101 ∷ 0x00000000 ∷ 0x00000000 ∷ 0x00f30002 ∷ 0x00000001 ∷ 0x00010000 ∷ 0x00000034 ∷
      0x00000000 ∷ 0x00000000 ∷ 0x00200034 ∷ 0x00000001 ∷ 0x00000000 ∷ 0x00000001 ∷ 0x00000054 ∷ 0x00010000 ∷
      0x00010000 ∷ 0x00000020 ∷ 0x00000020 ∷ 0x00000005 ∷ 0x00000004 ∷ 0x022144b3 ∷ 0xfe212f23 ∷ 0xfff11283 ∷
      0x00429313 ∷ 0x40610333 ∷ 0x00032383 ∷ 0x05d00893 ∷ 0x00000073 ∷
      [];
  cycles = 200;
  trace = lines (
      "1 fet:00010000 fet:00010004" ∷
      "2 ren:0:00010000 ren:1:00010004 fet:00010008 fet:0001000c" ∷
      "3 div:0:20 agu:1 std:1 ren:2:00010008 ren:3:0001000c fet:00010010 fet:00010014" ∷
      "4 done:1 ld:2:f ren:4:00010010 ren:5:00010014 fet:00010018 fet:0001001c" ∷
      "5 done:2 alu:3 ren:6:00010018 fet:00010020" ∷
      "6 done:3 alu:4 alu:6" ∷
      "7 done:4 done:6 ld:5:0001e000:m" ∷
      "8" ∷
      "9" ∷
      "10" ∷
      "11" ∷
      "12" ∷
      "13" ∷
      "14" ∷
      "15" ∷
      "16" ∷
      "17 fill:0001e000 done:5" ∷
      "18" ∷
      "19" ∷
      "20" ∷
      "21" ∷
      "22" ∷
      "23 done:0 ret:0 ret:1 st:1:0001ffe0:m st:1:0001fff0:m" ∷
      "24 ret:2 ret:3" ∷
      "25 ret:4 ret:5" ∷
      "26 ret:6 ren:7:0001001c" ∷
      "27 ret:7 call:7:0" ∷
      "end exit 0 retired 8 cycles 27" ∷
      []);
}
