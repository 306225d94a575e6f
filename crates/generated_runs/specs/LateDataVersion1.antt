-- Made by tools/evaluate/write: change what it reads, in tools/evaluate/runs, and run it again.
use Rattle.std.specs.Prelude.{[], ◌∷◌}
use Rattle.generated_runs.specs.Agreement.{Run, lines}

-- the run's code:
-- 00010000 div x5,x2,x2
-- 00010004 sw x5,0(x2)
-- 00010008 lw x6,8(x2)
-- 0001000c lw x7,0(x2)
-- 00010010 addi x17,x0,93
-- 00010014 ecall
abbrev pub late_data_version_1 : Run
late_data_version_1 = record {
  description = lines (
      "[core]" ∷
      "fetch_width = 2" ∷
      "retire_width = 2" ∷
      "rob = 16" ∷
      "stations = 8" ∷
      "loads = 4" ∷
      "stores = 4" ∷
      "queue = 8" ∷
      "[units]" ∷
      "alus = 2" ∷
      "mul_latency = 3" ∷
      "[predictor]" ∷
      "counters = 16" ∷
      "btb = 4" ∷
      "[cache]" ∷
      "sets = 2" ∷
      "ways = 2" ∷
      "line = 16" ∷
      "hit_latency = 2" ∷
      "miss_latency = 10" ∷
      "mshrs = 2" ∷
      "[ram]" ∷
      "base = 65536" ∷
      "size = 65536" ∷
      "[stt]" ∷
      "model = \"spectre\"" ∷
      []);
  image =
      0x464c457f ∷ 0x00010101 ∷ 0x00000000 ∷ 0x00000000 ∷ 0x00f30002 ∷ 0x00000001 ∷ 0x00010000 ∷ 0x00000034 ∷
      0x00000000 ∷ 0x00000000 ∷ 0x00200034 ∷ 0x00000001 ∷ 0x00000000 ∷ 0x00000001 ∷ 0x00000054 ∷ 0x00010000 ∷
      0x00010000 ∷ 0x00000018 ∷ 0x00000018 ∷ 0x00000005 ∷ 0x00000004 ∷ 0x022142b3 ∷ 0x00512023 ∷ 0x00812303 ∷
      0x00012383 ∷ 0x05d00893 ∷ 0x00000073 ∷
      [];
  cycles = 100;
  trace = lines (
      "1 fet:00010000 fet:00010004" ∷
      "2 ren:0:00010000 ren:1:00010004 fet:00010008 fet:0001000c" ∷
      "3 div:0:20 ren:2:00010008 ren:3:0001000c fet:00010010 fet:00010014" ∷
      "4 ren:4:00010010 fet:00010018" ∷
      "5 alu:4" ∷
      "6 done:4" ∷
      "7" ∷
      "8" ∷
      "9" ∷
      "10" ∷
      "11" ∷
      "12" ∷
      "13" ∷
      "14" ∷
      "15" ∷
      "16" ∷
      "17" ∷
      "18" ∷
      "19" ∷
      "20" ∷
      "21" ∷
      "22" ∷
      "23 done:0 ret:0 agu:1" ∷
      "24 done:1 ret:1 st:1:0001fff0:m ld:2:0001fff0:m" ∷
      "25 ld:3:0001fff0:j" ∷
      "26" ∷
      "27" ∷
      "28" ∷
      "29" ∷
      "30" ∷
      "31" ∷
      "32" ∷
      "33" ∷
      "34 fill:0001fff0 done:2 done:3 ret:2 ret:3" ∷
      "35 ret:4 ren:5:00010014" ∷
      "36 ret:5 call:5:0" ∷
      "end exit 0 retired 6 cycles 36" ∷
      []);
}
