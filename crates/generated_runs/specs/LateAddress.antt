-- Made by tools/evaluate/write: change what it reads, in tools/evaluate/runs, and run it again.
use Rattle.std.specs.Prelude.{[], ◌∷◌}
use Rattle.generated_runs.specs.Agreement.{Run, lines}

-- the run's code:
-- 00010000 mul x6,x0,x0
-- 00010004 add x6,x6,x2
-- 00010008 sw x2,0(x6)
-- 0001000c lw x10,0(x2)
-- 00010010 addi x17,x0,93
-- 00010014 ecall
abbrev pub late_address : Run
late_address = record {
  description = lines (
      "version = 2" ∷
      "[core]" ∷
      "fetch_width = 2" ∷
      "retire_width = 2" ∷
      "rob = 16" ∷
      "stations = 8" ∷
      "loads = 4" ∷
      "stores = 4" ∷
      "queue = 8" ∷
      "[units]" ∷
      "alus = 2" ∷
      "mul_latency = 3" ∷
      "[predictor]" ∷
      "counters = 16" ∷
      "btb = 4" ∷
      "[cache]" ∷
      "sets = 2" ∷
      "ways = 2" ∷
      "line = 16" ∷
      "hit_latency = 2" ∷
      "miss_latency = 10" ∷
      "mshrs = 2" ∷
      "[ram]" ∷
      "base = 65536" ∷
      "size = 65536" ∷
      "[stt]" ∷
      "model = \"spectre\"" ∷
      []);
  image =
      0x464c457f ∷ 0x00010101 ∷ 0x00000000 ∷ 0x00000000 ∷ 0x00f30002 ∷ 0x00000001 ∷ 0x00010000 ∷ 0x00000034 ∷
      0x00000000 ∷ 0x00000000 ∷ 0x00200034 ∷ 0x00000001 ∷ 0x00000000 ∷ 0x00000001 ∷ 0x00000054 ∷ 0x00010000 ∷
      0x00010000 ∷ 0x00000018 ∷ 0x00000018 ∷ 0x00000005 ∷ 0x00000004 ∷ 0x02000333 ∷ 0x00230333 ∷ 0x00232023 ∷
      0x00012503 ∷ 0x05d00893 ∷ 0x00000073 ∷
      [];
  cycles = 100;
  trace = lines (
      "1 fet:00010000 fet:00010004" ∷
      "2 ren:0:00010000 ren:1:00010004 fet:00010008 fet:0001000c" ∷
      "3 mul:0 ren:2:00010008 ren:3:0001000c fet:00010010 fet:00010014" ∷
      "4 std:2 ren:4:00010010 fet:00010018" ∷
      "5 alu:4" ∷
      "6 done:0 done:4 ret:0 alu:1" ∷
      "7 done:1 ret:1 agu:2" ∷
      "8 done:2 ret:2 st:2:0001fff0:m ld:3:0001fff0:m" ∷
      "9" ∷
      "10" ∷
      "11" ∷
      "12" ∷
      "13" ∷
      "14" ∷
      "15" ∷
      "16" ∷
      "17" ∷
      "18 fill:0001fff0 done:3 ret:3 ret:4 ren:5:00010014" ∷
      "19 ret:5 call:5:0" ∷
      "end exit 131056 retired 6 cycles 19" ∷
      []);
}
