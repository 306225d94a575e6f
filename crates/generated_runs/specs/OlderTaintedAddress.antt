-- Made by tools/evaluate/write: change what it reads, in tools/evaluate/runs, and run it again.
use Rattle.std.specs.Prelude.{[], ◌∷◌}
use Rattle.generated_runs.specs.Agreement.{Run, lines}

-- the run's code:
-- 00010000 sb x7,-16(x2)
-- 00010004 sw x2,4(x2)
-- 00010008 lh x7,8(x2)
-- 0001000c mul x9,x7,x2
-- 00010010 sw x2,0(x9)
-- 00010014 sw x2,0(x6)
-- 00010018 lw x6,-32(x2)
-- 0001001c addi x17,x0,93
-- 00010020 ecall
abbrev pub older_tainted_address : Run
older_tainted_address = record {
  description = lines (
      "version = 2" ∷
      "[core]" ∷
      "fetch_width = 4" ∷
      "retire_width = 2" ∷
      "rob = 16" ∷
      "stations = 8" ∷
      "loads = 4" ∷
      "stores = 4" ∷
      "queue = 8" ∷
      "[units]" ∷
      "alus = 2" ∷
      "mul_latency = 3" ∷
      "[predictor]" ∷
      "counters = 16" ∷
      "btb = 4" ∷
      "depend = 16" ∷
      "history = 0" ∷
      "returns = 0" ∷
      "[cache]" ∷
      "sets = 2" ∷
      "ways = 2" ∷
      "line = 16" ∷
      "hit_latency = 2" ∷
      "miss_latency = 10" ∷
      "mshrs = 2" ∷
      "second_sets = 0" ∷
      "second_ways = 1" ∷
      "second_latency = 2" ∷
      "prefetch = 0" ∷
      "[ram]" ∷
      "base = 65536" ∷
      "size = 65536" ∷
      "misaligned = 0" ∷
      "[stt]" ∷
      "model = \"spectre\"" ∷
      "defence = \"stt\"" ∷
      []);
  image =
      0x464c457f ∷ 0x00010101 ∷ 0x00000000 ∷ 0x00000000 ∷ 0x00f30002 ∷ 0x00000001 ∷ 0x00010000 ∷ 0x00000034 ∷
      0x00000000 ∷ 0x00000000 ∷ 0x00200034 ∷ 0x00000001 ∷ 0x00000000 ∷ 0x00000001 ∷ 0x00000054 ∷ 0x00010000 ∷
      0x00010000 ∷ 0x00000024 ∷ 0x00000024 ∷ 0x00000005 ∷ 0x00000004 ∷ 0xfe710823 ∷ 0x00212223 ∷ 0x00811383 ∷
      0x022384b3 ∷ 0x0024a023 ∷ 0x00232023 ∷ 0xfe012303 ∷ 0x05d00893 ∷ 0x00000073 ∷
      [];
  cycles = 200;
  trace = lines (
      "1 fet:00010000 fet:00010004 fet:00010008 fet:0001000c" ∷
      "2 ren:0:00010000 ren:1:00010004 ren:2:00010008 ren:3:0001000c fet:00010010 fet:00010014 fet:00010018 fet:0001001c" ∷
      "3 agu:0 std:0 ld:2:0001fff0:m ren:4:00010010 ren:5:00010014 ren:6:00010018 ren:7:0001001c fet:00010020 fet:00010024" ∷
      "4 done:0 clr:0 ret:0 st:0:0001ffe0:m agu:1 std:1 alu:7" ∷
      "5 done:1 done:7 clr:1 ret:1 st:1:0001fff0:m std:4 agu:5 ld:6:0001ffd0:m" ∷
      "6 clr:5 std:5" ∷
      "7 done:5" ∷
      "8" ∷
      "9" ∷
      "10" ∷
      "11" ∷
      "12" ∷
      "13 fill:0001fff0 done:2 ret:2 mul:3" ∷
      "14" ∷
      "15 fill:0001ffd0 done:6" ∷
      "16 done:3 ret:3 agu:4" ∷
      "17 done:4 clr:4" ∷
      "end trap 7 00010010 retired 4 cycles 17" ∷
      []);
}
