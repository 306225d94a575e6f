-- Made by tools/evaluate/write: change what it reads, in tools/evaluate/runs, and run it again.
use Rattle.std.specs.Prelude.{[], ◌∷◌}
use Rattle.generated_runs.specs.Agreement.{Run, lines}

-- the run's code:
-- 00010000 lw x5,0(x2)
-- 00010004 add x7,x5,x2
-- 00010008 addi x8,x0,1
-- 0001000c addi x8,x0,1
-- 00010010 lw x6,-64(x2)
-- 00010014 lw x8,-60(x7)
-- 00010018 addi x17,x0,93
-- 0001001c ecall
abbrev pub no_prefetch_for_a_join : Run
no_prefetch_for_a_join = record {
  description = lines (
      "version = 2" ∷
      "[core]" ∷
      "fetch_width = 2" ∷
      "retire_width = 2" ∷
      "rob = 16" ∷
      "stations = 8" ∷
      "loads = 4" ∷
      "stores = 4" ∷
      "queue = 8" ∷
      "[units]" ∷
      "alus = 2" ∷
      "mul_latency = 3" ∷
      "[predictor]" ∷
      "counters = 16" ∷
      "btb = 4" ∷
      "[cache]" ∷
      "sets = 2" ∷
      "ways = 2" ∷
      "line = 16" ∷
      "hit_latency = 2" ∷
      "miss_latency = 10" ∷
      "mshrs = 2" ∷
      "prefetch = 1" ∷
      "[ram]" ∷
      "base = 65536" ∷
      "size = 65536" ∷
      "[stt]" ∷
      "model = \"spectre\"" ∷
      []);
  image =
      0x464c457f ∷ 0x00010101 ∷ 0x00000000 ∷ 0x00000000 ∷ 0x00f30002 ∷ 0x00000001 ∷ 0x00010000 ∷ 0x00000034 ∷
      0x00000000 ∷ 0x00000000 ∷ 0x00200034 ∷ 0x00000001 ∷ 0x00000000 ∷ 0x00000001 ∷ 0x00000054 ∷ 0x00010000 ∷
      0x00010000 ∷ 0x00000020 ∷ 0x00000020 ∷ 0x00000005 ∷ 0x00000004 ∷ 0x00012283 ∷ 0x002283b3 ∷ 0x00100413 ∷
      0x00100413 ∷ 0xfc012303 ∷ 0xfc43a403 ∷ 0x05d00893 ∷ 0x00000073 ∷
      [];
  cycles = 200;
  trace = lines (
      "1 fet:00010000 fet:00010004" ∷
      "2 ren:0:00010000 ren:1:00010004 fet:00010008 fet:0001000c" ∷
      "3 ld:0:0001fff0:m ren:2:00010008 ren:3:0001000c fet:00010010 fet:00010014" ∷
      "4 alu:2 alu:3 ren:4:00010010 ren:5:00010014 fet:00010018 fet:0001001c" ∷
      "5 done:2 done:3 ld:4:0001ffb0:m ren:6:00010018 fet:00010020" ∷
      "6 alu:6" ∷
      "7 done:6" ∷
      "8" ∷
      "9" ∷
      "10" ∷
      "11" ∷
      "12" ∷
      "13 fill:0001fff0 done:0 ret:0 alu:1" ∷
      "14 done:1 ret:1 ret:2 ld:5:0001ffb0:j" ∷
      "15 fill:0001ffb0 done:4 done:5 ret:3 ret:4" ∷
      "16 ret:5 ret:6 ren:7:0001001c" ∷
      "17 ret:7 call:7:0" ∷
      "end exit 0 retired 8 cycles 17" ∷
      []);
}
