-- Made by tools/evaluate/write: change what it reads, in tools/evaluate/runs, and run it again.
use Rattle.std.specs.Prelude.{[], ◌∷◌}
use Rattle.generated_runs.specs.Agreement.{Run, lines}

-- the run's code:
-- 00010000 lw x5,-32(x2)
-- 00010004 add x6,x5,x2
-- 00010008 lw x7,-48(x6)
-- 0001000c add x6,x7,x2
-- 00010010 lw x8,0(x6)
-- 00010014 addi x9,x6,0
-- 00010018 addi x9,x9,0
-- 0001001c addi x9,x9,0
-- 00010020 addi x9,x9,0
-- 00010024 addi x0,x0,0
-- 00010028 lw x10,-32(x9)
-- 0001002c addi x17,x0,93
-- 00010030 ecall
abbrev pub fills_as_taken : Run
fills_as_taken = record {
  description = lines (
      "version = 2" ∷
      "[core]" ∷
      "fetch_width = 4" ∷
      "retire_width = 2" ∷
      "rob = 16" ∷
      "stations = 8" ∷
      "loads = 4" ∷
      "stores = 4" ∷
      "queue = 8" ∷
      "[units]" ∷
      "alus = 2" ∷
      "mul_latency = 3" ∷
      "[predictor]" ∷
      "counters = 16" ∷
      "btb = 4" ∷
      "depend = 0" ∷
      "history = 0" ∷
      "returns = 0" ∷
      "[cache]" ∷
      "sets = 1" ∷
      "ways = 1" ∷
      "line = 16" ∷
      "hit_latency = 2" ∷
      "miss_latency = 10" ∷
      "mshrs = 2" ∷
      "second_sets = 1" ∷
      "second_ways = 4" ∷
      "second_latency = 6" ∷
      "prefetch = 0" ∷
      "[ram]" ∷
      "base = 65536" ∷
      "size = 65536" ∷
      "misaligned = 0" ∷
      "[stt]" ∷
      "model = \"spectre\"" ∷
      "defence = \"stt\"" ∷
      []);
  image =
      0x464c457f ∷ 0x00010101 ∷ 0x00000000 ∷ 0x00000000 ∷ 0x00f30002 ∷ 0x00000001 ∷ 0x00010000 ∷ 0x00000034 ∷
      0x00000000 ∷ 0x00000000 ∷ 0x00200034 ∷ 0x00000001 ∷ 0x00000000 ∷ 0x00000001 ∷ 0x00000054 ∷ 0x00010000 ∷
      0x00010000 ∷ 0x00000034 ∷ 0x00000034 ∷ 0x00000005 ∷ 0x00000004 ∷ 0xfe012283 ∷ 0x00228333 ∷ 0xfd032383 ∷
      0x00238333 ∷ 0x00032403 ∷ 0x00030493 ∷ 0x00048493 ∷ 0x00048493 ∷ 0x00048493 ∷ 0x00000013 ∷ 0xfe04a503 ∷
      0x05d00893 ∷ 0x00000073 ∷
      [];
  cycles = 90;
  trace = lines (
      "1 fet:00010000 fet:00010004 fet:00010008 fet:0001000c" ∷
      "2 ren:0:00010000 ren:1:00010004 ren:2:00010008 ren:3:0001000c fet:00010010 fet:00010014 fet:00010018 fet:0001001c" ∷
      "3 ld:0:0001ffd0:m ren:4:00010010 ren:5:00010014 ren:6:00010018 ren:7:0001001c fet:00010020 fet:00010024 fet:00010028 fet:0001002c" ∷
      "4 ren:8:00010020 fet:00010030 fet:00010034" ∷
      "5" ∷
      "6" ∷
      "7" ∷
      "8" ∷
      "9" ∷
      "10" ∷
      "11" ∷
      "12" ∷
      "13 fill:0001ffd0 done:0 ret:0 alu:1 ren:9:00010024" ∷
      "14 done:1 ret:1 ld:2:0001ffc0:m alu:9 ren:10:00010028 ren:11:0001002c" ∷
      "15 done:9 alu:11" ∷
      "16 done:11" ∷
      "17" ∷
      "18" ∷
      "19" ∷
      "20" ∷
      "21" ∷
      "22" ∷
      "23" ∷
      "24 fill:0001ffc0 done:2 ret:2 alu:3" ∷
      "25 done:3 ret:3 ld:4:0001fff0:m alu:5" ∷
      "26 done:5 alu:6" ∷
      "27 done:6 alu:7" ∷
      "28 done:7 alu:8" ∷
      "29 done:8 ld:10:0001ffd0:2" ∷
      "30" ∷
      "31" ∷
      "32" ∷
      "33" ∷
      "34" ∷
      "35 fill:0001fff0 fill:0001ffd0 done:4 done:10 ret:4 ret:5" ∷
      "36 ret:6 ret:7" ∷
      "37 ret:8 ret:9" ∷
      "38 ret:10 ret:11 ren:12:00010030" ∷
      "39 ret:12 call:12:0" ∷
      "end exit 0 retired 13 cycles 39" ∷
      []);
}
