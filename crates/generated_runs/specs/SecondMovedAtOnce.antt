-- Made by tools/evaluate/write: change what it reads, in tools/evaluate/runs, and run it again.
use Rattle.std.specs.Prelude.{[], ◌∷◌}
use Rattle.generated_runs.specs.Agreement.{Run, lines}

-- the run's code:
-- 00010000 lw x5,0(x2)
-- 00010004 add x6,x5,x2
-- 00010008 lw x7,-16(x6)
-- 0001000c add x6,x7,x2
-- 00010010 lw x8,-32(x6)
-- 00010014 addi x7,x6,0
-- 00010018 addi x7,x7,0
-- 0001001c addi x7,x7,0
-- 00010020 lw x10,0(x7)
-- 00010024 add x6,x10,x2
-- 00010028 lw x9,-16(x6)
-- 0001002c addi x17,x0,93
-- 00010030 ecall
abbrev pub second_moved_at_once : Run
second_moved_at_once = record {
  description = lines (
      "version = 2" ∷
      "[core]" ∷
      "fetch_width = 2" ∷
      "retire_width = 2" ∷
      "rob = 16" ∷
      "stations = 8" ∷
      "loads = 4" ∷
      "stores = 4" ∷
      "queue = 8" ∷
      "[units]" ∷
      "alus = 2" ∷
      "mul_latency = 3" ∷
      "[predictor]" ∷
      "counters = 16" ∷
      "btb = 4" ∷
      "depend = 0" ∷
      "history = 0" ∷
      "returns = 0" ∷
      "[cache]" ∷
      "sets = 1" ∷
      "ways = 1" ∷
      "line = 16" ∷
      "hit_latency = 2" ∷
      "miss_latency = 10" ∷
      "mshrs = 2" ∷
      "second_sets = 1" ∷
      "second_ways = 2" ∷
      "second_latency = 9" ∷
      "prefetch = 0" ∷
      "[ram]" ∷
      "base = 65536" ∷
      "size = 65536" ∷
      "misaligned = 0" ∷
      "[stt]" ∷
      "model = \"spectre\"" ∷
      "defence = \"stt\"" ∷
      []);
  image =
      0x464c457f ∷ 0x00010101 ∷ 0x00000000 ∷ 0x00000000 ∷ 0x00f30002 ∷ 0x00000001 ∷ 0x00010000 ∷ 0x00000034 ∷
      0x00000000 ∷ 0x00000000 ∷ 0x00200034 ∷ 0x00000001 ∷ 0x00000000 ∷ 0x00000001 ∷ 0x00000054 ∷ 0x00010000 ∷
      0x00010000 ∷ 0x00000034 ∷ 0x00000034 ∷ 0x00000005 ∷ 0x00000004 ∷ 0x00012283 ∷ 0x00228333 ∷ 0xff032383 ∷
      0x00238333 ∷ 0xfe032403 ∷ 0x00030393 ∷ 0x00038393 ∷ 0x00038393 ∷ 0x0003a503 ∷ 0x00250333 ∷ 0xff032483 ∷
      0x05d00893 ∷ 0x00000073 ∷
      [];
  cycles = 120;
  trace = lines (
      "1 fet:00010000 fet:00010004" ∷
      "2 ren:0:00010000 ren:1:00010004 fet:00010008 fet:0001000c" ∷
      "3 ld:0:0001fff0:m ren:2:00010008 ren:3:0001000c fet:00010010 fet:00010014" ∷
      "4 ren:4:00010010 ren:5:00010014 fet:00010018 fet:0001001c" ∷
      "5 ren:6:00010018 ren:7:0001001c fet:00010020 fet:00010024" ∷
      "6 ren:8:00010020 fet:00010028 fet:0001002c" ∷
      "7 fet:00010030 fet:00010034" ∷
      "8" ∷
      "9" ∷
      "10" ∷
      "11" ∷
      "12" ∷
      "13 fill:0001fff0 done:0 ret:0 alu:1 ren:9:00010024" ∷
      "14 done:1 ret:1 ld:2:0001ffe0:m ren:10:00010028" ∷
      "15" ∷
      "16" ∷
      "17" ∷
      "18" ∷
      "19" ∷
      "20" ∷
      "21" ∷
      "22" ∷
      "23" ∷
      "24 fill:0001ffe0 done:2 ret:2 alu:3 ren:11:0001002c" ∷
      "25 done:3 ret:3 ld:4:0001ffd0:m alu:5 alu:11" ∷
      "26 done:5 done:11 alu:6" ∷
      "27 done:6 alu:7" ∷
      "28 done:7 ld:8:0001fff0:2" ∷
      "29" ∷
      "30" ∷
      "31" ∷
      "32" ∷
      "33" ∷
      "34" ∷
      "35 fill:0001ffd0 done:4 ret:4 ret:5" ∷
      "36 ret:6 ret:7" ∷
      "37 fill:0001fff0 done:8 ret:8 alu:9" ∷
      "38 done:9 ret:9 ld:10:0001ffe0:m" ∷
      "39" ∷
      "40" ∷
      "41" ∷
      "42" ∷
      "43" ∷
      "44" ∷
      "45" ∷
      "46" ∷
      "47" ∷
      "48 fill:0001ffe0 done:10 ret:10 ret:11 ren:12:00010030" ∷
      "49 ret:12 call:12:0" ∷
      "end exit 0 retired 13 cycles 49" ∷
      []);
}
