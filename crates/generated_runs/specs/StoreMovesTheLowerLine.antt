-- Made by tools/evaluate/write: change what it reads, in tools/evaluate/runs, and run it again.
use Rattle.std.specs.Prelude.{[], ◌∷◌}
use Rattle.generated_runs.specs.Agreement.{Run, lines}

-- the run's code:
-- 00010000 lw x5,-16(x2)
-- 00010004 add x6,x5,x2
-- 00010008 lw x5,0(x6)
-- 0001000c add x6,x5,x2
-- 00010010 lw x5,-32(x6)
-- 00010014 add x6,x5,x2
-- 00010018 sw x0,-2(x6)
-- 0001001c lw x5,-48(x6)
-- 00010020 add x6,x5,x2
-- 00010024 lw x5,-16(x6)
-- 00010028 addi x17,x0,93
-- 0001002c ecall
abbrev pub store_moves_the_lower_line : Run
store_moves_the_lower_line = record {
  description = lines (
      "version = 2" ∷
      "[core]" ∷
      "fetch_width = 2" ∷
      "retire_width = 2" ∷
      "rob = 16" ∷
      "stations = 8" ∷
      "loads = 4" ∷
      "stores = 4" ∷
      "queue = 8" ∷
      "[units]" ∷
      "alus = 2" ∷
      "mul_latency = 3" ∷
      "[predictor]" ∷
      "counters = 16" ∷
      "btb = 4" ∷
      "[cache]" ∷
      "sets = 1" ∷
      "ways = 3" ∷
      "line = 16" ∷
      "hit_latency = 2" ∷
      "miss_latency = 10" ∷
      "mshrs = 2" ∷
      "[ram]" ∷
      "base = 65536" ∷
      "size = 65536" ∷
      "misaligned = 1" ∷
      "[stt]" ∷
      "model = \"spectre\"" ∷
      []);
  image =
      0x464c457f ∷ 0x00010101 ∷ 0x00000000 ∷ 0x00000000 ∷ 0x00f30002 ∷ 0x00000001 ∷ 0x00010000 ∷ 0x00000034 ∷
      0x00000000 ∷ 0x00000000 ∷ 0x00200034 ∷ 0x00000001 ∷ 0x00000000 ∷ 0x00000001 ∷ 0x00000054 ∷ 0x00010000 ∷
      0x00010000 ∷ 0x00000030 ∷ 0x00000030 ∷ 0x00000005 ∷ 0x00000004 ∷ 0xff012283 ∷ 0x00228333 ∷ 0x00032283 ∷
      0x00228333 ∷ 0xfe032283 ∷ 0x00228333 ∷ 0xfe032f23 ∷ 0xfd032283 ∷ 0x00228333 ∷ 0xff032283 ∷ 0x05d00893 ∷
      0x00000073 ∷
      [];
  cycles = 200;
  trace = lines (
      "1 fet:00010000 fet:00010004" ∷
      "2 ren:0:00010000 ren:1:00010004 fet:00010008 fet:0001000c" ∷
      "3 ld:0:0001ffe0:m ren:2:00010008 ren:3:0001000c fet:00010010 fet:00010014" ∷
      "4 ren:4:00010010 ren:5:00010014 fet:00010018 fet:0001001c" ∷
      "5 ren:6:00010018 ren:7:0001001c fet:00010020 fet:00010024" ∷
      "6 std:6 ren:8:00010020 fet:00010028 fet:0001002c" ∷
      "7 fet:00010030" ∷
      "8" ∷
      "9" ∷
      "10" ∷
      "11" ∷
      "12" ∷
      "13 fill:0001ffe0 done:0 ret:0 alu:1 ren:9:00010024" ∷
      "14 done:1 ret:1 ld:2:0001fff0:m ren:10:00010028" ∷
      "15 alu:10" ∷
      "16 done:10" ∷
      "17" ∷
      "18" ∷
      "19" ∷
      "20" ∷
      "21" ∷
      "22" ∷
      "23" ∷
      "24 fill:0001fff0 done:2 ret:2 alu:3" ∷
      "25 done:3 ret:3 ld:4:0001ffd0:m" ∷
      "26" ∷
      "27" ∷
      "28" ∷
      "29" ∷
      "30" ∷
      "31" ∷
      "32" ∷
      "33" ∷
      "34" ∷
      "35 fill:0001ffd0 done:4 ret:4 alu:5" ∷
      "36 done:5 ret:5 agu:6" ∷
      "37 done:6 ret:6 st:6:0001ffe0:h st:6:0001fff0:h ld:7:0001ffc0:m" ∷
      "38" ∷
      "39" ∷
      "40" ∷
      "41" ∷
      "42" ∷
      "43" ∷
      "44" ∷
      "45" ∷
      "46" ∷
      "47 fill:0001ffc0 done:7 ret:7 alu:8" ∷
      "48 done:8 ret:8 ld:9:0001ffe0:h" ∷
      "49" ∷
      "50 done:9 ret:9 ret:10 ren:11:0001002c" ∷
      "51 ret:11 call:11:0" ∷
      "end exit 0 retired 12 cycles 51" ∷
      []);
}
