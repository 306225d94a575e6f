-- Made by tools/evaluate/write: change what it reads, in tools/evaluate/runs, and run it again.
use Rattle.std.specs.Prelude.{[], ◌∷◌}
use Rattle.generated_runs.specs.Agreement.{Run, lines}

-- the run's code:
-- 00010000 addi x8,x2,-7
-- 00010004 addi x9,x0,1
-- 00010008 auipc x5,0x0
-- 0001000c jalr x1,16(x5)
-- 00010010 add x6,x8,x7
-- 00010014 lh x7,-2(x8)
-- 00010018 add x7,x8,x7
-- 0001001c sw x1,-21(x8)
-- 00010020 lh x7,-26(x2)
-- 00010024 sh x9,2(x2)
-- 00010028 lb x7,5(x2)
-- 0001002c auipc x5,0x0
-- 00010030 jalr x0,12(x5)
-- 00010034 lbu x5,12(x2)
-- 00010038 lhu x7,-57(x2)
-- 0001003c lw x5,-19(x8)
-- 00010040 bltu x0,x1,+8
-- 00010044 mul x5,x0,x8
-- 00010048 addi x17,x0,93
-- 0001004c ecall
abbrev pub mixed_together_2 : Run
mixed_together_2 = record {
  description = lines (
      "version = 2" ∷
      "[core]" ∷
      "fetch_width = 4" ∷
      "retire_width = 3" ∷
      "rob = 16" ∷
      "stations = 8" ∷
      "loads = 2" ∷
      "stores = 4" ∷
      "queue = 1" ∷
      "[units]" ∷
      "alus = 2" ∷
      "mul_latency = 1" ∷
      "[predictor]" ∷
      "counters = 8" ∷
      "btb = 4" ∷
      "history = 1" ∷
      "returns = 3" ∷
      "[cache]" ∷
      "sets = 1" ∷
      "ways = 3" ∷
      "line = 8" ∷
      "hit_latency = 3" ∷
      "miss_latency = 12" ∷
      "mshrs = 2" ∷
      "second_sets = 2" ∷
      "second_ways = 3" ∷
      "second_latency = 7" ∷
      "prefetch = 1" ∷
      "[ram]" ∷
      "base = 65536" ∷
      "size = 65536" ∷
      "misaligned = 1" ∷
      "[stt]" ∷
      "model = \"futuristic\"" ∷
      []);
  image =
      0x464c457f ∷ 0x00010101 ∷ 0x00000000 ∷ 0x00000000 ∷ 0x00f30002 ∷ 0x00000001 ∷ 0x00010000 ∷ 0x00000034 ∷
      0x00000000 ∷ 0x00000000 ∷ 0x00200034 ∷ 0x00000001 ∷ 0x00000000 ∷ 0x00000001 ∷ 0x00000054 ∷ 0x00010000 ∷
      0x00010000 ∷ 0x00000050 ∷ 0x00000050 ∷ 0x00000005 ∷ 0x00000004 ∷ 0xff910413 ∷ 0x00100493 ∷ 0x00000297 ∷
      0x010280e7 ∷ 0x00740333 ∷ 0xffe41383 ∷ 0x007403b3 ∷ 0xfe1425a3 ∷ 0xfe611383 ∷ 0x00911123 ∷ 0x00510383 ∷
      0x00000297 ∷ 0x00c28067 ∷ 0x00c14283 ∷ 0xfc715383 ∷ 0xfed42283 ∷ 0x00106463 ∷ 0x028002b3 ∷ 0x05d00893 ∷
      0x00000073 ∷
      [];
  cycles = 160;
  trace = lines (
      "1 fet:00010000" ∷
      "2 ren:0:00010000 fet:00010004" ∷
      "3 alu:0 ren:1:00010004 fet:00010008" ∷
      "4 done:0 ret:0 alu:1 ren:2:00010008 fet:0001000c" ∷
      "5 done:1 ret:1 alu:2 ren:3:0001000c fet:00010010" ∷
      "6 done:2 ret:2 alu:3 ren:4:00010010 fet:00010014" ∷
      "7 done:3 res:3:J bt:3:00010018 sq:2 ret:3 fet:00010018" ∷
      "8 ren:5:00010018 fet:0001001c" ∷
      "9 alu:5 ren:6:0001001c fet:00010020" ∷
      "10 done:5 ret:5 agu:6 std:6 ren:7:00010020 fet:00010024" ∷
      "11 done:6 ret:6 st:6:0001ffd0:m ld:7:0001ffd0:m pf:0001ffd8:m ren:8:00010024 fet:00010028" ∷
      "12 agu:8 std:8 ren:9:00010028 fet:0001002c" ∷
      "13 done:8 ren:10:0001002c fet:00010030" ∷
      "14 alu:10 ren:11:00010030 fet:00010034" ∷
      "15 done:10 alu:11" ∷
      "16 done:11 res:11:J bt:0:00010038 sq:1 fet:00010038" ∷
      "17" ∷
      "18" ∷
      "19" ∷
      "20" ∷
      "21" ∷
      "22" ∷
      "23 fill:0001ffd0 fill:0001ffd8 done:7 ret:7 ret:8 st:8:0001fff0:m ld:9:0001fff0:m pf:0001fff8:m ren:12:00010038 fet:0001003c" ∷
      "24" ∷
      "25" ∷
      "26" ∷
      "27" ∷
      "28" ∷
      "29" ∷
      "30" ∷
      "31" ∷
      "32" ∷
      "33" ∷
      "34" ∷
      "35 fill:0001fff0 fill:0001fff8 done:9 ret:9 ret:10 ret:11 ld:12:0001ffb0:m ld:12:0001ffb8:m ren:13:0001003c fet:00010040" ∷
      "36 ren:14:00010040 fet:00010044" ∷
      "37 alu:14 ren:15:00010044 fet:00010048" ∷
      "38 done:14 res:14:T bp:0:2 sq:2 fet:00010048" ∷
      "39 ren:16:00010048 fet:0001004c" ∷
      "40 alu:16" ∷
      "41 done:16" ∷
      "42" ∷
      "43" ∷
      "44" ∷
      "45" ∷
      "46" ∷
      "47 fill:0001ffb0 fill:0001ffb8 done:12 ret:12 ld:13:0001ffd0:2 ld:13:0001ffd8:2" ∷
      "48" ∷
      "49" ∷
      "50" ∷
      "51" ∷
      "52" ∷
      "53" ∷
      "54 fill:0001ffd0 fill:0001ffd8 done:13 ret:13 ret:14 ret:16 ren:17:0001004c fet:00010050" ∷
      "55 ret:17 call:17:0" ∷
      "end exit 0 retired 16 cycles 55" ∷
      []);
}
