-- Made by tools/evaluate/write: change what it reads, in tools/evaluate/runs, and run it again.
use Rattle.std.specs.Prelude.{[], ◌∷◌}
use Rattle.generated_runs.specs.Agreement.{Run, lines}

-- the run's code:
-- 00010000 addi x8,x2,-7
-- 00010004 addi x9,x0,3
-- 00010008 lw x6,-30(x8)
-- 0001000c lw x5,-80(x2)
-- 00010010 blt x8,x1,+16
-- 00010014 lw x7,-68(x2)
-- 00010018 addi x6,x6,39
-- 0001001c add x7,x8,x5
-- 00010020 add x6,x8,x0
-- 00010024 lbu x6,-13(x2)
-- 00010028 lhu x6,-67(x2)
-- 0001002c addi x7,x6,0
-- 00010030 mul x7,x6,x0
-- 00010034 remu x7,x1,x1
-- 00010038 lw x6,-267(x8)
-- 0001003c addi x9,x9,-1
-- 00010040 bne x9,x0,-8
-- 00010044 xori x7,x0,32
-- 00010048 sb x5,-409(x8)
-- 0001004c lw x6,317(x2)
-- 00010050 lbu x5,479(x8)
-- 00010054 lhu x5,-56(x2)
-- 00010058 addi x17,x0,93
-- 0001005c ecall
abbrev pub mixed_memory_2 : Run
mixed_memory_2 = record {
  description = lines (
      "version = 2" ∷
      "[core]" ∷
      "fetch_width = 3" ∷
      "retire_width = 2" ∷
      "rob = 12" ∷
      "stations = 8" ∷
      "loads = 1" ∷
      "stores = 4" ∷
      "queue = 1" ∷
      "[units]" ∷
      "alus = 2" ∷
      "mul_latency = 2" ∷
      "[predictor]" ∷
      "counters = 4" ∷
      "btb = 4" ∷
      "[cache]" ∷
      "sets = 1" ∷
      "ways = 1" ∷
      "line = 8" ∷
      "hit_latency = 2" ∷
      "miss_latency = 9" ∷
      "mshrs = 2" ∷
      "second_sets = 4" ∷
      "second_ways = 4" ∷
      "second_latency = 6" ∷
      "prefetch = 1" ∷
      "[ram]" ∷
      "base = 65536" ∷
      "size = 65536" ∷
      "misaligned = 1" ∷
      "[stt]" ∷
      "model = \"futuristic\"" ∷
      []);
  image =
      0x464c457f ∷ 0x00010101 ∷ 0x00000000 ∷ 0x00000000 ∷ 0x00f30002 ∷ 0x00000001 ∷ 0x00010000 ∷ 0x00000034 ∷
      0x00000000 ∷ 0x00000000 ∷ 0x00200034 ∷ 0x00000001 ∷ 0x00000000 ∷ 0x00000001 ∷ 0x00000054 ∷ 0x00010000 ∷
      0x00010000 ∷ 0x00000060 ∷ 0x00000060 ∷ 0x00000005 ∷ 0x00000004 ∷ 0xff910413 ∷ 0x00300493 ∷ 0xfe242303 ∷
      0xfb012283 ∷ 0x00144863 ∷ 0xfbc12383 ∷ 0x02730313 ∷ 0x005403b3 ∷ 0x00040333 ∷ 0xff314303 ∷ 0xfbd15303 ∷
      0x00030393 ∷ 0x020303b3 ∷ 0x0210f3b3 ∷ 0xef542303 ∷ 0xfff48493 ∷ 0xfe049ce3 ∷ 0x02004393 ∷ 0xe65403a3 ∷
      0x13d12303 ∷ 0x1df44283 ∷ 0xfc815283 ∷ 0x05d00893 ∷ 0x00000073 ∷
      [];
  cycles = 160;
  trace = lines (
      "1 fet:00010000" ∷
      "2 ren:0:00010000 fet:00010004" ∷
      "3 alu:0 ren:1:00010004 fet:00010008" ∷
      "4 done:0 ret:0 alu:1 ren:2:00010008 fet:0001000c" ∷
      "5 done:1 ret:1 ld:2:0001ffc8:m pf:0001ffd0:m" ∷
      "6" ∷
      "7" ∷
      "8" ∷
      "9" ∷
      "10" ∷
      "11" ∷
      "12" ∷
      "13" ∷
      "14 fill:0001ffc8 fill:0001ffd0 done:2 ret:2 ren:3:0001000c fet:00010010" ∷
      "15 ld:3:0001ffa0:m pf:0001ffa8:m ren:4:00010010 fet:00010014" ∷
      "16 alu:4" ∷
      "17 done:4 res:4:N bp:0:0" ∷
      "18" ∷
      "19" ∷
      "20" ∷
      "21" ∷
      "22" ∷
      "23" ∷
      "24 fill:0001ffa0 fill:0001ffa8 done:3 ret:3 ret:4 ren:5:00010014 fet:00010018" ∷
      "25 ld:5:0001ffa8:h ren:6:00010018 fet:0001001c" ∷
      "26 alu:6 ren:7:0001001c fet:00010020" ∷
      "27 done:5 done:6 ret:5 ret:6 alu:7 ren:8:00010020 fet:00010024" ∷
      "28 done:7 ret:7 alu:8 ren:9:00010024 fet:00010028" ∷
      "29 done:8 ret:8 ld:9:0001ffe0:m pf:0001ffe8:m" ∷
      "30" ∷
      "31" ∷
      "32" ∷
      "33" ∷
      "34" ∷
      "35" ∷
      "36" ∷
      "37" ∷
      "38 fill:0001ffe0 fill:0001ffe8 done:9 ret:9 ren:10:00010028 fet:0001002c" ∷
      "39 ld:10:0001ffa8:2 pf:0001ffb0:m ren:11:0001002c fet:00010030" ∷
      "40 ren:12:00010030 fet:00010034" ∷
      "41 ren:13:00010034 fet:00010038" ∷
      "42 div:13:3" ∷
      "43" ∷
      "44" ∷
      "45 fill:0001ffa8 done:10 done:13 ret:10 alu:11 mul:12 ren:14:00010038 fet:0001003c" ∷
      "46 done:11 ret:11 ren:15:0001003c fet:00010040" ∷
      "47 done:12 ret:12 ret:13 alu:15 ren:16:00010040 fet:00010044" ∷
      "48 fill:0001ffb0 done:15 ld:14:0001fed8:m ld:14:0001fee0:m alu:16 ren:17:00010044 fet:00010048" ∷
      "49 done:16 res:16:T bp:0:1 sq:2 fet:00010038" ∷
      "50" ∷
      "51" ∷
      "52" ∷
      "53" ∷
      "54" ∷
      "55" ∷
      "56" ∷
      "57 fill:0001fed8 fill:0001fee0 done:14 ret:14 ret:15 ren:18:00010038 fet:0001003c" ∷
      "58 ret:16 ld:18:0001fed8:2 ld:18:0001fee0:h pf:0001fee8:m ren:19:0001003c fet:00010040" ∷
      "59 alu:19 ren:20:00010040 fet:00010044" ∷
      "60 done:19 alu:20 ren:21:00010044 fet:00010048" ∷
      "61 done:20 res:20:T bp:0:2 sq:2 fet:00010038" ∷
      "62" ∷
      "63" ∷
      "64 fill:0001fed8 done:18 ret:18 ret:19 ren:22:00010038 fet:0001003c" ∷
      "65 ret:20 ld:22:0001fed8:h ld:22:0001fee0:2 ren:23:0001003c fet:00010040" ∷
      "66 alu:23 ren:24:00010040 fet:00010038" ∷
      "67 fill:0001fee8 done:23 alu:24" ∷
      "68 done:24 res:24:N bp:0:1 sq:1 fet:00010044" ∷
      "69 ren:25:00010044 fet:00010048" ∷
      "70 alu:25 ren:26:00010048 fet:0001004c" ∷
      "71 fill:0001fee0 done:22 done:25 ret:22 ret:23 agu:26 std:26 ren:27:0001004c fet:00010050" ∷
      "72 done:26 ret:24 ret:25 ld:27:x" ∷
      "73 done:27 ret:26 st:26:0001fe50:m" ∷
      "end trap 5 0001004c retired 25 cycles 73" ∷
      []);
}
