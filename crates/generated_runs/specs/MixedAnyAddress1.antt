-- Made by tools/evaluate/write: change what it reads, in tools/evaluate/runs, and run it again.
use Rattle.std.specs.Prelude.{[], ◌∷◌}
use Rattle.generated_runs.specs.Agreement.{Run, lines}

-- the run's code:
-- 00010000 addi x8,x2,-7
-- 00010004 addi x9,x0,3
-- 00010008 lh x6,-54(x2)
-- 0001000c mulh x6,x9,x5
-- 00010010 xori x6,x7,-7
-- 00010014 addi x7,x6,-5
-- 00010018 addi x6,x7,-7
-- 0001001c lw x7,-79(x2)
-- 00010020 lhu x7,-55(x2)
-- 00010024 addi x9,x9,-1
-- 00010028 bne x9,x0,-20
-- 0001002c remu x6,x0,x0
-- 00010030 bltu x8,x1,+8
-- 00010034 lhu x5,-15(x2)
-- 00010038 lw x6,-80(x2)
-- 0001003c lw x6,-32(x2)
-- 00010040 xori x5,x8,18
-- 00010044 bne x1,x0,+4
-- 00010048 lw x7,14(x2)
-- 0001004c div x6,x7,x1
-- 00010050 lhu x5,-69(x6)
-- 00010054 bgeu x6,x6,+12
-- 00010058 lw x7,-68(x8)
-- 0001005c mulh x5,x7,x8
-- 00010060 addi x17,x0,93
-- 00010064 ecall
abbrev pub mixed_any_address_1 : Run
mixed_any_address_1 = record {
  description = lines (
      "version = 2" ∷
      "[core]" ∷
      "fetch_width = 1" ∷
      "retire_width = 1" ∷
      "rob = 12" ∷
      "stations = 2" ∷
      "loads = 4" ∷
      "stores = 1" ∷
      "queue = 8" ∷
      "[units]" ∷
      "alus = 3" ∷
      "mul_latency = 4" ∷
      "[predictor]" ∷
      "counters = 16" ∷
      "btb = 4" ∷
      "[cache]" ∷
      "sets = 2" ∷
      "ways = 1" ∷
      "line = 4" ∷
      "hit_latency = 3" ∷
      "miss_latency = 13" ∷
      "mshrs = 3" ∷
      "[ram]" ∷
      "base = 65536" ∷
      "size = 65536" ∷
      "misaligned = 1" ∷
      "[stt]" ∷
      "model = \"futuristic\"" ∷
      []);
  image =
      0x464c457f ∷ 0x00010101 ∷ 0x00000000 ∷ 0x00000000 ∷ 0x00f30002 ∷ 0x00000001 ∷ 0x00010000 ∷ 0x00000034 ∷
      0x00000000 ∷ 0x00000000 ∷ 0x00200034 ∷ 0x00000001 ∷ 0x00000000 ∷ 0x00000001 ∷ 0x00000054 ∷ 0x00010000 ∷
      0x00010000 ∷ 0x00000068 ∷ 0x00000068 ∷ 0x00000005 ∷ 0x00000004 ∷ 0xff910413 ∷ 0x00300493 ∷ 0xfca11303 ∷
      0x02549333 ∷ 0xff93c313 ∷ 0xffb30393 ∷ 0xff938313 ∷ 0xfb112383 ∷ 0xfc915383 ∷ 0xfff48493 ∷ 0xfe0496e3 ∷
      0x02007333 ∷ 0x00146463 ∷ 0xff115283 ∷ 0xfb012303 ∷ 0xfe012303 ∷ 0x01244293 ∷ 0x00009263 ∷ 0x00e12383 ∷
      0x0213c333 ∷ 0xfbb35283 ∷ 0x00637663 ∷ 0xfbc42383 ∷ 0x028392b3 ∷ 0x05d00893 ∷ 0x00000073 ∷
      [];
  cycles = 160;
  trace = lines (
      "1 fet:00010000" ∷
      "2 ren:0:00010000 fet:00010004" ∷
      "3 alu:0 ren:1:00010004 fet:00010008" ∷
      "4 done:0 ret:0 alu:1 ren:2:00010008 fet:0001000c" ∷
      "5 done:1 ret:1 ld:2:0001ffb8:m ren:3:0001000c fet:00010010" ∷
      "6 mul:3 ren:4:00010010 fet:00010014" ∷
      "7 alu:4 ren:5:00010014 fet:00010018" ∷
      "8 done:4 alu:5 ren:6:00010018 fet:0001001c" ∷
      "9 done:5 alu:6 ren:7:0001001c fet:00010020" ∷
      "10 done:3 done:6 ld:7:0001ffa0:m ld:7:0001ffa4:m ren:8:00010020 fet:00010024" ∷
      "11 ld:8:0001ffb8:j ren:9:00010024 fet:00010028" ∷
      "12 alu:9 ren:10:00010028 fet:0001002c" ∷
      "13 done:9 alu:10 ren:11:0001002c fet:00010030" ∷
      "14 done:10 res:10:T bp:10:2 sq:2 fet:00010014" ∷
      "15 ren:12:00010014 fet:00010018" ∷
      "16 alu:12 ren:13:00010018 fet:0001001c" ∷
      "17 done:12 alu:13 ren:14:0001001c fet:00010020" ∷
      "18 fill:0001ffb8 done:2 done:8 done:13 ret:2 ld:14:0001ffa0:j ld:14:0001ffa4:j ren:15:00010020 fet:00010024" ∷
      "19 ret:3 ld:15:0001ffb8:h ren:16:00010024 fet:00010028" ∷
      "20 ret:4 alu:16 ren:17:00010028 fet:00010014" ∷
      "21 done:16 ret:5 alu:17 ren:18:00010014 fet:00010018" ∷
      "22 done:15 done:17 res:17:T bp:10:3 ret:6 alu:18 ren:19:00010018 fet:0001001c" ∷
      "23 fill:0001ffa0 fill:0001ffa4 done:7 done:14 done:18 ret:7 alu:19 ren:20:0001001c fet:00010020" ∷
      "24 done:19 ret:8 ld:20:0001ffa0:h ld:20:0001ffa4:h ren:21:00010020 fet:00010024" ∷
      "25 ret:9 ld:21:0001ffb8:m ren:22:00010024 fet:00010028" ∷
      "26 ret:10 alu:22 ren:23:00010028 fet:00010014" ∷
      "27 done:20 done:22 ret:12 alu:23 ren:24:00010014 fet:00010018" ∷
      "28 done:23 res:23:N bp:10:2 sq:2 ret:13 fet:0001002c" ∷
      "29 ret:14 ren:25:0001002c fet:00010030" ∷
      "30 ret:15 div:25:3 ren:26:00010030 fet:00010034" ∷
      "31 ret:16 alu:26 ren:27:00010034 fet:00010038" ∷
      "32 done:26 res:26:N bp:12:0 ret:17 ld:27:0001ffe0:m ren:28:00010038 fet:0001003c" ∷
      "33 done:25 ret:18 ld:28:0001ffa0:h fet:00010040" ∷
      "34 ret:19 fet:00010044" ∷
      "35 ret:20 ren:29:0001003c fet:00010048" ∷
      "36 done:28 ld:29:0001ffd0:m ren:30:00010040 fet:0001004c" ∷
      "37 alu:30 ren:31:00010044 fet:00010050" ∷
      "38 fill:0001ffb8 done:21 done:30 ret:21 alu:31 ren:32:00010048 fet:00010054" ∷
      "39 done:31 res:31:N bp:1:0 ret:22 ld:32:x ren:33:0001004c fet:00010058" ∷
      "40 done:32 ret:23 fet:0001005c" ∷
      "41 ret:25 fet:00010060" ∷
      "42 ret:26 fet:00010064" ∷
      "43 fet:00010068" ∷
      "44" ∷
      "45 fill:0001ffe0 done:27 ret:27 ren:34:00010050" ∷
      "46 ret:28" ∷
      "47" ∷
      "48" ∷
      "49 fill:0001ffd0 done:29 ret:29 div:33:3 ren:35:00010054" ∷
      "50 ret:30" ∷
      "51 ret:31" ∷
      "52 done:33" ∷
      "end trap 5 00010048 retired 30 cycles 52" ∷
      []);
}
