-- Made by tools/evaluate/write: change what it reads, in tools/evaluate/runs, and run it again.
use Rattle.std.specs.Prelude.{[], ◌∷◌}
use Rattle.generated_runs.specs.Agreement.{Run, lines}

-- the run's code:
-- 00010000 addi x8,x2,-16
-- 00010004 addi x9,x0,3
-- 00010008 lb x5,-31(x2)
-- 0001000c lbu x5,-80(x8)
-- 00010010 xori x5,x8,36
-- 00010014 lbu x7,-2(x8)
-- 00010018 bge x0,x9,+4
-- 0001001c addi x9,x9,-1
-- 00010020 bne x9,x0,-20
-- 00010024 bge x1,x8,+8
-- 00010028 add x7,x8,x7
-- 0001002c mulhu x6,x1,x1
-- 00010030 andi x5,x9,55
-- 00010034 rem x6,x7,x0
-- 00010038 lw x5,-68(x8)
-- 0001003c xori x6,x9,-4
-- 00010040 xori x5,x0,51
-- 00010044 mulh x7,x9,x6
-- 00010048 sb x0,-15(x2)
-- 0001004c lw x6,-60(x2)
-- 00010050 addi x17,x0,93
-- 00010054 ecall
abbrev pub mixed_second_level_2 : Run
mixed_second_level_2 = record {
  description = lines (
      "version = 2" ∷
      "[core]" ∷
      "fetch_width = 1" ∷
      "retire_width = 1" ∷
      "rob = 32" ∷
      "stations = 8" ∷
      "loads = 4" ∷
      "stores = 1" ∷
      "queue = 1" ∷
      "[units]" ∷
      "alus = 2" ∷
      "mul_latency = 4" ∷
      "[predictor]" ∷
      "counters = 16" ∷
      "btb = 4" ∷
      "[cache]" ∷
      "sets = 1" ∷
      "ways = 1" ∷
      "line = 4" ∷
      "hit_latency = 1" ∷
      "miss_latency = 13" ∷
      "mshrs = 2" ∷
      "second_sets = 2" ∷
      "second_ways = 2" ∷
      "second_latency = 2" ∷
      "prefetch = 1" ∷
      "[ram]" ∷
      "base = 65536" ∷
      "size = 65536" ∷
      "[stt]" ∷
      "model = \"futuristic\"" ∷
      []);
  image =
      0x464c457f ∷ 0x00010101 ∷ 0x00000000 ∷ 0x00000000 ∷ 0x00f30002 ∷ 0x00000001 ∷ 0x00010000 ∷ 0x00000034 ∷
      0x00000000 ∷ 0x00000000 ∷ 0x00200034 ∷ 0x00000001 ∷ 0x00000000 ∷ 0x00000001 ∷ 0x00000054 ∷ 0x00010000 ∷
      0x00010000 ∷ 0x00000058 ∷ 0x00000058 ∷ 0x00000005 ∷ 0x00000004 ∷ 0xff010413 ∷ 0x00300493 ∷ 0xfe110283 ∷
      0xfb044283 ∷ 0x02444293 ∷ 0xffe44383 ∷ 0x00905263 ∷ 0xfff48493 ∷ 0xfe0496e3 ∷ 0x0080d463 ∷ 0x007403b3 ∷
      0x0210b333 ∷ 0x0374f293 ∷ 0x0203e333 ∷ 0xfbc42283 ∷ 0xffc4c313 ∷ 0x03304293 ∷ 0x026493b3 ∷ 0xfe0108a3 ∷
      0xfc412303 ∷ 0x05d00893 ∷ 0x00000073 ∷
      [];
  cycles = 160;
  trace = lines (
      "1 fet:00010000" ∷
      "2 ren:0:00010000 fet:00010004" ∷
      "3 alu:0 ren:1:00010004 fet:00010008" ∷
      "4 done:0 ret:0 alu:1 ren:2:00010008 fet:0001000c" ∷
      "5 done:1 ret:1 ld:2:0001ffd0:m pf:0001ffd4:m ren:3:0001000c fet:00010010" ∷
      "6 ren:4:00010010 fet:00010014" ∷
      "7 alu:4 ren:5:00010014 fet:00010018" ∷
      "8 done:4 ren:6:00010018 fet:0001001c" ∷
      "9 alu:6 ren:7:0001001c fet:00010020" ∷
      "10 done:6 res:6:N bp:6:0 alu:7 ren:8:00010020 fet:00010024" ∷
      "11 done:7 alu:8 ren:9:00010024 fet:00010028" ∷
      "12 done:8 res:8:T bp:8:2 sq:2 fet:0001000c" ∷
      "13 ren:10:0001000c fet:00010010" ∷
      "14 ren:11:00010010 fet:00010014" ∷
      "15 alu:11" ∷
      "16 done:11" ∷
      "17" ∷
      "18 fill:0001ffd0 fill:0001ffd4 done:2 ret:2 ld:3:0001ff90:m pf:0001ff94:m ren:12:00010014 fet:00010018" ∷
      "19 ren:13:00010018 fet:0001001c" ∷
      "20 alu:13 ren:14:0001001c fet:00010020" ∷
      "21 done:13 res:13:N bp:6:0 alu:14 ren:15:00010020 fet:0001000c" ∷
      "22 done:14 alu:15" ∷
      "23 done:15 res:15:T bp:8:3" ∷
      "24" ∷
      "25" ∷
      "26" ∷
      "27" ∷
      "28" ∷
      "29" ∷
      "30" ∷
      "31 fill:0001ff90 fill:0001ff94 done:3 ret:3 ld:5:0001ffdc:m pf:0001ffe0:m ren:16:0001000c fet:00010010" ∷
      "32 ret:4 ren:17:00010010 fet:00010014" ∷
      "33 alu:17" ∷
      "34 done:17" ∷
      "35" ∷
      "36" ∷
      "37" ∷
      "38" ∷
      "39" ∷
      "40" ∷
      "41" ∷
      "42" ∷
      "43" ∷
      "44 fill:0001ffdc fill:0001ffe0 done:5 ret:5 ld:10:0001ff90:2 pf:0001ff94:2 ren:18:00010014 fet:00010018" ∷
      "45 ret:6 ren:19:00010018 fet:0001001c" ∷
      "46 fill:0001ff90 fill:0001ff94 done:10 ret:7 ld:12:0001ffdc:2 pf:0001ffe0:2 alu:19 ren:20:0001001c fet:00010020" ∷
      "47 done:19 res:19:N bp:6:0 ret:8 alu:20 ren:21:00010020 fet:0001000c" ∷
      "48 fill:0001ffdc fill:0001ffe0 done:12 done:20 ret:10 ld:16:0001ff90:2 pf:0001ff94:2 alu:21 ren:22:0001000c fet:00010010" ∷
      "49 done:21 res:21:N bp:8:2 sq:2 ret:11 fet:00010024" ∷
      "50 fill:0001ff90 fill:0001ff94 done:16 ret:12 ld:18:0001ffdc:2 pf:0001ffe0:2 ren:23:00010024 fet:00010028" ∷
      "51 ret:13 alu:23 ren:24:00010028 fet:0001002c" ∷
      "52 fill:0001ffdc fill:0001ffe0 done:18 done:23 res:23:N bp:9:0 ret:14 alu:24 ren:25:0001002c fet:00010030" ∷
      "53 done:24 ret:15 mul:25 ren:26:00010030 fet:00010034" ∷
      "54 ret:16 alu:26 ren:27:00010034 fet:00010038" ∷
      "55 done:26 ret:17 div:27:20 ren:28:00010038 fet:0001003c" ∷
      "56 ret:18 ld:28:0001ff9c:m pf:0001ffa0:m ren:29:0001003c fet:00010040" ∷
      "57 done:25 ret:19 alu:29 ren:30:00010040 fet:00010044" ∷
      "58 done:29 ret:20 alu:30 ren:31:00010044 fet:00010048" ∷
      "59 done:30 ret:21 mul:31 ren:32:00010048 fet:0001004c" ∷
      "60 ret:23 agu:32 std:32 ren:33:0001004c fet:00010050" ∷
      "61 done:32 ret:24 ren:34:00010050 fet:00010054" ∷
      "62 ret:25 alu:34" ∷
      "63 done:31 done:34 ret:26" ∷
      "64" ∷
      "65" ∷
      "66" ∷
      "67" ∷
      "68" ∷
      "69 fill:0001ff9c fill:0001ffa0 done:28 ld:33:0001ffb4:m pf:0001ffb8:m" ∷
      "70" ∷
      "71" ∷
      "72" ∷
      "73" ∷
      "74" ∷
      "75 done:27 ret:27" ∷
      "76 ret:28" ∷
      "77 ret:29" ∷
      "78 ret:30" ∷
      "79 ret:31" ∷
      "80 ret:32 st:32:0001ffe0:m" ∷
      "81" ∷
      "82 fill:0001ffb4 fill:0001ffb8 done:33 ret:33" ∷
      "83 ret:34 ren:35:00010054 fet:00010058" ∷
      "84 ret:35 call:35:0" ∷
      "end exit 0 retired 34 cycles 84" ∷
      []);
}
