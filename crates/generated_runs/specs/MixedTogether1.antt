-- Made by tools/evaluate/write: change what it reads, in tools/evaluate/runs, and run it again.
use Rattle.std.specs.Prelude.{[], ◌∷◌}
use Rattle.generated_runs.specs.Agreement.{Run, lines}

-- the run's code:
-- 00010000 addi x8,x2,-64
-- 00010004 addi x9,x0,1
-- 00010008 auipc x5,0x0
-- 0001000c jalr x1,16(x5)
-- 00010010 divu x5,x8,x5
-- 00010014 jal x1,+12
-- 00010018 sw x6,-56(x8)
-- 0001001c lw x6,-77(x8)
-- 00010020 sh x0,-76(x2)
-- 00010024 lw x6,-2(x8)
-- 00010028 lw x7,-10(x2)
-- 0001002c mulhu x5,x5,x8
-- 00010030 lbu x5,-6(x2)
-- 00010034 lhu x5,-54(x2)
-- 00010038 andi x7,x6,8
-- 0001003c bge x7,x5,+4
-- 00010040 lw x5,-46(x2)
-- 00010044 sw x1,-15(x6)
-- 00010048 beq x0,x7,+8
-- 0001004c addi x9,x9,-1
-- 00010050 bne x9,x0,-24
-- 00010054 lb x6,-53(x8)
-- 00010058 div x5,x9,x8
-- 0001005c sb x7,-76(x8)
-- 00010060 div x5,x5,x5
-- 00010064 addi x17,x0,93
-- 00010068 ecall
abbrev pub mixed_together_1 : Run
mixed_together_1 = record {
  description = lines (
      "version = 2" ∷
      "[core]" ∷
      "fetch_width = 4" ∷
      "retire_width = 2" ∷
      "rob = 6" ∷
      "stations = 16" ∷
      "loads = 4" ∷
      "stores = 4" ∷
      "queue = 8" ∷
      "[units]" ∷
      "alus = 1" ∷
      "mul_latency = 4" ∷
      "[predictor]" ∷
      "counters = 16" ∷
      "btb = 2" ∷
      "history = 6" ∷
      "returns = 1" ∷
      "[cache]" ∷
      "sets = 4" ∷
      "ways = 1" ∷
      "line = 8" ∷
      "hit_latency = 2" ∷
      "miss_latency = 14" ∷
      "mshrs = 2" ∷
      "second_sets = 1" ∷
      "second_ways = 4" ∷
      "second_latency = 7" ∷
      "prefetch = 1" ∷
      "[ram]" ∷
      "base = 65536" ∷
      "size = 65536" ∷
      "misaligned = 1" ∷
      "[stt]" ∷
      "model = \"spectre\"" ∷
      []);
  image =
      0x464c457f ∷ 0x00010101 ∷ 0x00000000 ∷ 0x00000000 ∷ 0x00f30002 ∷ 0x00000001 ∷ 0x00010000 ∷ 0x00000034 ∷
      0x00000000 ∷ 0x00000000 ∷ 0x00200034 ∷ 0x00000001 ∷ 0x00000000 ∷ 0x00000001 ∷ 0x00000054 ∷ 0x00010000 ∷
      0x00010000 ∷ 0x0000006c ∷ 0x0000006c ∷ 0x00000005 ∷ 0x00000004 ∷ 0xfc010413 ∷ 0x00100493 ∷ 0x00000297 ∷
      0x010280e7 ∷ 0x025452b3 ∷ 0x00c000ef ∷ 0xfc642423 ∷ 0xfb342303 ∷ 0xfa011a23 ∷ 0xffe42303 ∷ 0xff612383 ∷
      0x0282b2b3 ∷ 0xffa14283 ∷ 0xfca15283 ∷ 0x00837393 ∷ 0x0053d263 ∷ 0xfd212283 ∷ 0xfe1328a3 ∷ 0x00700463 ∷
      0xfff48493 ∷ 0xfe0494e3 ∷ 0xfcb40303 ∷ 0x0284c2b3 ∷ 0xfa740a23 ∷ 0x0252c2b3 ∷ 0x05d00893 ∷ 0x00000073 ∷
      [];
  cycles = 160;
  trace = lines (
      "1 fet:00010000 fet:00010004 fet:00010008 fet:0001000c" ∷
      "2 ren:0:00010000 ren:1:00010004 ren:2:00010008 ren:3:0001000c fet:00010010 fet:00010014 fet:00010020 fet:00010024" ∷
      "3 alu:0 ren:4:00010010 ren:5:00010014 fet:00010028 fet:0001002c fet:00010030 fet:00010034" ∷
      "4 done:0 ret:0 alu:1 ren:6:00010020 fet:00010038 fet:0001003c fet:00010040" ∷
      "5 done:1 ret:1 alu:2 agu:6 std:6 ren:7:00010024 fet:00010044" ∷
      "6 done:2 done:6 ret:2 alu:3 div:4:20 ld:7:0001ffa8:m ld:7:0001ffb0:m ren:8:00010028 fet:00010048" ∷
      "7 done:3 res:3:J bt:1:00010018 sq:13 ret:3 fet:00010018 fet:0001001c fet:00010020 fet:00010024" ∷
      "8 ren:9:00010018 ren:10:0001001c ren:11:00010020 ren:12:00010024 fet:00010028 fet:0001002c fet:00010030 fet:00010034" ∷
      "9 agu:9 std:9 ren:13:00010028 ren:14:0001002c fet:00010038 fet:0001003c fet:00010040 fet:00010044" ∷
      "10 done:9 ret:9 st:9:0001ff78:m agu:11 std:11 mul:14 ren:15:00010030 fet:00010048 fet:0001004c fet:00010050" ∷
      "11 done:11" ∷
      "12" ∷
      "13" ∷
      "14 done:14" ∷
      "15" ∷
      "16" ∷
      "17" ∷
      "18" ∷
      "19" ∷
      "20 fill:0001ffa8 fill:0001ffb0 ld:10:0001ff60:m pf:0001ff68:m" ∷
      "21 ld:12:0001ffa8:h ld:12:0001ffb0:h" ∷
      "22" ∷
      "23 done:12" ∷
      "24" ∷
      "25" ∷
      "26" ∷
      "27" ∷
      "28" ∷
      "29" ∷
      "30" ∷
      "31" ∷
      "32" ∷
      "33" ∷
      "34 fill:0001ff60 fill:0001ff68 done:10 ret:10 ret:11 st:11:0001ffa0:m ld:13:0001ffe0:m ld:13:0001ffe8:m ren:16:00010034 ren:17:00010038 fet:00010054 fet:00010058" ∷
      "35 ret:12 ld:15:0001ffe8:j alu:17 ren:18:0001003c fet:0001005c" ∷
      "36 done:17" ∷
      "37" ∷
      "38" ∷
      "39" ∷
      "40" ∷
      "41" ∷
      "42" ∷
      "43" ∷
      "44" ∷
      "45" ∷
      "46" ∷
      "47" ∷
      "48 fill:0001ffe0 fill:0001ffe8 done:13 done:15 ret:13 ret:14 ld:16:0001ffb8:m pf:0001ffc0:m ren:19:00010040 ren:20:00010044 fet:00010060 fet:00010064" ∷
      "49 ret:15 ld:19:0001ffc0:j agu:20 std:20 ren:21:00010048 fet:00010068" ∷
      "50 done:20 alu:21" ∷
      "51 done:21 res:21:T bp:2:2 sq:8 fet:00010050 fet:00010054 fet:00010058 fet:0001005c" ∷
      "52 fet:00010060 fet:00010064 fet:00010068 fet:0001006c" ∷
      "53" ∷
      "54" ∷
      "55" ∷
      "56" ∷
      "57" ∷
      "58" ∷
      "59" ∷
      "60" ∷
      "61" ∷
      "62 fill:0001ffb8 fill:0001ffc0 done:16 done:19 ret:16 ret:17 alu:18 ren:22:00010050 ren:23:00010054" ∷
      "63 done:18 res:18:T bp:15:2 ret:18 ret:19 alu:22 ld:23:0001ff78:m pf:0001ff80:m ren:24:00010058 ren:25:0001005c" ∷
      "64 done:22 res:22:T bp:5:2 sq:7" ∷
      "end trap 7 00010044 retired 15 cycles 64" ∷
      []);
}
