-- Made by tools/evaluate/write: change what it reads, in tools/evaluate/runs, and run it again.
use Rattle.std.specs.Prelude.{[], ◌∷◌}
use Rattle.generated_runs.specs.Agreement.{Run, lines}

-- the run's code:
-- 00010000 addi x12,x0,2
-- 00010004 jal x1,+88
-- 00010008 mul x7,x7,x0
-- 0001000c add x7,x7,x2
-- 00010010 sw x7,0(x7)
-- 00010014 lw x5,0(x2)
-- 00010018 lw x7,-34(x2)
-- 0001001c auipc x6,0x0
-- 00010020 jalr x0,8(x6)
-- 00010024 add x10,x9,x9
-- 00010028 add x9,x6,x6
-- 0001002c div x10,x0,x6
-- 00010030 mul x7,x9,x0
-- 00010034 add x7,x7,x2
-- 00010038 sw x7,4(x7)
-- 0001003c lw x5,0(x2)
-- 00010040 addi x0,x0,0
-- 00010044 addi x0,x0,0
-- 00010048 addi x12,x12,-1
-- 0001004c beq x12,x0,+8
-- 00010050 jal x0,-72
-- 00010054 addi x17,x0,93
-- 00010058 ecall
-- 0001005c addi x0,x0,0
-- 00010060 sw x7,-2(x2)
-- 00010064 jalr x0,0(x1)
abbrev pub mixed_delay_2 : Run
mixed_delay_2 = record {
  description = lines (
      "version = 2" ∷
      "[core]" ∷
      "fetch_width = 4" ∷
      "retire_width = 2" ∷
      "rob = 16" ∷
      "stations = 20" ∷
      "loads = 10" ∷
      "stores = 4" ∷
      "queue = 8" ∷
      "[units]" ∷
      "alus = 1" ∷
      "mul_latency = 3" ∷
      "[predictor]" ∷
      "counters = 16" ∷
      "btb = 2" ∷
      "depend = 4" ∷
      "history = 2" ∷
      "returns = 3" ∷
      "[cache]" ∷
      "sets = 1" ∷
      "ways = 1" ∷
      "line = 16" ∷
      "hit_latency = 2" ∷
      "miss_latency = 6" ∷
      "mshrs = 3" ∷
      "second_sets = 2" ∷
      "second_ways = 2" ∷
      "second_latency = 4" ∷
      "prefetch = 1" ∷
      "[ram]" ∷
      "base = 65536" ∷
      "size = 4096" ∷
      "misaligned = 1" ∷
      "[stt]" ∷
      "model = \"futuristic\"" ∷
      "defence = \"delay\"" ∷
      []);
  image =
      0x464c457f ∷ 0x00010101 ∷ 0x00000000 ∷ 0x00000000 ∷ 0x00f30002 ∷ 0x00000001 ∷ 0x00010000 ∷ 0x00000034 ∷
      0x00000000 ∷ 0x00000000 ∷ 0x00200034 ∷ 0x00000002 ∷ 0x00000000 ∷ 0x00000001 ∷ 0x00000074 ∷ 0x00010000 ∷
      0x00010000 ∷ 0x00000068 ∷ 0x00000068 ∷ 0x00000005 ∷ 0x00000001 ∷ 0x00000001 ∷ 0x000000dc ∷ 0x00010ff0 ∷
      0x00010ff0 ∷ 0x00000008 ∷ 0x00000008 ∷ 0x00000006 ∷ 0x00000001 ∷ 0x00200613 ∷ 0x058000ef ∷ 0x020383b3 ∷
      0x002383b3 ∷ 0x0073a023 ∷ 0x00012283 ∷ 0xfde12383 ∷ 0x00000317 ∷ 0x00830067 ∷ 0x00948533 ∷ 0x006304b3 ∷
      0x02604533 ∷ 0x020483b3 ∷ 0x002383b3 ∷ 0x0073a223 ∷ 0x00012283 ∷ 0x00000013 ∷ 0x00000013 ∷ 0xfff60613 ∷
      0x00060463 ∷ 0xfb9ff06f ∷ 0x05d00893 ∷ 0x00000073 ∷ 0x00000013 ∷ 0xfe712f23 ∷ 0x00008067 ∷ 0xfb4beb55 ∷
      0x91b3ab4a ∷
      [];
  cycles = 60;
  trace = lines (
      "1 fet:00010000 fet:00010004 fet:0001005c fet:00010060" ∷
      "2 ren:0:00010000 ren:1:00010004 ren:2:0001005c ren:3:00010060 fet:00010064 fet:00010008 fet:0001000c fet:00010010" ∷
      "3 alu:0 agu:3 std:3 ren:4:00010064 ren:5:00010008 ren:6:0001000c ren:7:00010010 fet:00010014 fet:00010018 fet:0001001c fet:00010020" ∷
      "4 done:0 done:3 clr:3 ret:0 alu:1 mul:5 ren:8:00010014 ren:9:00010018 ren:10:0001001c ren:11:00010020 fet:00010024 fet:00010028 fet:0001002c fet:00010030" ∷
      "5 done:1 ret:1 alu:2 ren:12:00010024 ren:13:00010028 ren:14:0001002c ren:15:00010030 fet:00010034 fet:00010038 fet:0001003c fet:00010040" ∷
      "6 done:2 ret:2 ret:3 st:3:00010fe0:m st:3:00010ff0:m alu:4 ren:16:00010034 ren:17:00010038 ren:18:0001003c ren:19:00010040 fet:00010044 fet:00010048 fet:0001004c fet:00010050" ∷
      "7 done:4 done:5 res:4:J bt:1:00010008 ret:4 ret:5 alu:6 ren:20:00010044 ren:21:00010048 fet:00010008 fet:0001000c fet:00010010 fet:00010014" ∷
      "8 done:6 ret:6 agu:7 std:7 alu:10 ren:22:0001004c fet:00010018 fet:0001001c fet:00010020" ∷
      "9 done:7 done:10 clr:7 ret:7 st:7:00010ff0:m ld:8:00010ff0:m alu:11 ren:23:00010050 fet:00010024" ∷
      "10 done:11 alu:12" ∷
      "11 done:12 alu:13" ∷
      "12 done:13 mul:15 alu:19" ∷
      "13 done:19 alu:20" ∷
      "14 done:20 alu:21" ∷
      "15 fill:00010ff0 done:8 done:15 done:21 ret:8 ld:9:00010fc0:m ld:9:00010fd0:m pf:00010fe0:m alu:16 ren:24:00010008 fet:00010028" ∷
      "16 done:16 std:17 alu:22 mul:24" ∷
      "17 done:22 alu:23" ∷
      "18 done:23" ∷
      "19 done:24" ∷
      "20" ∷
      "21 fill:00010fc0 fill:00010fd0 fill:00010fe0 done:9 res:11:J bt:0:00010024 ret:9 ret:10 div:14:3 agu:17 ren:25:0001000c ren:26:00010010 fet:0001002c fet:00010030" ∷
      "22 done:17 clr:17 ret:11 ret:12 ld:18:00010ff0:2 alu:25 ren:27:00010014 ren:28:00010018 fet:00010034 fet:00010038" ∷
      "23 done:25 ret:13 std:26 ren:29:0001001c fet:0001003c" ∷
      "24 done:14 ret:14 ret:15 alu:29 ren:30:00010020 ren:31:00010024 fet:00010040 fet:00010044" ∷
      "25 done:29 ret:16 ret:17 st:17:00010ff0:m alu:30 ren:32:00010028 ren:33:0001002c fet:00010048 fet:0001004c" ∷
      "26 fill:00010ff0 done:18 done:30 res:22:N bp:3:0 ret:18 ret:19 agu:26 alu:31 ren:34:00010030 ren:35:00010034 fet:00010050 fet:00010008" ∷
      "27 done:26 done:31 clr:26 ret:20 ret:21 ld:27:f alu:32 ren:36:00010038 ren:37:0001003c fet:0001000c fet:00010010" ∷
      "28 done:27 done:32 ret:22 ret:23 ld:28:00010fc0:2 ld:28:00010fd0:2 pf:00010fe0:2 mul:34 ren:38:00010040 ren:39:00010044 fet:00010014 fet:00010018" ∷
      "29 ret:24 ret:25 alu:38 ren:40:00010048 ren:41:0001004c fet:0001001c fet:00010020" ∷
      "30 done:38 ret:26 st:26:00010ff0:h ret:27 alu:39 ren:42:00010050 ren:43:00010008 fet:00010024 fet:00010028" ∷
      "31 done:34 done:39 alu:35" ∷
      "32 fill:00010fc0 fill:00010fd0 fill:00010fe0 done:28 done:35 res:30:J bt:0:00010024 ret:28 ret:29 div:33:3 agu:36 std:36 alu:40 mul:43 ren:44:0001000c ren:45:00010010 fet:0001002c fet:00010030" ∷
      "33 done:36 done:40 clr:36 ret:30 ret:31 ld:37:00010ff0:2 alu:41 ren:46:00010014 ren:47:00010018 fet:00010034 fet:00010038" ∷
      "34 done:41 ret:32 alu:42 ren:48:0001001c fet:0001003c" ∷
      "35 done:33 done:42 done:43 ret:33 ret:34 alu:44 ren:49:00010020 ren:50:00010024 fet:00010040 fet:00010044" ∷
      "36 done:44 ret:35 ret:36 st:36:00010ff0:m std:45 alu:48 ren:51:00010028 ren:52:0001002c fet:00010048 fet:0001004c" ∷
      "37 fill:00010ff0 done:37 done:48 res:41:T bp:3:1 sq:19 ret:37 ret:38 fet:00010054 fet:00010058 fet:0001005c fet:00010060" ∷
      "38 ret:39 ret:40 ren:53:00010054 fet:00010064 fet:00010008 fet:0001000c fet:00010010" ∷
      "39 ret:41 alu:53 fet:00010014" ∷
      "40 done:53 ret:53 ren:54:00010058 fet:00010018" ∷
      "41 ret:54 call:54:0" ∷
      "end exit 0 retired 44 cycles 41" ∷
      []);
}
