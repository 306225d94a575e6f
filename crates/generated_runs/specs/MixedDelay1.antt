-- Made by tools/evaluate/write: change what it reads, in tools/evaluate/runs, and run it again.
use Rattle.std.specs.Prelude.{[], ◌∷◌}
use Rattle.generated_runs.specs.Agreement.{Run, lines}

-- the run's code:
-- 00010000 addi x12,x0,2
-- 00010004 jal x1,+76
-- 00010008 div x5,x0,x5
-- 0001000c auipc x10,0x0
-- 00010010 jalr x0,8(x10)
-- 00010014 sw x10,4(x2)
-- 00010018 auipc x9,0x0
-- 0001001c jalr x1,8(x9)
-- 00010020 bne x7,x5,+16
-- 00010024 mul x9,x5,x0
-- 00010028 add x9,x9,x2
-- 0001002c sw x10,0(x9)
-- 00010030 lw x9,0(x2)
-- 00010034 addi x0,x0,0
-- 00010038 addi x0,x0,0
-- 0001003c addi x12,x12,-1
-- 00010040 beq x12,x0,+8
-- 00010044 jal x0,-60
-- 00010048 addi x17,x0,93
-- 0001004c ecall
-- 00010050 addi x0,x0,0
-- 00010054 sw x5,4(x2)
-- 00010058 andi x6,x6,12
-- 0001005c add x6,x6,x2
-- 00010060 lw x6,-16(x6)
-- 00010064 jalr x0,0(x1)
abbrev pub mixed_delay_1 : Run
mixed_delay_1 = record {
  description = lines (
      "version = 2" ∷
      "[core]" ∷
      "fetch_width = 4" ∷
      "retire_width = 3" ∷
      "rob = 40" ∷
      "stations = 20" ∷
      "loads = 10" ∷
      "stores = 10" ∷
      "queue = 8" ∷
      "[units]" ∷
      "alus = 2" ∷
      "mul_latency = 3" ∷
      "[predictor]" ∷
      "counters = 16" ∷
      "btb = 2" ∷
      "depend = 4" ∷
      "history = 2" ∷
      "returns = 3" ∷
      "[cache]" ∷
      "sets = 1" ∷
      "ways = 1" ∷
      "line = 16" ∷
      "hit_latency = 2" ∷
      "miss_latency = 9" ∷
      "mshrs = 3" ∷
      "second_sets = 2" ∷
      "second_ways = 2" ∷
      "second_latency = 4" ∷
      "prefetch = 1" ∷
      "[ram]" ∷
      "base = 65536" ∷
      "size = 4096" ∷
      "misaligned = 1" ∷
      "[stt]" ∷
      "model = \"spectre\"" ∷
      "defence = \"delay\"" ∷
      []);
  image =
      0x464c457f ∷ 0x00010101 ∷ 0x00000000 ∷ 0x00000000 ∷ 0x00f30002 ∷ 0x00000001 ∷ 0x00010000 ∷ 0x00000034 ∷
      0x00000000 ∷ 0x00000000 ∷ 0x00200034 ∷ 0x00000002 ∷ 0x00000000 ∷ 0x00000001 ∷ 0x00000074 ∷ 0x00010000 ∷
      0x00010000 ∷ 0x00000068 ∷ 0x00000068 ∷ 0x00000005 ∷ 0x00000001 ∷ 0x00000001 ∷ 0x000000dc ∷ 0x00010ff0 ∷
      0x00010ff0 ∷ 0x00000008 ∷ 0x00000008 ∷ 0x00000006 ∷ 0x00000001 ∷ 0x00200613 ∷ 0x04c000ef ∷ 0x025042b3 ∷
      0x00000517 ∷ 0x00850067 ∷ 0x00a12223 ∷ 0x00000497 ∷ 0x008480e7 ∷ 0x00539863 ∷ 0x020284b3 ∷ 0x002484b3 ∷
      0x00a4a023 ∷ 0x00012483 ∷ 0x00000013 ∷ 0x00000013 ∷ 0xfff60613 ∷ 0x00060463 ∷ 0xfc5ff06f ∷ 0x05d00893 ∷
      0x00000073 ∷ 0x00000013 ∷ 0x00512223 ∷ 0x00c37313 ∷ 0x00230333 ∷ 0xff032303 ∷ 0x00008067 ∷ 0x86fc31f1 ∷
      0x37a0a862 ∷
      [];
  cycles = 60;
  trace = lines (
      "1 fet:00010000 fet:00010004 fet:00010050 fet:00010054" ∷
      "2 ren:0:00010000 ren:1:00010004 ren:2:00010050 ren:3:00010054 fet:00010058 fet:0001005c fet:00010060 fet:00010064" ∷
      "3 alu:0 alu:1 agu:3 std:3 ren:4:00010058 ren:5:0001005c ren:6:00010060 ren:7:00010064 fet:00010008 fet:0001000c fet:00010010 fet:00010014" ∷
      "4 done:0 done:1 done:3 clr:3 ret:0 ret:1 alu:2 alu:4 ren:8:00010008 ren:9:0001000c ren:10:00010010 ren:11:00010014 fet:00010018 fet:0001001c fet:00010020 fet:00010024" ∷
      "5 done:2 done:4 ret:2 ret:3 st:3:00010ff0:m ret:4 alu:5 alu:7 ren:12:00010018 ren:13:0001001c ren:14:00010020 ren:15:00010024 fet:00010028 fet:0001002c fet:00010030 fet:00010034" ∷
      "6 done:5 done:7 res:7:J bt:1:00010008 ret:5 ld:6:00010fe0:m pf:00010ff0:m div:8:3 alu:9 alu:12 ren:16:00010028 ren:17:0001002c ren:18:00010030 ren:19:00010034 fet:00010038 fet:0001003c fet:00010040 fet:00010044" ∷
      "7 done:9 done:12 alu:10 std:11 alu:13 ren:20:00010038 ren:21:0001003c ren:22:00010040 ren:23:00010044 fet:00010008 fet:0001000c fet:00010010 fet:00010014" ∷
      "8 done:10 done:13 res:10:J bt:0:00010014 agu:11 std:17 alu:19 alu:20 ren:24:00010008 ren:25:0001000c ren:26:00010010 ren:27:00010014 fet:00010018 fet:0001001c fet:00010020 fet:00010024" ∷
      "9 done:8 done:11 done:19 done:20 clr:11 alu:14 mul:15 alu:21 ren:28:00010018 ren:29:0001001c ren:30:00010020 ren:31:00010024 fet:00010028 fet:0001002c fet:00010030 fet:00010034" ∷
      "10 done:14 done:21 res:13:J bt:1:00010020 alu:22 alu:23 ren:32:00010028 ren:33:0001002c ren:34:00010030 ren:35:00010034 fet:00010038 fet:0001003c fet:00010040 fet:00010044" ∷
      "11 done:22 done:23 res:14:T bp:8:2 sq:25 fet:00010030 fet:00010034 fet:00010038 fet:0001003c" ∷
      "12 ren:36:00010030 ren:37:00010034 ren:38:00010038 ren:39:0001003c fet:00010040 fet:00010044 fet:00010008 fet:0001000c" ∷
      "13 ld:36:00010ff0:j alu:37 alu:38 ren:40:00010040 ren:41:00010044 ren:42:00010008 ren:43:0001000c fet:00010010 fet:00010014 fet:00010018 fet:0001001c" ∷
      "14 done:37 done:38 alu:39 alu:41 ren:44:00010010 ren:45:00010014 ren:46:00010018 ren:47:0001001c fet:00010020 fet:00010024 fet:00010028 fet:0001002c" ∷
      "15 fill:00010fe0 fill:00010ff0 done:6 done:36 done:39 done:41 ret:6 ret:7 ret:8 alu:40 alu:43 ren:48:00010020 ren:49:00010024 ren:50:00010028 ren:51:0001002c fet:00010030 fet:00010034 fet:00010038 fet:0001003c" ∷
      "16 done:40 done:43 res:40:N bp:1:0 ret:9 ret:10 ret:11 st:11:00010ff0:h div:42:3 alu:44 std:45 alu:46 ren:52:00010030 ren:53:00010034 ren:54:00010038 ren:55:0001003c fet:00010040 fet:00010044 fet:00010008 fet:0001000c" ∷
      "17 done:44 done:46 res:44:J bt:0:00010014 ret:12 ret:13 ret:14 agu:45 alu:47 std:51 alu:53 ren:56:00010040 ren:57:00010044 ren:58:00010008 ren:59:0001000c fet:00010010 fet:00010014 fet:00010018 fet:0001001c" ∷
      "18 done:45 done:47 done:53 clr:45 ret:36 ret:37 ret:38 alu:54 alu:55 ren:60:00010010 ren:61:00010014 ren:62:00010018 ren:63:0001001c fet:00010020 fet:00010030 fet:00010034 fet:00010038" ∷
      "19 done:42 done:54 done:55 res:47:J bt:1:00010020 ret:39 ret:40 ret:41 alu:48 mul:49 alu:56 ren:64:00010020 ren:65:00010030 ren:66:00010034 ren:67:00010038 fet:0001003c fet:00010040 fet:00010044 fet:00010008" ∷
      "20 done:48 done:56 res:48:N bp:10:0 ret:42 ret:43 ret:44 alu:57 alu:59 ren:68:0001003c ren:69:00010040 ren:70:00010044 ren:71:00010008 fet:0001000c fet:00010010 fet:00010014 fet:00010018" ∷
      "21 done:57 done:59 ret:45 st:45:00010ff0:h ret:46 ret:47 alu:60 std:61 alu:62 ren:72:0001000c ren:73:00010010 ren:74:00010014 ren:75:00010018 fet:0001001c fet:00010020 fet:00010024 fet:00010028" ∷
      "22 done:49 done:60 done:62 ret:48 ret:49 alu:50 alu:63 ren:76:0001001c ren:77:00010020 ren:78:00010024 ren:79:00010028 fet:0001002c fet:00010030 fet:00010034 fet:00010038" ∷
      "23 done:50 done:63 ret:50 agu:51 alu:66 alu:67 ren:80:0001002c ren:81:00010030 ren:82:00010034 fet:0001003c fet:00010040 fet:00010044 fet:00010008" ∷
      "24 done:51 done:66 done:67 clr:51 ret:51 st:51:00010ff0:h ld:52:00010ff0:h alu:68 alu:70 ren:83:00010038 ren:84:0001003c ren:85:00010040 fet:0001000c fet:00010010 fet:00010014 fet:00010018" ∷
      "25 done:68 done:70 res:56:T bp:0:2 sq:35 fet:00010048 fet:0001004c fet:00010050 fet:00010054" ∷
      "26 done:52 ret:52 ret:53 ret:54 ren:86:00010048 fet:00010058 fet:0001005c fet:00010060 fet:00010064" ∷
      "27 ret:55 ret:56 alu:86 fet:00010020" ∷
      "28 done:86 ret:86 ren:87:0001004c fet:00010024" ∷
      "29 ret:87 call:87:0" ∷
      "end exit 65548 retired 38 cycles 29" ∷
      []);
}
