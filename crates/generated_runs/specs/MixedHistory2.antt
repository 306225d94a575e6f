-- Made by tools/evaluate/write: change what it reads, in tools/evaluate/runs, and run it again.
use Rattle.std.specs.Prelude.{[], ◌∷◌}
use Rattle.generated_runs.specs.Agreement.{Run, lines}

-- the run's code:
-- 00010000 addi x8,x2,0
-- 00010004 addi x9,x0,4
-- 00010008 beq x7,x8,+12
-- 0001000c jal x1,+8
-- 00010010 xori x6,x8,38
-- 00010014 lw x7,12(x8)
-- 00010018 addi x9,x9,-1
-- 0001001c bne x9,x0,-8
-- 00010020 sh x5,8(x8)
-- 00010024 andi x7,x5,0
-- 00010028 auipc x5,0x0
-- 0001002c jalr x1,8(x5)
-- 00010030 xori x7,x6,1
-- 00010034 lw x6,-12(x2)
-- 00010038 lhu x5,-6(x2)
-- 0001003c addi x17,x0,93
-- 00010040 ecall
abbrev pub mixed_history_2 : Run
mixed_history_2 = record {
  description = lines (
      "version = 2" ∷
      "[core]" ∷
      "fetch_width = 4" ∷
      "retire_width = 4" ∷
      "rob = 6" ∷
      "stations = 2" ∷
      "loads = 4" ∷
      "stores = 4" ∷
      "queue = 4" ∷
      "[units]" ∷
      "alus = 3" ∷
      "mul_latency = 2" ∷
      "[predictor]" ∷
      "counters = 4" ∷
      "btb = 1" ∷
      "history = 1" ∷
      "returns = 1" ∷
      "[cache]" ∷
      "sets = 2" ∷
      "ways = 1" ∷
      "line = 16" ∷
      "hit_latency = 3" ∷
      "miss_latency = 6" ∷
      "mshrs = 2" ∷
      "[ram]" ∷
      "base = 65536" ∷
      "size = 65536" ∷
      "[stt]" ∷
      "model = \"futuristic\"" ∷
      []);
  image =
      0x464c457f ∷ 0x00010101 ∷ 0x00000000 ∷ 0x00000000 ∷ 0x00f30002 ∷ 0x00000001 ∷ 0x00010000 ∷ 0x00000034 ∷
      0x00000000 ∷ 0x00000000 ∷ 0x00200034 ∷ 0x00000001 ∷ 0x00000000 ∷ 0x00000001 ∷ 0x00000054 ∷ 0x00010000 ∷
      0x00010000 ∷ 0x00000044 ∷ 0x00000044 ∷ 0x00000005 ∷ 0x00000004 ∷ 0x00010413 ∷ 0x00400493 ∷ 0x00838663 ∷
      0x008000ef ∷ 0x02644313 ∷ 0x00c42383 ∷ 0xfff48493 ∷ 0xfe049ce3 ∷ 0x00541423 ∷ 0x0002f393 ∷ 0x00000297 ∷
      0x008280e7 ∷ 0x00134393 ∷ 0xff412303 ∷ 0xffa15283 ∷ 0x05d00893 ∷ 0x00000073 ∷
      [];
  cycles = 160;
  trace = lines (
      "1 fet:00010000 fet:00010004 fet:00010008 fet:0001000c" ∷
      "2 ren:0:00010000 ren:1:00010004 fet:00010014 fet:00010018" ∷
      "3 alu:0 alu:1 ren:2:00010008 ren:3:0001000c fet:0001001c fet:00010020" ∷
      "4 done:0 done:1 ret:0 ret:1 alu:2 alu:3 ren:4:00010014 ren:5:00010018 fet:00010024 fet:00010028" ∷
      "5 done:2 done:3 res:2:N bp:2:0 ret:2 ret:3 ld:4:0001fff0:m alu:5 ren:6:0001001c ren:7:00010020 fet:0001002c fet:00010030" ∷
      "6 done:5 alu:6 agu:7 std:7 ren:8:00010024 ren:9:00010028 fet:00010034 fet:00010038" ∷
      "7 done:6 done:7 res:6:T bp:3:2 sq:7 fet:00010014 fet:00010018 fet:0001001c fet:00010020" ∷
      "8 ren:10:00010014 ren:11:00010018 fet:00010024 fet:00010028" ∷
      "9 ld:10:0001fff0:j alu:11 ren:12:0001001c fet:0001002c" ∷
      "10 done:11 alu:12" ∷
      "11 fill:0001fff0 done:4 done:10 done:12 res:12:T bp:2:1 sq:4 ret:4 ret:5 ret:6 ret:10 fet:00010014 fet:00010018 fet:0001001c fet:00010020" ∷
      "12 ret:11 ret:12 ren:13:00010014 ren:14:00010018 fet:00010024 fet:00010028" ∷
      "13 ld:13:0001fff0:h alu:14 ren:15:0001001c ren:16:00010020 fet:0001002c fet:00010030" ∷
      "14 done:14 alu:15 agu:16 std:16 ren:17:00010024 ren:18:00010028 fet:00010034 fet:00010038" ∷
      "15 done:15 done:16 res:15:T bp:2:2 sq:7 fet:00010014 fet:00010018 fet:0001001c fet:00010014" ∷
      "16 done:13 ret:13 ret:14 ret:15 ren:19:00010014 ren:20:00010018 fet:00010018 fet:0001001c" ∷
      "17 ld:19:0001fff0:h alu:20 ren:21:0001001c ren:22:00010014 fet:00010014 fet:00010018" ∷
      "18 done:20 alu:21 ld:22:0001fff0:h ren:23:00010018 ren:24:0001001c fet:0001001c fet:00010014" ∷
      "19 done:21 res:21:N bp:2:1 sq:7 fet:00010020 fet:00010024 fet:00010028 fet:0001002c" ∷
      "20 done:19 ret:19 ret:20 ret:21 ren:25:00010020 ren:26:00010024 fet:00010030 fet:00010034" ∷
      "21 agu:25 std:25 alu:26 ren:27:00010028 ren:28:0001002c fet:00010038 fet:0001003c" ∷
      "22 done:25 done:26 ret:25 st:25:0001fff0:h ret:26 alu:27 ren:29:00010030 fet:00010040" ∷
      "23 done:27 ret:27 alu:28 alu:29 ren:30:00010034 ren:31:00010038 fet:00010044" ∷
      "24 done:28 done:29 res:28:J bt:0:00010030 ret:28 ret:29 ld:30:0001ffe0:m ren:32:0001003c" ∷
      "25 ld:31:0001ffe0:j alu:32" ∷
      "26 done:32" ∷
      "27" ∷
      "28" ∷
      "29" ∷
      "30 fill:0001ffe0 done:30 done:31 ret:30 ret:31 ret:32 ren:33:00010040" ∷
      "31 ret:33 call:33:0" ∷
      "end exit 0 retired 25 cycles 31" ∷
      []);
}
