-- Made by tools/evaluate/write: change what it reads, in tools/evaluate/runs, and run it again.
use Rattle.std.specs.Prelude.{[], ◌∷◌}
use Rattle.generated_runs.specs.Agreement.{Run, lines}

-- the run's code:
-- 00010000 addi x8,x2,-1024
-- 00010004 addi x9,x0,4
-- 00010008 mul x6,x6,x5
-- 0001000c addi x5,x5,1
-- 00010010 lw x6,820(x8)
-- 00010014 add x6,x6,x6
-- 00010018 addi x9,x9,-1
-- 0001001c beq x9,x0,+8
-- 00010020 jal x0,-24
-- 00010024 addi x17,x0,93
-- 00010028 ecall
abbrev pub run_01 : Run
run_01 = record {
  description = lines (
      "[core]" ∷
      "fetch_width = 4" ∷
      "retire_width = 4" ∷
      "rob = 46" ∷
      "stations = 15" ∷
      "loads = 5" ∷
      "stores = 16" ∷
      "queue = 16" ∷
      "[units]" ∷
      "alus = 2" ∷
      "mul_latency = 1" ∷
      "[predictor]" ∷
      "counters = 4" ∷
      "btb = 2" ∷
      "[cache]" ∷
      "sets = 4" ∷
      "ways = 1" ∷
      "line = 16" ∷
      "hit_latency = 3" ∷
      "miss_latency = 6" ∷
      "mshrs = 7" ∷
      "[ram]" ∷
      "base = 65536" ∷
      "size = 4096" ∷
      "[stt]" ∷
      "model = \"futuristic\"" ∷
      []);
  image =
      0x464c457f ∷ 0x00010101 ∷ 0x00000000 ∷ 0x00000000 ∷ 0x00f30002 ∷ 0x00000001 ∷ 0x00010000 ∷ 0x00000034 ∷
      0x00000000 ∷ 0x00000000 ∷ 0x00200034 ∷ 0x00000001 ∷ 0x00000000 ∷ 0x00000001 ∷ 0x00000054 ∷ 0x00010000 ∷
      0x00010000 ∷ 0x0000002c ∷ 0x0000002c ∷ 0x00000005 ∷ 0x00000004 ∷ 0xc0010413 ∷ 0x00400493 ∷ 0x02530333 ∷
      0x00128293 ∷ 0x33442303 ∷ 0x00630333 ∷ 0xfff48493 ∷ 0x00048463 ∷ 0xfe9ff06f ∷ 0x05d00893 ∷ 0x00000073 ∷
      [];
  cycles = 400;
  trace = lines (
      "1 fet:00010000 fet:00010004 fet:00010008 fet:0001000c" ∷
      "2 ren:0:00010000 ren:1:00010004 ren:2:00010008 ren:3:0001000c fet:00010010 fet:00010014 fet:00010018 fet:0001001c" ∷
      "3 alu:0 alu:1 mul:2 ren:4:00010010 ren:5:00010014 ren:6:00010018 ren:7:0001001c fet:00010020 fet:00010008 fet:0001000c fet:00010010" ∷
      "4 done:0 done:1 done:2 ret:0 ret:1 ret:2 alu:3 ld:4:00010f20:m alu:6 ren:8:00010020 ren:9:00010008 ren:10:0001000c ren:11:00010010 fet:00010014 fet:00010018 fet:0001001c fet:00010020" ∷
      "5 done:3 done:6 ret:3 alu:7 alu:8 ld:11:00010f20:j ren:12:00010014 ren:13:00010018 ren:14:0001001c ren:15:00010020 fet:00010008 fet:0001000c fet:00010010 fet:00010014" ∷
      "6 done:7 done:8 res:7:N bp:3:0 alu:10 alu:13 ren:16:00010008 ren:17:0001000c ren:18:00010010 ren:19:00010014 fet:00010018 fet:0001001c fet:00010020 fet:00010008" ∷
      "7 done:10 done:13 alu:14 alu:15 ld:18:00010f20:j ren:20:00010018 ren:21:0001001c ren:22:00010020 ren:23:00010008 fet:0001000c fet:00010010 fet:00010014 fet:00010018" ∷
      "8 done:14 done:15 res:14:N bp:3:0 alu:17 alu:20 ren:24:0001000c ren:25:00010010 ren:26:00010014 ren:27:00010018 fet:0001001c fet:00010020 fet:00010008 fet:0001000c" ∷
      "9 done:17 done:20 alu:21 alu:22 ld:25:00010f20:j ren:28:0001001c ren:29:00010020 ren:30:00010008 ren:31:0001000c fet:00010010 fet:00010014 fet:00010018 fet:0001001c" ∷
      "10 fill:00010f20 done:4 done:11 done:18 done:21 done:22 done:25 res:21:N bp:3:0 ret:4 alu:5 alu:12 ren:32:00010010 ren:33:00010014 ren:34:00010018 ren:35:0001001c fet:00010020 fet:00010008 fet:0001000c fet:00010010" ∷
      "11 done:5 done:12 ret:5 ret:6 ret:7 ret:8 mul:9 alu:19 alu:24 ld:32:00010f20:h ren:36:00010020 ren:37:00010008 ren:38:0001000c ren:39:00010010 fet:00010014 fet:00010018 fet:0001001c fet:00010020" ∷
      "12 done:9 done:19 done:24 ret:9 ret:10 ret:11 ret:12 mul:16 alu:26 alu:27 ld:39:00010f20:h ren:40:00010014 ren:41:00010018 ren:42:0001001c ren:43:00010020 fet:00010008 fet:0001000c fet:00010010 fet:00010014" ∷
      "13 done:16 done:26 done:27 ret:13 ret:14 ret:15 ret:16 mul:23 alu:28 alu:29 ren:44:00010008 ren:45:0001000c ren:46:00010010 fet:00010018 fet:0001001c fet:00010020 fet:00010008" ∷
      "14 done:23 done:28 done:29 done:32 res:28:T bp:3:1 sq:23 ret:17 ret:18 ret:19 ret:20 fet:00010024 fet:00010028 fet:0001002c" ∷
      "15 ret:21 ret:22 ret:23 ret:24 ren:47:00010024" ∷
      "16 ret:25 ret:26 ret:27 ret:28 alu:47" ∷
      "17 done:47 ret:47 ren:48:00010028" ∷
      "18 ret:48 call:48:0" ∷
      "end exit 0 retired 31 cycles 18" ∷
      []);
}
