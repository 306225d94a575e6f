-- Made by tools/evaluate/write: change what it reads, in tools/evaluate/runs, and run it again.
use Rattle.std.specs.Prelude.{[], ◌∷◌}
use Rattle.generated_runs.specs.Agreement.{Run, lines}

-- the run's code:
-- 00010000 jal x1,+12
-- 00010004 addi x17,x0,93
-- 00010008 ecall
-- 0001000c addi x10,x1,0
-- 00010010 jal x1,+12
-- 00010014 addi x1,x10,0
-- 00010018 jalr x0,0(x1)
-- 0001001c addi x11,x1,0
-- 00010020 jal x1,+12
-- 00010024 addi x1,x11,0
-- 00010028 jalr x0,0(x1)
-- 0001002c addi x12,x1,0
-- 00010030 jal x1,+12
-- 00010034 addi x1,x12,0
-- 00010038 jalr x0,0(x1)
-- 0001003c addi x13,x1,0
-- 00010040 jal x1,+12
-- 00010044 addi x1,x13,0
-- 00010048 jalr x0,0(x1)
-- 0001004c jalr x0,0(x1)
abbrev pub five_returns : Run
five_returns = record {
  description = lines (
      "version = 2" ∷
      "[core]" ∷
      "fetch_width = 2" ∷
      "retire_width = 2" ∷
      "rob = 16" ∷
      "stations = 8" ∷
      "loads = 4" ∷
      "stores = 4" ∷
      "queue = 8" ∷
      "[units]" ∷
      "alus = 2" ∷
      "mul_latency = 3" ∷
      "[predictor]" ∷
      "counters = 16" ∷
      "btb = 4" ∷
      "depend = 0" ∷
      "history = 0" ∷
      "returns = 5" ∷
      "[cache]" ∷
      "sets = 2" ∷
      "ways = 2" ∷
      "line = 16" ∷
      "hit_latency = 2" ∷
      "miss_latency = 10" ∷
      "mshrs = 2" ∷
      "second_sets = 0" ∷
      "second_ways = 1" ∷
      "second_latency = 2" ∷
      "prefetch = 0" ∷
      "[ram]" ∷
      "base = 65536" ∷
      "size = 65536" ∷
      "misaligned = 0" ∷
      "[stt]" ∷
      "model = \"spectre\"" ∷
      "defence = \"stt\"" ∷
      []);
  image =
      0x464c457f ∷ 0x00010101 ∷ 0x00000000 ∷ 0x00000000 ∷ 0x00f30002 ∷ 0x00000001 ∷ 0x00010000 ∷ 0x00000034 ∷
      0x00000000 ∷ 0x00000000 ∷ 0x00200034 ∷ 0x00000001 ∷ 0x00000000 ∷ 0x00000001 ∷ 0x00000054 ∷ 0x00010000 ∷
      0x00010000 ∷ 0x00000050 ∷ 0x00000050 ∷ 0x00000005 ∷ 0x00000004 ∷ 0x00c000ef ∷ 0x05d00893 ∷ 0x00000073 ∷
      0x00008513 ∷ 0x00c000ef ∷ 0x00050093 ∷ 0x00008067 ∷ 0x00008593 ∷ 0x00c000ef ∷ 0x00058093 ∷ 0x00008067 ∷
      0x00008613 ∷ 0x00c000ef ∷ 0x00060093 ∷ 0x00008067 ∷ 0x00008693 ∷ 0x00c000ef ∷ 0x00068093 ∷ 0x00008067 ∷
      0x00008067 ∷
      [];
  cycles = 160;
  trace = lines (
      "1 fet:00010000 fet:0001000c" ∷
      "2 ren:0:00010000 ren:1:0001000c fet:00010010 fet:0001001c" ∷
      "3 alu:0 ren:2:00010010 ren:3:0001001c fet:00010020 fet:0001002c" ∷
      "4 done:0 ret:0 alu:1 alu:2 ren:4:00010020 ren:5:0001002c fet:00010030 fet:0001003c" ∷
      "5 done:1 done:2 ret:1 ret:2 alu:3 alu:4 ren:6:00010030 ren:7:0001003c fet:00010040 fet:0001004c" ∷
      "6 done:3 done:4 ret:3 ret:4 alu:5 alu:6 ren:8:00010040 ren:9:0001004c fet:00010044 fet:00010048" ∷
      "7 done:5 done:6 ret:5 ret:6 alu:7 alu:8 ren:10:00010044 ren:11:00010048 fet:00010034 fet:00010038" ∷
      "8 done:7 done:8 ret:7 ret:8 alu:9 alu:10 ren:12:00010034 ren:13:00010038 fet:00010024 fet:00010028" ∷
      "9 done:9 done:10 res:9:J bt:3:00010044 ret:9 ret:10 alu:11 alu:12 ren:14:00010024 ren:15:00010028 fet:00010014 fet:00010018" ∷
      "10 done:11 done:12 res:11:J bt:2:00010034 ret:11 ret:12 alu:13 alu:14 ren:16:00010014 ren:17:00010018 fet:00010004 fet:00010008" ∷
      "11 done:13 done:14 res:13:J bt:2:00010024 ret:13 ret:14 alu:15 alu:16 ren:18:00010004 fet:0001000c fet:00010010" ∷
      "12 done:15 done:16 res:15:J bt:2:00010014 ret:15 ret:16 alu:17 alu:18 fet:0001001c fet:00010020" ∷
      "13 done:17 done:18 res:17:J bt:2:00010004 ret:17 ret:18 ren:19:00010008 fet:0001002c fet:00010030" ∷
      "14 ret:19 call:19:0" ∷
      "end exit 65540 retired 20 cycles 14" ∷
      []);
}
