-- Made by tools/evaluate/write: change what it reads, in tools/evaluate/runs, and run it again.
use Rattle.std.specs.Prelude.{[], ◌∷◌}
use Rattle.generated_runs.specs.Agreement.{Run, lines}

-- the run's code:
-- 00010000 addi x5,x0,9
-- 00010004 addi x5,x5,-1
-- 00010008 bne x5,x0,-4
-- 0001000c addi x17,x0,93
-- 00010010 ecall
abbrev pub seven_digits_of_history : Run
seven_digits_of_history = record {
  description = lines (
      "version = 2" ∷
      "[core]" ∷
      "fetch_width = 2" ∷
      "retire_width = 2" ∷
      "rob = 16" ∷
      "stations = 8" ∷
      "loads = 4" ∷
      "stores = 4" ∷
      "queue = 8" ∷
      "[units]" ∷
      "alus = 2" ∷
      "mul_latency = 3" ∷
      "[predictor]" ∷
      "counters = 128" ∷
      "btb = 4" ∷
      "depend = 0" ∷
      "history = 7" ∷
      "returns = 0" ∷
      "[cache]" ∷
      "sets = 2" ∷
      "ways = 2" ∷
      "line = 16" ∷
      "hit_latency = 2" ∷
      "miss_latency = 10" ∷
      "mshrs = 2" ∷
      "second_sets = 0" ∷
      "second_ways = 1" ∷
      "second_latency = 2" ∷
      "prefetch = 0" ∷
      "[ram]" ∷
      "base = 65536" ∷
      "size = 65536" ∷
      "misaligned = 0" ∷
      "[stt]" ∷
      "model = \"spectre\"" ∷
      "defence = \"stt\"" ∷
      []);
  image =
      0x464c457f ∷ 0x00010101 ∷ 0x00000000 ∷ 0x00000000 ∷ 0x00f30002 ∷ 0x00000001 ∷ 0x00010000 ∷ 0x00000034 ∷
      0x00000000 ∷ 0x00000000 ∷ 0x00200034 ∷ 0x00000001 ∷ 0x00000000 ∷ 0x00000001 ∷ 0x00000054 ∷ 0x00010000 ∷
      0x00010000 ∷ 0x00000014 ∷ 0x00000014 ∷ 0x00000005 ∷ 0x00000004 ∷ 0x00900293 ∷ 0xfff28293 ∷ 0xfe029ee3 ∷
      0x05d00893 ∷ 0x00000073 ∷
      [];
  cycles = 200;
  trace = lines (
      "1 fet:00010000 fet:00010004" ∷
      "2 ren:0:00010000 ren:1:00010004 fet:00010008 fet:0001000c" ∷
      "3 alu:0 ren:2:00010008 ren:3:0001000c fet:00010010 fet:00010014" ∷
      "4 done:0 ret:0 alu:1 alu:3" ∷
      "5 done:1 done:3 ret:1 alu:2" ∷
      "6 done:2 res:2:T bp:2:2 sq:3 ret:2 fet:00010004 fet:00010008" ∷
      "7 ren:4:00010004 ren:5:00010008 fet:0001000c fet:00010010" ∷
      "8 alu:4 ren:6:0001000c fet:00010014" ∷
      "9 done:4 ret:4 alu:5 alu:6" ∷
      "10 done:5 done:6 res:5:T bp:3:2 sq:3 ret:5 fet:00010004 fet:00010008" ∷
      "11 ren:7:00010004 ren:8:00010008 fet:0001000c fet:00010010" ∷
      "12 alu:7 ren:9:0001000c fet:00010014" ∷
      "13 done:7 ret:7 alu:8 alu:9" ∷
      "14 done:8 done:9 res:8:T bp:1:2 sq:3 ret:8 fet:00010004 fet:00010008" ∷
      "15 ren:10:00010004 ren:11:00010008 fet:0001000c fet:00010010" ∷
      "16 alu:10 ren:12:0001000c fet:00010014" ∷
      "17 done:10 ret:10 alu:11 alu:12" ∷
      "18 done:11 done:12 res:11:T bp:5:2 sq:3 ret:11 fet:00010004 fet:00010008" ∷
      "19 ren:13:00010004 ren:14:00010008 fet:0001000c fet:00010010" ∷
      "20 alu:13 ren:15:0001000c fet:00010014" ∷
      "21 done:13 ret:13 alu:14 alu:15" ∷
      "22 done:14 done:15 res:14:T bp:13:2 sq:3 ret:14 fet:00010004 fet:00010008" ∷
      "23 ren:16:00010004 ren:17:00010008 fet:0001000c fet:00010010" ∷
      "24 alu:16 ren:18:0001000c fet:00010014" ∷
      "25 done:16 ret:16 alu:17 alu:18" ∷
      "26 done:17 done:18 res:17:T bp:29:2 sq:3 ret:17 fet:00010004 fet:00010008" ∷
      "27 ren:19:00010004 ren:20:00010008 fet:0001000c fet:00010010" ∷
      "28 alu:19 ren:21:0001000c fet:00010014" ∷
      "29 done:19 ret:19 alu:20 alu:21" ∷
      "30 done:20 done:21 res:20:T bp:61:2 sq:3 ret:20 fet:00010004 fet:00010008" ∷
      "31 ren:22:00010004 ren:23:00010008 fet:0001000c fet:00010010" ∷
      "32 alu:22 ren:24:0001000c fet:00010014" ∷
      "33 done:22 ret:22 alu:23 alu:24" ∷
      "34 done:23 done:24 res:23:T bp:125:2 sq:3 ret:23 fet:00010004 fet:00010008" ∷
      "35 ren:25:00010004 ren:26:00010008 fet:00010004 fet:00010008" ∷
      "36 alu:25 ren:27:00010004 ren:28:00010008 fet:00010004 fet:00010008" ∷
      "37 done:25 ret:25 alu:26 alu:27 ren:29:00010004 ren:30:00010008 fet:00010004 fet:00010008" ∷
      "38 done:26 done:27 res:26:N bp:125:1 sq:6 ret:26 fet:0001000c fet:00010010" ∷
      "39 ren:31:0001000c fet:00010014" ∷
      "40 alu:31" ∷
      "41 done:31 ret:31 ren:32:00010010" ∷
      "42 ret:32 call:32:0" ∷
      "end exit 0 retired 21 cycles 42" ∷
      []);
}
