-- Made by tools/evaluate/write: change what it reads, in tools/evaluate/runs, and run it again.
use Rattle.std.specs.Prelude.{[], ◌∷◌}
use Rattle.generated_runs.specs.Agreement.{Run, lines}

-- the run's code:
-- 00010000 addi x5,x0,4
-- 00010004 addi x5,x5,-1
-- 00010008 bne x5,x0,-4
-- 0001000c addi x17,x0,93
-- 00010010 ecall
abbrev pub short_history : Run
short_history = record {
  description = lines (
      "version = 2" ∷
      "[core]" ∷
      "fetch_width = 2" ∷
      "retire_width = 2" ∷
      "rob = 16" ∷
      "stations = 8" ∷
      "loads = 4" ∷
      "stores = 4" ∷
      "queue = 8" ∷
      "[units]" ∷
      "alus = 2" ∷
      "mul_latency = 3" ∷
      "[predictor]" ∷
      "counters = 16" ∷
      "btb = 4" ∷
      "history = 1" ∷
      "[cache]" ∷
      "sets = 2" ∷
      "ways = 2" ∷
      "line = 16" ∷
      "hit_latency = 2" ∷
      "miss_latency = 10" ∷
      "mshrs = 2" ∷
      "[ram]" ∷
      "base = 65536" ∷
      "size = 65536" ∷
      "[stt]" ∷
      "model = \"spectre\"" ∷
      []);
  image =
      0x464c457f ∷ 0x00010101 ∷ 0x00000000 ∷ 0x00000000 ∷ 0x00f30002 ∷ 0x00000001 ∷ 0x00010000 ∷ 0x00000034 ∷
      0x00000000 ∷ 0x00000000 ∷ 0x00200034 ∷ 0x00000001 ∷ 0x00000000 ∷ 0x00000001 ∷ 0x00000054 ∷ 0x00010000 ∷
      0x00010000 ∷ 0x00000014 ∷ 0x00000014 ∷ 0x00000005 ∷ 0x00000004 ∷ 0x00400293 ∷ 0xfff28293 ∷ 0xfe029ee3 ∷
      0x05d00893 ∷ 0x00000073 ∷
      [];
  cycles = 200;
  trace = lines (
      "1 fet:00010000 fet:00010004" ∷
      "2 ren:0:00010000 ren:1:00010004 fet:00010008 fet:0001000c" ∷
      "3 alu:0 ren:2:00010008 ren:3:0001000c fet:00010010 fet:00010014" ∷
      "4 done:0 ret:0 alu:1 alu:3" ∷
      "5 done:1 done:3 ret:1 alu:2" ∷
      "6 done:2 res:2:T bp:2:2 sq:3 ret:2 fet:00010004 fet:00010008" ∷
      "7 ren:4:00010004 ren:5:00010008 fet:0001000c fet:00010010" ∷
      "8 alu:4 ren:6:0001000c fet:00010014" ∷
      "9 done:4 ret:4 alu:5 alu:6" ∷
      "10 done:5 done:6 res:5:T bp:3:2 sq:3 ret:5 fet:00010004 fet:00010008" ∷
      "11 ren:7:00010004 ren:8:00010008 fet:00010004 fet:00010008" ∷
      "12 alu:7 ren:9:00010004 ren:10:00010008 fet:00010004 fet:00010008" ∷
      "13 done:7 ret:7 alu:8 alu:9 ren:11:00010004 ren:12:00010008 fet:00010004 fet:00010008" ∷
      "14 done:8 done:9 res:8:T bp:3:3 ret:8 ret:9 alu:10 alu:11 ren:13:00010004 ren:14:00010008 fet:00010004 fet:00010008" ∷
      "15 done:10 done:11 res:10:N bp:3:2 sq:6 ret:10 fet:0001000c fet:00010010" ∷
      "16 ren:15:0001000c fet:00010014" ∷
      "17 alu:15" ∷
      "18 done:15 ret:15 ren:16:00010010" ∷
      "19 ret:16 call:16:0" ∷
      "end exit 0 retired 11 cycles 19" ∷
      []);
}
