-- Made by tools/evaluate/write: change what it reads, in tools/evaluate/runs, and run it again.
use Rattle.std.specs.Prelude.{[], ◌∷◌}
use Rattle.generated_runs.specs.Agreement.{Run, lines}

-- the run's code:
-- 00010000 addi x5,x0,4
-- 00010004 addi x5,x5,-1
-- 00010008 bne x5,x0,-4
-- 0001000c addi x0,x0,0
-- 00010010 beq x0,x0,+6
-- 00010014 addi x6,x0,1
abbrev pub faulting_branch_squashes : Run
faulting_branch_squashes = record {
  description = lines (
      "[core]" ∷
      "fetch_width = 2" ∷
      "retire_width = 2" ∷
      "rob = 16" ∷
      "stations = 8" ∷
      "loads = 4" ∷
      "stores = 4" ∷
      "queue = 8" ∷
      "[units]" ∷
      "alus = 2" ∷
      "mul_latency = 3" ∷
      "[predictor]" ∷
      "counters = 2" ∷
      "btb = 4" ∷
      "[cache]" ∷
      "sets = 2" ∷
      "ways = 2" ∷
      "line = 16" ∷
      "hit_latency = 2" ∷
      "miss_latency = 10" ∷
      "mshrs = 2" ∷
      "[ram]" ∷
      "base = 65536" ∷
      "size = 65536" ∷
      "[stt]" ∷
      "model = \"spectre\"" ∷
      []);
  image =
      0x464c457f ∷ 0x00010101 ∷ 0x00000000 ∷ 0x00000000 ∷ 0x00f30002 ∷ 0x00000001 ∷ 0x00010000 ∷ 0x00000034 ∷
      0x00000000 ∷ 0x00000000 ∷ 0x00200034 ∷ 0x00000001 ∷ 0x00000000 ∷ 0x00000001 ∷ 0x00000054 ∷ 0x00010000 ∷
      0x00010000 ∷ 0x00000018 ∷ 0x00000018 ∷ 0x00000005 ∷ 0x00000004 ∷ 0x00400293 ∷ 0xfff28293 ∷ 0xfe029ee3 ∷
      0x00000013 ∷ 0x00000363 ∷ 0x00100313 ∷
      [];
  cycles = 60;
  trace = lines (
      "1 fet:00010000 fet:00010004" ∷
      "2 ren:0:00010000 ren:1:00010004 fet:00010008 fet:0001000c" ∷
      "3 alu:0 ren:2:00010008 ren:3:0001000c fet:00010010 fet:00010014" ∷
      "4 done:0 ret:0 alu:1 alu:3 ren:4:00010010 ren:5:00010014 fet:00010018" ∷
      "5 done:1 done:3 ret:1 alu:2 alu:4 ren:6:00010018" ∷
      "6 done:2 done:4 res:2:T bp:0:2 sq:4 ret:2 fet:00010004 fet:00010008" ∷
      "7 ren:7:00010004 ren:8:00010008 fet:00010004 fet:00010008" ∷
      "8 alu:7 ren:9:00010004 ren:10:00010008 fet:00010004 fet:00010008" ∷
      "9 done:7 ret:7 alu:8 alu:9 ren:11:00010004 ren:12:00010008 fet:00010004 fet:00010008" ∷
      "10 done:8 done:9 res:8:T bp:0:3 ret:8 ret:9 alu:10 alu:11 ren:13:00010004 ren:14:00010008 fet:00010004 fet:00010008" ∷
      "11 done:10 done:11 res:10:T bp:0:3 ret:10 ret:11 alu:12 alu:13 ren:15:00010004 ren:16:00010008 fet:00010004 fet:00010008" ∷
      "12 done:12 done:13 res:12:N bp:0:2 sq:6 ret:12 fet:0001000c fet:00010010" ∷
      "13 ren:17:0001000c ren:18:00010010 fet:00010016" ∷
      "14 alu:17 alu:18 ren:19:00010016" ∷
      "15 done:17 done:18 res:18:T bp:0:3 sq:1 ret:17" ∷
      "end trap 0 00010010 retired 10 cycles 15" ∷
      []);
}
