-- Made by tools/evaluate/write: change what it reads, in tools/evaluate/runs, and run it again.
use Rattle.std.specs.Prelude.{[], ◌∷◌}
use Rattle.generated_runs.specs.Agreement.{Run, lines}

-- the run's code:
-- 00010000 beq x0,x0,+4
-- 00010004 addi x0,x0,0
-- 00010008 addi x0,x0,0
-- 0001000c addi x0,x0,0
-- 00010010 addi x0,x0,0
-- 00010014 addi x0,x0,0
-- 00010018 addi x0,x0,0
-- 0001001c addi x0,x0,0
-- 00010020 addi x0,x0,0
-- 00010024 addi x0,x0,0
-- 00010028 addi x0,x0,0
-- 0001002c bne x0,x0,+8
-- 00010030 addi x17,x0,93
-- 00010034 ecall
abbrev pub branch_to_the_next : Run
branch_to_the_next = record {
  description = lines (
      "version = 2" ∷
      "[core]" ∷
      "fetch_width = 2" ∷
      "retire_width = 2" ∷
      "rob = 16" ∷
      "stations = 8" ∷
      "loads = 4" ∷
      "stores = 4" ∷
      "queue = 8" ∷
      "[units]" ∷
      "alus = 2" ∷
      "mul_latency = 3" ∷
      "[predictor]" ∷
      "counters = 16" ∷
      "btb = 4" ∷
      "history = 2" ∷
      "[cache]" ∷
      "sets = 2" ∷
      "ways = 2" ∷
      "line = 16" ∷
      "hit_latency = 2" ∷
      "miss_latency = 10" ∷
      "mshrs = 2" ∷
      "[ram]" ∷
      "base = 65536" ∷
      "size = 65536" ∷
      "[stt]" ∷
      "model = \"spectre\"" ∷
      []);
  image =
      0x464c457f ∷ 0x00010101 ∷ 0x00000000 ∷ 0x00000000 ∷ 0x00f30002 ∷ 0x00000001 ∷ 0x00010000 ∷ 0x00000034 ∷
      0x00000000 ∷ 0x00000000 ∷ 0x00200034 ∷ 0x00000001 ∷ 0x00000000 ∷ 0x00000001 ∷ 0x00000054 ∷ 0x00010000 ∷
      0x00010000 ∷ 0x00000038 ∷ 0x00000038 ∷ 0x00000005 ∷ 0x00000004 ∷ 0x00000263 ∷ 0x00000013 ∷ 0x00000013 ∷
      0x00000013 ∷ 0x00000013 ∷ 0x00000013 ∷ 0x00000013 ∷ 0x00000013 ∷ 0x00000013 ∷ 0x00000013 ∷ 0x00000013 ∷
      0x00001463 ∷ 0x05d00893 ∷ 0x00000073 ∷
      [];
  cycles = 200;
  trace = lines (
      "1 fet:00010000 fet:00010004" ∷
      "2 ren:0:00010000 ren:1:00010004 fet:00010008 fet:0001000c" ∷
      "3 alu:0 alu:1 ren:2:00010008 ren:3:0001000c fet:00010010 fet:00010014" ∷
      "4 done:0 done:1 res:0:T bp:0:2 ret:0 ret:1 alu:2 alu:3 ren:4:00010010 ren:5:00010014 fet:00010018 fet:0001001c" ∷
      "5 done:2 done:3 ret:2 ret:3 alu:4 alu:5 ren:6:00010018 ren:7:0001001c fet:00010020 fet:00010024" ∷
      "6 done:4 done:5 ret:4 ret:5 alu:6 alu:7 ren:8:00010020 ren:9:00010024 fet:00010028 fet:0001002c" ∷
      "7 done:6 done:7 ret:6 ret:7 alu:8 alu:9 ren:10:00010028 ren:11:0001002c fet:00010030 fet:00010034" ∷
      "8 done:8 done:9 ret:8 ret:9 alu:10 alu:11 ren:12:00010030 fet:00010038" ∷
      "9 done:10 done:11 res:11:N bp:11:0 ret:10 ret:11 alu:12" ∷
      "10 done:12 ret:12 ren:13:00010034" ∷
      "11 ret:13 call:13:0" ∷
      "end exit 0 retired 14 cycles 11" ∷
      []);
}
