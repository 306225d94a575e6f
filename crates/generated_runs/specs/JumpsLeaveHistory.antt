-- Made by tools/evaluate/write: change what it reads, in tools/evaluate/runs, and run it again.
use Rattle.std.specs.Prelude.{[], ◌∷◌}
use Rattle.generated_runs.specs.Agreement.{Run, lines}

-- the run's code:
-- 00010000 jal x1,+4
-- 00010004 bne x0,x0,+8
-- 00010008 auipc x5,0x0
-- 0001000c jalr x1,8(x5)
-- 00010010 bne x0,x0,+8
-- 00010014 addi x17,x0,93
-- 00010018 ecall
abbrev pub jumps_leave_history : Run
jumps_leave_history = record {
  description = lines (
      "version = 2" ∷
      "[core]" ∷
      "fetch_width = 2" ∷
      "retire_width = 2" ∷
      "rob = 16" ∷
      "stations = 8" ∷
      "loads = 4" ∷
      "stores = 4" ∷
      "queue = 8" ∷
      "[units]" ∷
      "alus = 2" ∷
      "mul_latency = 3" ∷
      "[predictor]" ∷
      "counters = 16" ∷
      "btb = 4" ∷
      "history = 2" ∷
      "[cache]" ∷
      "sets = 2" ∷
      "ways = 2" ∷
      "line = 16" ∷
      "hit_latency = 2" ∷
      "miss_latency = 10" ∷
      "mshrs = 2" ∷
      "[ram]" ∷
      "base = 65536" ∷
      "size = 65536" ∷
      "[stt]" ∷
      "model = \"spectre\"" ∷
      []);
  image =
      0x464c457f ∷ 0x00010101 ∷ 0x00000000 ∷ 0x00000000 ∷ 0x00f30002 ∷ 0x00000001 ∷ 0x00010000 ∷ 0x00000034 ∷
      0x00000000 ∷ 0x00000000 ∷ 0x00200034 ∷ 0x00000001 ∷ 0x00000000 ∷ 0x00000001 ∷ 0x00000054 ∷ 0x00010000 ∷
      0x00010000 ∷ 0x0000001c ∷ 0x0000001c ∷ 0x00000005 ∷ 0x00000004 ∷ 0x004000ef ∷ 0x00001463 ∷ 0x00000297 ∷
      0x008280e7 ∷ 0x00001463 ∷ 0x05d00893 ∷ 0x00000073 ∷
      [];
  cycles = 200;
  trace = lines (
      "1 fet:00010000 fet:00010004" ∷
      "2 ren:0:00010000 ren:1:00010004 fet:00010008 fet:0001000c" ∷
      "3 alu:0 alu:1 ren:2:00010008 ren:3:0001000c fet:00010010 fet:00010014" ∷
      "4 done:0 done:1 res:1:N bp:1:0 ret:0 ret:1 alu:2 ren:4:00010010 ren:5:00010014 fet:00010018 fet:0001001c" ∷
      "5 done:2 ret:2 alu:3 alu:4" ∷
      "6 done:3 done:4 res:3:J bt:3:00010010 ret:3 alu:5" ∷
      "7 done:5 res:4:N bp:4:0 ret:4 ret:5 ren:6:00010018" ∷
      "8 ret:6 call:6:0" ∷
      "end exit 0 retired 7 cycles 8" ∷
      []);
}
