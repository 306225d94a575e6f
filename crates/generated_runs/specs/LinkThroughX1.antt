-- Made by tools/evaluate/write: change what it reads, in tools/evaluate/runs, and run it again.
use Rattle.std.specs.Prelude.{[], ◌∷◌}
use Rattle.generated_runs.specs.Agreement.{Run, lines}

-- the run's code:
-- 00010000 jal x1,+12
-- 00010004 addi x17,x0,93
-- 00010008 ecall
-- 0001000c addi x6,x1,0
-- 00010010 jalr x1,24(x1)
-- 00010014 addi x1,x6,0
-- 00010018 jalr x0,0(x1)
-- 0001001c jalr x0,0(x1)
abbrev pub link_through_x1 : Run
link_through_x1 = record {
  description = lines (
      "version = 2" ∷
      "[core]" ∷
      "fetch_width = 2" ∷
      "retire_width = 2" ∷
      "rob = 16" ∷
      "stations = 8" ∷
      "loads = 4" ∷
      "stores = 4" ∷
      "queue = 8" ∷
      "[units]" ∷
      "alus = 2" ∷
      "mul_latency = 3" ∷
      "[predictor]" ∷
      "counters = 16" ∷
      "btb = 4" ∷
      "returns = 4" ∷
      "[cache]" ∷
      "sets = 2" ∷
      "ways = 2" ∷
      "line = 16" ∷
      "hit_latency = 2" ∷
      "miss_latency = 10" ∷
      "mshrs = 2" ∷
      "[ram]" ∷
      "base = 65536" ∷
      "size = 65536" ∷
      "[stt]" ∷
      "model = \"spectre\"" ∷
      []);
  image =
      0x464c457f ∷ 0x00010101 ∷ 0x00000000 ∷ 0x00000000 ∷ 0x00f30002 ∷ 0x00000001 ∷ 0x00010000 ∷ 0x00000034 ∷
      0x00000000 ∷ 0x00000000 ∷ 0x00200034 ∷ 0x00000001 ∷ 0x00000000 ∷ 0x00000001 ∷ 0x00000054 ∷ 0x00010000 ∷
      0x00010000 ∷ 0x00000020 ∷ 0x00000020 ∷ 0x00000005 ∷ 0x00000004 ∷ 0x00c000ef ∷ 0x05d00893 ∷ 0x00000073 ∷
      0x00008313 ∷ 0x018080e7 ∷ 0x00030093 ∷ 0x00008067 ∷ 0x00008067 ∷
      [];
  cycles = 200;
  trace = lines (
      "1 fet:00010000 fet:0001000c" ∷
      "2 ren:0:00010000 ren:1:0001000c fet:00010010 fet:00010014" ∷
      "3 alu:0 ren:2:00010010 ren:3:00010014 fet:00010018 fet:00010014" ∷
      "4 done:0 ret:0 alu:1 alu:2 ren:4:00010018 ren:5:00010014 fet:00010018 fet:00010004" ∷
      "5 done:1 done:2 res:2:J bt:0:0001001c sq:5 ret:1 ret:2 fet:0001001c fet:00010014" ∷
      "6 ren:6:0001001c ren:7:00010014 fet:00010018 fet:00010004" ∷
      "7 alu:6 alu:7 ren:8:00010018 ren:9:00010004 fet:00010008 fet:0001000c" ∷
      "8 done:6 done:7 res:6:J bt:3:00010014 ret:6 ret:7 alu:8 alu:9 fet:00010010 fet:0001001c" ∷
      "9 done:8 done:9 res:8:J bt:2:00010004 ret:8 ret:9 ren:10:00010008 fet:00010014 fet:00010018" ∷
      "10 ret:10 call:10:0" ∷
      "end exit 0 retired 8 cycles 10" ∷
      []);
}
