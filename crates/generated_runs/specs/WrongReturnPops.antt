-- Made by tools/evaluate/write: change what it reads, in tools/evaluate/runs, and run it again.
use Rattle.std.specs.Prelude.{[], ◌∷◌}
use Rattle.generated_runs.specs.Agreement.{Run, lines}

-- the run's code:
-- 00010000 jal x1,+12
-- 00010004 addi x17,x0,93
-- 00010008 ecall
-- 0001000c addi x6,x1,0
-- 00010010 jal x1,+16
-- 00010014 addi x0,x0,0
-- 00010018 addi x1,x6,0
-- 0001001c jalr x0,0(x1)
-- 00010020 jalr x0,4(x1)
abbrev pub wrong_return_pops : Run
wrong_return_pops = record {
  description = lines (
      "version = 2" ∷
      "[core]" ∷
      "fetch_width = 2" ∷
      "retire_width = 2" ∷
      "rob = 16" ∷
      "stations = 8" ∷
      "loads = 4" ∷
      "stores = 4" ∷
      "queue = 8" ∷
      "[units]" ∷
      "alus = 2" ∷
      "mul_latency = 3" ∷
      "[predictor]" ∷
      "counters = 16" ∷
      "btb = 4" ∷
      "returns = 4" ∷
      "[cache]" ∷
      "sets = 2" ∷
      "ways = 2" ∷
      "line = 16" ∷
      "hit_latency = 2" ∷
      "miss_latency = 10" ∷
      "mshrs = 2" ∷
      "[ram]" ∷
      "base = 65536" ∷
      "size = 65536" ∷
      "[stt]" ∷
      "model = \"spectre\"" ∷
      []);
  image =
      0x464c457f ∷ 0x00010101 ∷ 0x00000000 ∷ 0x00000000 ∷ 0x00f30002 ∷ 0x00000001 ∷ 0x00010000 ∷ 0x00000034 ∷
      0x00000000 ∷ 0x00000000 ∷ 0x00200034 ∷ 0x00000001 ∷ 0x00000000 ∷ 0x00000001 ∷ 0x00000054 ∷ 0x00010000 ∷
      0x00010000 ∷ 0x00000024 ∷ 0x00000024 ∷ 0x00000005 ∷ 0x00000004 ∷ 0x00c000ef ∷ 0x05d00893 ∷ 0x00000073 ∷
      0x00008313 ∷ 0x010000ef ∷ 0x00000013 ∷ 0x00030093 ∷ 0x00008067 ∷ 0x00408067 ∷
      [];
  cycles = 200;
  trace = lines (
      "1 fet:00010000 fet:0001000c" ∷
      "2 ren:0:00010000 ren:1:0001000c fet:00010010 fet:00010020" ∷
      "3 alu:0 ren:2:00010010 ren:3:00010020 fet:00010014 fet:00010018" ∷
      "4 done:0 ret:0 alu:1 alu:2 ren:4:00010014 ren:5:00010018 fet:0001001c fet:00010004" ∷
      "5 done:1 done:2 ret:1 ret:2 alu:3 alu:4 ren:6:0001001c ren:7:00010004 fet:00010008 fet:0001000c" ∷
      "6 done:3 done:4 res:3:J bt:0:00010018 sq:6 ret:3 fet:00010018 fet:0001001c" ∷
      "7 ren:8:00010018 ren:9:0001001c fet:00010004 fet:00010008" ∷
      "8 alu:8 ren:10:00010004 fet:0001000c fet:00010010" ∷
      "9 done:8 ret:8 alu:9 alu:10 fet:00010020 fet:00010014" ∷
      "10 done:9 done:10 res:9:J bt:3:00010004 ret:9 ret:10 ren:11:00010008 fet:00010018 fet:0001001c" ∷
      "11 ret:11 call:11:0" ∷
      "end exit 0 retired 8 cycles 11" ∷
      []);
}
