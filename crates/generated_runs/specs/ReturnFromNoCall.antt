-- Made by tools/evaluate/write: change what it reads, in tools/evaluate/runs, and run it again.
use Rattle.std.specs.Prelude.{[], ◌∷◌}
use Rattle.generated_runs.specs.Agreement.{Run, lines}

-- the run's code:
-- 00010000 addi x5,x0,2
-- 00010004 auipc x1,0x0
-- 00010008 jalr x0,12(x1)
-- 0001000c ecall
-- 00010010 addi x5,x5,-1
-- 00010014 bne x5,x0,-16
-- 00010018 addi x17,x0,93
-- 0001001c ecall
abbrev pub return_from_no_call : Run
return_from_no_call = record {
  description = lines (
      "version = 2" ∷
      "[core]" ∷
      "fetch_width = 2" ∷
      "retire_width = 2" ∷
      "rob = 16" ∷
      "stations = 8" ∷
      "loads = 4" ∷
      "stores = 4" ∷
      "queue = 8" ∷
      "[units]" ∷
      "alus = 2" ∷
      "mul_latency = 3" ∷
      "[predictor]" ∷
      "counters = 16" ∷
      "btb = 4" ∷
      "returns = 4" ∷
      "[cache]" ∷
      "sets = 2" ∷
      "ways = 2" ∷
      "line = 16" ∷
      "hit_latency = 2" ∷
      "miss_latency = 10" ∷
      "mshrs = 2" ∷
      "[ram]" ∷
      "base = 65536" ∷
      "size = 65536" ∷
      "[stt]" ∷
      "model = \"spectre\"" ∷
      []);
  image =
      0x464c457f ∷ 0x00010101 ∷ 0x00000000 ∷ 0x00000000 ∷ 0x00f30002 ∷ 0x00000001 ∷ 0x00010000 ∷ 0x00000034 ∷
      0x00000000 ∷ 0x00000000 ∷ 0x00200034 ∷ 0x00000001 ∷ 0x00000000 ∷ 0x00000001 ∷ 0x00000054 ∷ 0x00010000 ∷
      0x00010000 ∷ 0x00000020 ∷ 0x00000020 ∷ 0x00000005 ∷ 0x00000004 ∷ 0x00200293 ∷ 0x00000097 ∷ 0x00c08067 ∷
      0x00000073 ∷ 0xfff28293 ∷ 0xfe0298e3 ∷ 0x05d00893 ∷ 0x00000073 ∷
      [];
  cycles = 200;
  trace = lines (
      "1 fet:00010000 fet:00010004" ∷
      "2 ren:0:00010000 ren:1:00010004 fet:00010008 fet:0001000c" ∷
      "3 alu:0 alu:1 ren:2:00010008 fet:00010010 fet:00010014" ∷
      "4 done:0 done:1 ret:0 ret:1 alu:2 fet:00010018 fet:0001001c" ∷
      "5 done:2 res:2:J bt:2:00010010 sq:5 ret:2 fet:00010010 fet:00010014" ∷
      "6 ren:3:00010010 ren:4:00010014 fet:00010018 fet:0001001c" ∷
      "7 alu:3 ren:5:00010018 fet:00010020" ∷
      "8 done:3 ret:3 alu:4 alu:5" ∷
      "9 done:4 done:5 res:4:T bp:5:2 sq:3 ret:4 fet:00010004 fet:00010008" ∷
      "10 ren:6:00010004 ren:7:00010008 fet:00010010 fet:00010014" ∷
      "11 alu:6 ren:8:00010010 ren:9:00010014 fet:00010004 fet:00010008" ∷
      "12 done:6 ret:6 alu:7 alu:8 ren:10:00010004 ren:11:00010008 fet:00010010 fet:00010014" ∷
      "13 done:7 done:8 res:7:J bt:2:00010010 ret:7 ret:8 alu:9 alu:10 ren:12:00010010 ren:13:00010014 fet:00010004 fet:00010008" ∷
      "14 done:9 done:10 res:9:N bp:5:1 sq:6 ret:9 fet:00010018 fet:0001001c" ∷
      "15 ren:14:00010018 fet:00010020" ∷
      "16 alu:14" ∷
      "17 done:14 ret:14 ren:15:0001001c" ∷
      "18 ret:15 call:15:0" ∷
      "end exit 0 retired 11 cycles 18" ∷
      []);
}
