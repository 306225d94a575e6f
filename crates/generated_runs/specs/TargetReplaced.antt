-- Made by tools/evaluate/write: change what it reads, in tools/evaluate/runs, and run it again.
use Rattle.std.specs.Prelude.{[], ◌∷◌}
use Rattle.generated_runs.specs.Agreement.{Run, lines}

-- the run's code:
-- 00010000 auipc x6,0x0
-- 00010004 addi x5,x0,2
-- 00010008 jalr x0,16(x6)
-- 0001000c 00000000, which is no instruction
-- 00010010 jalr x0,24(x6)
-- 00010014 00000000, which is no instruction
-- 00010018 addi x5,x5,-1
-- 0001001c bne x5,x0,-12
-- 00010020 addi x17,x0,93
-- 00010024 ecall
abbrev pub target_replaced : Run
target_replaced = record {
  description = lines (
      "[core]" ∷
      "fetch_width = 2" ∷
      "retire_width = 2" ∷
      "rob = 16" ∷
      "stations = 8" ∷
      "loads = 4" ∷
      "stores = 4" ∷
      "queue = 8" ∷
      "[units]" ∷
      "alus = 2" ∷
      "mul_latency = 3" ∷
      "[predictor]" ∷
      "counters = 16" ∷
      "btb = 1" ∷
      "[cache]" ∷
      "sets = 2" ∷
      "ways = 2" ∷
      "line = 16" ∷
      "hit_latency = 2" ∷
      "miss_latency = 10" ∷
      "mshrs = 2" ∷
      "[ram]" ∷
      "base = 65536" ∷
      "size = 65536" ∷
      "[stt]" ∷
      "model = \"spectre\"" ∷
      []);
  image =
      0x464c457f ∷ 0x00010101 ∷ 0x00000000 ∷ 0x00000000 ∷ 0x00f30002 ∷ 0x00000001 ∷ 0x00010000 ∷ 0x00000034 ∷
      0x00000000 ∷ 0x00000000 ∷ 0x00200034 ∷ 0x00000001 ∷ 0x00000000 ∷ 0x00000001 ∷ 0x00000054 ∷ 0x00010000 ∷
      0x00010000 ∷ 0x00000028 ∷ 0x00000028 ∷ 0x00000005 ∷ 0x00000004 ∷ 0x00000317 ∷ 0x00200293 ∷ 0x01030067 ∷
      0x00000000 ∷ 0x01830067 ∷ 0x00000000 ∷ 0xfff28293 ∷ 0xfe029ae3 ∷ 0x05d00893 ∷ 0x00000073 ∷
      [];
  cycles = 90;
  trace = lines (
      "1 fet:00010000 fet:00010004" ∷
      "2 ren:0:00010000 ren:1:00010004 fet:00010008 fet:0001000c" ∷
      "3 alu:0 alu:1 ren:2:00010008 ren:3:0001000c" ∷
      "4 done:0 done:1 ret:0 ret:1 alu:2" ∷
      "5 done:2 res:2:J bt:0:00010010 sq:1 ret:2 fet:00010010 fet:00010014" ∷
      "6 ren:4:00010010 ren:5:00010014" ∷
      "7 alu:4" ∷
      "8 done:4 res:4:J bt:0:00010018 sq:1 ret:4 fet:00010018 fet:0001001c" ∷
      "9 ren:6:00010018 ren:7:0001001c fet:00010020 fet:00010024" ∷
      "10 alu:6 ren:8:00010020 fet:00010028" ∷
      "11 done:6 ret:6 alu:7 alu:8" ∷
      "12 done:7 done:8 res:7:T bp:7:2 sq:3 ret:7 fet:00010010 fet:00010018" ∷
      "13 ren:9:00010010 ren:10:00010018 fet:0001001c fet:00010010" ∷
      "14 alu:9 alu:10 ren:11:0001001c ren:12:00010010 fet:00010018 fet:0001001c" ∷
      "15 done:9 done:10 res:9:J bt:0:00010018 ret:9 ret:10 alu:11 alu:12 ren:13:00010018 ren:14:0001001c fet:00010010 fet:00010018" ∷
      "16 done:11 done:12 res:11:N bp:7:1 sq:5 ret:11 fet:00010020 fet:00010024" ∷
      "17 ren:15:00010020 fet:00010028" ∷
      "18 alu:15" ∷
      "19 done:15 ret:15 ren:16:00010024" ∷
      "20 ret:16 call:16:0" ∷
      "end exit 0 retired 11 cycles 20" ∷
      []);
}
