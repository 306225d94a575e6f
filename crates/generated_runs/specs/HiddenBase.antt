-- Made by tools/evaluate/write: change what it reads, in tools/evaluate/runs, and run it again.
use Rattle.std.specs.Prelude.{[], ◌∷◌}
use Rattle.generated_runs.specs.Agreement.{Run, lines}

-- the run's code:
-- 00010000 lw x5,0(x2)
-- 00010004 mul x5,x5,x5
-- 00010008 bgeu x0,x5,+20
-- 0001000c lbu x6,8(x2)
-- 00010010 slli x6,x6,4
-- 00010014 add x6,x6,x2
-- 00010018 lw x7,-2048(x6)
-- 0001001c addi x17,x0,93
-- 00010020 ecall
abbrev pub hidden_base : Run
hidden_base = record {
  description = lines (
      "version = 2" ∷
      "[core]" ∷
      "fetch_width = 2" ∷
      "retire_width = 2" ∷
      "rob = 16" ∷
      "stations = 8" ∷
      "loads = 4" ∷
      "stores = 4" ∷
      "queue = 8" ∷
      "[units]" ∷
      "alus = 2" ∷
      "mul_latency = 3" ∷
      "[predictor]" ∷
      "counters = 16" ∷
      "btb = 4" ∷
      "[cache]" ∷
      "sets = 2" ∷
      "ways = 2" ∷
      "line = 16" ∷
      "hit_latency = 2" ∷
      "miss_latency = 10" ∷
      "mshrs = 2" ∷
      "[ram]" ∷
      "base = 65536" ∷
      "size = 65536" ∷
      "[stt]" ∷
      "model = \"spectre\"" ∷
      []);
  image =
      0x464c457f ∷ 0x00010101 ∷ 0x00000000 ∷ 0x00000000 ∷ 0x00f30002 ∷ 0x00000001 ∷ 0x00010000 ∷ 0x00000034 ∷
      0x00000000 ∷ 0x00000000 ∷ 0x00200034 ∷ 0x00000002 ∷ 0x00000000 ∷ 0x00000001 ∷ 0x00000074 ∷ 0x00010000 ∷
      0x00010000 ∷ 0x00000024 ∷ 0x00000024 ∷ 0x00000005 ∷ 0x00000004 ∷ 0x00000001 ∷ 0x00000098 ∷ 0x0001fff0 ∷
      0x0001fff0 ∷ 0x0000000c ∷ 0x0000000c ∷ 0x00000006 ∷ 0x00000004 ∷ 0x00012283 ∷ 0x025282b3 ∷ 0x00507a63 ∷
      0x00814303 ∷ 0x00431313 ∷ 0x00230333 ∷ 0x80032383 ∷ 0x05d00893 ∷ 0x00000073 ∷ 0x00000000 ∷ 0x00000000 ∷
      0x00000011 ∷
      [];
  cycles = 100;
  trace = lines (
      "1 fet:00010000 fet:00010004" ∷
      "2 ren:0:00010000 ren:1:00010004 fet:00010008 fet:0001000c" ∷
      "3 ld:0:0001fff0:m ren:2:00010008 ren:3:0001000c fet:00010010 fet:00010014" ∷
      "4 ld:3:0001fff0:j ren:4:00010010 ren:5:00010014 fet:00010018 fet:0001001c" ∷
      "5 ren:6:00010018 ren:7:0001001c fet:00010020 fet:00010024" ∷
      "6 alu:7" ∷
      "7 done:7" ∷
      "8" ∷
      "9" ∷
      "10" ∷
      "11" ∷
      "12" ∷
      "13 fill:0001fff0 done:0 done:3 ret:0 mul:1 alu:4" ∷
      "14 done:4 alu:5" ∷
      "15 done:5" ∷
      "16 done:1 ret:1 alu:2" ∷
      "17 done:2 res:2:T bp:2:2 sq:7 ret:2 fet:0001001c fet:00010020" ∷
      "18 ren:8:0001001c fet:00010024" ∷
      "19 alu:8" ∷
      "20 done:8 ret:8 ren:9:00010020" ∷
      "21 ret:9 call:9:0" ∷
      "end exit 0 retired 5 cycles 21" ∷
      []);
}
