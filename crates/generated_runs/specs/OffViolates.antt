-- Made by tools/evaluate/write: change what it reads, in tools/evaluate/runs, and run it again.
use Rattle.std.specs.Prelude.{[], ◌∷◌}
use Rattle.generated_runs.specs.Agreement.{Run, lines}

-- the run's code:
-- 00010000 addi x0,x0,0
-- 00010004 addi x0,x0,0
-- 00010008 addi x0,x0,0
-- 0001000c addi x0,x0,0
-- 00010010 addi x0,x0,0
-- 00010014 addi x0,x0,0
-- 00010018 sb x5,-1(x2)
-- 0001001c lbu x6,-1(x2)
-- 00010020 addi x17,x0,93
-- 00010024 ecall
abbrev pub off_violates : Run
off_violates = record {
  description = lines (
      "version = 2" ∷
      "[core]" ∷
      "fetch_width = 2" ∷
      "retire_width = 2" ∷
      "rob = 16" ∷
      "stations = 8" ∷
      "loads = 4" ∷
      "stores = 4" ∷
      "queue = 8" ∷
      "[units]" ∷
      "alus = 2" ∷
      "mul_latency = 3" ∷
      "[predictor]" ∷
      "counters = 16" ∷
      "btb = 4" ∷
      "depend = 16" ∷
      "history = 0" ∷
      "returns = 0" ∷
      "[cache]" ∷
      "sets = 2" ∷
      "ways = 2" ∷
      "line = 16" ∷
      "hit_latency = 2" ∷
      "miss_latency = 10" ∷
      "mshrs = 2" ∷
      "second_sets = 0" ∷
      "second_ways = 1" ∷
      "second_latency = 2" ∷
      "prefetch = 0" ∷
      "[ram]" ∷
      "base = 65536" ∷
      "size = 65536" ∷
      "misaligned = 0" ∷
      "[stt]" ∷
      "model = \"off\"" ∷
      "defence = \"stt\"" ∷
      []);
  image =
      0x464c457f ∷ 0x00010101 ∷ 0x00000000 ∷ 0x00000000 ∷ 0x00f30002 ∷ 0x00000001 ∷ 0x00010000 ∷ 0x00000034 ∷
      0x00000000 ∷ 0x00000000 ∷ 0x00200034 ∷ 0x00000001 ∷ 0x00000000 ∷ 0x00000001 ∷ 0x00000054 ∷ 0x00010000 ∷
      0x00010000 ∷ 0x00000028 ∷ 0x00000028 ∷ 0x00000005 ∷ 0x00000004 ∷ 0x00000013 ∷ 0x00000013 ∷ 0x00000013 ∷
      0x00000013 ∷ 0x00000013 ∷ 0x00000013 ∷ 0xfe510fa3 ∷ 0xfff14303 ∷ 0x05d00893 ∷ 0x00000073 ∷
      [];
  cycles = 200;
  trace = lines (
      "1 fet:00010000 fet:00010004" ∷
      "2 ren:0:00010000 ren:1:00010004 fet:00010008 fet:0001000c" ∷
      "3 alu:0 alu:1 ren:2:00010008 ren:3:0001000c fet:00010010 fet:00010014" ∷
      "4 done:0 done:1 ret:0 ret:1 alu:2 alu:3 ren:4:00010010 ren:5:00010014 fet:00010018 fet:0001001c" ∷
      "5 done:2 done:3 ret:2 ret:3 alu:4 alu:5 ren:6:00010018 ren:7:0001001c fet:00010020 fet:00010024" ∷
      "6 done:4 done:5 ret:4 ret:5 agu:6 std:6 ld:7:0001ffe0:m ren:8:00010020 fet:00010028" ∷
      "7 done:6 clr:6 vio:7 dp:7:1 sq:4 ret:6 st:6:0001ffe0:m fet:0001001c fet:00010020" ∷
      "8 ren:9:0001001c ren:10:00010020 fet:00010024 fet:00010028" ∷
      "9 ld:9:0001ffe0:j alu:10" ∷
      "10 done:10" ∷
      "11" ∷
      "12" ∷
      "13" ∷
      "14" ∷
      "15" ∷
      "16 fill:0001ffe0 done:9 ret:9 ret:10 ren:11:00010024" ∷
      "17 ret:11 call:11:0" ∷
      "end exit 0 retired 10 cycles 17" ∷
      []);
}
