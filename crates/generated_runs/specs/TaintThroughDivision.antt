-- Made by tools/evaluate/write: change what it reads, in tools/evaluate/runs, and run it again.
use Rattle.std.specs.Prelude.{[], ◌∷◌}
use Rattle.generated_runs.specs.Agreement.{Run, lines}

-- the run's code:
-- 00010000 auipc x7,0x0
-- 00010004 addi x0,x0,0
-- 00010008 addi x0,x0,0
-- 0001000c lb x7,0(x7)
-- 00010010 addi x0,x0,0
-- 00010014 addi x0,x0,0
-- 00010018 addi x0,x0,0
-- 0001001c addi x0,x0,0
-- 00010020 addi x0,x0,0
-- 00010024 lw x9,0(x8)
-- 00010028 addi x0,x0,0
-- 0001002c remu x8,x6,x9
-- 00010030 sh x2,0(x8)
-- 00010034 lw x9,-64(x5)
-- 00010038 addi x17,x0,93
-- 0001003c ecall
abbrev pub taint_through_division : Run
taint_through_division = record {
  description = lines (
      "version = 2" ∷
      "[core]" ∷
      "fetch_width = 2" ∷
      "retire_width = 2" ∷
      "rob = 16" ∷
      "stations = 8" ∷
      "loads = 4" ∷
      "stores = 4" ∷
      "queue = 8" ∷
      "[units]" ∷
      "alus = 2" ∷
      "mul_latency = 3" ∷
      "[predictor]" ∷
      "counters = 16" ∷
      "btb = 4" ∷
      "depend = 16" ∷
      "history = 0" ∷
      "returns = 0" ∷
      "[cache]" ∷
      "sets = 2" ∷
      "ways = 2" ∷
      "line = 16" ∷
      "hit_latency = 2" ∷
      "miss_latency = 10" ∷
      "mshrs = 2" ∷
      "second_sets = 0" ∷
      "second_ways = 1" ∷
      "second_latency = 2" ∷
      "prefetch = 0" ∷
      "[ram]" ∷
      "base = 65536" ∷
      "size = 65536" ∷
      "misaligned = 0" ∷
      "[stt]" ∷
      "model = \"futuristic\"" ∷
      "defence = \"stt\"" ∷
      []);
  image =
      0x464c457f ∷ 0x00010101 ∷ 0x00000000 ∷ 0x00000000 ∷ 0x00f30002 ∷ 0x00000001 ∷ 0x00010000 ∷ 0x00000034 ∷
      0x00000000 ∷ 0x00000000 ∷ 0x00200034 ∷ 0x00000001 ∷ 0x00000000 ∷ 0x00000001 ∷ 0x00000054 ∷ 0x00010000 ∷
      0x00010000 ∷ 0x00000040 ∷ 0x00000040 ∷ 0x00000005 ∷ 0x00000004 ∷ 0x00000397 ∷ 0x00000013 ∷ 0x00000013 ∷
      0x00038383 ∷ 0x00000013 ∷ 0x00000013 ∷ 0x00000013 ∷ 0x00000013 ∷ 0x00000013 ∷ 0x00042483 ∷ 0x00000013 ∷
      0x02937433 ∷ 0x00241023 ∷ 0xfc02a483 ∷ 0x05d00893 ∷ 0x00000073 ∷
      [];
  cycles = 200;
  trace = lines (
      "1 fet:00010000 fet:00010004" ∷
      "2 ren:0:00010000 ren:1:00010004 fet:00010008 fet:0001000c" ∷
      "3 alu:0 alu:1 ren:2:00010008 ren:3:0001000c fet:00010010 fet:00010014" ∷
      "4 done:0 done:1 ret:0 ret:1 alu:2 ld:3:00010000:m ren:4:00010010 ren:5:00010014 fet:00010018 fet:0001001c" ∷
      "5 done:2 ret:2 alu:4 alu:5 ren:6:00010018 ren:7:0001001c fet:00010020 fet:00010024" ∷
      "6 done:4 done:5 alu:6 alu:7 ren:8:00010020 ren:9:00010024 fet:00010028 fet:0001002c" ∷
      "7 done:6 done:7 alu:8 ld:9:x ren:10:00010028 ren:11:0001002c fet:00010030 fet:00010034" ∷
      "8 done:8 done:9 alu:10 ren:12:00010030 ren:13:00010034 fet:00010038 fet:0001003c" ∷
      "9 done:10 std:12 ren:14:00010038 fet:00010040" ∷
      "10 ld:13:x alu:14" ∷
      "11 done:13 done:14" ∷
      "12" ∷
      "13" ∷
      "14 fill:00010000 done:3 ret:3 ret:4 div:11:3" ∷
      "15 ret:5 ret:6" ∷
      "16 ret:7 ret:8" ∷
      "17 done:11" ∷
      "end trap 5 00010024 retired 9 cycles 17" ∷
      []);
}
