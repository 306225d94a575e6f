-- Made by tools/evaluate/write: change what it reads, in tools/evaluate/runs, and run it again.
use Rattle.std.specs.Prelude.{[], ◌∷◌}
use Rattle.generated_runs.specs.Agreement.{Run, lines}

-- the run's code:
-- 00010000 div x9,x2,x2
-- 00010004 sw x2,0(x2)
-- 00010008 addi x6,x0,1
-- 0001000c addi x7,x0,1
-- 00010010 addi x5,x0,1
-- 00010014 addi x6,x0,1
-- 00010018 addi x7,x0,1
-- 0001001c lui x5,0x1
-- 00010020 lw x5,0(x2)
-- 00010024 lw x6,0(x5)
-- 00010028 addi x17,x0,93
-- 0001002c ecall
abbrev pub waiting_lui_is_safe : Run
waiting_lui_is_safe = record {
  description = lines (
      "version = 2" ∷
      "[core]" ∷
      "fetch_width = 4" ∷
      "retire_width = 2" ∷
      "rob = 16" ∷
      "stations = 8" ∷
      "loads = 4" ∷
      "stores = 4" ∷
      "queue = 8" ∷
      "[units]" ∷
      "alus = 1" ∷
      "mul_latency = 3" ∷
      "[predictor]" ∷
      "counters = 16" ∷
      "btb = 4" ∷
      "depend = 0" ∷
      "history = 0" ∷
      "returns = 0" ∷
      "[cache]" ∷
      "sets = 2" ∷
      "ways = 2" ∷
      "line = 16" ∷
      "hit_latency = 2" ∷
      "miss_latency = 10" ∷
      "mshrs = 2" ∷
      "second_sets = 0" ∷
      "second_ways = 1" ∷
      "second_latency = 2" ∷
      "prefetch = 0" ∷
      "[ram]" ∷
      "base = 65536" ∷
      "size = 65536" ∷
      "misaligned = 0" ∷
      "[stt]" ∷
      "model = \"futuristic\"" ∷
      "defence = \"stt\"" ∷
      []);
  image =
      0x464c457f ∷ 0x00010101 ∷ 0x00000000 ∷ 0x00000000 ∷ 0x00f30002 ∷ 0x00000001 ∷ 0x00010000 ∷ 0x00000034 ∷
      0x00000000 ∷ 0x00000000 ∷ 0x00200034 ∷ 0x00000001 ∷ 0x00000000 ∷ 0x00000001 ∷ 0x00000054 ∷ 0x00010000 ∷
      0x00010000 ∷ 0x00000030 ∷ 0x00000030 ∷ 0x00000005 ∷ 0x00000004 ∷ 0x022144b3 ∷ 0x00212023 ∷ 0x00100313 ∷
      0x00100393 ∷ 0x00100293 ∷ 0x00100313 ∷ 0x00100393 ∷ 0x000012b7 ∷ 0x00012283 ∷ 0x0002a303 ∷ 0x05d00893 ∷
      0x00000073 ∷
      [];
  cycles = 60;
  trace = lines (
      "1 fet:00010000 fet:00010004 fet:00010008 fet:0001000c" ∷
      "2 ren:0:00010000 ren:1:00010004 ren:2:00010008 ren:3:0001000c fet:00010010 fet:00010014 fet:00010018 fet:0001001c" ∷
      "3 div:0:20 agu:1 std:1 alu:2 ren:4:00010010 ren:5:00010014 ren:6:00010018 ren:7:0001001c fet:00010020 fet:00010024 fet:00010028 fet:0001002c" ∷
      "4 done:1 done:2 alu:3 ren:8:00010020 ren:9:00010024 ren:10:00010028 fet:00010030" ∷
      "5 done:3 alu:4 ld:8:f" ∷
      "6 done:4 done:8 alu:5 ld:9:f" ∷
      "7 done:5 done:9 alu:6" ∷
      "8 done:6 alu:7" ∷
      "9 done:7 alu:10" ∷
      "10 done:10" ∷
      "11" ∷
      "12" ∷
      "13" ∷
      "14" ∷
      "15" ∷
      "16" ∷
      "17" ∷
      "18" ∷
      "19" ∷
      "20" ∷
      "21" ∷
      "22" ∷
      "23 done:0 ret:0 ret:1 st:1:0001fff0:m" ∷
      "24 ret:2 ret:3" ∷
      "25 ret:4 ret:5" ∷
      "26 ret:6 ret:7" ∷
      "27 ret:8 ret:9" ∷
      "28 ret:10 ren:11:0001002c" ∷
      "29 ret:11 call:11:0" ∷
      "end exit 0 retired 12 cycles 29" ∷
      []);
}
