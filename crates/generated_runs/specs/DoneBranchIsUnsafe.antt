-- Made by tools/evaluate/write: change what it reads, in tools/evaluate/runs, and run it again.
use Rattle.std.specs.Prelude.{[], ◌∷◌}
use Rattle.generated_runs.specs.Agreement.{Run, lines}

-- the run's code:
-- 00010000 mul x9,x2,x2
-- 00010004 beq x9,x0,+8
-- 00010008 beq x9,x0,+8
-- 0001000c sw x2,0(x2)
-- 00010010 lw x5,0(x2)
-- 00010014 lw x6,0(x5)
-- 00010018 addi x17,x0,93
-- 0001001c ecall
abbrev pub done_branch_is_unsafe : Run
done_branch_is_unsafe = record {
  description = lines (
      "version = 2" ∷
      "[core]" ∷
      "fetch_width = 2" ∷
      "retire_width = 2" ∷
      "rob = 16" ∷
      "stations = 8" ∷
      "loads = 4" ∷
      "stores = 4" ∷
      "queue = 8" ∷
      "[units]" ∷
      "alus = 2" ∷
      "mul_latency = 3" ∷
      "[predictor]" ∷
      "counters = 16" ∷
      "btb = 4" ∷
      "depend = 0" ∷
      "history = 0" ∷
      "returns = 0" ∷
      "[cache]" ∷
      "sets = 2" ∷
      "ways = 2" ∷
      "line = 16" ∷
      "hit_latency = 2" ∷
      "miss_latency = 10" ∷
      "mshrs = 2" ∷
      "second_sets = 0" ∷
      "second_ways = 1" ∷
      "second_latency = 2" ∷
      "prefetch = 0" ∷
      "[ram]" ∷
      "base = 65536" ∷
      "size = 65536" ∷
      "misaligned = 0" ∷
      "[stt]" ∷
      "model = \"futuristic\"" ∷
      "defence = \"stt\"" ∷
      []);
  image =
      0x464c457f ∷ 0x00010101 ∷ 0x00000000 ∷ 0x00000000 ∷ 0x00f30002 ∷ 0x00000001 ∷ 0x00010000 ∷ 0x00000034 ∷
      0x00000000 ∷ 0x00000000 ∷ 0x00200034 ∷ 0x00000001 ∷ 0x00000000 ∷ 0x00000001 ∷ 0x00000054 ∷ 0x00010000 ∷
      0x00010000 ∷ 0x00000020 ∷ 0x00000020 ∷ 0x00000005 ∷ 0x00000004 ∷ 0x022104b3 ∷ 0x00048463 ∷ 0x00048463 ∷
      0x00212023 ∷ 0x00012283 ∷ 0x0002a303 ∷ 0x05d00893 ∷ 0x00000073 ∷
      [];
  cycles = 200;
  trace = lines (
      "1 fet:00010000 fet:00010004" ∷
      "2 ren:0:00010000 ren:1:00010004 fet:00010008 fet:0001000c" ∷
      "3 mul:0 ren:2:00010008 ren:3:0001000c fet:00010010 fet:00010014" ∷
      "4 agu:3 std:3 ren:4:00010010 ren:5:00010014 fet:00010018 fet:0001001c" ∷
      "5 done:3 ld:4:f ren:6:00010018 fet:00010020" ∷
      "6 done:0 done:4 ret:0 alu:1 alu:2" ∷
      "7 done:1 done:2 res:1:N bp:1:0 ret:1 alu:6" ∷
      "8 done:6 res:2:N bp:2:0 ret:2 ret:3 st:3:0001fff0:m ld:5:0001fff0:m" ∷
      "9 ret:4" ∷
      "10" ∷
      "11" ∷
      "12" ∷
      "13" ∷
      "14" ∷
      "15" ∷
      "16" ∷
      "17" ∷
      "18 fill:0001fff0 done:5 ret:5 ret:6 ren:7:0001001c" ∷
      "19 ret:7 call:7:0" ∷
      "end exit 0 retired 8 cycles 19" ∷
      []);
}
