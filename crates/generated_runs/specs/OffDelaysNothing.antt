-- Made by tools/evaluate/write: change what it reads, in tools/evaluate/runs, and run it again.
use Rattle.std.specs.Prelude.{[], ◌∷◌}
use Rattle.generated_runs.specs.Agreement.{Run, lines}

-- the run's code:
-- 00010000 lw x5,0(x2)
-- 00010004 bne x5,x0,+64
-- 00010008 mul x6,x2,x0
-- 0001000c lw x7,4(x2)
-- 00010010 div x8,x6,x2
-- 00010014 sw x6,8(x2)
-- 00010018 add x9,x6,x6
-- 0001001c beq x2,x0,+8
-- 00010020 auipc x10,0x0
-- 00010024 jalr x0,8(x10)
-- 00010028 lw x11,12(x2)
-- 0001002c addi x17,x0,93
-- 00010030 ecall
abbrev pub off_delays_nothing : Run
off_delays_nothing = record {
  description = lines (
      "version = 2" ∷
      "[core]" ∷
      "fetch_width = 2" ∷
      "retire_width = 2" ∷
      "rob = 16" ∷
      "stations = 8" ∷
      "loads = 4" ∷
      "stores = 4" ∷
      "queue = 8" ∷
      "[units]" ∷
      "alus = 2" ∷
      "mul_latency = 3" ∷
      "[predictor]" ∷
      "counters = 16" ∷
      "btb = 4" ∷
      "depend = 0" ∷
      "history = 0" ∷
      "returns = 0" ∷
      "[cache]" ∷
      "sets = 2" ∷
      "ways = 2" ∷
      "line = 16" ∷
      "hit_latency = 2" ∷
      "miss_latency = 10" ∷
      "mshrs = 2" ∷
      "second_sets = 0" ∷
      "second_ways = 1" ∷
      "second_latency = 2" ∷
      "prefetch = 0" ∷
      "[ram]" ∷
      "base = 65536" ∷
      "size = 65536" ∷
      "misaligned = 0" ∷
      "[stt]" ∷
      "model = \"off\"" ∷
      "defence = \"delay\"" ∷
      []);
  image =
      0x464c457f ∷ 0x00010101 ∷ 0x00000000 ∷ 0x00000000 ∷ 0x00f30002 ∷ 0x00000001 ∷ 0x00010000 ∷ 0x00000034 ∷
      0x00000000 ∷ 0x00000000 ∷ 0x00200034 ∷ 0x00000001 ∷ 0x00000000 ∷ 0x00000001 ∷ 0x00000054 ∷ 0x00010000 ∷
      0x00010000 ∷ 0x00000034 ∷ 0x00000034 ∷ 0x00000005 ∷ 0x00000001 ∷ 0x00012283 ∷ 0x04029063 ∷ 0x02010333 ∷
      0x00412383 ∷ 0x02234433 ∷ 0x00612423 ∷ 0x006304b3 ∷ 0x00010463 ∷ 0x00000517 ∷ 0x00850067 ∷ 0x00c12583 ∷
      0x05d00893 ∷ 0x00000073 ∷
      [];
  cycles = 60;
  trace = lines (
      "1 fet:00010000 fet:00010004" ∷
      "2 ren:0:00010000 ren:1:00010004 fet:00010008 fet:0001000c" ∷
      "3 ld:0:0001fff0:m ren:2:00010008 ren:3:0001000c fet:00010010 fet:00010014" ∷
      "4 mul:2 ld:3:0001fff0:j ren:4:00010010 ren:5:00010014 fet:00010018 fet:0001001c" ∷
      "5 agu:5 ren:6:00010018 ren:7:0001001c fet:00010020 fet:00010024" ∷
      "6 alu:7 ren:8:00010020 ren:9:00010024 fet:00010028 fet:0001002c" ∷
      "7 done:2 done:7 res:7:N bp:7:0 div:4:3 std:5 alu:6 alu:8 ren:10:00010028 ren:11:0001002c fet:00010030 fet:00010034" ∷
      "8 done:5 done:6 done:8 alu:9 ld:10:0001fff0:j alu:11" ∷
      "9 done:9 done:11 res:9:J bt:1:00010028" ∷
      "10 done:4" ∷
      "11" ∷
      "12" ∷
      "13 fill:0001fff0 done:0 done:3 done:10 ret:0 alu:1" ∷
      "14 done:1 res:1:N bp:1:0 ret:1 ret:2" ∷
      "15 ret:3 ret:4" ∷
      "16 ret:5 st:5:0001fff0:h ret:6" ∷
      "17 ret:7 ret:8" ∷
      "18 ret:9 ret:10" ∷
      "19 ret:11 ren:12:00010030" ∷
      "20 ret:12 call:12:0" ∷
      "end exit 65568 retired 13 cycles 20" ∷
      []);
}
