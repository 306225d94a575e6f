-- Made by tools/evaluate/write: change what it reads, in tools/evaluate/runs, and run it again.
use Rattle.std.specs.Prelude.{[], ◌∷◌}
use Rattle.generated_runs.specs.Agreement.{Run, lines}

-- the run's code:
-- 00010000 div x9,x2,x2
-- 00010004 beq x9,x0,+8
-- 00010008 lw x6,8(x2)
-- 0001000c jalr x1,0(x6)
-- 00010010 lw x7,0(x1)
-- 00010014 addi x17,x0,93
-- 00010018 ecall
abbrev pub tainted_link : Run
tainted_link = record {
  description = lines (
      "version = 2" ∷
      "[core]" ∷
      "fetch_width = 2" ∷
      "retire_width = 2" ∷
      "rob = 16" ∷
      "stations = 8" ∷
      "loads = 4" ∷
      "stores = 4" ∷
      "queue = 8" ∷
      "[units]" ∷
      "alus = 2" ∷
      "mul_latency = 3" ∷
      "[predictor]" ∷
      "counters = 16" ∷
      "btb = 4" ∷
      "depend = 0" ∷
      "history = 0" ∷
      "returns = 0" ∷
      "[cache]" ∷
      "sets = 2" ∷
      "ways = 2" ∷
      "line = 16" ∷
      "hit_latency = 2" ∷
      "miss_latency = 10" ∷
      "mshrs = 2" ∷
      "second_sets = 0" ∷
      "second_ways = 1" ∷
      "second_latency = 2" ∷
      "prefetch = 0" ∷
      "[ram]" ∷
      "base = 65536" ∷
      "size = 65536" ∷
      "misaligned = 0" ∷
      "[stt]" ∷
      "model = \"spectre\"" ∷
      "defence = \"stt\"" ∷
      []);
  image =
      0x464c457f ∷ 0x00010101 ∷ 0x00000000 ∷ 0x00000000 ∷ 0x00f30002 ∷ 0x00000001 ∷ 0x00010000 ∷ 0x00000034 ∷
      0x00000000 ∷ 0x00000000 ∷ 0x00200034 ∷ 0x00000002 ∷ 0x00000000 ∷ 0x00000001 ∷ 0x00000074 ∷ 0x00010000 ∷
      0x00010000 ∷ 0x0000001c ∷ 0x0000001c ∷ 0x00000005 ∷ 0x00000004 ∷ 0x00000001 ∷ 0x00000090 ∷ 0x0001fff0 ∷
      0x0001fff0 ∷ 0x0000000b ∷ 0x0000000b ∷ 0x00000006 ∷ 0x00000004 ∷ 0x022144b3 ∷ 0x00048463 ∷ 0x00812303 ∷
      0x000300e7 ∷ 0x0000a383 ∷ 0x05d00893 ∷ 0x00000073 ∷ 0x00000000 ∷ 0x00000000 ∷ 0x00010010 ∷
      [];
  cycles = 60;
  trace = lines (
      "1 fet:00010000 fet:00010004" ∷
      "2 ren:0:00010000 ren:1:00010004 fet:00010008 fet:0001000c" ∷
      "3 div:0:20 ren:2:00010008 ren:3:0001000c fet:00010010 fet:00010014" ∷
      "4 ld:2:0001fff0:m ren:4:00010010 ren:5:00010014 fet:00010018 fet:0001001c" ∷
      "5 alu:5" ∷
      "6 done:5" ∷
      "7" ∷
      "8" ∷
      "9" ∷
      "10" ∷
      "11" ∷
      "12" ∷
      "13" ∷
      "14 fill:0001fff0 done:2 alu:3" ∷
      "15 done:3" ∷
      "16" ∷
      "17" ∷
      "18" ∷
      "19" ∷
      "20" ∷
      "21" ∷
      "22" ∷
      "23 done:0 ret:0 alu:1" ∷
      "24 done:1 res:1:N bp:1:0 ret:1 ret:2 ld:4:00010010:m" ∷
      "25 res:3:J bt:3:00010010 ret:3" ∷
      "26" ∷
      "27" ∷
      "28" ∷
      "29" ∷
      "30" ∷
      "31" ∷
      "32" ∷
      "33" ∷
      "34 fill:00010010 done:4 ret:4 ret:5 ren:6:00010018" ∷
      "35 ret:6 call:6:0" ∷
      "end exit 0 retired 7 cycles 35" ∷
      []);
}
