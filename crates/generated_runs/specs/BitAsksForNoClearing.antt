-- Made by tools/evaluate/write: change what it reads, in tools/evaluate/runs, and run it again.
use Rattle.std.specs.Prelude.{[], ◌∷◌}
use Rattle.generated_runs.specs.Agreement.{Run, lines}

-- the run's code:
-- 00010000 mul x5,x0,x0
-- 00010004 add x5,x5,x2
-- 00010008 sw x2,0(x5)
-- 0001000c lw x6,0(x2)
-- 00010010 div x9,x2,x2
-- 00010014 beq x9,x0,+8
-- 00010018 lw x7,-16(x2)
-- 0001001c add x7,x7,x2
-- 00010020 sw x0,-32(x7)
-- 00010024 lw x8,-16(x2)
-- 00010028 addi x17,x0,93
-- 0001002c ecall
abbrev pub bit_asks_for_no_clearing : Run
bit_asks_for_no_clearing = record {
  description = lines (
      "version = 2" ∷
      "[core]" ∷
      "fetch_width = 2" ∷
      "retire_width = 2" ∷
      "rob = 16" ∷
      "stations = 8" ∷
      "loads = 4" ∷
      "stores = 4" ∷
      "queue = 8" ∷
      "[units]" ∷
      "alus = 2" ∷
      "mul_latency = 3" ∷
      "[predictor]" ∷
      "counters = 16" ∷
      "btb = 4" ∷
      "depend = 1" ∷
      "history = 0" ∷
      "returns = 0" ∷
      "[cache]" ∷
      "sets = 2" ∷
      "ways = 2" ∷
      "line = 16" ∷
      "hit_latency = 2" ∷
      "miss_latency = 10" ∷
      "mshrs = 2" ∷
      "second_sets = 0" ∷
      "second_ways = 1" ∷
      "second_latency = 2" ∷
      "prefetch = 0" ∷
      "[ram]" ∷
      "base = 65536" ∷
      "size = 65536" ∷
      "misaligned = 0" ∷
      "[stt]" ∷
      "model = \"spectre\"" ∷
      "defence = \"stt\"" ∷
      []);
  image =
      0x464c457f ∷ 0x00010101 ∷ 0x00000000 ∷ 0x00000000 ∷ 0x00f30002 ∷ 0x00000001 ∷ 0x00010000 ∷ 0x00000034 ∷
      0x00000000 ∷ 0x00000000 ∷ 0x00200034 ∷ 0x00000001 ∷ 0x00000000 ∷ 0x00000001 ∷ 0x00000054 ∷ 0x00010000 ∷
      0x00010000 ∷ 0x00000030 ∷ 0x00000030 ∷ 0x00000005 ∷ 0x00000004 ∷ 0x020002b3 ∷ 0x002282b3 ∷ 0x0022a023 ∷
      0x00012303 ∷ 0x022144b3 ∷ 0x00048463 ∷ 0xff012383 ∷ 0x002383b3 ∷ 0xfe03a023 ∷ 0xff012403 ∷ 0x05d00893 ∷
      0x00000073 ∷
      [];
  cycles = 200;
  trace = lines (
      "1 fet:00010000 fet:00010004" ∷
      "2 ren:0:00010000 ren:1:00010004 fet:00010008 fet:0001000c" ∷
      "3 mul:0 ren:2:00010008 ren:3:0001000c fet:00010010 fet:00010014" ∷
      "4 std:2 ld:3:0001fff0:m ren:4:00010010 ren:5:00010014 fet:00010018 fet:0001001c" ∷
      "5 div:4:20 ren:6:00010018 ren:7:0001001c fet:00010020 fet:00010024" ∷
      "6 done:0 ret:0 alu:1 ld:6:0001ffe0:m ren:8:00010020 ren:9:00010024 fet:00010028 fet:0001002c" ∷
      "7 done:1 ret:1 agu:2 std:8 ren:10:00010028 fet:00010030" ∷
      "8 done:2 clr:2 vio:3 dp:0:1 sq:10 ret:2 st:2:0001fff0:m fet:0001000c fet:00010010" ∷
      "9 ren:11:0001000c ren:12:00010010 fet:00010014 fet:00010018" ∷
      "10 ld:11:0001fff0:j div:12:20 ren:13:00010014 ren:14:00010018 fet:0001001c fet:00010020" ∷
      "11 ld:14:0001ffe0:j ren:15:0001001c ren:16:00010020 fet:00010024 fet:00010028" ∷
      "12 std:16 ren:17:00010024 ren:18:00010028 fet:0001002c fet:00010030" ∷
      "13 alu:18" ∷
      "14 fill:0001fff0 done:11 done:18 ret:11" ∷
      "15" ∷
      "16 fill:0001ffe0 done:14 alu:15" ∷
      "17 done:15 agu:16" ∷
      "18 done:16 ld:17:0001ffe0:h" ∷
      "19" ∷
      "20 done:17" ∷
      "21" ∷
      "22" ∷
      "23" ∷
      "24" ∷
      "25" ∷
      "26" ∷
      "27" ∷
      "28" ∷
      "29" ∷
      "30 done:12 ret:12 alu:13" ∷
      "31 done:13 res:13:N bp:5:0 clr:16 ret:13 ret:14" ∷
      "32 ret:15 ret:16 st:16:0001ffd0:m" ∷
      "33 ret:17 ret:18 ren:19:0001002c" ∷
      "34 ret:19 call:19:0" ∷
      "end exit 0 retired 12 cycles 34" ∷
      []);
}
