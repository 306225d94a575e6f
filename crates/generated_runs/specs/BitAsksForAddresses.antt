-- Made by tools/evaluate/write: change what it reads, in tools/evaluate/runs, and run it again.
use Rattle.std.specs.Prelude.{[], ◌∷◌}
use Rattle.generated_runs.specs.Agreement.{Run, lines}

-- the run's code:
-- 00010000 mul x5,x0,x0
-- 00010004 add x5,x5,x2
-- 00010008 sw x2,0(x5)
-- 0001000c lw x6,0(x2)
-- 00010010 div x9,x2,x2
-- 00010014 sw x9,-32(x2)
-- 00010018 lw x8,-16(x2)
-- 0001001c addi x17,x0,93
-- 00010020 ecall
abbrev pub bit_asks_for_addresses : Run
bit_asks_for_addresses = record {
  description = lines (
      "version = 2" ∷
      "[core]" ∷
      "fetch_width = 2" ∷
      "retire_width = 2" ∷
      "rob = 16" ∷
      "stations = 8" ∷
      "loads = 4" ∷
      "stores = 4" ∷
      "queue = 8" ∷
      "[units]" ∷
      "alus = 2" ∷
      "mul_latency = 3" ∷
      "[predictor]" ∷
      "counters = 16" ∷
      "btb = 4" ∷
      "depend = 1" ∷
      "history = 0" ∷
      "returns = 0" ∷
      "[cache]" ∷
      "sets = 2" ∷
      "ways = 2" ∷
      "line = 16" ∷
      "hit_latency = 2" ∷
      "miss_latency = 10" ∷
      "mshrs = 2" ∷
      "second_sets = 0" ∷
      "second_ways = 1" ∷
      "second_latency = 2" ∷
      "prefetch = 0" ∷
      "[ram]" ∷
      "base = 65536" ∷
      "size = 65536" ∷
      "misaligned = 0" ∷
      "[stt]" ∷
      "model = \"spectre\"" ∷
      "defence = \"stt\"" ∷
      []);
  image =
      0x464c457f ∷ 0x00010101 ∷ 0x00000000 ∷ 0x00000000 ∷ 0x00f30002 ∷ 0x00000001 ∷ 0x00010000 ∷ 0x00000034 ∷
      0x00000000 ∷ 0x00000000 ∷ 0x00200034 ∷ 0x00000001 ∷ 0x00000000 ∷ 0x00000001 ∷ 0x00000054 ∷ 0x00010000 ∷
      0x00010000 ∷ 0x00000024 ∷ 0x00000024 ∷ 0x00000005 ∷ 0x00000004 ∷ 0x020002b3 ∷ 0x002282b3 ∷ 0x0022a023 ∷
      0x00012303 ∷ 0x022144b3 ∷ 0xfe912023 ∷ 0xff012403 ∷ 0x05d00893 ∷ 0x00000073 ∷
      [];
  cycles = 90;
  trace = lines (
      "1 fet:00010000 fet:00010004" ∷
      "2 ren:0:00010000 ren:1:00010004 fet:00010008 fet:0001000c" ∷
      "3 mul:0 ren:2:00010008 ren:3:0001000c fet:00010010 fet:00010014" ∷
      "4 std:2 ld:3:0001fff0:m ren:4:00010010 ren:5:00010014 fet:00010018 fet:0001001c" ∷
      "5 div:4:20 agu:5 ren:6:00010018 ren:7:0001001c fet:00010020 fet:00010024" ∷
      "6 done:0 clr:5 ret:0 alu:1 ld:6:0001ffe0:m alu:7" ∷
      "7 done:1 done:7 ret:1 agu:2" ∷
      "8 done:2 clr:2 vio:3 dp:0:1 sq:7 ret:2 st:2:0001fff0:m fet:0001000c fet:00010010" ∷
      "9 ren:8:0001000c ren:9:00010010 fet:00010014 fet:00010018" ∷
      "10 ld:8:0001fff0:j div:9:20 ren:10:00010014 ren:11:00010018 fet:0001001c fet:00010020" ∷
      "11 agu:10 ren:12:0001001c fet:00010024" ∷
      "12 clr:10 ld:11:0001ffe0:j alu:12" ∷
      "13 done:12" ∷
      "14 fill:0001fff0 done:8 ret:8" ∷
      "15" ∷
      "16 fill:0001ffe0 done:11" ∷
      "17" ∷
      "18" ∷
      "19" ∷
      "20" ∷
      "21" ∷
      "22" ∷
      "23" ∷
      "24" ∷
      "25" ∷
      "26" ∷
      "27" ∷
      "28" ∷
      "29" ∷
      "30 done:9 ret:9 std:10" ∷
      "31 done:10 ret:10 st:10:0001ffd0:m ret:11" ∷
      "32 ret:12 ren:13:00010020" ∷
      "33 ret:13 call:13:0" ∷
      "end exit 0 retired 9 cycles 33" ∷
      []);
}
