-- Made by tools/evaluate/write: change what it reads, in tools/evaluate/runs, and run it again.
use Rattle.std.specs.Prelude.{[], ◌∷◌}
use Rattle.generated_runs.specs.Agreement.{Run, lines}

-- the run's code:
-- 00010000 mul x5,x0,x0
-- 00010004 add x5,x5,x2
-- 00010008 sw x2,0(x5)
-- 0001000c lw x6,0(x2)
-- 00010010 mul x7,x0,x0
-- 00010014 add x7,x7,x2
-- 00010018 sw x2,-32(x7)
-- 0001001c addi x0,x0,0
-- 00010020 lw x8,-32(x2)
-- 00010024 mul x9,x0,x0
-- 00010028 add x9,x9,x2
-- 0001002c sw x2,-64(x9)
-- 00010030 addi x0,x0,0
-- 00010034 lw x8,-16(x2)
-- 00010038 addi x17,x0,93
-- 0001003c ecall
abbrev pub bits_stay_set : Run
bits_stay_set = record {
  description = lines (
      "version = 2" ∷
      "[core]" ∷
      "fetch_width = 2" ∷
      "retire_width = 2" ∷
      "rob = 16" ∷
      "stations = 8" ∷
      "loads = 4" ∷
      "stores = 4" ∷
      "queue = 8" ∷
      "[units]" ∷
      "alus = 2" ∷
      "mul_latency = 3" ∷
      "[predictor]" ∷
      "counters = 16" ∷
      "btb = 4" ∷
      "depend = 2" ∷
      "history = 0" ∷
      "returns = 0" ∷
      "[cache]" ∷
      "sets = 2" ∷
      "ways = 2" ∷
      "line = 16" ∷
      "hit_latency = 2" ∷
      "miss_latency = 10" ∷
      "mshrs = 2" ∷
      "second_sets = 0" ∷
      "second_ways = 1" ∷
      "second_latency = 2" ∷
      "prefetch = 0" ∷
      "[ram]" ∷
      "base = 65536" ∷
      "size = 65536" ∷
      "misaligned = 0" ∷
      "[stt]" ∷
      "model = \"spectre\"" ∷
      "defence = \"stt\"" ∷
      []);
  image =
      0x464c457f ∷ 0x00010101 ∷ 0x00000000 ∷ 0x00000000 ∷ 0x00f30002 ∷ 0x00000001 ∷ 0x00010000 ∷ 0x00000034 ∷
      0x00000000 ∷ 0x00000000 ∷ 0x00200034 ∷ 0x00000001 ∷ 0x00000000 ∷ 0x00000001 ∷ 0x00000054 ∷ 0x00010000 ∷
      0x00010000 ∷ 0x00000040 ∷ 0x00000040 ∷ 0x00000005 ∷ 0x00000004 ∷ 0x020002b3 ∷ 0x002282b3 ∷ 0x0022a023 ∷
      0x00012303 ∷ 0x020003b3 ∷ 0x002383b3 ∷ 0xfe23a023 ∷ 0x00000013 ∷ 0xfe012403 ∷ 0x020004b3 ∷ 0x002484b3 ∷
      0xfc24a023 ∷ 0x00000013 ∷ 0xff012403 ∷ 0x05d00893 ∷ 0x00000073 ∷
      [];
  cycles = 200;
  trace = lines (
      "1 fet:00010000 fet:00010004" ∷
      "2 ren:0:00010000 ren:1:00010004 fet:00010008 fet:0001000c" ∷
      "3 mul:0 ren:2:00010008 ren:3:0001000c fet:00010010 fet:00010014" ∷
      "4 std:2 ld:3:0001fff0:m ren:4:00010010 ren:5:00010014 fet:00010018 fet:0001001c" ∷
      "5 mul:4 ren:6:00010018 ren:7:0001001c fet:00010020 fet:00010024" ∷
      "6 done:0 ret:0 alu:1 std:6 alu:7 ren:8:00010020 ren:9:00010024 fet:00010028 fet:0001002c" ∷
      "7 done:1 done:7 ret:1 agu:2 ld:8:0001ffd0:m mul:9 ren:10:00010028 ren:11:0001002c fet:00010030 fet:00010034" ∷
      "8 done:2 done:4 clr:2 vio:3 dp:1:1 sq:11 ret:2 st:2:0001fff0:m fet:0001000c fet:00010010" ∷
      "9 ren:12:0001000c ren:13:00010010 fet:00010014 fet:00010018" ∷
      "10 ld:12:0001fff0:j mul:13 ren:14:00010014 ren:15:00010018 fet:0001001c fet:00010020" ∷
      "11 std:15 ren:16:0001001c ren:17:00010020 fet:00010024 fet:00010028" ∷
      "12 alu:16 ld:17:0001ffd0:j ren:18:00010024 ren:19:00010028 fet:0001002c fet:00010030" ∷
      "13 done:13 done:16 alu:14 mul:18 ren:20:0001002c ren:21:00010030 fet:00010034 fet:00010038" ∷
      "14 fill:0001fff0 done:12 done:14 ret:12 ret:13 agu:15 std:20 alu:21 ren:22:00010034 ren:23:00010038 fet:0001003c fet:00010040" ∷
      "15 done:15 done:21 clr:15 vio:17 dp:0:1 sq:9 ret:14 ret:15 st:15:0001ffd0:m fet:00010020 fet:00010024" ∷
      "16 ret:16 ren:24:00010020 ren:25:00010024 fet:00010028 fet:0001002c" ∷
      "17 fill:0001ffd0 ld:24:0001ffd0:h mul:25 ren:26:00010028 ren:27:0001002c fet:00010030 fet:00010034" ∷
      "18 std:27 ren:28:00010030 ren:29:00010034 fet:00010038 fet:0001003c" ∷
      "19 done:24 ret:24 alu:28 ren:30:00010038 fet:00010040" ∷
      "20 done:25 done:28 ret:25 alu:26 alu:30" ∷
      "21 done:26 done:30 ret:26 agu:27" ∷
      "22 done:27 clr:27 ret:27 st:27:0001ffb0:m ret:28 ld:29:0001ffe0:m" ∷
      "23" ∷
      "24" ∷
      "25" ∷
      "26" ∷
      "27" ∷
      "28" ∷
      "29" ∷
      "30" ∷
      "31" ∷
      "32 fill:0001ffe0 done:29 ret:29 ret:30 ren:31:0001003c" ∷
      "33 ret:31 call:31:0" ∷
      "end exit 0 retired 16 cycles 33" ∷
      []);
}
