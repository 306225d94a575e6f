-- Made by tools/evaluate/write: change what it reads, in tools/evaluate/runs, and run it again.
use Rattle.std.specs.Prelude.{[], ◌∷◌}
use Rattle.generated_runs.specs.Agreement.{Run, lines}

-- the run's code:
-- 00010000 mul x5,x0,x0
-- 00010004 add x5,x5,x2
-- 00010008 sw x2,0(x5)
-- 0001000c lw x6,0(x2)
-- 00010010 mul x7,x0,x0
-- 00010014 add x7,x7,x2
-- 00010018 sw x2,-32(x7)
-- 0001001c addi x0,x0,0
-- 00010020 addi x0,x0,0
-- 00010024 addi x0,x0,0
-- 00010028 addi x0,x0,0
-- 0001002c lw x8,-16(x2)
-- 00010030 addi x17,x0,93
-- 00010034 ecall
abbrev pub sixteen_bits : Run
sixteen_bits = record {
  description = lines (
      "version = 2" ∷
      "[core]" ∷
      "fetch_width = 4" ∷
      "retire_width = 2" ∷
      "rob = 16" ∷
      "stations = 8" ∷
      "loads = 4" ∷
      "stores = 4" ∷
      "queue = 8" ∷
      "[units]" ∷
      "alus = 2" ∷
      "mul_latency = 3" ∷
      "[predictor]" ∷
      "counters = 16" ∷
      "btb = 4" ∷
      "depend = 16" ∷
      "history = 0" ∷
      "returns = 0" ∷
      "[cache]" ∷
      "sets = 2" ∷
      "ways = 2" ∷
      "line = 16" ∷
      "hit_latency = 2" ∷
      "miss_latency = 10" ∷
      "mshrs = 2" ∷
      "second_sets = 0" ∷
      "second_ways = 1" ∷
      "second_latency = 2" ∷
      "prefetch = 0" ∷
      "[ram]" ∷
      "base = 65536" ∷
      "size = 65536" ∷
      "misaligned = 0" ∷
      "[stt]" ∷
      "model = \"spectre\"" ∷
      "defence = \"stt\"" ∷
      []);
  image =
      0x464c457f ∷ 0x00010101 ∷ 0x00000000 ∷ 0x00000000 ∷ 0x00f30002 ∷ 0x00000001 ∷ 0x00010000 ∷ 0x00000034 ∷
      0x00000000 ∷ 0x00000000 ∷ 0x00200034 ∷ 0x00000001 ∷ 0x00000000 ∷ 0x00000001 ∷ 0x00000054 ∷ 0x00010000 ∷
      0x00010000 ∷ 0x00000038 ∷ 0x00000038 ∷ 0x00000005 ∷ 0x00000004 ∷ 0x020002b3 ∷ 0x002282b3 ∷ 0x0022a023 ∷
      0x00012303 ∷ 0x020003b3 ∷ 0x002383b3 ∷ 0xfe23a023 ∷ 0x00000013 ∷ 0x00000013 ∷ 0x00000013 ∷ 0x00000013 ∷
      0xff012403 ∷ 0x05d00893 ∷ 0x00000073 ∷
      [];
  cycles = 200;
  trace = lines (
      "1 fet:00010000 fet:00010004 fet:00010008 fet:0001000c" ∷
      "2 ren:0:00010000 ren:1:00010004 ren:2:00010008 ren:3:0001000c fet:00010010 fet:00010014 fet:00010018 fet:0001001c" ∷
      "3 mul:0 std:2 ld:3:0001fff0:m ren:4:00010010 ren:5:00010014 ren:6:00010018 ren:7:0001001c fet:00010020 fet:00010024 fet:00010028 fet:0001002c" ∷
      "4 mul:4 std:6 alu:7 ren:8:00010020 ren:9:00010024 ren:10:00010028 ren:11:0001002c fet:00010030 fet:00010034 fet:00010038" ∷
      "5 done:7 alu:8 alu:9 ld:11:0001ffe0:m ren:12:00010030" ∷
      "6 done:0 done:8 done:9 ret:0 alu:1 alu:10" ∷
      "7 done:1 done:4 done:10 ret:1 agu:2 alu:5 alu:12" ∷
      "8 done:2 done:5 done:12 clr:2 vio:3 dp:3:1 sq:12 ret:2 st:2:0001fff0:m fet:0001000c fet:00010010 fet:00010014 fet:00010018" ∷
      "9 ren:13:0001000c ren:14:00010010 ren:15:00010014 ren:16:00010018 fet:0001001c fet:00010020 fet:00010024 fet:00010028" ∷
      "10 ld:13:0001fff0:j mul:14 std:16 ren:17:0001001c ren:18:00010020 ren:19:00010024 ren:20:00010028 fet:0001002c fet:00010030 fet:00010034 fet:00010038" ∷
      "11 alu:17 alu:18 ren:21:0001002c ren:22:00010030" ∷
      "12 done:17 done:18 alu:19 alu:20 ld:21:0001ffe0:j" ∷
      "13 fill:0001fff0 done:13 done:14 done:19 done:20 ret:13 ret:14 alu:15 alu:22" ∷
      "14 done:15 done:22 ret:15 agu:16" ∷
      "15 fill:0001ffe0 done:16 done:21 clr:16 ret:16 st:16:0001ffd0:m ret:17" ∷
      "16 ret:18 ret:19" ∷
      "17 ret:20 ret:21" ∷
      "18 ret:22 ren:23:00010034" ∷
      "19 ret:23 call:23:0" ∷
      "end exit 0 retired 14 cycles 19" ∷
      []);
}
