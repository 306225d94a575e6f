-- Made by tools/evaluate/write: change what it reads, in tools/evaluate/runs, and run it again.
use Rattle.std.specs.Prelude.{[], ◌∷◌}
use Rattle.generated_runs.specs.Agreement.{Run, lines}

-- the run's code:
-- 00010000 addi x8,x2,-16
-- 00010004 addi x9,x0,4
-- 00010008 andi x7,x8,24
-- 0001000c add x7,x8,x0
-- 00010010 add x5,x2,x5
-- 00010014 lw x7,9(x8)
-- 00010018 sw x8,-65(x8)
-- 0001001c bltu x1,x0,+8
-- 00010020 sw x9,-36(x2)
-- 00010024 sw x0,-7(x8)
-- 00010028 addi x9,x9,-1
-- 0001002c bne x9,x0,-12
-- 00010030 lb x5,-25(x8)
-- 00010034 lw x7,-59(x2)
-- 00010038 lhu x5,-42(x2)
-- 0001003c mulhu x5,x1,x6
-- 00010040 addi x17,x0,93
-- 00010044 ecall
abbrev pub mixed_any_address_2 : Run
mixed_any_address_2 = record {
  description = lines (
      "version = 2" ∷
      "[core]" ∷
      "fetch_width = 4" ∷
      "retire_width = 2" ∷
      "rob = 4" ∷
      "stations = 8" ∷
      "loads = 4" ∷
      "stores = 2" ∷
      "queue = 8" ∷
      "[units]" ∷
      "alus = 1" ∷
      "mul_latency = 1" ∷
      "[predictor]" ∷
      "counters = 2" ∷
      "btb = 4" ∷
      "[cache]" ∷
      "sets = 4" ∷
      "ways = 2" ∷
      "line = 4" ∷
      "hit_latency = 1" ∷
      "miss_latency = 11" ∷
      "mshrs = 2" ∷
      "[ram]" ∷
      "base = 65536" ∷
      "size = 65536" ∷
      "misaligned = 1" ∷
      "[stt]" ∷
      "model = \"spectre\"" ∷
      []);
  image =
      0x464c457f ∷ 0x00010101 ∷ 0x00000000 ∷ 0x00000000 ∷ 0x00f30002 ∷ 0x00000001 ∷ 0x00010000 ∷ 0x00000034 ∷
      0x00000000 ∷ 0x00000000 ∷ 0x00200034 ∷ 0x00000001 ∷ 0x00000000 ∷ 0x00000001 ∷ 0x00000054 ∷ 0x00010000 ∷
      0x00010000 ∷ 0x00000048 ∷ 0x00000048 ∷ 0x00000005 ∷ 0x00000004 ∷ 0xff010413 ∷ 0x00400493 ∷ 0x01847393 ∷
      0x000403b3 ∷ 0x005102b3 ∷ 0x00942383 ∷ 0xfa842fa3 ∷ 0x0000e463 ∷ 0xfc912e23 ∷ 0xfe042ca3 ∷ 0xfff48493 ∷
      0xfe049ae3 ∷ 0xfe740283 ∷ 0xfc512383 ∷ 0xfd615283 ∷ 0x0260b2b3 ∷ 0x05d00893 ∷ 0x00000073 ∷
      [];
  cycles = 160;
  trace = lines (
      "1 fet:00010000 fet:00010004 fet:00010008 fet:0001000c" ∷
      "2 ren:0:00010000 ren:1:00010004 ren:2:00010008 ren:3:0001000c fet:00010010 fet:00010014 fet:00010018 fet:0001001c" ∷
      "3 alu:0 fet:00010020 fet:00010024 fet:00010028 fet:0001002c" ∷
      "4 done:0 ret:0 alu:1 ren:4:00010010 fet:00010030" ∷
      "5 done:1 ret:1 alu:2 ren:5:00010014 fet:00010034" ∷
      "6 done:2 ret:2 alu:3 ld:5:0001ffe8:m ld:5:0001ffec:m ren:6:00010018 fet:00010038" ∷
      "7 done:3 ret:3 alu:4 agu:6 std:6 ren:7:0001001c fet:0001003c" ∷
      "8 done:4 done:6 ret:4 alu:7 ren:8:00010020 fet:00010040" ∷
      "9 done:7 res:7:N bp:1:0 agu:8 std:8" ∷
      "10 done:8" ∷
      "11" ∷
      "12" ∷
      "13" ∷
      "14" ∷
      "15" ∷
      "16" ∷
      "17 fill:0001ffe8 fill:0001ffec done:5 ret:5 ret:6 st:6:0001ff9c:m st:6:0001ffa0:m ren:9:00010024 ren:10:00010028 fet:00010044 fet:00010048" ∷
      "18 ret:7 ret:8 st:8:0001ffcc:m agu:9 std:9 alu:10 ren:11:0001002c ren:12:00010030" ∷
      "19 done:9 done:10 ret:9 st:9:0001ffd8:m st:9:0001ffdc:m ret:10 alu:11 ld:12:0001ffc4:m ren:13:00010034 ren:14:00010038" ∷
      "20 done:11 res:11:T bp:1:1 sq:7 ret:11 fet:00010020 fet:00010024 fet:00010028 fet:0001002c" ∷
      "21 ren:15:00010020 ren:16:00010024 ren:17:00010028 ren:18:0001002c fet:00010030 fet:00010034 fet:00010038 fet:0001003c" ∷
      "22 agu:15 std:15 alu:17 fet:00010040 fet:00010044 fet:00010048" ∷
      "23 done:15 done:17 ret:15 st:15:0001ffcc:m agu:16 std:16 alu:18 ren:19:00010030" ∷
      "24 done:16 done:18 res:18:T bp:1:2 sq:7 ret:16 st:16:0001ffd8:m st:16:0001ffdc:m ret:17 fet:00010020 fet:00010024 fet:00010028 fet:0001002c" ∷
      "25 ret:18 ren:20:00010020 ren:21:00010024 ren:22:00010028 ren:23:0001002c fet:00010020 fet:00010024 fet:00010028 fet:0001002c" ∷
      "26 agu:20 std:20 alu:22 fet:00010020 fet:00010024 fet:00010028 fet:0001002c" ∷
      "27 done:20 done:22 ret:20 st:20:0001ffcc:m agu:21 std:21 alu:23 ren:24:00010020 fet:00010020" ∷
      "28 done:21 done:23 res:23:T bp:1:3 ret:21 st:21:0001ffd8:m st:21:0001ffdc:m ret:22 agu:24 std:24 ren:25:00010024 ren:26:00010028 fet:00010024 fet:00010028" ∷
      "29 done:24 ret:23 ret:24 st:24:0001ffcc:m agu:25 std:25 alu:26 ren:27:0001002c ren:28:00010020 fet:0001002c fet:00010020" ∷
      "30 fill:0001ffc4 done:25 done:26 ret:25 st:25:0001ffd8:m st:25:0001ffdc:m ret:26 alu:27 agu:28 std:28 ren:29:00010024 ren:30:00010028 fet:00010024 fet:00010028" ∷
      "31 done:27 done:28 res:27:N bp:1:2 sq:11 ret:27 fet:00010030 fet:00010034 fet:00010038 fet:0001003c" ∷
      "32 ren:31:00010030 ren:32:00010034 ren:33:00010038 ren:34:0001003c fet:00010040 fet:00010044 fet:00010048" ∷
      "33 ld:31:0001ffc4:h mul:34" ∷
      "34 done:31 done:34 ret:31 ld:32:0001ffb4:m ld:32:0001ffb8:m ren:35:00010040" ∷
      "35 ld:33:0001ffc4:h alu:35" ∷
      "36 done:33 done:35" ∷
      "37" ∷
      "38" ∷
      "39" ∷
      "40" ∷
      "41" ∷
      "42" ∷
      "43" ∷
      "44" ∷
      "45 fill:0001ffb4 fill:0001ffb8 done:32 ret:32 ret:33" ∷
      "46 ret:34 ret:35 ren:36:00010044" ∷
      "47 ret:36 call:36:0" ∷
      "end exit 0 retired 30 cycles 47" ∷
      []);
}
