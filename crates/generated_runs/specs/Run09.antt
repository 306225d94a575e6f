-- Made by tools/evaluate/write: change what it reads, in tools/evaluate/runs, and run it again.
use Rattle.std.specs.Prelude.{[], ◌∷◌}
use Rattle.generated_runs.specs.Agreement.{Run, lines}

-- the run's code:
-- 00010004 addi x6,x0,479
-- 00010008 addi x7,x0,45
-- 0001000c auipc x1,0x0
-- 00010010 addi x1,x1,72
-- 00010014 lhu x0,-1080(x2)
-- 00010018 addi x12,x2,0
-- 0001001c mul x12,x12,x2
-- 00010020 lhu x5,-38(x2)
-- 00010024 sw x11,-16(x2)
-- 00010028 lw x14,-16(x2)
-- 0001002c andi x14,x14,4
-- 00010030 sub x14,x2,x14
-- 00010034 sw x2,-24(x14)
-- 00010038 sw x2,-28(x14)
-- 0001003c mul x15,x0,x2
-- 00010040 mul x15,x15,x15
-- 00010044 add x15,x15,x2
-- 00010048 lw x5,-32(x15)
-- 0001004c lw x8,0(x5)
-- 00010050 andi x8,x8,12
-- 00010054 auipc x9,0x0
-- 00010058 add x8,x8,x9
-- 0001005c jalr x7,12(x8)
abbrev pub run_09 : Run
run_09 = record {
  description = lines (
      "[core]" ∷
      "fetch_width = 2" ∷
      "retire_width = 1" ∷
      "rob = 18" ∷
      "stations = 2" ∷
      "loads = 4" ∷
      "stores = 9" ∷
      "queue = 5" ∷
      "[units]" ∷
      "alus = 2" ∷
      "mul_latency = 2" ∷
      "[predictor]" ∷
      "counters = 8" ∷
      "btb = 4" ∷
      "[cache]" ∷
      "sets = 1" ∷
      "ways = 7" ∷
      "line = 8" ∷
      "hit_latency = 2" ∷
      "miss_latency = 3" ∷
      "mshrs = 4" ∷
      "[ram]" ∷
      "base = 65536" ∷
      "size = 65536" ∷
      "[stt]" ∷
      "model = \"futuristic\"" ∷
      []);
  image =
      0x464c457f ∷ 0x00010101 ∷ 0x00000000 ∷ 0x00000000 ∷ 0x00f30002 ∷ 0x00000001 ∷ 0x00010004 ∷ 0x00000034 ∷
      0x00000000 ∷ 0x00000000 ∷ 0x00200034 ∷ 0x00000002 ∷ 0x00000000 ∷ 0x00000001 ∷ 0x00000074 ∷ 0x00010004 ∷
      0x00010004 ∷ 0x0000005c ∷ 0x0000005c ∷ 0x00000001 ∷ 0x00000004 ∷ 0x00000001 ∷ 0x000000d0 ∷ 0x0001fff0 ∷
      0x0001fff0 ∷ 0x00000010 ∷ 0x00000010 ∷ 0x00000006 ∷ 0x00000004 ∷ 0x1df00313 ∷ 0x02d00393 ∷ 0x00000097 ∷
      0x04808093 ∷ 0xbc815003 ∷ 0x00010613 ∷ 0x02260633 ∷ 0xfda15283 ∷ 0xfeb12823 ∷ 0xff012703 ∷ 0x00477713 ∷
      0x40e10733 ∷ 0xfe272423 ∷ 0xfe272223 ∷ 0x022007b3 ∷ 0x02f787b3 ∷ 0x002787b3 ∷ 0xfe07a283 ∷ 0x0002a403 ∷
      0x00c47413 ∷ 0x00000497 ∷ 0x00940433 ∷ 0x00c403e7 ∷ 0x0b82ba75 ∷ 0x00000000 ∷ 0x00015dac ∷ 0x00000063 ∷
      [];
  cycles = 400;
  trace = lines (
      "1 fet:00010004 fet:00010008" ∷
      "2 ren:0:00010004 ren:1:00010008 fet:0001000c fet:00010010" ∷
      "3 alu:0 alu:1 ren:2:0001000c ren:3:00010010 fet:00010014 fet:00010018" ∷
      "4 done:0 done:1 ret:0 alu:2 ren:4:00010014 fet:0001001c fet:00010020" ∷
      "5 done:2 ret:1 alu:3 ld:4:0001fbb8:m ren:5:00010018 ren:6:0001001c fet:00010024 fet:00010028" ∷
      "6 done:3 ret:2 alu:5 ren:7:00010020 fet:0001002c fet:00010030" ∷
      "7 done:5 ret:3 mul:6 ld:7:0001ffc8:m ren:8:00010024 ren:9:00010028 fet:00010034 fet:00010038" ∷
      "8 fill:0001fbb8 done:4 ret:4 agu:8 ren:10:0001002c fet:0001003c fet:00010040" ∷
      "9 done:6 done:8 ret:5 ld:9:f ren:11:00010030 fet:00010044" ∷
      "10 fill:0001ffc8 done:7 done:9 ret:6 alu:10 ren:12:00010034 fet:00010048" ∷
      "11 done:10 ret:7 alu:11 ren:13:00010038 fet:0001004c" ∷
      "12 done:11 ret:8 st:8:0001ffe0:m agu:12 ren:14:0001003c fet:00010050" ∷
      "13 done:12 ret:9 agu:13 mul:14 ren:15:00010040 ren:16:00010044 fet:00010054 fet:00010058" ∷
      "14 done:13 ret:10" ∷
      "15 done:14 ret:11 mul:15 ren:17:00010048 fet:0001005c" ∷
      "16 ret:12 st:12:0001ffd8:m" ∷
      "17 done:15 ret:13 st:13:0001ffd0:m alu:16 ren:18:0001004c fet:00010060" ∷
      "18 done:16 ret:14 ld:17:0001ffd0:m ren:19:00010050" ∷
      "19 ret:15" ∷
      "20 ret:16" ∷
      "21 fill:0001ffd0 done:17 ret:17 ld:18:x ren:20:00010054" ∷
      "22 done:18" ∷
      "end trap 5 0001004c retired 18 cycles 22" ∷
      []);
}
