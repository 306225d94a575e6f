-- Made by tools/evaluate/write: change what it reads, in tools/evaluate/runs, and run it again.
use Rattle.std.specs.Prelude.{[], ◌∷◌}
use Rattle.generated_runs.specs.Agreement.{Run, lines}

-- the run's code:
-- 00010018 addi x10,x2,-1142
-- 0001001c auipc x1,0x0
-- 00010020 addi x1,x1,76
-- 00010024 rem x0,x16,x6
-- 00010028 lw x16,-28(x2)
-- 0001002c auipc x9,0x0
-- 00010030 jalr x0,20(x9)
-- 00010034 sw x10,-60(x2)
-- 00010038 lh x5,4(x2)
-- 0001003c andi x9,x5,12
-- 00010040 sub x9,x2,x9
-- 00010044 lbu x6,-64(x9)
-- 00010048 slt x8,x8,x6
-- 0001004c sltu x8,x16,x16
-- 00010050 lh x8,-24(x2)
-- 00010054 andi x8,x8,4
-- 00010058 auipc x9,0x0
-- 0001005c add x8,x8,x9
-- 00010060 jalr x1,12(x8)
-- 00010064 addi x17,x0,94
-- 00010068 ecall
-- 0001006c lb x10,-61(x2)
-- 00010070 lh x10,-60(x2)
-- 00010074 remu x10,x10,x10
-- 00010078 beq x0,x10,+36
-- 0001007c lui x11,0x524b1
-- 00010080 blt x6,x5,+20
-- 00010084 bge x6,x11,+4
-- 00010088 sw x16,-240(x2)
-- 0001008c lw x8,-4(x2)
-- 00010090 mul x9,x11,x10
abbrev pub run_22 : Run
run_22 = record {
  description = lines (
      "[core]" ∷
      "fetch_width = 4" ∷
      "retire_width = 2" ∷
      "rob = 60" ∷
      "stations = 10" ∷
      "loads = 1" ∷
      "stores = 4" ∷
      "queue = 16" ∷
      "[units]" ∷
      "alus = 1" ∷
      "mul_latency = 3" ∷
      "[predictor]" ∷
      "counters = 8" ∷
      "btb = 1" ∷
      "[cache]" ∷
      "sets = 1" ∷
      "ways = 1" ∷
      "line = 16" ∷
      "hit_latency = 8" ∷
      "miss_latency = 9" ∷
      "mshrs = 3" ∷
      "[ram]" ∷
      "base = 65536" ∷
      "size = 65536" ∷
      "[stt]" ∷
      "model = \"spectre\"" ∷
      []);
  image =
      0x464c457f ∷ 0x00010101 ∷ 0x00000000 ∷ 0x00000000 ∷ 0x00f30002 ∷ 0x00000001 ∷ 0x00010018 ∷ 0x00000034 ∷
      0x00000000 ∷ 0x00000000 ∷ 0x00200034 ∷ 0x00000002 ∷ 0x00000000 ∷ 0x00000001 ∷ 0x00000074 ∷ 0x00010018 ∷
      0x00010018 ∷ 0x0000007c ∷ 0x0000007c ∷ 0x00000005 ∷ 0x00000004 ∷ 0x00000001 ∷ 0x000000f0 ∷ 0x0001ffc0 ∷
      0x0001ffc0 ∷ 0x00000040 ∷ 0x00000040 ∷ 0x00000006 ∷ 0x00000004 ∷ 0xb8a10513 ∷ 0x00000097 ∷ 0x04c08093 ∷
      0x02686033 ∷ 0xfe412803 ∷ 0x00000497 ∷ 0x01448067 ∷ 0xfca12223 ∷ 0x00411283 ∷ 0x00c2f493 ∷ 0x409104b3 ∷
      0xfc04c303 ∷ 0x00642433 ∷ 0x01083433 ∷ 0xfe811403 ∷ 0x00447413 ∷ 0x00000497 ∷ 0x00940433 ∷ 0x00c400e7 ∷
      0x05e00893 ∷ 0x00000073 ∷ 0xfc310503 ∷ 0xfc411503 ∷ 0x02a57533 ∷ 0x02a00263 ∷ 0x524b15b7 ∷ 0x00534a63 ∷
      0x00b35263 ∷ 0xf1012823 ∷ 0xffc12403 ∷ 0x02a584b3 ∷ 0x00013584 ∷ 0x000131d8 ∷ 0x00000000 ∷ 0xffb35995 ∷
      0x000102a8 ∷ 0x00015d68 ∷ 0x00010054 ∷ 0x0001f148 ∷ 0xcd530022 ∷ 0xfa3e1333 ∷ 0x00000000 ∷ 0x000000a7 ∷
      0x00000000 ∷ 0x00000000 ∷ 0x83a6b547 ∷ 0x00000000 ∷
      [];
  cycles = 21;
  trace = lines (
      "1 fet:00010018 fet:0001001c fet:00010020 fet:00010024" ∷
      "2 ren:0:00010018 ren:1:0001001c ren:2:00010020 ren:3:00010024 fet:00010028 fet:0001002c fet:00010030 fet:00010034" ∷
      "3 alu:0 div:3:3 ren:4:00010028 ren:5:0001002c ren:6:00010030 ren:7:00010034 fet:00010038 fet:0001003c fet:00010040 fet:00010044" ∷
      "4 done:0 ret:0 alu:1 ld:4:0001ffd0:m agu:7 fet:00010048 fet:0001004c fet:00010050 fet:00010054" ∷
      "5 done:1 done:7 ret:1 alu:2 fet:00010058 fet:0001005c fet:00010060 fet:00010064" ∷
      "6 done:2 done:3 ret:2 ret:3 alu:5 fet:00010068 fet:0001006c fet:00010070 fet:00010074" ∷
      "7 done:5 alu:6" ∷
      "8 done:6 res:6:J bt:0:00010040 sq:17 fet:00010040 fet:00010044 fet:00010048 fet:0001004c" ∷
      "9 ren:8:00010040 fet:00010050 fet:00010054 fet:00010058 fet:0001005c" ∷
      "10 alu:8 fet:00010060 fet:00010064 fet:00010068 fet:0001006c" ∷
      "11 done:8 fet:00010070 fet:00010074 fet:00010078 fet:0001007c" ∷
      "12 fet:00010080" ∷
      "13 fill:0001ffd0 done:4 ret:4 ret:5 ren:9:00010044 ren:10:00010048 ren:11:0001004c fet:00010084 fet:00010088 fet:0001008c" ∷
      "14 ret:6 ret:8 ld:9:x alu:11" ∷
      "15 done:9 done:11" ∷
      "end trap 5 00010044 retired 8 cycles 15" ∷
      []);
}
