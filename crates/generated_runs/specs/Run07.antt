-- Made by tools/evaluate/write: change what it reads, in tools/evaluate/runs, and run it again.
use Rattle.std.specs.Prelude.{[], ◌∷◌}
use Rattle.generated_runs.specs.Agreement.{Run, lines}

-- the run's code:
-- 0001001c addi x5,x0,1192
-- 00010020 addi x6,x0,1505
-- 00010024 addi x10,x0,-1461
-- 00010028 addi x11,x0,1135
-- 0001002c auipc x1,0x0
-- 00010030 addi x1,x1,76
-- 00010034 addi x18,x0,2
-- 00010038 ori x7,x10,-254
-- 0001003c sra x16,x11,x10
-- 00010040 addi x13,x2,0
-- 00010044 remu x13,x13,x2
-- 00010048 sw x13,-24(x2)
-- 0001004c sw x2,-22(x2)
-- 00010050 lw x5,-24(x2)
-- 00010054 lw x7,-884(x2)
-- 00010058 sw x16,-36(x2)
-- 0001005c andi x9,x7,12
-- 00010060 add x9,x2,x9
-- 00010064 sb x16,-36(x9)
-- 00010068 lw x9,-36(x2)
-- 0001006c andi x10,x7,4
-- 00010070 sub x10,x2,x10
-- 00010074 sb x9,-28(x10)
-- 00010078 lbu x6,-28(x2)
-- 0001007c lw x8,-168(x2)
-- 00010080 addi x18,x18,-1
-- 00010084 bne x18,x0,-76
-- 00010088 addi x17,x0,93
-- 0001008c ecall
abbrev pub run_07 : Run
run_07 = record {
  description = lines (
      "[core]" ∷
      "fetch_width = 2" ∷
      "retire_width = 2" ∷
      "rob = 4" ∷
      "stations = 2" ∷
      "loads = 1" ∷
      "stores = 12" ∷
      "queue = 1" ∷
      "[units]" ∷
      "alus = 4" ∷
      "mul_latency = 1" ∷
      "[predictor]" ∷
      "counters = 8" ∷
      "btb = 2" ∷
      "[cache]" ∷
      "sets = 4" ∷
      "ways = 8" ∷
      "line = 16" ∷
      "hit_latency = 2" ∷
      "miss_latency = 18" ∷
      "mshrs = 7" ∷
      "[ram]" ∷
      "base = 65536" ∷
      "size = 65536" ∷
      "[stt]" ∷
      "model = \"futuristic\"" ∷
      []);
  image =
      0x464c457f ∷ 0x00010101 ∷ 0x00000000 ∷ 0x00000000 ∷ 0x00f30002 ∷ 0x00000001 ∷ 0x0001001c ∷ 0x00000034 ∷
      0x00000000 ∷ 0x00000000 ∷ 0x00200034 ∷ 0x00000002 ∷ 0x00000000 ∷ 0x00000001 ∷ 0x00000074 ∷ 0x0001001c ∷
      0x0001001c ∷ 0x00000074 ∷ 0x00000074 ∷ 0x00000001 ∷ 0x00000004 ∷ 0x00000001 ∷ 0x000000e8 ∷ 0x0001fff0 ∷
      0x0001fff0 ∷ 0x00000010 ∷ 0x00000010 ∷ 0x00000006 ∷ 0x00000004 ∷ 0x4a800293 ∷ 0x5e100313 ∷ 0xa4b00513 ∷
      0x46f00593 ∷ 0x00000097 ∷ 0x04c08093 ∷ 0x00200913 ∷ 0xf0256393 ∷ 0x40a5d833 ∷ 0x00010693 ∷ 0x0226f6b3 ∷
      0xfed12423 ∷ 0xfe212523 ∷ 0xfe812283 ∷ 0xc8c12383 ∷ 0xfd012e23 ∷ 0x00c3f493 ∷ 0x009104b3 ∷ 0xfd048e23 ∷
      0xfdc12483 ∷ 0x0043f513 ∷ 0x40a10533 ∷ 0xfe950223 ∷ 0xfe414303 ∷ 0xf5812403 ∷ 0xfff90913 ∷ 0xfa091ae3 ∷
      0x05d00893 ∷ 0x00000073 ∷ 0x79bc5963 ∷ 0x00000000 ∷ 0x00000030 ∷ 0x674a39c2 ∷
      [];
  cycles = 400;
  trace = lines (
      "1 fet:0001001c" ∷
      "2 ren:0:0001001c fet:00010020" ∷
      "3 alu:0 ren:1:00010020 fet:00010024" ∷
      "4 done:0 ret:0 alu:1 ren:2:00010024 fet:00010028" ∷
      "5 done:1 ret:1 alu:2 ren:3:00010028 fet:0001002c" ∷
      "6 done:2 ret:2 alu:3 ren:4:0001002c fet:00010030" ∷
      "7 done:3 ret:3 alu:4 ren:5:00010030 fet:00010034" ∷
      "8 done:4 ret:4 alu:5 ren:6:00010034 fet:00010038" ∷
      "9 done:5 ret:5 alu:6 ren:7:00010038 fet:0001003c" ∷
      "10 done:6 ret:6 alu:7 ren:8:0001003c fet:00010040" ∷
      "11 done:7 ret:7 alu:8 ren:9:00010040 fet:00010044" ∷
      "12 done:8 ret:8 alu:9 ren:10:00010044 fet:00010048" ∷
      "13 done:9 ret:9 div:10:20 ren:11:00010048 fet:0001004c" ∷
      "14 ren:12:0001004c fet:00010050" ∷
      "15 agu:12 ren:13:00010050 fet:00010054" ∷
      "16 done:12" ∷
      "17" ∷
      "18" ∷
      "19" ∷
      "20" ∷
      "21" ∷
      "22" ∷
      "23" ∷
      "24" ∷
      "25" ∷
      "26" ∷
      "27" ∷
      "28" ∷
      "29" ∷
      "30" ∷
      "31" ∷
      "32" ∷
      "33 done:10 ret:10 agu:11" ∷
      "34 done:11 ret:11 st:11:0001ffd0:m" ∷
      "end trap 6 0001004c retired 12 cycles 34" ∷
      []);
}
