-- Made by tools/evaluate/write: change what it reads, in tools/evaluate/runs, and run it again.
use Rattle.std.specs.Prelude.{[], ◌∷◌}
use Rattle.generated_runs.specs.Agreement.{Run, lines}

-- the run's code:
-- 00010000 addi x5,x0,262
-- 00010004 addi x7,x2,164
-- 00010008 addi x8,x2,1440
-- 0001000c addi x16,x2,1984
-- 00010010 auipc x1,0x0
-- 00010014 addi x1,x1,40
-- 00010018 lbu x6,-8(x2)
-- 0001001c slli x6,x6,1
-- 00010020 andi x10,x6,60
-- 00010024 sub x10,x2,x10
-- 00010028 lw x9,0(x10)
-- 0001002c lhu x9,-34(x2)
-- 00010030 addi x17,x0,64
-- 00010034 addi x10,x0,2
-- 00010038 addi x11,x2,-62
-- 0001003c addi x12,x0,0
-- 00010040 ecall
-- 00010044 addi x12,x2,0
-- 00010048 div x12,x12,x12
-- 0001004c lw x5,0(x0)
-- 00010050 lbu x6,-792(x2)
-- 00010054 sw x7,-56(x2)
-- 00010058 andi x9,x6,4
-- 0001005c add x9,x2,x9
-- 00010060 sw x7,-56(x9)
-- 00010064 lw x8,-56(x2)
-- 00010068 andi x6,x6,4
-- 0001006c auipc x9,0x0
-- 00010070 add x6,x6,x9
-- 00010074 jalr x7,12(x6)
-- 00010078 addi x17,x0,93
-- 0001007c ecall
abbrev pub run_13 : Run
run_13 = record {
  description = lines (
      "[core]" ∷
      "fetch_width = 2" ∷
      "retire_width = 4" ∷
      "rob = 62" ∷
      "stations = 27" ∷
      "loads = 4" ∷
      "stores = 3" ∷
      "queue = 8" ∷
      "[units]" ∷
      "alus = 1" ∷
      "mul_latency = 1" ∷
      "[predictor]" ∷
      "counters = 4" ∷
      "btb = 2" ∷
      "[cache]" ∷
      "sets = 1" ∷
      "ways = 1" ∷
      "line = 16" ∷
      "hit_latency = 3" ∷
      "miss_latency = 14" ∷
      "mshrs = 8" ∷
      "[ram]" ∷
      "base = 65536" ∷
      "size = 4096" ∷
      "[stt]" ∷
      "model = \"futuristic\"" ∷
      []);
  image =
      0x464c457f ∷ 0x00010101 ∷ 0x00000000 ∷ 0x00000000 ∷ 0x00f30002 ∷ 0x00000001 ∷ 0x00010000 ∷ 0x00000034 ∷
      0x00000000 ∷ 0x00000000 ∷ 0x00200034 ∷ 0x00000002 ∷ 0x00000000 ∷ 0x00000001 ∷ 0x00000074 ∷ 0x00010000 ∷
      0x00010000 ∷ 0x00000080 ∷ 0x00000080 ∷ 0x00000005 ∷ 0x00000004 ∷ 0x00000001 ∷ 0x000000f4 ∷ 0x00010ff0 ∷
      0x00010ff0 ∷ 0x00000010 ∷ 0x00000010 ∷ 0x00000006 ∷ 0x00000004 ∷ 0x10600293 ∷ 0x0a410393 ∷ 0x5a010413 ∷
      0x7c010813 ∷ 0x00000097 ∷ 0x02808093 ∷ 0xff814303 ∷ 0x00131313 ∷ 0x03c37513 ∷ 0x40a10533 ∷ 0x00052483 ∷
      0xfde15483 ∷ 0x04000893 ∷ 0x00200513 ∷ 0xfc210593 ∷ 0x00000613 ∷ 0x00000073 ∷ 0x00010613 ∷ 0x02c64633 ∷
      0x00002283 ∷ 0xce814303 ∷ 0xfc712423 ∷ 0x00437493 ∷ 0x009104b3 ∷ 0xfc74a423 ∷ 0xfc812403 ∷ 0x00437313 ∷
      0x00000497 ∷ 0x00930333 ∷ 0x00c303e7 ∷ 0x05d00893 ∷ 0x00000073 ∷ 0x00000000 ∷ 0x00000000 ∷ 0x00000000 ∷
      0x0000005d ∷
      [];
  cycles = 400;
  trace = lines (
      "1 fet:00010000 fet:00010004" ∷
      "2 ren:0:00010000 ren:1:00010004 fet:00010008 fet:0001000c" ∷
      "3 alu:0 ren:2:00010008 ren:3:0001000c fet:00010010 fet:00010014" ∷
      "4 done:0 ret:0 alu:1 ren:4:00010010 ren:5:00010014 fet:00010018 fet:0001001c" ∷
      "5 done:1 ret:1 alu:2 ren:6:00010018 ren:7:0001001c fet:00010020 fet:00010024" ∷
      "6 done:2 ret:2 alu:3 ld:6:00010fe0:m ren:8:00010020 ren:9:00010024 fet:00010028 fet:0001002c" ∷
      "7 done:3 ret:3 alu:4 ren:10:00010028 ren:11:0001002c fet:00010030 fet:00010034" ∷
      "8 done:4 ret:4 alu:5 ld:11:00010fc0:m ren:12:00010030 ren:13:00010034 fet:00010038 fet:0001003c" ∷
      "9 done:5 ret:5 alu:12 ren:14:00010038 ren:15:0001003c fet:00010040 fet:00010044" ∷
      "10 done:12 alu:13 fet:00010048 fet:0001004c" ∷
      "11 done:13 alu:14 fet:00010050 fet:00010054" ∷
      "12 done:14 alu:15 fet:00010058 fet:0001005c" ∷
      "13 done:15" ∷
      "14" ∷
      "15" ∷
      "16" ∷
      "17" ∷
      "18" ∷
      "19" ∷
      "20 fill:00010fe0 done:6 ret:6 alu:7" ∷
      "21 done:7 ret:7 alu:8" ∷
      "22 fill:00010fc0 done:8 done:11 ret:8 alu:9" ∷
      "23 done:9 ret:9 ld:10:00010ff0:m" ∷
      "24" ∷
      "25" ∷
      "26" ∷
      "27" ∷
      "28" ∷
      "29" ∷
      "30" ∷
      "31" ∷
      "32" ∷
      "33" ∷
      "34" ∷
      "35" ∷
      "36" ∷
      "37 fill:00010ff0 done:10 ret:10 ret:11 ret:12 ret:13" ∷
      "38 ret:14 ret:15 ren:16:00010040 fet:00010060" ∷
      "39 ret:16 call:16:0 ren:17:00010044 ren:18:00010048 fet:00010064 fet:00010068" ∷
      "40 alu:17 ren:19:0001004c ren:20:00010050 fet:0001006c fet:00010070" ∷
      "41 done:17 ret:17 div:18:20 ld:19:x ren:21:00010054 ren:22:00010058 fet:00010074 fet:00010078" ∷
      "42 done:19 ld:20:00010cd0:m agu:21 ren:23:0001005c ren:24:00010060 fet:0001007c fet:00010080" ∷
      "43 done:21 ren:25:00010064 ren:26:00010068" ∷
      "44 ren:27:0001006c ren:28:00010070" ∷
      "45 alu:27 ren:29:00010074 ren:30:00010078" ∷
      "46 done:27 alu:30" ∷
      "47 done:30" ∷
      "48" ∷
      "49" ∷
      "50" ∷
      "51" ∷
      "52" ∷
      "53" ∷
      "54" ∷
      "55" ∷
      "56 fill:00010cd0 done:20 alu:22" ∷
      "57 done:22 alu:23" ∷
      "58 done:23 agu:24 alu:26" ∷
      "59 done:24 done:26 ld:25:00010fb0:m alu:28" ∷
      "60 done:28 alu:29" ∷
      "61 done:18 done:29 ret:18" ∷
      "end trap 5 0001004c retired 19 cycles 61" ∷
      []);
}
