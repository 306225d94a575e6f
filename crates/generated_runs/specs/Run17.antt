-- Made by tools/evaluate/write: change what it reads, in tools/evaluate/runs, and run it again.
use Rattle.std.specs.Prelude.{[], ◌∷◌}
use Rattle.generated_runs.specs.Agreement.{Run, lines}

-- the run's code:
-- 00010018 addi x5,x0,1623
-- 0001001c addi x8,x2,2015
-- 00010020 addi x11,x2,291
-- 00010024 auipc x1,0x0
-- 00010028 addi x1,x1,40
-- 0001002c addi x12,x2,0
-- 00010030 mul x12,x12,x2
-- 00010034 remu x12,x12,x2
-- 00010038 bltu x12,x12,+12
-- 0001003c lw x8,-624(x2)
-- 00010040 divu x6,x6,x8
-- 00010044 lw x12,-60(x2)
-- 00010048 div x12,x12,x2
-- 0001004c mulhu x12,x12,x2
-- 00010050 bge x12,x12,+20
-- 00010054 lbu x5,-948(x2)
-- 00010058 andi x10,x5,252
-- 0001005c sub x10,x2,x10
-- 00010060 lw x6,0(x10)
-- 00010064 addi x17,x0,93
-- 00010068 ecall
abbrev pub run_17 : Run
run_17 = record {
  description = lines (
      "[core]" ∷
      "fetch_width = 1" ∷
      "retire_width = 1" ∷
      "rob = 63" ∷
      "stations = 14" ∷
      "loads = 6" ∷
      "stores = 16" ∷
      "queue = 6" ∷
      "[units]" ∷
      "alus = 1" ∷
      "mul_latency = 2" ∷
      "[predictor]" ∷
      "counters = 16" ∷
      "btb = 4" ∷
      "[cache]" ∷
      "sets = 1" ∷
      "ways = 2" ∷
      "line = 4" ∷
      "hit_latency = 6" ∷
      "miss_latency = 7" ∷
      "mshrs = 4" ∷
      "[ram]" ∷
      "base = 65536" ∷
      "size = 4096" ∷
      "[stt]" ∷
      "model = \"futuristic\"" ∷
      []);
  image =
      0x464c457f ∷ 0x00010101 ∷ 0x00000000 ∷ 0x00000000 ∷ 0x00f30002 ∷ 0x00000001 ∷ 0x00010018 ∷ 0x00000034 ∷
      0x00000000 ∷ 0x00000000 ∷ 0x00200034 ∷ 0x00000002 ∷ 0x00000000 ∷ 0x00000001 ∷ 0x00000074 ∷ 0x00010018 ∷
      0x00010018 ∷ 0x00000054 ∷ 0x00000054 ∷ 0x00000005 ∷ 0x00000004 ∷ 0x00000001 ∷ 0x000000c8 ∷ 0x00010fc0 ∷
      0x00010fc0 ∷ 0x00000040 ∷ 0x00000040 ∷ 0x00000006 ∷ 0x00000004 ∷ 0x65700293 ∷ 0x7df10413 ∷ 0x12310593 ∷
      0x00000097 ∷ 0x02808093 ∷ 0x00010613 ∷ 0x02260633 ∷ 0x02267633 ∷ 0x00c66663 ∷ 0xd9012403 ∷ 0x02835333 ∷
      0xfc412603 ∷ 0x02264633 ∷ 0x02263633 ∷ 0x00c65a63 ∷ 0xc4c14283 ∷ 0x0fc2f513 ∷ 0x40a10533 ∷ 0x00052303 ∷
      0x05d00893 ∷ 0x00000073 ∷ 0x00010044 ∷ 0x000107d4 ∷ 0x00000057 ∷ 0x922568ba ∷ 0x00000000 ∷ 0x0001001c ∷
      0x00010b2c ∷ 0x0001004c ∷ 0xd5c8c271 ∷ 0x00010050 ∷ 0x4d9b0c5b ∷ 0x00000000 ∷ 0x00000034 ∷ 0x000109a0 ∷
      0x0000008a ∷ 0x00000003 ∷
      [];
  cycles = 400;
  trace = lines (
      "1 fet:00010018" ∷
      "2 ren:0:00010018 fet:0001001c" ∷
      "3 alu:0 ren:1:0001001c fet:00010020" ∷
      "4 done:0 ret:0 alu:1 ren:2:00010020 fet:00010024" ∷
      "5 done:1 ret:1 alu:2 ren:3:00010024 fet:00010028" ∷
      "6 done:2 ret:2 alu:3 ren:4:00010028 fet:0001002c" ∷
      "7 done:3 ret:3 alu:4 ren:5:0001002c fet:00010030" ∷
      "8 done:4 ret:4 alu:5 ren:6:00010030 fet:00010034" ∷
      "9 done:5 ret:5 mul:6 ren:7:00010034 fet:00010038" ∷
      "10 ren:8:00010038 fet:0001003c" ∷
      "11 done:6 ret:6 div:7:33 ren:9:0001003c fet:00010040" ∷
      "12 ld:9:00010d80:m ren:10:00010040 fet:00010044" ∷
      "13 ren:11:00010044 fet:00010048" ∷
      "14 ld:11:00010fb4:m ren:12:00010048 fet:0001004c" ∷
      "15 ren:13:0001004c fet:00010050" ∷
      "16 ren:14:00010050 fet:00010054" ∷
      "17 ren:15:00010054 fet:00010058" ∷
      "18 ld:15:00010c3c:m ren:16:00010058 fet:0001005c" ∷
      "19 fill:00010d80 done:9 ren:17:0001005c fet:00010060" ∷
      "20 ren:18:00010060 fet:00010064" ∷
      "21 fill:00010fb4 done:11 ren:19:00010064 fet:00010068" ∷
      "22 alu:19 fet:0001006c" ∷
      "23 done:19" ∷
      "24" ∷
      "25 fill:00010c3c done:15 alu:16" ∷
      "26 done:16 alu:17" ∷
      "27 done:17" ∷
      "28" ∷
      "29" ∷
      "30" ∷
      "31" ∷
      "32" ∷
      "33" ∷
      "34" ∷
      "35" ∷
      "36" ∷
      "37" ∷
      "38" ∷
      "39" ∷
      "40" ∷
      "41" ∷
      "42" ∷
      "43" ∷
      "44 done:7 ret:7 alu:8" ∷
      "45 done:8 res:8:N bp:14:0 ret:8 div:10:3" ∷
      "46 ret:9" ∷
      "47" ∷
      "48 done:10 ret:10 div:12:3" ∷
      "49 ret:11" ∷
      "50" ∷
      "51 done:12 ret:12 mul:13" ∷
      "52" ∷
      "53 done:13 ret:13 alu:14" ∷
      "54 done:14 res:14:T bp:4:2 sq:7 ret:14 fet:00010064" ∷
      "55 ren:20:00010064 fet:00010068" ∷
      "56 alu:20 fet:0001006c" ∷
      "57 done:20 ret:20 ren:21:00010068" ∷
      "58 ret:21 call:21:0" ∷
      "end exit 0 retired 17 cycles 58" ∷
      []);
}
