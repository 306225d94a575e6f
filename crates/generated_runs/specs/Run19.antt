-- Made by tools/evaluate/write: change what it reads, in tools/evaluate/runs, and run it again.
use Rattle.std.specs.Prelude.{[], ◌∷◌}
use Rattle.generated_runs.specs.Agreement.{Run, lines}

-- the run's code:
-- 00010014 addi x6,x0,1602
-- 00010018 addi x8,x0,-2037
-- 0001001c addi x16,x2,388
-- 00010020 addi x11,x0,-1863
-- 00010024 auipc x1,0x0
-- 00010028 addi x1,x1,80
-- 0001002c lbu x8,-63(x2)
-- 00010030 lb x8,7(x2)
-- 00010034 div x8,x8,x8
-- 00010038 bgeu x8,x0,+20
-- 0001003c mulhu x11,x8,x9
-- 00010040 lw x11,0(x2)
-- 00010044 lbu x9,-620(x2)
-- 00010048 jal x1,+4
-- 0001004c jal x1,+4
-- 00010050 jal x1,+4
-- 00010054 jal x1,+4
-- 00010058 jal x1,+4
-- 0001005c jal x1,+4
-- 00010060 jalr x0,4(x1)
-- 00010064 jalr x0,8(x1)
-- 00010068 jalr x0,12(x1)
-- 0001006c sra x7,x11,x16
-- 00010070 mul x8,x5,x2
-- 00010074 rem x10,x11,x16
-- 00010078 lw x10,-52(x2)
-- 0001007c andi x10,x10,240
-- 00010080 sub x10,x2,x10
-- 00010084 sb x5,-4(x10)
-- 00010088 sb x2,-1209(x2)
-- 0001008c lbu x16,-41(x2)
-- 00010090 addi x17,x0,93
-- 00010094 ecall
-- 00010098 sb x2,-1284(x2)
-- 0001009c sw x11,-380(x2)
-- 000100a0 jal x1,+4
-- 000100a4 jal x1,+4
-- 000100a8 jal x1,+4
-- 000100ac jal x1,+4
-- 000100b0 jalr x0,4(x1)
-- 000100b4 jalr x0,8(x1)
-- 000100b8 sw x0,-28(x2)
-- 000100bc sh x11,-62(x2)
-- 000100c0 lw x8,-248(x2)
-- 000100c4 mulhu x8,x8,x8
-- 000100c8 beq x8,x0,+36
-- 000100cc lw x6,-32(x2)
-- 000100d0 andi x10,x6,252
-- 000100d4 sub x10,x2,x10
-- 000100d8 lbu x11,-64(x10)
-- 000100dc lw x10,-952(x2)
-- 000100e0 andi x9,x10,12
-- 000100e4 sub x9,x2,x9
-- 000100e8 sb x16,-4(x9)
abbrev pub run_19 : Run
run_19 = record {
  description = lines (
      "[core]" ∷
      "fetch_width = 4" ∷
      "retire_width = 4" ∷
      "rob = 15" ∷
      "stations = 32" ∷
      "loads = 2" ∷
      "stores = 5" ∷
      "queue = 8" ∷
      "[units]" ∷
      "alus = 3" ∷
      "mul_latency = 2" ∷
      "[predictor]" ∷
      "counters = 2" ∷
      "btb = 4" ∷
      "[cache]" ∷
      "sets = 1" ∷
      "ways = 1" ∷
      "line = 16" ∷
      "hit_latency = 3" ∷
      "miss_latency = 9" ∷
      "mshrs = 3" ∷
      "[ram]" ∷
      "base = 65536" ∷
      "size = 4096" ∷
      "[stt]" ∷
      "model = \"futuristic\"" ∷
      []);
  image =
      0x464c457f ∷ 0x00010101 ∷ 0x00000000 ∷ 0x00000000 ∷ 0x00f30002 ∷ 0x00000001 ∷ 0x00010014 ∷ 0x00000034 ∷
      0x00000000 ∷ 0x00000000 ∷ 0x00200034 ∷ 0x00000002 ∷ 0x00000000 ∷ 0x00000001 ∷ 0x00000074 ∷ 0x00010014 ∷
      0x00010014 ∷ 0x000000d8 ∷ 0x000000d8 ∷ 0x00000001 ∷ 0x00000004 ∷ 0x00000001 ∷ 0x0000014c ∷ 0x00010fc0 ∷
      0x00010fc0 ∷ 0x00000040 ∷ 0x00000040 ∷ 0x00000006 ∷ 0x00000004 ∷ 0x64200313 ∷ 0x80b00413 ∷ 0x18410813 ∷
      0x8b900593 ∷ 0x00000097 ∷ 0x05008093 ∷ 0xfc114403 ∷ 0x00710403 ∷ 0x02844433 ∷ 0x00047a63 ∷ 0x029435b3 ∷
      0x00012583 ∷ 0xd9414483 ∷ 0x004000ef ∷ 0x004000ef ∷ 0x004000ef ∷ 0x004000ef ∷ 0x004000ef ∷ 0x004000ef ∷
      0x00408067 ∷ 0x00808067 ∷ 0x00c08067 ∷ 0x4105d3b3 ∷ 0x02228433 ∷ 0x0305e533 ∷ 0xfcc12503 ∷ 0x0f057513 ∷
      0x40a10533 ∷ 0xfe550e23 ∷ 0xb42103a3 ∷ 0xfd714803 ∷ 0x05d00893 ∷ 0x00000073 ∷ 0xae210e23 ∷ 0xe8b12223 ∷
      0x004000ef ∷ 0x004000ef ∷ 0x004000ef ∷ 0x004000ef ∷ 0x00408067 ∷ 0x00808067 ∷ 0xfe012223 ∷ 0xfcb11123 ∷
      0xf0812403 ∷ 0x02843433 ∷ 0x02040263 ∷ 0xfe012303 ∷ 0x0fc37513 ∷ 0x40a10533 ∷ 0xfc054583 ∷ 0xc4812503 ∷
      0x00c57493 ∷ 0x409104b3 ∷ 0xff048e23 ∷ 0x00000000 ∷ 0x000108a4 ∷ 0x00000000 ∷ 0x00000000 ∷ 0x00000000 ∷
      0x00000000 ∷ 0x00010e2c ∷ 0x87dbf714 ∷ 0x584d372b ∷ 0x00010288 ∷ 0x5883ab01 ∷ 0x00010018 ∷ 0x00000000 ∷
      0x0001004c ∷ 0x00000000 ∷ 0x00000000 ∷
      [];
  cycles = 400;
  trace = lines (
      "1 fet:00010014 fet:00010018 fet:0001001c fet:00010020" ∷
      "2 ren:0:00010014 ren:1:00010018 ren:2:0001001c ren:3:00010020 fet:00010024 fet:00010028 fet:0001002c fet:00010030" ∷
      "3 alu:0 alu:1 alu:2 ren:4:00010024 ren:5:00010028 ren:6:0001002c ren:7:00010030 fet:00010034 fet:00010038 fet:0001003c fet:00010040" ∷
      "4 done:0 done:1 done:2 ret:0 ret:1 ret:2 alu:3 alu:4 ld:6:00010fb0:m ren:8:00010034 ren:9:00010038 ren:10:0001003c fet:00010044 fet:00010048 fet:0001004c fet:00010050" ∷
      "5 done:3 done:4 ret:3 ret:4 alu:5 ld:7:00010ff0:m fet:00010054 fet:00010058 fet:0001005c" ∷
      "6 done:5 ret:5" ∷
      "7" ∷
      "8" ∷
      "9" ∷
      "10" ∷
      "11" ∷
      "12" ∷
      "13 fill:00010fb0 done:6 ret:6 ren:11:00010040 fet:00010060" ∷
      "14 fill:00010ff0 done:7 ret:7 div:8:3 ld:11:00010ff0:h ren:12:00010044 ren:13:00010048 ren:14:0001004c ren:15:00010050 fet:00010064 fet:00010068 fet:0001006c fet:00010070" ∷
      "15 ld:12:00010d80:m alu:13 alu:14 alu:15 ren:16:00010054 ren:17:00010058 ren:18:0001005c ren:19:00010060 fet:00010074 fet:00010078 fet:0001007c fet:00010080" ∷
      "16 done:13 done:14 done:15 alu:16 alu:17 alu:18 ren:20:00010064 ren:21:00010068 ren:22:0001006c fet:00010084 fet:00010088 fet:0001008c" ∷
      "17 done:8 done:11 done:16 done:17 done:18 ret:8 alu:9 mul:10 alu:19 alu:20 ren:23:00010070 fet:00010090" ∷
      "18 done:9 done:19 done:20 res:9:T bp:0:2 sq:22 ret:9 fet:0001004c fet:00010050 fet:00010054 fet:00010058" ∷
      "19 ren:24:0001004c ren:25:00010050 ren:26:00010054 ren:27:00010058 fet:0001005c fet:00010060 fet:00010064 fet:00010068" ∷
      "20 alu:24 alu:25 alu:26 ren:28:0001005c ren:29:00010060 ren:30:00010064 ren:31:00010068 fet:0001006c fet:00010070 fet:00010074 fet:00010078" ∷
      "21 done:24 done:25 done:26 ret:24 ret:25 ret:26 alu:27 alu:28 ren:32:0001006c ren:33:00010070 ren:34:00010074 ren:35:00010078 fet:0001007c fet:00010080 fet:00010084 fet:00010088" ∷
      "22 done:27 done:28 ret:27 ret:28 alu:29 alu:30 alu:31 mul:33 div:34:14 ld:35:00010fb0:m ren:36:0001007c ren:37:00010080 ren:38:00010084 ren:39:00010088 fet:0001008c fet:00010090 fet:00010094 fet:00010098" ∷
      "23 done:29 done:30 done:31 res:29:J bt:0:00010064 ret:29 alu:32 agu:39 ren:40:0001008c ren:41:00010090 fet:0001009c fet:000100a0 fet:000100a4 fet:000100a8" ∷
      "24 fill:00010d80 done:32 done:33 done:39 res:30:J bt:1:00010068 ret:30 alu:41 fet:000100ac fet:000100b0" ∷
      "25 done:41 res:31:J bt:2:0001006c ret:31 ret:32 ret:33" ∷
      "26" ∷
      "27" ∷
      "28" ∷
      "29" ∷
      "30" ∷
      "31 fill:00010fb0 done:35 alu:36" ∷
      "32 done:36 alu:37" ∷
      "33 done:37 agu:38" ∷
      "34 done:38 ld:40:00010fc0:m" ∷
      "35" ∷
      "36 done:34 ret:34 ret:35 ret:36 ret:37" ∷
      "37 ret:38 st:38:00010fe0:m" ∷
      "38 ret:39 st:39:00010b30:m" ∷
      "39" ∷
      "40" ∷
      "41" ∷
      "42" ∷
      "43 fill:00010fc0 done:40 ret:40 ret:41 ren:42:00010094 fet:000100b4" ∷
      "44 ret:42 call:42:0" ∷
      "end exit 69616 retired 29 cycles 44" ∷
      []);
}
