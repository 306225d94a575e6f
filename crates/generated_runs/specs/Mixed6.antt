-- Made by tools/evaluate/write: change what it reads, in tools/evaluate/runs, and run it again.
use Rattle.std.specs.Prelude.{[], ◌∷◌}
use Rattle.generated_runs.specs.Agreement.{Run, lines}

-- the run's code:
-- 00010000 addi x8,x2,-128
-- 00010004 addi x15,x0,4
-- 00010008 div x7,x5,x11
-- 0001000c andi x14,x10,12
-- 00010010 mul x6,x6,x10
-- 00010014 rem x11,x2,x0
-- 00010018 sw x10,20(x8)
-- 0001001c andi x13,x5,4
-- 00010020 add x13,x13,x8
-- 00010024 sw x6,0(x8)
-- 00010028 lh x10,12(x8)
-- 0001002c bgeu x5,x7,+16
-- 00010030 sb x7,0(x8)
-- 00010034 lw x12,0(x13)
-- 00010038 andi x14,x6,12
-- 0001003c sub x12,x9,x7
-- 00010040 lhu x7,0(x8)
-- 00010044 bgeu x10,x0,+16
-- 00010048 lw x6,4(x8)
-- 0001004c bgeu x5,x12,+8
-- 00010050 xor x6,x5,x12
-- 00010054 beq x9,x6,+12
-- 00010058 lh x9,12(x13)
-- 0001005c lw x5,4(x8)
-- 00010060 bne x10,x11,+16
-- 00010064 add x7,x6,x10
-- 00010068 add x7,x9,x9
-- 0001006c lb x11,20(x8)
-- 00010070 andi x14,x7,12
-- 00010074 div x7,x9,x6
-- 00010078 div x6,x6,x5
-- 0001007c lb x9,4(x8)
-- 00010080 sw x11,4(x13)
-- 00010084 sb x6,4(x8)
-- 00010088 rem x11,x2,x0
-- 0001008c sb x11,20(x8)
-- 00010090 bgeu x6,x12,+8
-- 00010094 andi x13,x9,12
-- 00010098 add x13,x13,x8
-- 0001009c sub x11,x12,x10
-- 000100a0 lhu x11,4(x13)
-- 000100a4 sw x12,4(x13)
-- 000100a8 xor x10,x6,x5
-- 000100ac sb x10,32(x13)
-- 000100b0 sw x10,20(x8)
-- 000100b4 sub x5,x7,x12
-- 000100b8 xor x12,x5,x6
-- 000100bc sub x7,x10,x10
-- 000100c0 sb x12,8(x8)
-- 000100c4 addi x15,x15,-1
-- 000100c8 bne x15,x0,-184
-- 000100cc addi x17,x0,93
-- 000100d0 ecall
-- 000100d4 ecall
-- 000100d8 ecall
-- 000100dc ecall
abbrev pub mixed_6 : Run
mixed_6 = record {
  description = lines (
      "version = 2" ∷
      "[core]" ∷
      "fetch_width = 1" ∷
      "retire_width = 2" ∷
      "rob = 16" ∷
      "stations = 3" ∷
      "loads = 2" ∷
      "stores = 4" ∷
      "queue = 8" ∷
      "[units]" ∷
      "alus = 1" ∷
      "mul_latency = 8" ∷
      "[predictor]" ∷
      "counters = 16" ∷
      "btb = 4" ∷
      "[cache]" ∷
      "sets = 1" ∷
      "ways = 1" ∷
      "line = 32" ∷
      "hit_latency = 2" ∷
      "miss_latency = 17" ∷
      "mshrs = 3" ∷
      "[ram]" ∷
      "base = 65536" ∷
      "size = 65536" ∷
      "[stt]" ∷
      "model = \"spectre\"" ∷
      []);
  image =
      0x464c457f ∷ 0x00010101 ∷ 0x00000000 ∷ 0x00000000 ∷ 0x00f30002 ∷ 0x00000001 ∷ 0x00010000 ∷ 0x00000034 ∷
      0x00000000 ∷ 0x00000000 ∷ 0x00200034 ∷ 0x00000002 ∷ 0x00000000 ∷ 0x00000001 ∷ 0x00000074 ∷ 0x00010000 ∷
      0x00010000 ∷ 0x000000e0 ∷ 0x000000e0 ∷ 0x00000005 ∷ 0x00000004 ∷ 0x00000001 ∷ 0x00000154 ∷ 0x0001ff70 ∷
      0x0001ff70 ∷ 0x00000040 ∷ 0x00000040 ∷ 0x00000006 ∷ 0x00000004 ∷ 0xf8010413 ∷ 0x00400793 ∷ 0x02b2c3b3 ∷
      0x00c57713 ∷ 0x02a30333 ∷ 0x020165b3 ∷ 0x00a42a23 ∷ 0x0042f693 ∷ 0x008686b3 ∷ 0x00642023 ∷ 0x00c41503 ∷
      0x0072f863 ∷ 0x00740023 ∷ 0x0006a603 ∷ 0x00c37713 ∷ 0x40748633 ∷ 0x00045383 ∷ 0x00057863 ∷ 0x00442303 ∷
      0x00c2f463 ∷ 0x00c2c333 ∷ 0x00648663 ∷ 0x00c69483 ∷ 0x00442283 ∷ 0x00b51863 ∷ 0x00a303b3 ∷ 0x009483b3 ∷
      0x01440583 ∷ 0x00c3f713 ∷ 0x0264c3b3 ∷ 0x02534333 ∷ 0x00440483 ∷ 0x00b6a223 ∷ 0x00640223 ∷ 0x020165b3 ∷
      0x00b40a23 ∷ 0x00c37463 ∷ 0x00c4f693 ∷ 0x008686b3 ∷ 0x40a605b3 ∷ 0x0046d583 ∷ 0x00c6a223 ∷ 0x00534533 ∷
      0x02a68023 ∷ 0x00a42a23 ∷ 0x40c382b3 ∷ 0x0062c633 ∷ 0x40a503b3 ∷ 0x00c40423 ∷ 0xfff78793 ∷ 0xf40794e3 ∷
      0x05d00893 ∷ 0x00000073 ∷ 0x00000073 ∷ 0x00000073 ∷ 0x00000073 ∷ 0x00940008 ∷ 0x00d10811 ∷ 0x010004d0 ∷
      0x00080104 ∷ 0x08040408 ∷ 0x0812f400 ∷ 0x00040108 ∷ 0x080000ed ∷ 0xab040000 ∷ 0x04080000 ∷ 0x00080000 ∷
      0x0404009b ∷ 0x00015d04 ∷ 0x79080804 ∷ 0x00a70400 ∷ 0x3f000000 ∷
      [];
  cycles = 400;
  trace = lines (
      "1 fet:00010000" ∷
      "2 ren:0:00010000 fet:00010004" ∷
      "3 alu:0 ren:1:00010004 fet:00010008" ∷
      "4 done:0 ret:0 alu:1 ren:2:00010008 fet:0001000c" ∷
      "5 done:1 ret:1 div:2:3 ren:3:0001000c fet:00010010" ∷
      "6 alu:3 ren:4:00010010 fet:00010014" ∷
      "7 done:3 mul:4 ren:5:00010014 fet:00010018" ∷
      "8 done:2 ret:2 ret:3 div:5:20 ren:6:00010018 fet:0001001c" ∷
      "9 agu:6 std:6 ren:7:0001001c fet:00010020" ∷
      "10 done:6 alu:7 ren:8:00010020 fet:00010024" ∷
      "11 done:7 alu:8 ren:9:00010024 fet:00010028" ∷
      "12 done:8 agu:9 ren:10:00010028 fet:0001002c" ∷
      "13 ld:10:0001ff60:m ren:11:0001002c fet:00010030" ∷
      "14 alu:11 ren:12:00010030 fet:00010034" ∷
      "15 done:4 done:11 res:11:N bp:11:0 ret:4 std:9 agu:12 ren:13:00010034 fet:00010038" ∷
      "16 done:9 std:12 ren:14:00010038 fet:0001003c" ∷
      "17 done:12 ld:13:f alu:14 ren:15:0001003c fet:00010040" ∷
      "18 done:13 done:14 alu:15 fet:00010044" ∷
      "19 done:15 fet:00010048" ∷
      "20 fet:0001004c" ∷
      "21 fet:00010050" ∷
      "22 fet:00010054" ∷
      "23 fet:00010058" ∷
      "24 fet:0001005c" ∷
      "25" ∷
      "26" ∷
      "27" ∷
      "28 done:5 ret:5 ret:6 st:6:0001ff80:m" ∷
      "29 ret:7 ret:8" ∷
      "30 fill:0001ff60 done:10 ret:9 st:9:0001ff60:h ret:10 ren:16:00010040 fet:00010060" ∷
      "31 ret:11 ret:12 st:12:0001ff60:h ld:16:0001ff60:h ren:17:00010044 fet:00010064" ∷
      "32 ret:13 ret:14 alu:17 ren:18:00010048 fet:00010068" ∷
      "33 done:16 done:17 res:17:T bp:1:2 sq:9 ret:15 ret:16 fet:00010054" ∷
      "34 ret:17 ren:19:00010054 fet:00010058" ∷
      "35 alu:19 ren:20:00010058 fet:0001005c" ∷
      "36 done:19 res:19:T bp:5:2 sq:2 ret:19 fet:00010060" ∷
      "37 ren:21:00010060 fet:00010064" ∷
      "38 alu:21 ren:22:00010064 fet:00010068" ∷
      "39 done:21 res:21:T bp:8:2 sq:2 ret:21 fet:00010070" ∷
      "40 ren:23:00010070 fet:00010074" ∷
      "41 alu:23 ren:24:00010074 fet:00010078" ∷
      "42 done:23 ret:23 div:24:3 ren:25:00010078 fet:0001007c" ∷
      "43 ren:26:0001007c fet:00010080" ∷
      "44 ld:26:0001ff60:h ren:27:00010080 fet:00010084" ∷
      "45 done:24 ret:24 div:25:3 agu:27 std:27 ren:28:00010084 fet:00010088" ∷
      "46 done:26 done:27 agu:28 ren:29:00010088 fet:0001008c" ∷
      "47 ren:30:0001008c fet:00010090" ∷
      "48 done:25 ret:25 ret:26 std:28 div:29:20 agu:30 ren:31:00010090 fet:00010094" ∷
      "49 done:28 ret:27 st:27:0001ff60:h alu:31 ren:32:00010094 fet:00010098" ∷
      "50 done:31 res:31:T bp:4:2 sq:2 ret:28 st:28:0001ff60:h fet:00010098" ∷
      "51 ren:33:00010098 fet:0001009c" ∷
      "52 alu:33 ren:34:0001009c fet:000100a0" ∷
      "53 done:33 alu:34 ren:35:000100a0 fet:000100a4" ∷
      "54 done:34 ld:35:x ren:36:000100a4 fet:000100a8" ∷
      "55 done:35 agu:36 std:36 ren:37:000100a8 fet:000100ac" ∷
      "56 done:36 alu:37 ren:38:000100ac fet:000100b0" ∷
      "57 done:37 agu:38 std:38 ren:39:000100b0 fet:000100b4" ∷
      "58 done:38 agu:39 std:39 ren:40:000100b4 fet:000100b8" ∷
      "59 done:39 alu:40 ren:41:000100b8 fet:000100bc" ∷
      "60 done:40 alu:41 ren:42:000100bc fet:000100c0" ∷
      "61 done:41 alu:42 fet:000100c4" ∷
      "62 done:42 fet:000100c8" ∷
      "63 fet:000100cc" ∷
      "64 fet:000100d0" ∷
      "65 fet:000100d4" ∷
      "66 fet:000100d8" ∷
      "67 fet:000100dc" ∷
      "68 done:29 ret:29 std:30" ∷
      "69 done:30 ret:30 st:30:0001ff80:m ret:31 ren:43:000100c0 fet:000100e0" ∷
      "70 ret:33 ret:34 agu:43 std:43 ren:44:000100c4" ∷
      "71 done:43" ∷
      "end trap 5 000100a0 retired 31 cycles 71" ∷
      []);
}
