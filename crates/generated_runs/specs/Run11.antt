-- Made by tools/evaluate/write: change what it reads, in tools/evaluate/runs, and run it again.
use Rattle.std.specs.Prelude.{[], ◌∷◌}
use Rattle.generated_runs.specs.Agreement.{Run, lines}

-- the run's code:
-- 00010010 addi x7,x2,-1701
-- 00010014 addi x10,x2,-1459
-- 00010018 auipc x1,0x0
-- 0001001c addi x1,x1,60
-- 00010020 sw x9,-248(x2)
-- 00010024 lw x12,-20(x2)
-- 00010028 div x12,x12,x2
-- 0001002c mul x12,x12,x12
-- 00010030 bgeu x12,x2,+56
-- 00010034 lhu x7,-544(x2)
-- 00010038 blt x7,x2,+12
-- 0001003c slt x9,x7,x2
-- 00010040 lbu x6,-467(x2)
-- 00010044 beq x2,x7,+16
-- 00010048 xor x8,x10,x9
-- 0001004c lw x11,-52(x2)
-- 00010050 sw x7,-28(x2)
-- 00010054 andi x9,x7,8
-- 00010058 sub x9,x2,x9
-- 0001005c sh x7,-28(x9)
-- 00010060 lbu x8,-28(x2)
-- 00010064 lh x8,-42(x2)
-- 00010068 bgeu x9,x8,+12
-- 0001006c lw x12,-20(x2)
-- 00010070 jalr x0,32(x12)
-- 00010074 auipc x14,0x0
-- 00010078 add x12,x12,x14
-- 0001007c fence
-- 00010080 lw x5,-736(x2)
-- 00010084 bgeu x5,x2,+12
-- 00010088 sra x8,x5,x5
-- 0001008c lw x8,-60(x2)
-- 00010090 div x5,x5,x5
-- 00010094 lw x13,-100(x2)
-- 00010098 mulhu x13,x13,x2
-- 0001009c mul x13,x13,x13
-- 000100a0 bne x13,x13,+44
-- 000100a4 lw x5,-780(x2)
-- 000100a8 andi x11,x5,252
-- 000100ac sub x11,x2,x11
-- 000100b0 lw x5,0(x11)
-- 000100b4 andi x9,x5,12
-- 000100b8 sub x9,x2,x9
-- 000100bc lw x7,0(x9)
-- 000100c0 lw x5,-144(x2)
-- 000100c4 div x9,x5,x9
-- 000100c8 and x8,x8,x10
-- 000100cc addi x17,x0,94
-- 000100d0 ecall
-- 000100d4 lw x12,8(x2)
-- 000100d8 div x12,x12,x12
-- 000100dc jalr x0,60(x12)
-- 000100e0 auipc x14,0x0
-- 000100e4 add x12,x12,x14
-- 000100e8 fence
-- 000100ec lw x8,-588(x2)
-- 000100f0 rem x5,x2,x8
-- 000100f4 lw x7,-24(x2)
-- 000100f8 andi x7,x7,240
-- 000100fc sub x7,x2,x7
-- 00010100 sw x9,0(x7)
-- 00010104 sw x11,-24(x2)
-- 00010108 andi x10,x8,60
-- 0001010c sub x10,x2,x10
-- 00010110 sh x11,-24(x10)
-- 00010114 lw x10,-28(x2)
-- 00010118 lw x5,-64(x2)
-- 0001011c sb x10,-817(x2)
-- 00010120 lw x11,-48(x2)
-- 00010124 andi x10,x11,240
-- 00010128 sub x10,x2,x10
-- 0001012c sb x11,-4(x10)
-- 00010130 lw x0,-8(x2)
-- 00010134 slli x6,x8,2
-- 00010138 addi x13,x2,0
-- 0001013c remu x13,x13,x2
-- 00010140 div x13,x13,x2
-- 00010144 jalr x1,44(x13)
-- 00010148 auipc x14,0x0
-- 0001014c add x13,x13,x14
-- 00010150 fence
-- 00010154 lbu x5,-668(x2)
-- 00010158 remu x6,x5,x6
-- 0001015c andi x9,x5,4
-- 00010160 sub x9,x2,x9
-- 00010164 sh x6,-8(x9)
-- 00010168 lw x5,-8(x2)
-- 0001016c lh x11,-158(x2)
-- 00010170 div x6,x6,x5
-- 00010174 sw x7,-20(x2)
-- 00010178 addi x13,x2,0
-- 0001017c bne x13,x13,+68
-- 00010180 lw x7,-1012(x2)
-- 00010184 beq x7,x2,+16
-- 00010188 srl x0,x5,x10
-- 0001018c lw x10,-1400(x2)
-- 00010190 andi x10,x7,60
-- 00010194 sub x10,x2,x10
-- 00010198 lw x9,0(x10)
-- 0001019c lw x11,-12(x2)
-- 000101a0 slli x11,x11,1
-- 000101a4 andi x16,x11,124
-- 000101a8 sub x16,x2,x16
-- 000101ac sw x7,0(x16)
-- 000101b0 andi x7,x7,8
-- 000101b4 auipc x9,0x0
-- 000101b8 add x7,x7,x9
-- 000101bc jalr x7,12(x7)
abbrev pub run_11 : Run
run_11 = record {
  description = lines (
      "[core]" ∷
      "fetch_width = 2" ∷
      "retire_width = 4" ∷
      "rob = 42" ∷
      "stations = 25" ∷
      "loads = 2" ∷
      "stores = 4" ∷
      "queue = 2" ∷
      "[units]" ∷
      "alus = 4" ∷
      "mul_latency = 3" ∷
      "[predictor]" ∷
      "counters = 4" ∷
      "btb = 8" ∷
      "[cache]" ∷
      "sets = 1" ∷
      "ways = 1" ∷
      "line = 8" ∷
      "hit_latency = 2" ∷
      "miss_latency = 3" ∷
      "mshrs = 5" ∷
      "[ram]" ∷
      "base = 65536" ∷
      "size = 65536" ∷
      "[stt]" ∷
      "model = \"futuristic\"" ∷
      []);
  image =
      0x464c457f ∷ 0x00010101 ∷ 0x00000000 ∷ 0x00000000 ∷ 0x00f30002 ∷ 0x00000001 ∷ 0x00010010 ∷ 0x00000034 ∷
      0x00000000 ∷ 0x00000000 ∷ 0x00200034 ∷ 0x00000002 ∷ 0x00000000 ∷ 0x00000001 ∷ 0x00000074 ∷ 0x00010010 ∷
      0x00010010 ∷ 0x000001b0 ∷ 0x000001b0 ∷ 0x00000005 ∷ 0x00000004 ∷ 0x00000001 ∷ 0x00000224 ∷ 0x0001fff0 ∷
      0x0001fff0 ∷ 0x00000010 ∷ 0x00000010 ∷ 0x00000006 ∷ 0x00000004 ∷ 0x95b10393 ∷ 0xa4d10513 ∷ 0x00000097 ∷
      0x03c08093 ∷ 0xf0912423 ∷ 0xfec12603 ∷ 0x02264633 ∷ 0x02c60633 ∷ 0x02267c63 ∷ 0xde015383 ∷ 0x0023c663 ∷
      0x0023a4b3 ∷ 0xe2d14303 ∷ 0x00710863 ∷ 0x00954433 ∷ 0xfcc12583 ∷ 0xfe712223 ∷ 0x0083f493 ∷ 0x409104b3 ∷
      0xfe749223 ∷ 0xfe414403 ∷ 0xfd611403 ∷ 0x0084f663 ∷ 0xfec12603 ∷ 0x02060067 ∷ 0x00000717 ∷ 0x00e60633 ∷
      0x0ff0000f ∷ 0xd2012283 ∷ 0x0022f663 ∷ 0x4052d433 ∷ 0xfc412403 ∷ 0x0252c2b3 ∷ 0xf9c12683 ∷ 0x0226b6b3 ∷
      0x02d686b3 ∷ 0x02d69663 ∷ 0xcf412283 ∷ 0x0fc2f593 ∷ 0x40b105b3 ∷ 0x0005a283 ∷ 0x00c2f493 ∷ 0x409104b3 ∷
      0x0004a383 ∷ 0xf7012283 ∷ 0x0292c4b3 ∷ 0x00a47433 ∷ 0x05e00893 ∷ 0x00000073 ∷ 0x00812603 ∷ 0x02c64633 ∷
      0x03c60067 ∷ 0x00000717 ∷ 0x00e60633 ∷ 0x0ff0000f ∷ 0xdb412403 ∷ 0x028162b3 ∷ 0xfe812383 ∷ 0x0f03f393 ∷
      0x407103b3 ∷ 0x0093a023 ∷ 0xfeb12423 ∷ 0x03c47513 ∷ 0x40a10533 ∷ 0xfeb51423 ∷ 0xfe412503 ∷ 0xfc012283 ∷
      0xcca107a3 ∷ 0xfd012583 ∷ 0x0f05f513 ∷ 0x40a10533 ∷ 0xfeb50e23 ∷ 0xff812003 ∷ 0x00241313 ∷ 0x00010693 ∷
      0x0226f6b3 ∷ 0x0226c6b3 ∷ 0x02c680e7 ∷ 0x00000717 ∷ 0x00e686b3 ∷ 0x0ff0000f ∷ 0xd6414283 ∷ 0x0262f333 ∷
      0x0042f493 ∷ 0x409104b3 ∷ 0xfe649c23 ∷ 0xff812283 ∷ 0xf6211583 ∷ 0x02534333 ∷ 0xfe712623 ∷ 0x00010693 ∷
      0x04d69263 ∷ 0xc0c12383 ∷ 0x00238863 ∷ 0x00a2d033 ∷ 0xa8812503 ∷ 0x03c3f513 ∷ 0x40a10533 ∷ 0x00052483 ∷
      0xff412583 ∷ 0x00159593 ∷ 0x07c5f813 ∷ 0x41010833 ∷ 0x00782023 ∷ 0x0083f393 ∷ 0x00000497 ∷ 0x009383b3 ∷
      0x00c383e7 ∷ 0x00000000 ∷ 0x0000005b ∷ 0x4be6a998 ∷ 0x0001dfa8 ∷
      [];
  cycles = 236;
  trace = lines (
      "1 fet:00010010 fet:00010014" ∷
      "2 ren:0:00010010 ren:1:00010014 fet:00010018 fet:0001001c" ∷
      "3 alu:0 alu:1 ren:2:00010018 ren:3:0001001c fet:00010020 fet:00010024" ∷
      "4 done:0 done:1 ret:0 ret:1 alu:2 ren:4:00010020 ren:5:00010024 fet:00010028 fet:0001002c" ∷
      "5 done:2 ret:2 alu:3 agu:4 ren:6:00010028 ren:7:0001002c fet:00010030 fet:00010034" ∷
      "6 done:3 done:4 ret:3 ret:4 st:4:0001fef8:m ld:5:0001ffd8:m ren:8:00010030 ren:9:00010034 fet:00010038 fet:0001003c" ∷
      "7 ld:9:0001fdd0:m ren:10:00010038 ren:11:0001003c fet:00010040 fet:00010044" ∷
      "8" ∷
      "9 fill:0001ffd8 done:5 ret:5 div:6:3 ren:12:00010040 ren:13:00010044 fet:00010048 fet:0001004c" ∷
      "10 fill:0001fdd0 done:9 alu:10 alu:11 ld:12:0001fe18:m alu:13 ren:14:00010048 fet:00010050" ∷
      "11 done:10 done:11 done:13 alu:14" ∷
      "12 done:6 done:14 ret:6 mul:7" ∷
      "13 fill:0001fe18 done:12" ∷
      "14" ∷
      "15 done:7 ret:7 alu:8" ∷
      "16 done:8 res:8:N bp:0:0 ret:8 ret:9 ren:15:0001004c ren:16:00010050 fet:00010054 fet:00010058" ∷
      "17 res:10:T bp:2:2 sq:8 ret:10 fet:00010044 fet:00010048" ∷
      "18 ren:17:00010044 ren:18:00010048 fet:0001004c fet:00010050" ∷
      "19 alu:17 alu:18 ren:19:0001004c ren:20:00010050 fet:00010054 fet:00010058" ∷
      "20 done:17 done:18 res:17:N bp:1:0 ret:17 ret:18 ld:19:0001ffb8:m agu:20 ren:21:00010054 ren:22:00010058 fet:0001005c fet:00010060" ∷
      "21 done:20 alu:21 ren:23:0001005c ren:24:00010060 fet:00010064 fet:00010068" ∷
      "22 done:21 alu:22" ∷
      "23 fill:0001ffb8 done:19 done:22 ret:19 ret:20 st:20:0001ffd0:m ret:21 ret:22 agu:23 ren:25:00010064 ren:26:00010068 fet:00010074 fet:00010078" ∷
      "24 done:23 ret:23 st:23:0001ffd0:m ld:24:0001ffd0:m ren:27:00010074 ren:28:00010078 fet:0001007c fet:00010080" ∷
      "25 ld:25:0001ffc0:m alu:27 ren:29:0001007c fet:00010084" ∷
      "26 done:27 alu:28 alu:29" ∷
      "27 fill:0001ffd0 done:24 done:28 done:29 ret:24 ren:30:00010080 ren:31:00010084 fet:00010088 fet:0001008c" ∷
      "28 fill:0001ffc0 done:25 ret:25 alu:26 ld:30:0001fd10:m ren:32:00010088 ren:33:0001008c fet:00010090 fet:00010094" ∷
      "29 done:26 res:26:T bp:2:3 ret:26 ret:27 ret:28 ret:29 ld:33:0001ffb0:m ren:34:00010090 fet:00010098" ∷
      "30" ∷
      "31 fill:0001fd10 done:30 ret:30 alu:31 alu:32 div:34:3 ren:35:00010094 ren:36:00010098 fet:0001009c fet:000100a0" ∷
      "32 fill:0001ffb0 done:31 done:32 done:33 res:31:N bp:1:0 ret:31 ret:32 ret:33 ld:35:0001ff88:m ren:37:0001009c ren:38:000100a0 fet:000100a4 fet:000100a8" ∷
      "33 ren:39:000100a4 ren:40:000100a8 fet:000100ac fet:000100b0" ∷
      "34 done:34 ret:34 ld:39:0001fce0:m ren:41:000100ac fet:000100b4" ∷
      "35 fill:0001ff88 done:35 ret:35 mul:36 ren:42:000100b0 ren:43:000100b4 fet:000100b8 fet:000100bc" ∷
      "36 ren:44:000100b8 fet:000100c0" ∷
      "37 fill:0001fce0 done:39 alu:40" ∷
      "38 done:36 done:40 ret:36 mul:37 alu:41" ∷
      "39 done:41" ∷
      "40" ∷
      "41 done:37 ret:37 alu:38" ∷
      "42 done:38 res:38:N bp:0:0 ret:38 ret:39 ret:40 ret:41 ld:42:0001fff0:m ren:45:000100bc fet:000100c4" ∷
      "43" ∷
      "44" ∷
      "45 fill:0001fff0 done:42 ret:42 alu:43 ren:46:000100c0 ren:47:000100c4 fet:000100c8 fet:000100cc" ∷
      "46 done:43 ret:43 alu:44 ld:46:0001ff60:m ren:48:000100c8 ren:49:000100cc fet:000100d0 fet:000100d4" ∷
      "47 done:44 ret:44 ld:45:0001fff0:h alu:48 alu:49" ∷
      "48 done:48 done:49" ∷
      "49 fill:0001ff60 done:45 done:46 ret:45 ret:46 div:47:3" ∷
      "50" ∷
      "51" ∷
      "52 done:47 ret:47 ret:48 ret:49 ren:50:000100d0 fet:000100d8" ∷
      "53 ret:50 call:50:0" ∷
      "end exit 129597 retired 45 cycles 53" ∷
      []);
}
