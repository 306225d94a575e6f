-- Made by tools/evaluate/write: change what it reads, in tools/evaluate/runs, and run it again.
use Rattle.std.specs.Prelude.{[], ◌∷◌}
use Rattle.generated_runs.specs.Agreement.{Run, lines}

-- the run's code:
-- 0001000c addi x5,x0,1775
-- 00010010 addi x10,x2,1549
-- 00010014 auipc x1,0x0
-- 00010018 addi x1,x1,80
-- 0001001c lui x5,0x0
-- 00010020 addi x5,x5,38
-- 00010024 lui x6,0x0
-- 00010028 addi x6,x6,128
-- 0001002c lui x7,0x0
-- 00010030 addi x7,x7,-1
-- 00010034 lui x8,0x80000
-- 00010038 addi x8,x8,0
-- 0001003c lui x9,0x0
-- 00010040 addi x9,x9,-1
-- 00010044 lui x10,0x0
-- 00010048 addi x10,x10,-1
-- 0001004c lui x11,0x0
-- 00010050 addi x11,x11,-1
-- 00010054 lui x12,0x0
-- 00010058 addi x12,x12,11
-- 0001005c lui x13,0x80000
-- 00010060 addi x13,x13,-1
-- 00010064 lui x14,0x0
-- 00010068 addi x14,x14,7
-- 0001006c lui x15,0x80000
-- 00010070 addi x15,x15,-1
-- 00010074 add x16,x7,x7
-- 00010078 remu x17,x11,x10
-- 0001007c or x19,x13,x7
-- 00010080 or x20,x11,x5
-- 00010084 beq x11,x5,+8
-- 00010088 addi x11,x11,1
-- 0001008c sltiu x21,x9,240
-- 00010090 srai x22,x7,15
-- 00010094 bltu x7,x11,+8
-- 00010098 addi x7,x7,1
-- 0001009c mulhsu x23,x20,x10
-- 000100a0 div x24,x14,x13
-- 000100a4 mulh x25,x17,x14
-- 000100a8 srai x26,x14,24
-- 000100ac slti x27,x19,-395
-- 000100b0 rem x28,x13,x15
-- 000100b4 and x29,x7,x15
-- 000100b8 mul x30,x17,x11
-- 000100bc srl x31,x11,x15
-- 000100c0 addi x10,x23,0
-- 000100c4 addi x17,x0,94
-- 000100c8 ecall
-- 000100cc lh x8,-188(x2)
-- 000100d0 lhu x6,-94(x2)
-- 000100d4 srli x6,x9,11
-- 000100d8 lb x10,-13(x2)
-- 000100dc andi x7,x10,252
-- 000100e0 sub x7,x2,x7
-- 000100e4 lw x5,0(x7)
-- 000100e8 lw x0,-1748(x2)
-- 000100ec addi x13,x2,0
-- 000100f0 mulhu x13,x13,x13
-- 000100f4 remu x13,x13,x2
-- 000100f8 jalr x1,56(x13)
-- 000100fc auipc x14,0x0
-- 00010100 add x13,x13,x14
-- 00010104 fence
-- 00010108 lw x5,-668(x2)
-- 0001010c rem x8,x8,x5
-- 00010110 sw x5,-1488(x2)
-- 00010114 lw x9,-1488(x2)
-- 00010118 andi x16,x9,508
-- 0001011c sub x16,x2,x16
-- 00010120 lw x5,0(x16)
-- 00010124 lw x10,0(x5)
-- 00010128 andi x9,x10,124
-- 0001012c sub x9,x2,x9
-- 00010130 lw x7,0(x9)
-- 00010134 bne x6,x10,-24
-- 00010138 lw x13,-56(x2)
-- 0001013c bne x13,x13,+48
-- 00010140 lhu x7,-516(x2)
-- 00010144 andi x7,x7,8
-- 00010148 auipc x9,0x0
-- 0001014c add x7,x7,x9
-- 00010150 jalr x1,12(x7)
-- 00010154 div x5,x5,x7
-- 00010158 lb x8,-1681(x2)
-- 0001015c bne x8,x0,+32
-- 00010160 andi x16,x7,508
-- 00010164 sub x16,x2,x16
-- 00010168 lw x5,0(x16)
abbrev pub run_28 : Run
run_28 = record {
  description = lines (
      "[core]" ∷
      "fetch_width = 2" ∷
      "retire_width = 2" ∷
      "rob = 15" ∷
      "stations = 14" ∷
      "loads = 1" ∷
      "stores = 5" ∷
      "queue = 16" ∷
      "[units]" ∷
      "alus = 3" ∷
      "mul_latency = 3" ∷
      "[predictor]" ∷
      "counters = 8" ∷
      "btb = 4" ∷
      "[cache]" ∷
      "sets = 2" ∷
      "ways = 2" ∷
      "line = 32" ∷
      "hit_latency = 3" ∷
      "miss_latency = 13" ∷
      "mshrs = 4" ∷
      "[ram]" ∷
      "base = 65536" ∷
      "size = 65536" ∷
      "[stt]" ∷
      "model = \"futuristic\"" ∷
      []);
  image =
      0x464c457f ∷ 0x00010101 ∷ 0x00000000 ∷ 0x00000000 ∷ 0x00f30002 ∷ 0x00000001 ∷ 0x0001000c ∷ 0x00000034 ∷
      0x00000000 ∷ 0x00000000 ∷ 0x00200034 ∷ 0x00000002 ∷ 0x00000000 ∷ 0x00000001 ∷ 0x00000074 ∷ 0x0001000c ∷
      0x0001000c ∷ 0x00000160 ∷ 0x00000160 ∷ 0x00000005 ∷ 0x00000004 ∷ 0x00000001 ∷ 0x000001d4 ∷ 0x0001fff0 ∷
      0x0001fff0 ∷ 0x00000010 ∷ 0x00000010 ∷ 0x00000006 ∷ 0x00000004 ∷ 0x6ef00293 ∷ 0x60d10513 ∷ 0x00000097 ∷
      0x05008093 ∷ 0x000002b7 ∷ 0x02628293 ∷ 0x00000337 ∷ 0x08030313 ∷ 0x000003b7 ∷ 0xfff38393 ∷ 0x80000437 ∷
      0x00040413 ∷ 0x000004b7 ∷ 0xfff48493 ∷ 0x00000537 ∷ 0xfff50513 ∷ 0x000005b7 ∷ 0xfff58593 ∷ 0x00000637 ∷
      0x00b60613 ∷ 0x800006b7 ∷ 0xfff68693 ∷ 0x00000737 ∷ 0x00770713 ∷ 0x800007b7 ∷ 0xfff78793 ∷ 0x00738833 ∷
      0x02a5f8b3 ∷ 0x0076e9b3 ∷ 0x0055ea33 ∷ 0x00558463 ∷ 0x00158593 ∷ 0x0f04ba93 ∷ 0x40f3db13 ∷ 0x00b3e463 ∷
      0x00138393 ∷ 0x02aa2bb3 ∷ 0x02d74c33 ∷ 0x02e89cb3 ∷ 0x41875d13 ∷ 0xe759ad93 ∷ 0x02f6ee33 ∷ 0x00f3feb3 ∷
      0x02b88f33 ∷ 0x00f5dfb3 ∷ 0x000b8513 ∷ 0x05e00893 ∷ 0x00000073 ∷ 0xf4411403 ∷ 0xfa215303 ∷ 0x00b4d313 ∷
      0xff310503 ∷ 0x0fc57393 ∷ 0x407103b3 ∷ 0x0003a283 ∷ 0x92c12003 ∷ 0x00010693 ∷ 0x02d6b6b3 ∷ 0x0226f6b3 ∷
      0x038680e7 ∷ 0x00000717 ∷ 0x00e686b3 ∷ 0x0ff0000f ∷ 0xd6412283 ∷ 0x02546433 ∷ 0xa2512823 ∷ 0xa3012483 ∷
      0x1fc4f813 ∷ 0x41010833 ∷ 0x00082283 ∷ 0x0002a503 ∷ 0x07c57493 ∷ 0x409104b3 ∷ 0x0004a383 ∷ 0xfea314e3 ∷
      0xfc812683 ∷ 0x02d69863 ∷ 0xdfc15383 ∷ 0x0083f393 ∷ 0x00000497 ∷ 0x009383b3 ∷ 0x00c380e7 ∷ 0x0272c2b3 ∷
      0x96f10403 ∷ 0x02041063 ∷ 0x1fc3f813 ∷ 0x41010833 ∷ 0x00082283 ∷ 0x00018dcc ∷ 0x00000009 ∷ 0xbc87c0cf ∷
      0x000000de ∷
      [];
  cycles = 159;
  trace = lines (
      "1 fet:0001000c fet:00010010" ∷
      "2 ren:0:0001000c ren:1:00010010 fet:00010014 fet:00010018" ∷
      "3 alu:0 alu:1 ren:2:00010014 ren:3:00010018 fet:0001001c fet:00010020" ∷
      "4 done:0 done:1 ret:0 ret:1 alu:2 ren:4:0001001c ren:5:00010020 fet:00010024 fet:00010028" ∷
      "5 done:2 ret:2 alu:3 alu:4 ren:6:00010024 ren:7:00010028 fet:0001002c fet:00010030" ∷
      "6 done:3 done:4 ret:3 ret:4 alu:5 alu:6 ren:8:0001002c ren:9:00010030 fet:00010034 fet:00010038" ∷
      "7 done:5 done:6 ret:5 ret:6 alu:7 alu:8 ren:10:00010034 ren:11:00010038 fet:0001003c fet:00010040" ∷
      "8 done:7 done:8 ret:7 ret:8 alu:9 alu:10 ren:12:0001003c ren:13:00010040 fet:00010044 fet:00010048" ∷
      "9 done:9 done:10 ret:9 ret:10 alu:11 alu:12 ren:14:00010044 ren:15:00010048 fet:0001004c fet:00010050" ∷
      "10 done:11 done:12 ret:11 ret:12 alu:13 alu:14 ren:16:0001004c ren:17:00010050 fet:00010054 fet:00010058" ∷
      "11 done:13 done:14 ret:13 ret:14 alu:15 alu:16 ren:18:00010054 ren:19:00010058 fet:0001005c fet:00010060" ∷
      "12 done:15 done:16 ret:15 ret:16 alu:17 alu:18 ren:20:0001005c ren:21:00010060 fet:00010064 fet:00010068" ∷
      "13 done:17 done:18 ret:17 ret:18 alu:19 alu:20 ren:22:00010064 ren:23:00010068 fet:0001006c fet:00010070" ∷
      "14 done:19 done:20 ret:19 ret:20 alu:21 alu:22 ren:24:0001006c ren:25:00010070 fet:00010074 fet:00010078" ∷
      "15 done:21 done:22 ret:21 ret:22 alu:23 alu:24 ren:26:00010074 ren:27:00010078 fet:0001007c fet:00010080" ∷
      "16 done:23 done:24 ret:23 ret:24 alu:25 alu:26 div:27:35 ren:28:0001007c ren:29:00010080 fet:00010084 fet:00010088" ∷
      "17 done:25 done:26 ret:25 ret:26 alu:28 alu:29 ren:30:00010084 ren:31:00010088 fet:0001008c fet:00010090" ∷
      "18 done:28 done:29 alu:30 alu:31 ren:32:0001008c ren:33:00010090 fet:00010094 fet:00010098" ∷
      "19 done:30 done:31 res:30:N bp:1:0 alu:32 alu:33 ren:34:00010094 ren:35:00010098 fet:0001009c fet:000100a0" ∷
      "20 done:32 done:33 alu:34 alu:35 ren:36:0001009c ren:37:000100a0 fet:000100a4 fet:000100a8" ∷
      "21 done:34 done:35 res:34:N bp:5:0 mul:36 ren:38:000100a4 ren:39:000100a8 fet:000100ac fet:000100b0" ∷
      "22 alu:39 ren:40:000100ac ren:41:000100b0 fet:000100b4 fet:000100b8" ∷
      "23 done:39 alu:40 fet:000100bc fet:000100c0" ∷
      "24 done:36 done:40 fet:000100c4 fet:000100c8" ∷
      "25 fet:000100cc fet:000100d0" ∷
      "26 fet:000100d4 fet:000100d8" ∷
      "27 fet:000100dc fet:000100e0" ∷
      "28 fet:000100e4 fet:000100e8" ∷
      "29 fet:000100ec fet:000100f0" ∷
      "30" ∷
      "31" ∷
      "32" ∷
      "33" ∷
      "34" ∷
      "35" ∷
      "36" ∷
      "37" ∷
      "38" ∷
      "39" ∷
      "40" ∷
      "41" ∷
      "42" ∷
      "43" ∷
      "44" ∷
      "45" ∷
      "46" ∷
      "47" ∷
      "48" ∷
      "49" ∷
      "50" ∷
      "51 done:27 ret:27 ret:28 div:37:6 mul:38 ren:42:000100b4 ren:43:000100b8 fet:000100f4 fet:000100f8" ∷
      "52 ret:29 ret:30 alu:42 mul:43 ren:44:000100bc ren:45:000100c0 fet:000100fc fet:00010100" ∷
      "53 done:42 ret:31 ret:32 alu:44 alu:45 ren:46:000100c4 fet:00010104" ∷
      "54 done:38 done:44 done:45 ret:33 ret:34 alu:46" ∷
      "55 done:43 done:46 ret:35 ret:36" ∷
      "56" ∷
      "57 done:37 ret:37 ret:38 div:41:34" ∷
      "58 ret:39 ret:40" ∷
      "59" ∷
      "60" ∷
      "61" ∷
      "62" ∷
      "63" ∷
      "64" ∷
      "65" ∷
      "66" ∷
      "67" ∷
      "68" ∷
      "69" ∷
      "70" ∷
      "71" ∷
      "72" ∷
      "73" ∷
      "74" ∷
      "75" ∷
      "76" ∷
      "77" ∷
      "78" ∷
      "79" ∷
      "80" ∷
      "81" ∷
      "82" ∷
      "83" ∷
      "84" ∷
      "85" ∷
      "86" ∷
      "87" ∷
      "88" ∷
      "89" ∷
      "90" ∷
      "91 done:41 ret:41 ret:42" ∷
      "92 ret:43 ret:44" ∷
      "93 ret:45 ret:46 ren:47:000100c8 fet:00010108" ∷
      "94 ret:47 call:47:0" ∷
      "end exit 4294967295 retired 48 cycles 94" ∷
      []);
}
