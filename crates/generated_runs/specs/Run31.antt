-- Made by tools/evaluate/write: change what it reads, in tools/evaluate/runs, and run it again.
use Rattle.std.specs.Prelude.{[], ◌∷◌}
use Rattle.generated_runs.specs.Agreement.{Run, lines}

-- the run's code:
-- 00010000 addi x7,x0,-798
-- 00010004 addi x10,x2,-160
-- 00010008 auipc x1,0x0
-- 0001000c addi x1,x1,20
-- 00010010 lw x5,-44(x2)
-- 00010014 beq x5,x0,+36
-- 00010018 lbu x11,-2015(x2)
-- 0001001c slli x11,x11,3
-- 00010020 andi x7,x11,60
-- 00010024 sub x7,x2,x7
-- 00010028 sb x10,-4(x7)
-- 0001002c lh x0,-28(x2)
-- 00010030 lbu x7,9(x2)
-- 00010034 andi x9,x7,252
-- 00010038 sub x9,x2,x9
-- 0001003c lw x16,0(x9)
-- 00010040 sw x5,-28(x2)
-- 00010044 sw x7,-48(x2)
-- 00010048 lbu x7,-62(x2)
-- 0001004c remu x7,x7,x7
-- 00010050 bltu x0,x7,+8
-- 00010054 jal x1,+4
-- 00010058 jal x1,+4
-- 0001005c jal x1,+4
-- 00010060 jal x1,+4
-- 00010064 jal x1,+4
-- 00010068 jal x1,+4
-- 0001006c addi x9,x9,1
-- 00010070 jalr x0,8(x1)
-- 00010074 addi x9,x9,1
-- 00010078 jalr x0,16(x1)
-- 0001007c jalr x0,20(x1)
-- 00010080 jalr x0,24(x1)
-- 00010084 add x0,x8,x5
-- 00010088 lw x8,-1440(x2)
-- 0001008c and x16,x8,x6
-- 00010090 sw x2,-60(x2)
-- 00010094 lb x11,1(x2)
-- 00010098 srli x11,x11,5
-- 0001009c andi x8,x11,60
-- 000100a0 sub x8,x2,x8
-- 000100a4 lw x6,0(x8)
-- 000100a8 lw x5,-64(x2)
-- 000100ac mulhsu x8,x8,x0
-- 000100b0 sw x10,-1444(x2)
-- 000100b4 blt x11,x11,+16
-- 000100b8 lb x11,-34(x2)
-- 000100bc andi x11,x11,124
-- 000100c0 sub x11,x2,x11
-- 000100c4 sw x8,0(x11)
-- 000100c8 lw x9,-608(x2)
-- 000100cc addi x17,x0,94
-- 000100d0 ecall
-- 000100d4 lw x9,-64(x2)
-- 000100d8 andi x16,x9,252
-- 000100dc sub x16,x2,x16
-- 000100e0 lw x7,0(x16)
-- 000100e4 lh x5,-160(x2)
-- 000100e8 xor x7,x6,x0
-- 000100ec bltu x10,x10,+16
-- 000100f0 and x7,x2,x2
-- 000100f4 lh x16,8(x2)
-- 000100f8 sb x11,-53(x2)
-- 000100fc bne x6,x9,+20
-- 00010100 lhu x11,-18(x2)
-- 00010104 mul x11,x11,x11
-- 00010108 bltu x0,x11,+36
abbrev pub run_31 : Run
run_31 = record {
  description = lines (
      "[core]" ∷
      "fetch_width = 1" ∷
      "retire_width = 2" ∷
      "rob = 53" ∷
      "stations = 10" ∷
      "loads = 3" ∷
      "stores = 5" ∷
      "queue = 2" ∷
      "[units]" ∷
      "alus = 3" ∷
      "mul_latency = 1" ∷
      "[predictor]" ∷
      "counters = 4" ∷
      "btb = 8" ∷
      "[cache]" ∷
      "sets = 1" ∷
      "ways = 2" ∷
      "line = 16" ∷
      "hit_latency = 1" ∷
      "miss_latency = 14" ∷
      "mshrs = 3" ∷
      "[ram]" ∷
      "base = 65536" ∷
      "size = 4096" ∷
      "[stt]" ∷
      "model = \"spectre\"" ∷
      []);
  image =
      0x464c457f ∷ 0x00010101 ∷ 0x00000000 ∷ 0x00000000 ∷ 0x00f30002 ∷ 0x00000001 ∷ 0x00010000 ∷ 0x00000034 ∷
      0x00000000 ∷ 0x00000000 ∷ 0x00200034 ∷ 0x00000002 ∷ 0x00000000 ∷ 0x00000001 ∷ 0x00000074 ∷ 0x00010000 ∷
      0x00010000 ∷ 0x0000010c ∷ 0x0000010c ∷ 0x00000005 ∷ 0x00000004 ∷ 0x00000001 ∷ 0x00000180 ∷ 0x00010fc0 ∷
      0x00010fc0 ∷ 0x00000040 ∷ 0x00000040 ∷ 0x00000006 ∷ 0x00000004 ∷ 0xce200393 ∷ 0xf6010513 ∷ 0x00000097 ∷
      0x01408093 ∷ 0xfd412283 ∷ 0x02028263 ∷ 0x82114583 ∷ 0x00359593 ∷ 0x03c5f393 ∷ 0x407103b3 ∷ 0xfea38e23 ∷
      0xfe411003 ∷ 0x00914383 ∷ 0x0fc3f493 ∷ 0x409104b3 ∷ 0x0004a803 ∷ 0xfe512223 ∷ 0xfc712823 ∷ 0xfc214383 ∷
      0x0273f3b3 ∷ 0x00706463 ∷ 0x004000ef ∷ 0x004000ef ∷ 0x004000ef ∷ 0x004000ef ∷ 0x004000ef ∷ 0x004000ef ∷
      0x00148493 ∷ 0x00808067 ∷ 0x00148493 ∷ 0x01008067 ∷ 0x01408067 ∷ 0x01808067 ∷ 0x00540033 ∷ 0xa6012403 ∷
      0x00647833 ∷ 0xfc212223 ∷ 0x00110583 ∷ 0x0055d593 ∷ 0x03c5f413 ∷ 0x40810433 ∷ 0x00042303 ∷ 0xfc012283 ∷
      0x02042433 ∷ 0xa4a12e23 ∷ 0x00b5c863 ∷ 0xfde10583 ∷ 0x07c5f593 ∷ 0x40b105b3 ∷ 0x0085a023 ∷ 0xda012483 ∷
      0x05e00893 ∷ 0x00000073 ∷ 0xfc012483 ∷ 0x0fc4f813 ∷ 0x41010833 ∷ 0x00082383 ∷ 0xf6011283 ∷ 0x000343b3 ∷
      0x00a56863 ∷ 0x002173b3 ∷ 0x00811803 ∷ 0xfcb105a3 ∷ 0x00931a63 ∷ 0xfee15583 ∷ 0x02b585b3 ∷ 0x02b06263 ∷
      0x000000b5 ∷ 0x000000be ∷ 0x00000000 ∷ 0x00000091 ∷ 0x00000028 ∷ 0xe055f8a8 ∷ 0x00000000 ∷ 0x00010a70 ∷
      0x000106bc ∷ 0x000000ca ∷ 0x00000000 ∷ 0x0000007e ∷ 0x00010228 ∷ 0x000000c5 ∷ 0x000000db ∷ 0x00000000 ∷
      [];
  cycles = 199;
  trace = lines (
      "1 fet:00010000" ∷
      "2 ren:0:00010000 fet:00010004" ∷
      "3 alu:0 ren:1:00010004 fet:00010008" ∷
      "4 done:0 ret:0 alu:1 ren:2:00010008 fet:0001000c" ∷
      "5 done:1 ret:1 alu:2 ren:3:0001000c fet:00010010" ∷
      "6 done:2 ret:2 alu:3 ren:4:00010010 fet:00010014" ∷
      "7 done:3 ret:3 ld:4:00010fc0:m ren:5:00010014 fet:00010018" ∷
      "8 ren:6:00010018 fet:0001001c" ∷
      "9 ld:6:00010810:m ren:7:0001001c fet:00010020" ∷
      "10 ren:8:00010020 fet:00010024" ∷
      "11 ren:9:00010024 fet:00010028" ∷
      "12 ren:10:00010028 fet:0001002c" ∷
      "13 ren:11:0001002c fet:00010030" ∷
      "14 fet:00010034" ∷
      "15" ∷
      "16" ∷
      "17" ∷
      "18" ∷
      "19" ∷
      "20" ∷
      "21 fill:00010fc0 done:4 ret:4 alu:5 ren:12:00010030 fet:00010038" ∷
      "22 done:5 res:5:N bp:1:0 ret:5 ren:13:00010034 fet:0001003c" ∷
      "23 fill:00010810 done:6 ret:6 alu:7 ren:14:00010038 fet:00010040" ∷
      "24 done:7 ret:7 alu:8 ren:15:0001003c fet:00010044" ∷
      "25 done:8 ret:8 alu:9 ren:16:00010040 fet:00010048" ∷
      "26 done:9 ret:9 agu:10 ren:17:00010044 fet:0001004c" ∷
      "27 done:10 ret:10 st:10:00010fe0:m ld:11:00010fd0:m agu:16" ∷
      "28 done:16 ld:12:00010ff0:m" ∷
      "29" ∷
      "30" ∷
      "31" ∷
      "32" ∷
      "33" ∷
      "34" ∷
      "35" ∷
      "36" ∷
      "37" ∷
      "38" ∷
      "39" ∷
      "40" ∷
      "41 fill:00010fd0 done:11 ret:11 ren:18:00010048 fet:00010050" ∷
      "42 fill:00010ff0 done:12 ret:12 alu:13 agu:17 ren:19:0001004c fet:00010054" ∷
      "43 done:13 done:17 ret:13 alu:14 ld:18:00010fb0:m ren:20:00010050 fet:00010058" ∷
      "44 done:14 ret:14 ld:15:00010ff0:h ren:21:00010054 fet:0001005c" ∷
      "45 done:15 ret:15 ret:16 st:16:00010fd0:h alu:21 ren:22:00010058 fet:00010060" ∷
      "46 done:21 ret:17 st:17:00010fc0:m alu:22 ren:23:0001005c fet:00010064" ∷
      "47 done:22 alu:23 ren:24:00010060 fet:00010068" ∷
      "48 done:23 alu:24 ren:25:00010064 fet:0001006c" ∷
      "49 done:24 alu:25 ren:26:00010068 fet:00010070" ∷
      "50 done:25 alu:26 ren:27:0001006c fet:00010074" ∷
      "51 done:26 alu:27 ren:28:00010070 fet:00010078" ∷
      "52 done:27 alu:28 ren:29:00010074 fet:0001007c" ∷
      "53 done:28 res:28:J bt:4:00010074 alu:29 ren:30:00010078 fet:00010080" ∷
      "54 done:29 alu:30 ren:31:0001007c fet:00010084" ∷
      "55 done:30 res:30:J bt:6:0001007c alu:31 ren:32:00010080 fet:00010088" ∷
      "56 done:31 res:31:J bt:7:00010080 alu:32 ren:33:00010084 fet:0001008c" ∷
      "57 fill:00010fb0 done:18 done:32 res:32:J bt:0:00010084 ret:18 div:19:3 alu:33 ren:34:00010088 fet:00010090" ∷
      "58 done:33 ld:34:00010a50:m ren:35:0001008c fet:00010094" ∷
      "59 ren:36:00010090 fet:00010098" ∷
      "60 done:19 ret:19 alu:20 agu:36 ren:37:00010094 fet:0001009c" ∷
      "61 done:20 done:36 res:20:N bp:0:0 ret:20 ret:21 ld:37:00010ff0:m ren:38:00010098 fet:000100a0" ∷
      "62 ret:22 ret:23 ren:39:0001009c fet:000100a4" ∷
      "63 ret:24 ret:25 ren:40:000100a0 fet:000100a8" ∷
      "64 ret:26 ret:27 ren:41:000100a4 fet:000100ac" ∷
      "65 ret:28 ret:29" ∷
      "66 ret:30 ret:31" ∷
      "67 ret:32 ret:33" ∷
      "68" ∷
      "69" ∷
      "70" ∷
      "71" ∷
      "72 fill:00010a50 done:34 ret:34 alu:35 ren:42:000100a8 fet:000100b0" ∷
      "73 done:35 ret:35 ret:36 st:36:00010fb0:h ld:42:00010fb0:h ren:43:000100ac fet:000100b4" ∷
      "74 done:42 ren:44:000100b0 fet:000100b8" ∷
      "75 fill:00010ff0 done:37 ret:37 alu:38 agu:44 ren:45:000100b4 fet:000100bc" ∷
      "76 done:38 done:44 ret:38 alu:39 alu:45 ren:46:000100b8 fet:000100c0" ∷
      "77 done:39 done:45 res:45:N bp:1:0 ret:39 alu:40 ld:46:00010fc0:m ren:47:000100bc fet:000100c4" ∷
      "78 done:40 ret:40 ld:41:00010ff0:h mul:43 ren:48:000100c0 fet:000100c8" ∷
      "79 done:41 done:43 ret:41 ret:42 ren:49:000100c4 fet:000100cc" ∷
      "80 ret:43 ret:44 st:44:00010a40:m ren:50:000100c8 fet:000100d0" ∷
      "81 ret:45 ren:51:000100cc fet:000100d4" ∷
      "82 alu:51" ∷
      "83 done:51" ∷
      "84" ∷
      "85" ∷
      "86" ∷
      "87" ∷
      "88" ∷
      "89" ∷
      "90" ∷
      "91 fill:00010fc0 done:46 ret:46 alu:47" ∷
      "92 done:47 ret:47 alu:48" ∷
      "93 done:48 ret:48 agu:49" ∷
      "94 done:49 ret:49 st:49:00010ff0:h ld:50:00010d90:m" ∷
      "95" ∷
      "96" ∷
      "97" ∷
      "98" ∷
      "99" ∷
      "100" ∷
      "101" ∷
      "102" ∷
      "103" ∷
      "104" ∷
      "105" ∷
      "106" ∷
      "107" ∷
      "108 fill:00010d90 done:50 ret:50 ret:51 ren:52:000100d0 fet:000100d8" ∷
      "109 ret:52 call:52:0" ∷
      "end exit 69456 retired 53 cycles 109" ∷
      []);
}
