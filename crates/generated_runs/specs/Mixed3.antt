-- Made by tools/evaluate/write: change what it reads, in tools/evaluate/runs, and run it again.
use Rattle.std.specs.Prelude.{[], ◌∷◌}
use Rattle.generated_runs.specs.Agreement.{Run, lines}

-- the run's code:
-- 00010000 addi x8,x2,-128
-- 00010004 addi x15,x0,2
-- 00010008 andi x13,x7,60
-- 0001000c add x13,x13,x8
-- 00010010 bne x7,x0,+12
-- 00010014 bne x5,x0,+16
-- 00010018 xor x12,x10,x5
-- 0001001c add x5,x5,x6
-- 00010020 add x9,x6,x5
-- 00010024 add x5,x9,x9
-- 00010028 lb x9,0(x8)
-- 0001002c lhu x10,4(x8)
-- 00010030 lw x5,0(x8)
-- 00010034 lw x9,16(x8)
-- 00010038 sb x7,0(x8)
-- 0001003c sub x10,x5,x9
-- 00010040 sw x5,20(x8)
-- 00010044 lw x12,4(x8)
-- 00010048 sh x11,0(x8)
-- 0001004c div x12,x12,x12
-- 00010050 sub x10,x7,x10
-- 00010054 xor x5,x6,x11
-- 00010058 bne x11,x12,+8
-- 0001005c lw x5,0(x13)
-- 00010060 andi x13,x12,12
-- 00010064 add x13,x13,x8
-- 00010068 add x5,x12,x7
-- 0001006c add x7,x9,x7
-- 00010070 andi x14,x5,12
-- 00010074 add x10,x5,x6
-- 00010078 sw x6,16(x8)
-- 0001007c lw x12,12(x8)
-- 00010080 xor x11,x10,x9
-- 00010084 beq x7,x0,+16
-- 00010088 mul x7,x12,x6
-- 0001008c mul x11,x7,x5
-- 00010090 lbu x10,32(x8)
-- 00010094 sw x9,8(x8)
-- 00010098 lw x10,6(x8)
-- 0001009c add x11,x5,x5
-- 000100a0 lhu x7,20(x8)
-- 000100a4 addi x15,x15,-1
-- 000100a8 bne x15,x0,-92
-- 000100ac addi x17,x0,93
-- 000100b0 ecall
-- 000100b4 ecall
-- 000100b8 ecall
-- 000100bc ecall
abbrev pub mixed_3 : Run
mixed_3 = record {
  description = lines (
      "version = 2" ∷
      "[core]" ∷
      "fetch_width = 1" ∷
      "retire_width = 4" ∷
      "rob = 192" ∷
      "stations = 34" ∷
      "loads = 64" ∷
      "stores = 17" ∷
      "queue = 17" ∷
      "[units]" ∷
      "alus = 4" ∷
      "mul_latency = 8" ∷
      "[predictor]" ∷
      "counters = 2" ∷
      "btb = 1" ∷
      "[cache]" ∷
      "sets = 1" ∷
      "ways = 2" ∷
      "line = 32" ∷
      "hit_latency = 3" ∷
      "miss_latency = 4" ∷
      "mshrs = 2" ∷
      "[ram]" ∷
      "base = 65536" ∷
      "size = 65536" ∷
      "[stt]" ∷
      "model = \"futuristic\"" ∷
      []);
  image =
      0x464c457f ∷ 0x00010101 ∷ 0x00000000 ∷ 0x00000000 ∷ 0x00f30002 ∷ 0x00000001 ∷ 0x00010000 ∷ 0x00000034 ∷
      0x00000000 ∷ 0x00000000 ∷ 0x00200034 ∷ 0x00000002 ∷ 0x00000000 ∷ 0x00000001 ∷ 0x00000074 ∷ 0x00010000 ∷
      0x00010000 ∷ 0x000000c0 ∷ 0x000000c0 ∷ 0x00000005 ∷ 0x00000004 ∷ 0x00000001 ∷ 0x00000134 ∷ 0x0001ff70 ∷
      0x0001ff70 ∷ 0x00000040 ∷ 0x00000040 ∷ 0x00000006 ∷ 0x00000004 ∷ 0xf8010413 ∷ 0x00200793 ∷ 0x03c3f693 ∷
      0x008686b3 ∷ 0x00039663 ∷ 0x00029863 ∷ 0x00554633 ∷ 0x006282b3 ∷ 0x005304b3 ∷ 0x009482b3 ∷ 0x00040483 ∷
      0x00445503 ∷ 0x00042283 ∷ 0x01042483 ∷ 0x00740023 ∷ 0x40928533 ∷ 0x00542a23 ∷ 0x00442603 ∷ 0x00b41023 ∷
      0x02c64633 ∷ 0x40a38533 ∷ 0x00b342b3 ∷ 0x00c59463 ∷ 0x0006a283 ∷ 0x00c67693 ∷ 0x008686b3 ∷ 0x007602b3 ∷
      0x007483b3 ∷ 0x00c2f713 ∷ 0x00628533 ∷ 0x00642823 ∷ 0x00c42603 ∷ 0x009545b3 ∷ 0x00038863 ∷ 0x026603b3 ∷
      0x025385b3 ∷ 0x02044503 ∷ 0x00942423 ∷ 0x00642503 ∷ 0x005285b3 ∷ 0x01445383 ∷ 0xfff78793 ∷ 0xfa0792e3 ∷
      0x05d00893 ∷ 0x00000073 ∷ 0x00000073 ∷ 0x00000073 ∷ 0x00000073 ∷ 0xca080801 ∷ 0x08060000 ∷ 0x04010008 ∷
      0x00000801 ∷ 0x01000420 ∷ 0x080008f1 ∷ 0x4e0808f2 ∷ 0x00040000 ∷ 0x01b1e001 ∷ 0x01009008 ∷ 0x04010104 ∷
      0x080400cd ∷ 0x0808bf04 ∷ 0x011f0808 ∷ 0x00000408 ∷ 0x00080001 ∷
      [];
  cycles = 400;
  trace = lines (
      "1 fet:00010000" ∷
      "2 ren:0:00010000 fet:00010004" ∷
      "3 alu:0 ren:1:00010004 fet:00010008" ∷
      "4 done:0 ret:0 alu:1 ren:2:00010008 fet:0001000c" ∷
      "5 done:1 ret:1 alu:2 ren:3:0001000c fet:00010010" ∷
      "6 done:2 ret:2 alu:3 ren:4:00010010 fet:00010014" ∷
      "7 done:3 ret:3 alu:4 ren:5:00010014 fet:00010018" ∷
      "8 done:4 res:4:N bp:0:0 ret:4 alu:5 ren:6:00010018 fet:0001001c" ∷
      "9 done:5 res:5:N bp:1:0 ret:5 alu:6 ren:7:0001001c fet:00010020" ∷
      "10 done:6 ret:6 alu:7 ren:8:00010020 fet:00010024" ∷
      "11 done:7 ret:7 alu:8 ren:9:00010024 fet:00010028" ∷
      "12 done:8 ret:8 alu:9 ren:10:00010028 fet:0001002c" ∷
      "13 done:9 ret:9 ld:10:0001ff60:m ren:11:0001002c fet:00010030" ∷
      "14 ld:11:0001ff60:j ren:12:00010030 fet:00010034" ∷
      "15 ld:12:0001ff60:j ren:13:00010034 fet:00010038" ∷
      "16 ld:13:0001ff80:m ren:14:00010038 fet:0001003c" ∷
      "17 fill:0001ff60 done:10 done:11 done:12 ret:10 ret:11 ret:12 agu:14 std:14 ren:15:0001003c fet:00010040" ∷
      "18 done:14 ren:16:00010040 fet:00010044" ∷
      "19 agu:16 std:16 ren:17:00010044 fet:00010048" ∷
      "20 fill:0001ff80 done:13 done:16 ret:13 ret:14 st:14:0001ff60:h alu:15 ld:17:0001ff60:h ren:18:00010048 fet:0001004c" ∷
      "21 done:15 ret:15 ret:16 st:16:0001ff80:h agu:18 std:18 ren:19:0001004c fet:00010050" ∷
      "22 done:18 ren:20:00010050 fet:00010054" ∷
      "23 done:17 ret:17 ret:18 st:18:0001ff60:h div:19:31 alu:20 ren:21:00010054 fet:00010058" ∷
      "24 done:20 alu:21 ren:22:00010058 fet:0001005c" ∷
      "25 done:21 ren:23:0001005c fet:00010060" ∷
      "26 ld:23:0001ff60:h ren:24:00010060 fet:00010064" ∷
      "27 ren:25:00010064 fet:00010068" ∷
      "28 ren:26:00010068 fet:0001006c" ∷
      "29 done:23 ren:27:0001006c fet:00010070" ∷
      "30 alu:27 ren:28:00010070 fet:00010074" ∷
      "31 done:27 ren:29:00010074 fet:00010078" ∷
      "32 ren:30:00010078 fet:0001007c" ∷
      "33 agu:30 std:30 ren:31:0001007c fet:00010080" ∷
      "34 done:30 ld:31:0001ff60:h ren:32:00010080 fet:00010084" ∷
      "35 ren:33:00010084 fet:00010088" ∷
      "36 alu:33 ren:34:00010088 fet:0001008c" ∷
      "37 done:31 done:33 res:33:N bp:1:0 mul:34 ren:35:0001008c fet:00010090" ∷
      "38 ren:36:00010090 fet:00010094" ∷
      "39 ld:36:0001ff80:h ren:37:00010094 fet:00010098" ∷
      "40 agu:37 std:37 ren:38:00010098 fet:0001009c" ∷
      "41 done:37 ld:38:x ren:39:0001009c fet:000100a0" ∷
      "42 done:36 done:38 ren:40:000100a0 fet:000100a4" ∷
      "43 ld:40:0001ff80:h ren:41:000100a4 fet:000100a8" ∷
      "44 alu:41 ren:42:000100a8 fet:000100ac" ∷
      "45 done:34 done:41 alu:42 ren:43:000100ac fet:000100b0" ∷
      "46 done:40 done:42 res:42:T bp:0:1 sq:2 fet:0001004c" ∷
      "47 ren:44:0001004c fet:00010050" ∷
      "48 ren:45:00010050 fet:00010054" ∷
      "49 alu:45 ren:46:00010054 fet:00010058" ∷
      "50 done:45 ren:47:00010058 fet:0001005c" ∷
      "51 ren:48:0001005c fet:00010060" ∷
      "52 ren:49:00010060 fet:00010064" ∷
      "53 ren:50:00010064 fet:00010068" ∷
      "54 done:19 ret:19 ret:20 ret:21 alu:22 alu:24 alu:26 ren:51:00010068 fet:0001006c" ∷
      "55 done:22 done:24 done:26 res:22:T bp:0:2 sq:29 ret:22 fet:00010060" ∷
      "56 ren:52:00010060 fet:00010064" ∷
      "57 alu:52 ren:53:00010064 fet:00010068" ∷
      "58 done:52 ret:52 alu:53 ren:54:00010068 fet:0001006c" ∷
      "59 done:53 ret:53 alu:54 ren:55:0001006c fet:00010070" ∷
      "60 done:54 ret:54 alu:55 ren:56:00010070 fet:00010074" ∷
      "61 done:55 ret:55 alu:56 ren:57:00010074 fet:00010078" ∷
      "62 done:56 ret:56 alu:57 ren:58:00010078 fet:0001007c" ∷
      "63 done:57 ret:57 agu:58 std:58 ren:59:0001007c fet:00010080" ∷
      "64 done:58 ret:58 st:58:0001ff80:h ld:59:0001ff60:h ren:60:00010080 fet:00010084" ∷
      "65 alu:60 ren:61:00010084 fet:00010088" ∷
      "66 done:60 alu:61 ren:62:00010088 fet:0001008c" ∷
      "67 done:59 done:61 res:61:N bp:1:0 ret:59 ret:60 ret:61 mul:62 ren:63:0001008c fet:00010090" ∷
      "68 ren:64:00010090 fet:00010094" ∷
      "69 ld:64:0001ff80:h ren:65:00010094 fet:00010098" ∷
      "70 agu:65 std:65 ren:66:00010098 fet:0001009c" ∷
      "71 done:65 ld:66:x ren:67:0001009c fet:000100a0" ∷
      "72 done:64 done:66 alu:67 ren:68:000100a0 fet:000100a4" ∷
      "73 done:67 ld:68:0001ff80:h ren:69:000100a4 fet:000100a8" ∷
      "74 alu:69 ren:70:000100a8 fet:0001004c" ∷
      "75 done:62 done:69 ret:62 mul:63 alu:70 ren:71:0001004c fet:00010050" ∷
      "76 done:68 done:70 res:70:T bp:0:3 div:71:15 ren:72:00010050 fet:00010054" ∷
      "77 alu:72 ren:73:00010054 fet:00010058" ∷
      "78 done:72 alu:73 ren:74:00010058 fet:00010060" ∷
      "79 done:73 ren:75:00010060 fet:00010064" ∷
      "80 ren:76:00010064 fet:00010068" ∷
      "81 ren:77:00010068 fet:0001006c" ∷
      "82 ren:78:0001006c fet:00010070" ∷
      "83 done:63 ret:63 ret:64 ret:65 st:65:0001ff60:h" ∷
      "end trap 4 00010098 retired 37 cycles 83" ∷
      []);
}
