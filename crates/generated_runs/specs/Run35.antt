-- Made by tools/evaluate/write: change what it reads, in tools/evaluate/runs, and run it again.
use Rattle.std.specs.Prelude.{[], ◌∷◌}
use Rattle.generated_runs.specs.Agreement.{Run, lines}

-- the run's code:
-- 00010000 addi x7,x2,306
-- 00010004 addi x8,x0,-506
-- 00010008 addi x16,x2,1671
-- 0001000c auipc x1,0x0
-- 00010010 addi x1,x1,36
-- 00010014 lw x5,-12(x2)
-- 00010018 andi x8,x5,240
-- 0001001c sub x8,x2,x8
-- 00010020 sw x9,0(x8)
-- 00010024 mulh x6,x7,x9
-- 00010028 lbu x7,-30(x2)
-- 0001002c lhu x7,-24(x2)
-- 00010030 add x7,x8,x11
-- 00010034 or x8,x5,x10
-- 00010038 ecall
-- 0001003c lw x11,-20(x2)
-- 00010040 andi x8,x11,60
-- 00010044 sub x8,x2,x8
-- 00010048 lw x11,0(x8)
-- 0001004c lw x0,-20(x2)
-- 00010050 div x7,x0,x9
-- 00010054 mulhsu x11,x10,x2
-- 00010058 rem x10,x11,x5
-- 0001005c lhu x5,-782(x2)
-- 00010060 andi x10,x5,252
-- 00010064 sub x10,x2,x10
-- 00010068 lw x8,0(x10)
-- 0001006c lw x5,-84(x2)
-- 00010070 addi x17,x0,94
-- 00010074 ecall
-- 00010078 srli x8,x9,24
-- 0001007c lbu x9,8(x2)
-- 00010080 mulhu x9,x9,x9
-- 00010084 bne x0,x9,+12
-- 00010088 lbu x9,-5(x2)
-- 0001008c mul x9,x9,x9
-- 00010090 beq x0,x9,+8
-- 00010094 sw x0,-172(x2)
-- 00010098 sb x10,-23(x2)
-- 0001009c bge x5,x16,+4
-- 000100a0 sh x9,-52(x2)
-- 000100a4 lw x8,-24(x2)
-- 000100a8 remu x8,x8,x8
-- 000100ac bltu x8,x0,+32
abbrev pub run_35 : Run
run_35 = record {
  description = lines (
      "[core]" ∷
      "fetch_width = 4" ∷
      "retire_width = 4" ∷
      "rob = 64" ∷
      "stations = 6" ∷
      "loads = 1" ∷
      "stores = 8" ∷
      "queue = 1" ∷
      "[units]" ∷
      "alus = 1" ∷
      "mul_latency = 3" ∷
      "[predictor]" ∷
      "counters = 64" ∷
      "btb = 1" ∷
      "[cache]" ∷
      "sets = 2" ∷
      "ways = 2" ∷
      "line = 16" ∷
      "hit_latency = 3" ∷
      "miss_latency = 9" ∷
      "mshrs = 3" ∷
      "[ram]" ∷
      "base = 65536" ∷
      "size = 4096" ∷
      "[stt]" ∷
      "model = \"spectre\"" ∷
      []);
  image =
      0x464c457f ∷ 0x00010101 ∷ 0x00000000 ∷ 0x00000000 ∷ 0x00f30002 ∷ 0x00000001 ∷ 0x00010000 ∷ 0x00000034 ∷
      0x00000000 ∷ 0x00000000 ∷ 0x00200034 ∷ 0x00000002 ∷ 0x00000000 ∷ 0x00000001 ∷ 0x00000074 ∷ 0x00010000 ∷
      0x00010000 ∷ 0x000000b0 ∷ 0x000000b0 ∷ 0x00000005 ∷ 0x00000004 ∷ 0x00000001 ∷ 0x00000124 ∷ 0x00010ff0 ∷
      0x00010ff0 ∷ 0x00000010 ∷ 0x00000010 ∷ 0x00000006 ∷ 0x00000004 ∷ 0x13210393 ∷ 0xe0600413 ∷ 0x68710813 ∷
      0x00000097 ∷ 0x02408093 ∷ 0xff412283 ∷ 0x0f02f413 ∷ 0x40810433 ∷ 0x00942023 ∷ 0x02939333 ∷ 0xfe214383 ∷
      0xfe815383 ∷ 0x00b403b3 ∷ 0x00a2e433 ∷ 0x00000073 ∷ 0xfec12583 ∷ 0x03c5f413 ∷ 0x40810433 ∷ 0x00042583 ∷
      0xfec12003 ∷ 0x029043b3 ∷ 0x022525b3 ∷ 0x0255e533 ∷ 0xcf215283 ∷ 0x0fc2f513 ∷ 0x40a10533 ∷ 0x00052403 ∷
      0xfac12283 ∷ 0x05e00893 ∷ 0x00000073 ∷ 0x0184d413 ∷ 0x00814483 ∷ 0x0294b4b3 ∷ 0x00901663 ∷ 0xffb14483 ∷
      0x029484b3 ∷ 0x00900463 ∷ 0xf4012a23 ∷ 0xfea104a3 ∷ 0x0102d263 ∷ 0xfc911623 ∷ 0xfe812403 ∷ 0x02847433 ∷
      0x02046063 ∷ 0xfd8e32f6 ∷ 0x00010d34 ∷ 0x00000000 ∷ 0x000109ac ∷
      [];
  cycles = 339;
  trace = lines (
      "1 fet:00010000" ∷
      "2 ren:0:00010000 fet:00010004" ∷
      "3 alu:0 ren:1:00010004 fet:00010008" ∷
      "4 done:0 ret:0 alu:1 ren:2:00010008 fet:0001000c" ∷
      "5 done:1 ret:1 alu:2 ren:3:0001000c fet:00010010" ∷
      "6 done:2 ret:2 alu:3 ren:4:00010010 fet:00010014" ∷
      "7 done:3 ret:3 alu:4 ren:5:00010014 fet:00010018" ∷
      "8 done:4 ret:4 ld:5:00010fe0:m ren:6:00010018 fet:0001001c" ∷
      "9 ren:7:0001001c fet:00010020" ∷
      "10 ren:8:00010020 fet:00010024" ∷
      "11 ren:9:00010024 fet:00010028" ∷
      "12 mul:9" ∷
      "13" ∷
      "14" ∷
      "15 done:9" ∷
      "16" ∷
      "17 fill:00010fe0 done:5 ret:5 alu:6 ren:10:00010028 fet:0001002c" ∷
      "18 done:6 ret:6 alu:7" ∷
      "19 done:7 ret:7 agu:8" ∷
      "20 done:8 ret:8 st:8:00010ff0:m ret:9 ld:10:00010fd0:m" ∷
      "21" ∷
      "22" ∷
      "23" ∷
      "24" ∷
      "25" ∷
      "26" ∷
      "27" ∷
      "28" ∷
      "29 fill:00010fd0 done:10 ret:10 ren:11:0001002c fet:00010030" ∷
      "30 ld:11:00010fd0:h ren:12:00010030 fet:00010034" ∷
      "31 alu:12 ren:13:00010034 fet:00010038" ∷
      "32 done:12 alu:13" ∷
      "33 done:11 done:13 ret:11 ret:12 ret:13 ren:14:00010038 fet:0001003c" ∷
      "34 ret:14 call:14:0 ren:15:0001003c fet:00010040" ∷
      "35 ld:15:00010fd0:h ren:16:00010040 fet:00010044" ∷
      "36 ren:17:00010044 fet:00010048" ∷
      "37" ∷
      "38 done:15 ret:15 alu:16 ren:18:00010048 fet:0001004c" ∷
      "39 done:16 ret:16 alu:17" ∷
      "40 done:17 ret:17 ld:18:00010ff0:m" ∷
      "41" ∷
      "42" ∷
      "43" ∷
      "44" ∷
      "45" ∷
      "46" ∷
      "47" ∷
      "48" ∷
      "49 fill:00010ff0 done:18 ret:18 ren:19:0001004c fet:00010050" ∷
      "50 ld:19:00010fd0:h ren:20:00010050 fet:00010054" ∷
      "51 div:20:3 ren:21:00010054 fet:00010058" ∷
      "52 mul:21 ren:22:00010058 fet:0001005c" ∷
      "53 done:19 ret:19 ren:23:0001005c fet:00010060" ∷
      "54 done:20 ret:20 ld:23:00010ce0:m ren:24:00010060 fet:00010064" ∷
      "55 done:21 ret:21 div:22:4 ren:25:00010064 fet:00010068" ∷
      "56" ∷
      "57" ∷
      "58" ∷
      "59 done:22 ret:22" ∷
      "60" ∷
      "61" ∷
      "62" ∷
      "63 fill:00010ce0 done:23 ret:23 alu:24 ren:26:00010068 fet:0001006c" ∷
      "64 done:24 ret:24 alu:25" ∷
      "65 done:25 ret:25 ld:26:00010ff0:h" ∷
      "66" ∷
      "67" ∷
      "68 done:26 ret:26 ren:27:0001006c fet:00010070" ∷
      "69 ld:27:00010f90:m ren:28:00010070 fet:00010074" ∷
      "70 alu:28" ∷
      "71 done:28" ∷
      "72" ∷
      "73" ∷
      "74" ∷
      "75" ∷
      "76" ∷
      "77" ∷
      "78 fill:00010f90 done:27 ret:27 ret:28 ren:29:00010074 fet:00010078" ∷
      "79 ret:29 call:29:0" ∷
      "end exit 69616 retired 30 cycles 79" ∷
      []);
}
