-- Made by tools/evaluate/write: change what it reads, in tools/evaluate/runs, and run it again.
use Rattle.std.specs.Prelude.{[], ◌∷◌}
use Rattle.generated_runs.specs.Agreement.{Run, lines}

-- the run's code:
-- 00010000 addi x8,x2,-16
-- 00010004 addi x9,x0,2
-- 00010008 sh x6,-34(x8)
-- 0001000c lw x7,-12(x2)
-- 00010010 lbu x6,-63(x2)
-- 00010014 lw x7,8(x2)
-- 00010018 remu x5,x8,x6
-- 0001001c addi x9,x9,-1
-- 00010020 bne x9,x0,-16
-- 00010024 sh x1,-40(x8)
-- 00010028 sw x9,-16(x5)
-- 0001002c addi x7,x9,5
-- 00010030 div x5,x8,x7
-- 00010034 sb x5,-14(x8)
-- 00010038 lhu x6,-16(x8)
-- 0001003c lw x7,-72(x8)
-- 00010040 add x6,x8,x7
-- 00010044 sh x0,-76(x6)
-- 00010048 lbu x6,-45(x2)
-- 0001004c addi x7,x1,42
-- 00010050 xori x6,x9,7
-- 00010054 andi x7,x8,49
-- 00010058 bne x1,x1,+4
-- 0001005c sb x0,12(x8)
-- 00010060 add x5,x8,x0
-- 00010064 addi x17,x0,93
-- 00010068 ecall
abbrev pub mixed_second_level_1 : Run
mixed_second_level_1 = record {
  description = lines (
      "version = 2" ∷
      "[core]" ∷
      "fetch_width = 4" ∷
      "retire_width = 4" ∷
      "rob = 6" ∷
      "stations = 8" ∷
      "loads = 4" ∷
      "stores = 1" ∷
      "queue = 4" ∷
      "[units]" ∷
      "alus = 2" ∷
      "mul_latency = 4" ∷
      "[predictor]" ∷
      "counters = 16" ∷
      "btb = 1" ∷
      "[cache]" ∷
      "sets = 1" ∷
      "ways = 1" ∷
      "line = 16" ∷
      "hit_latency = 2" ∷
      "miss_latency = 14" ∷
      "mshrs = 4" ∷
      "second_sets = 4" ∷
      "second_ways = 4" ∷
      "second_latency = 9" ∷
      "prefetch = 1" ∷
      "[ram]" ∷
      "base = 65536" ∷
      "size = 65536" ∷
      "[stt]" ∷
      "model = \"spectre\"" ∷
      []);
  image =
      0x464c457f ∷ 0x00010101 ∷ 0x00000000 ∷ 0x00000000 ∷ 0x00f30002 ∷ 0x00000001 ∷ 0x00010000 ∷ 0x00000034 ∷
      0x00000000 ∷ 0x00000000 ∷ 0x00200034 ∷ 0x00000001 ∷ 0x00000000 ∷ 0x00000001 ∷ 0x00000054 ∷ 0x00010000 ∷
      0x00010000 ∷ 0x0000006c ∷ 0x0000006c ∷ 0x00000005 ∷ 0x00000004 ∷ 0xff010413 ∷ 0x00200493 ∷ 0xfc641f23 ∷
      0xff412383 ∷ 0xfc114303 ∷ 0x00812383 ∷ 0x026472b3 ∷ 0xfff48493 ∷ 0xfe0498e3 ∷ 0xfc141c23 ∷ 0xfe92a823 ∷
      0x00548393 ∷ 0x027442b3 ∷ 0xfe540923 ∷ 0xff045303 ∷ 0xfb842383 ∷ 0x00740333 ∷ 0xfa031a23 ∷ 0xfd314303 ∷
      0x02a08393 ∷ 0x0074c313 ∷ 0x03147393 ∷ 0x00109263 ∷ 0x00040623 ∷ 0x000402b3 ∷ 0x05d00893 ∷ 0x00000073 ∷
      [];
  cycles = 160;
  trace = lines (
      "1 fet:00010000 fet:00010004 fet:00010008 fet:0001000c" ∷
      "2 ren:0:00010000 ren:1:00010004 ren:2:00010008 ren:3:0001000c fet:00010010 fet:00010014 fet:00010018 fet:0001001c" ∷
      "3 alu:0 alu:1 std:2 ren:4:00010010 ren:5:00010014 fet:00010020 fet:00010024" ∷
      "4 done:0 done:1 ret:0 ret:1 agu:2 ren:6:00010018 ren:7:0001001c fet:00010028 fet:0001002c" ∷
      "5 done:2 ret:2 st:2:0001ffb0:m ld:3:0001ffe0:m pf:0001fff0:m alu:7 ren:8:00010020 fet:00010030" ∷
      "6 done:7 ld:4:0001ffb0:m pf:0001ffc0:m alu:8" ∷
      "7 done:8 res:8:T bp:8:2 sq:4 ld:5:0001fff0:j fet:00010010 fet:00010014 fet:00010018 fet:0001001c" ∷
      "8" ∷
      "9" ∷
      "10" ∷
      "11" ∷
      "12" ∷
      "13" ∷
      "14" ∷
      "15" ∷
      "16" ∷
      "17" ∷
      "18" ∷
      "19 fill:0001ffe0 fill:0001fff0 done:3 done:5 ret:3 ren:9:00010010 fet:00010020" ∷
      "20 fill:0001ffb0 fill:0001ffc0 done:4 ret:4 ret:5 div:6:20 ld:9:0001ffb0:2 ren:10:00010014 ren:11:00010018 fet:00010010 fet:00010014" ∷
      "21 ld:10:0001fff0:2" ∷
      "22" ∷
      "23" ∷
      "24" ∷
      "25" ∷
      "26" ∷
      "27" ∷
      "28" ∷
      "29 fill:0001ffb0 done:9" ∷
      "30 fill:0001fff0 done:10" ∷
      "31" ∷
      "32" ∷
      "33" ∷
      "34" ∷
      "35" ∷
      "36" ∷
      "37" ∷
      "38" ∷
      "39" ∷
      "40 done:6 ret:6 ret:7 ret:8 ret:9 div:11:20 ren:12:0001001c ren:13:00010020 ren:14:00010010 ren:15:00010014 fet:00010018 fet:0001001c fet:00010020 fet:00010010" ∷
      "41 ret:10 alu:12 ld:14:0001ffb0:2 pf:0001ffc0:2 ren:16:00010018 fet:00010014" ∷
      "42 done:12 alu:13 ld:15:0001fff0:h" ∷
      "43 done:13 res:13:N bp:8:1 sq:7 fet:00010024 fet:00010028 fet:0001002c fet:00010030" ∷
      "44 ren:17:00010024 fet:00010034" ∷
      "45 agu:17 std:17" ∷
      "46 done:17" ∷
      "47" ∷
      "48" ∷
      "49" ∷
      "50 fill:0001ffb0 fill:0001ffc0" ∷
      "51" ∷
      "52" ∷
      "53" ∷
      "54" ∷
      "55" ∷
      "56" ∷
      "57" ∷
      "58" ∷
      "59" ∷
      "60 done:11 ret:11 ret:12 ret:13 ret:17 st:17:0001ffb0:m ren:18:00010028 ren:19:0001002c ren:20:00010030 fet:00010038 fet:0001003c fet:00010040" ∷
      "61 agu:18 std:18 alu:19" ∷
      "62 done:18 done:19 ret:18 st:18:0001ffd0:m ret:19 div:20:20 ren:21:00010034 ren:22:00010038 ren:23:0001003c ren:24:00010040 fet:00010044 fet:00010048 fet:0001004c fet:00010050" ∷
      "63 agu:21" ∷
      "64 ld:22:0001ffd0:m pf:0001ffe0:2" ∷
      "65 ld:23:0001ff90:m pf:0001ffa0:m" ∷
      "66" ∷
      "67" ∷
      "68" ∷
      "69" ∷
      "70" ∷
      "71" ∷
      "72" ∷
      "73 fill:0001ffe0" ∷
      "74" ∷
      "75" ∷
      "76" ∷
      "77" ∷
      "78 fill:0001ffd0 done:22" ∷
      "79 fill:0001ff90 fill:0001ffa0 done:23 alu:24" ∷
      "80 done:24" ∷
      "81" ∷
      "82 done:20 ret:20 std:21" ∷
      "83 done:21 ret:21 st:21:0001ffd0:m ret:22 ret:23 ret:24 ren:25:00010044 ren:26:00010048 ren:27:0001004c ren:28:00010050 fet:00010054 fet:00010058 fet:0001005c fet:00010060" ∷
      "84 agu:25 std:25 alu:27 alu:28 ren:29:00010054 ren:30:00010058 fet:00010064 fet:00010068" ∷
      "85 done:25 done:27 done:28 ret:25 st:25:0001ff90:m ld:26:0001ffc0:2 pf:0001ffd0:2 alu:29 alu:30 ren:31:0001005c fet:0001006c" ∷
      "86 done:29 done:30 res:30:N bp:6:0 agu:31 std:31" ∷
      "87 done:31" ∷
      "88" ∷
      "89" ∷
      "90" ∷
      "91" ∷
      "92" ∷
      "93" ∷
      "94 fill:0001ffc0 fill:0001ffd0 done:26 ret:26 ret:27 ret:28 ret:29 ren:32:00010060 ren:33:00010064" ∷
      "95 ret:30 ret:31 st:31:0001ffe0:m alu:32 alu:33" ∷
      "96 done:32 done:33 ret:32 ret:33 ren:34:00010068" ∷
      "97 ret:34 call:34:0" ∷
      "end exit 0 retired 32 cycles 97" ∷
      []);
}
