-- Made by tools/evaluate/write: change what it reads, in tools/evaluate/runs, and run it again.
use Rattle.std.specs.Prelude.{[], ◌∷◌}
use Rattle.generated_runs.specs.Agreement.{Run, lines}

-- the run's code:
-- 00010018 addi x5,x0,-754
-- 0001001c addi x6,x2,-300
-- 00010020 addi x16,x2,-159
-- 00010024 auipc x1,0x0
-- 00010028 addi x1,x1,20
-- 0001002c addi x18,x0,9
-- 00010030 lw x13,-64(x2)
-- 00010034 or x13,x13,x13
-- 00010038 div x13,x13,x2
-- 0001003c sh x2,-27(x2)
-- 00010040 lbu x5,-26(x2)
-- 00010044 lbu x7,-736(x2)
-- 00010048 andi x11,x7,508
-- 0001004c sub x11,x2,x11
-- 00010050 lw x6,0(x11)
-- 00010054 sw x7,-16(x2)
-- 00010058 lw x9,-16(x2)
-- 0001005c andi x5,x9,252
-- 00010060 sub x5,x2,x5
-- 00010064 lw x0,0(x5)
-- 00010068 lw x13,-48(x2)
-- 0001006c beq x13,x13,+40
-- 00010070 lw x8,-1004(x2)
-- 00010074 sw x8,-40(x2)
-- 00010078 lw x6,-40(x2)
-- 0001007c andi x7,x6,240
-- 00010080 sub x7,x2,x7
-- 00010084 lw x16,0(x7)
-- 00010088 bgeu x2,x8,+12
-- 0001008c sltiu x6,x10,1572
-- 00010090 lb x11,-38(x2)
-- 00010094 addi x18,x18,-1
-- 00010098 bne x18,x0,-104
-- 0001009c addi x17,x0,94
-- 000100a0 ecall
abbrev pub run_10 : Run
run_10 = record {
  description = lines (
      "[core]" ∷
      "fetch_width = 1" ∷
      "retire_width = 2" ∷
      "rob = 20" ∷
      "stations = 12" ∷
      "loads = 14" ∷
      "stores = 16" ∷
      "queue = 4" ∷
      "[units]" ∷
      "alus = 1" ∷
      "mul_latency = 4" ∷
      "[predictor]" ∷
      "counters = 1024" ∷
      "btb = 64" ∷
      "[cache]" ∷
      "sets = 1" ∷
      "ways = 5" ∷
      "line = 4" ∷
      "hit_latency = 2" ∷
      "miss_latency = 19" ∷
      "mshrs = 2" ∷
      "[ram]" ∷
      "base = 65536" ∷
      "size = 4096" ∷
      "[stt]" ∷
      "model = \"futuristic\"" ∷
      []);
  image =
      0x464c457f ∷ 0x00010101 ∷ 0x00000000 ∷ 0x00000000 ∷ 0x00f30002 ∷ 0x00000001 ∷ 0x00010018 ∷ 0x00000034 ∷
      0x00000000 ∷ 0x00000000 ∷ 0x00200034 ∷ 0x00000002 ∷ 0x00000000 ∷ 0x00000001 ∷ 0x00000074 ∷ 0x00010018 ∷
      0x00010018 ∷ 0x0000008c ∷ 0x0000008c ∷ 0x00000005 ∷ 0x00000004 ∷ 0x00000001 ∷ 0x00000100 ∷ 0x00010ff0 ∷
      0x00010ff0 ∷ 0x00000010 ∷ 0x00000010 ∷ 0x00000006 ∷ 0x00000004 ∷ 0xd0e00293 ∷ 0xed410313 ∷ 0xf6110813 ∷
      0x00000097 ∷ 0x01408093 ∷ 0x00900913 ∷ 0xfc012683 ∷ 0x00d6e6b3 ∷ 0x0226c6b3 ∷ 0xfe2112a3 ∷ 0xfe614283 ∷
      0xd2014383 ∷ 0x1fc3f593 ∷ 0x40b105b3 ∷ 0x0005a303 ∷ 0xfe712823 ∷ 0xff012483 ∷ 0x0fc4f293 ∷ 0x405102b3 ∷
      0x0002a003 ∷ 0xfd012683 ∷ 0x02d68463 ∷ 0xc1412403 ∷ 0xfc812c23 ∷ 0xfd812303 ∷ 0x0f037393 ∷ 0x407103b3 ∷
      0x0003a803 ∷ 0x00817663 ∷ 0x62453313 ∷ 0xfda10583 ∷ 0xfff90913 ∷ 0xf8091ce3 ∷ 0x05e00893 ∷ 0x00000073 ∷
      0x5917df86 ∷ 0x00000000 ∷ 0x00000000 ∷ 0x00010050 ∷
      [];
  cycles = 53;
  trace = lines (
      "1 fet:00010018" ∷
      "2 ren:0:00010018 fet:0001001c" ∷
      "3 alu:0 ren:1:0001001c fet:00010020" ∷
      "4 done:0 ret:0 alu:1 ren:2:00010020 fet:00010024" ∷
      "5 done:1 ret:1 alu:2 ren:3:00010024 fet:00010028" ∷
      "6 done:2 ret:2 alu:3 ren:4:00010028 fet:0001002c" ∷
      "7 done:3 ret:3 alu:4 ren:5:0001002c fet:00010030" ∷
      "8 done:4 ret:4 alu:5 ren:6:00010030 fet:00010034" ∷
      "9 done:5 ret:5 ld:6:00010fb0:m ren:7:00010034 fet:00010038" ∷
      "10 ren:8:00010038 fet:0001003c" ∷
      "11 ren:9:0001003c fet:00010040" ∷
      "12 agu:9 ren:10:00010040 fet:00010044" ∷
      "13 done:9 ld:10:00010fd4:m ren:11:00010044 fet:00010048" ∷
      "14 ren:12:00010048 fet:0001004c" ∷
      "15 ren:13:0001004c fet:00010050" ∷
      "16 ren:14:00010050 fet:00010054" ∷
      "17 ren:15:00010054 fet:00010058" ∷
      "18 ren:16:00010058 fet:0001005c" ∷
      "19 ren:17:0001005c fet:00010060" ∷
      "20 ren:18:00010060 fet:00010064" ∷
      "21 ren:19:00010064 fet:00010068" ∷
      "22 ren:20:00010068 fet:0001006c" ∷
      "23 fet:00010070" ∷
      "24 fet:00010074" ∷
      "25 fet:00010078" ∷
      "26" ∷
      "27" ∷
      "28 fill:00010fb0 done:6 ret:6 alu:7 ld:11:00010d10:m ren:21:0001006c fet:0001007c" ∷
      "29 done:7 ret:7 div:8:3 ren:22:00010070 fet:00010080" ∷
      "30 ren:23:00010074 fet:00010084" ∷
      "31" ∷
      "32 fill:00010fd4 done:8 done:10 ret:8" ∷
      "end trap 6 0001003c retired 9 cycles 32" ∷
      []);
}
