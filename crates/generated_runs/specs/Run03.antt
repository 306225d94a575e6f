-- Made by tools/evaluate/write: change what it reads, in tools/evaluate/runs, and run it again.
use Rattle.std.specs.Prelude.{[], ◌∷◌}
use Rattle.generated_runs.specs.Agreement.{Run, lines}

-- the run's code:
-- 00010010 addi x5,x2,1869
-- 00010014 addi x16,x0,424
-- 00010018 addi x11,x0,161
-- 0001001c auipc x1,0x0
-- 00010020 addi x1,x1,68
-- 00010024 addi x13,x2,0
-- 00010028 div x13,x13,x2
-- 0001002c sw x13,-24(x2)
-- 00010030 sw x2,-21(x2)
-- 00010034 lbu x5,-22(x2)
-- 00010038 lhu x6,-752(x2)
-- 0001003c andi x6,x6,4
-- 00010040 auipc x9,0x0
-- 00010044 add x6,x6,x9
-- 00010048 jalr x1,12(x6)
-- 0001004c div x7,x2,x6
-- 00010050 addi x17,x0,64
-- 00010054 addi x10,x0,2
-- 00010058 addi x11,x2,-53
-- 0001005c addi x12,x0,40
-- 00010060 ecall
-- 00010064 lw x12,-112(x2)
-- 00010068 sw x2,-27(x2)
-- 0001006c lw x5,-28(x2)
-- 00010070 lw x6,-568(x2)
-- 00010074 sw x6,-8(x2)
-- 00010078 andi x16,x6,60
-- 0001007c sub x16,x2,x16
-- 00010080 sh x6,-8(x16)
-- 00010084 lw x6,-8(x2)
-- 00010088 sw x16,-16(x2)
-- 0001008c andi x10,x6,60
-- 00010090 sub x10,x2,x10
-- 00010094 sb x16,-16(x10)
-- 00010098 lw x6,-16(x2)
-- 0001009c lh x9,8(x2)
-- 000100a0 addi x17,x0,93
-- 000100a4 ecall
abbrev pub run_03 : Run
run_03 = record {
  description = lines (
      "[core]" ∷
      "fetch_width = 3" ∷
      "retire_width = 2" ∷
      "rob = 14" ∷
      "stations = 10" ∷
      "loads = 1" ∷
      "stores = 7" ∷
      "queue = 3" ∷
      "[units]" ∷
      "alus = 1" ∷
      "mul_latency = 4" ∷
      "[predictor]" ∷
      "counters = 16" ∷
      "btb = 4" ∷
      "[cache]" ∷
      "sets = 2" ∷
      "ways = 8" ∷
      "line = 64" ∷
      "hit_latency = 8" ∷
      "miss_latency = 15" ∷
      "mshrs = 3" ∷
      "[ram]" ∷
      "base = 65536" ∷
      "size = 4096" ∷
      "[stt]" ∷
      "model = \"futuristic\"" ∷
      []);
  image =
      0x464c457f ∷ 0x00010101 ∷ 0x00000000 ∷ 0x00000000 ∷ 0x00f30002 ∷ 0x00000001 ∷ 0x00010010 ∷ 0x00000034 ∷
      0x00000000 ∷ 0x00000000 ∷ 0x00200034 ∷ 0x00000002 ∷ 0x00000000 ∷ 0x00000001 ∷ 0x00000074 ∷ 0x00010010 ∷
      0x00010010 ∷ 0x00000098 ∷ 0x00000098 ∷ 0x00000007 ∷ 0x00000004 ∷ 0x00000001 ∷ 0x0000010c ∷ 0x00010fc0 ∷
      0x00010fc0 ∷ 0x00000040 ∷ 0x00000040 ∷ 0x00000006 ∷ 0x00000004 ∷ 0x74d10293 ∷ 0x1a800813 ∷ 0x0a100593 ∷
      0x00000097 ∷ 0x04408093 ∷ 0x00010693 ∷ 0x0226c6b3 ∷ 0xfed12423 ∷ 0xfe2125a3 ∷ 0xfea14283 ∷ 0xd1015303 ∷
      0x00437313 ∷ 0x00000497 ∷ 0x00930333 ∷ 0x00c300e7 ∷ 0x026143b3 ∷ 0x04000893 ∷ 0x00200513 ∷ 0xfcb10593 ∷
      0x02800613 ∷ 0x00000073 ∷ 0xf9012603 ∷ 0xfe2122a3 ∷ 0xfe412283 ∷ 0xdc812303 ∷ 0xfe612c23 ∷ 0x03c37813 ∷
      0x41010833 ∷ 0xfe681c23 ∷ 0xff812303 ∷ 0xff012823 ∷ 0x03c37513 ∷ 0x40a10533 ∷ 0xff050823 ∷ 0xff012303 ∷
      0x00811483 ∷ 0x05d00893 ∷ 0x00000073 ∷ 0x000000e6 ∷ 0x00010040 ∷ 0x00000000 ∷ 0x00010fd0 ∷ 0x00000057 ∷
      0x00010024 ∷ 0x00000000 ∷ 0x00000000 ∷ 0x00010c98 ∷ 0x00010020 ∷ 0x000000b7 ∷ 0x85dc3c21 ∷ 0x000000f8 ∷
      0x00000000 ∷ 0x00010028 ∷ 0x3ca88bbe ∷
      [];
  cycles = 400;
  trace = lines (
      "1 fet:00010010 fet:00010014 fet:00010018" ∷
      "2 ren:0:00010010 ren:1:00010014 ren:2:00010018 fet:0001001c fet:00010020 fet:00010024" ∷
      "3 alu:0 ren:3:0001001c ren:4:00010020 ren:5:00010024 fet:00010028 fet:0001002c fet:00010030" ∷
      "4 done:0 ret:0 alu:1 ren:6:00010028 ren:7:0001002c ren:8:00010030 fet:00010034 fet:00010038 fet:0001003c" ∷
      "5 done:1 ret:1 alu:2 agu:8 ren:9:00010034 fet:00010040" ∷
      "6 done:2 done:8 ret:2 alu:3" ∷
      "7 done:3 ret:3 alu:4" ∷
      "8 done:4 ret:4 alu:5" ∷
      "9 done:5 ret:5 div:6:20" ∷
      "10" ∷
      "11" ∷
      "12" ∷
      "13" ∷
      "14" ∷
      "15" ∷
      "16" ∷
      "17" ∷
      "18" ∷
      "19" ∷
      "20" ∷
      "21" ∷
      "22" ∷
      "23" ∷
      "24" ∷
      "25" ∷
      "26" ∷
      "27" ∷
      "28" ∷
      "29 done:6 ret:6 agu:7" ∷
      "30 done:7 ret:7 st:7:00010fc0:m" ∷
      "end trap 6 00010030 retired 8 cycles 30" ∷
      []);
}
