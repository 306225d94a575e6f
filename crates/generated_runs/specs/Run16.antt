-- Made by tools/evaluate/write: change what it reads, in tools/evaluate/runs, and run it again.
use Rattle.std.specs.Prelude.{[], ◌∷◌}
use Rattle.generated_runs.specs.Agreement.{Run, lines}

-- the run's code:
-- 00000010 addi x8,x2,1206
-- 00000014 auipc x1,0x0
-- 00000018 addi x1,x1,76
-- 0000001c addi x12,x2,0
-- 00000020 or x12,x12,x2
-- 00000024 bgeu x12,x0,+56
-- 00000028 lbu x8,-604(x2)
-- 0000002c lw x8,0(x8)
-- 00000030 andi x11,x8,60
-- 00000034 sub x11,x2,x11
-- 00000038 lw x6,0(x11)
-- 0000003c andi x8,x8,60
-- 00000040 auipc x9,0x0
-- 00000044 add x8,x8,x9
-- 00000048 jalr x0,12(x8)
-- 0000004c lw x5,-52(x2)
-- 00000050 andi x5,x5,12
-- 00000054 sub x5,x2,x5
-- 00000058 sb x9,-4(x5)
-- 0000005c addi x15,x2,-816
-- 00000060 sw x15,-44(x2)
-- 00000064 addi x13,x2,0
-- 00000068 or x13,x13,x13
-- 0000006c div x13,x13,x2
-- 00000070 andi x13,x13,0
-- 00000074 add x13,x13,x2
-- 00000078 sw x2,-44(x13)
-- 0000007c lw x6,-44(x2)
-- 00000080 lw x7,0(x6)
-- 00000084 div x10,x10,x7
-- 00000088 addi x15,x2,-928
-- 0000008c sw x15,-20(x2)
-- 00000090 addi x13,x2,0
-- 00000094 or x13,x13,x13
-- 00000098 andi x13,x13,0
-- 0000009c add x13,x13,x2
-- 000000a0 sw x2,-20(x13)
-- 000000a4 lw x5,-20(x2)
-- 000000a8 lw x7,0(x5)
-- 000000ac andi x7,x7,60
-- 000000b0 auipc x9,0x0
-- 000000b4 add x7,x7,x9
-- 000000b8 jalr x0,12(x7)
-- 000000bc addi x17,x0,93
-- 000000c0 ecall
abbrev pub run_16 : Run
run_16 = record {
  description = lines (
      "[core]" ∷
      "fetch_width = 2" ∷
      "retire_width = 2" ∷
      "rob = 36" ∷
      "stations = 11" ∷
      "loads = 16" ∷
      "stores = 16" ∷
      "queue = 8" ∷
      "[units]" ∷
      "alus = 4" ∷
      "mul_latency = 1" ∷
      "[predictor]" ∷
      "counters = 8" ∷
      "btb = 2" ∷
      "[cache]" ∷
      "sets = 1" ∷
      "ways = 1" ∷
      "line = 8" ∷
      "hit_latency = 3" ∷
      "miss_latency = 4" ∷
      "mshrs = 4" ∷
      "[ram]" ∷
      "base = 0" ∷
      "size = 4096" ∷
      "[stt]" ∷
      "model = \"futuristic\"" ∷
      []);
  image =
      0x464c457f ∷ 0x00010101 ∷ 0x00000000 ∷ 0x00000000 ∷ 0x00f30002 ∷ 0x00000001 ∷ 0x00000010 ∷ 0x00000034 ∷
      0x00000000 ∷ 0x00000000 ∷ 0x00200034 ∷ 0x00000002 ∷ 0x00000000 ∷ 0x00000001 ∷ 0x00000074 ∷ 0x00000010 ∷
      0x00000010 ∷ 0x000000b4 ∷ 0x000000b4 ∷ 0x00000007 ∷ 0x00000004 ∷ 0x00000001 ∷ 0x00000128 ∷ 0x00000ff0 ∷
      0x00000ff0 ∷ 0x00000010 ∷ 0x00000010 ∷ 0x00000006 ∷ 0x00000004 ∷ 0x4b610413 ∷ 0x00000097 ∷ 0x04c08093 ∷
      0x00010613 ∷ 0x00266633 ∷ 0x02067c63 ∷ 0xda414403 ∷ 0x00042403 ∷ 0x03c47593 ∷ 0x40b105b3 ∷ 0x0005a303 ∷
      0x03c47413 ∷ 0x00000497 ∷ 0x00940433 ∷ 0x00c40067 ∷ 0xfcc12283 ∷ 0x00c2f293 ∷ 0x405102b3 ∷ 0xfe928e23 ∷
      0xcd010793 ∷ 0xfcf12a23 ∷ 0x00010693 ∷ 0x00d6e6b3 ∷ 0x0226c6b3 ∷ 0x0006f693 ∷ 0x002686b3 ∷ 0xfc26aa23 ∷
      0xfd412303 ∷ 0x00032383 ∷ 0x02754533 ∷ 0xc6010793 ∷ 0xfef12623 ∷ 0x00010693 ∷ 0x00d6e6b3 ∷ 0x0006f693 ∷
      0x002686b3 ∷ 0xfe26a623 ∷ 0xfec12283 ∷ 0x0002a383 ∷ 0x03c3f393 ∷ 0x00000497 ∷ 0x009383b3 ∷ 0x00c38067 ∷
      0x05d00893 ∷ 0x00000073 ∷ 0x00000920 ∷ 0x00000a68 ∷ 0x9a709c05 ∷ 0x00000038 ∷
      [];
  cycles = 48;
  trace = lines (
      "1 fet:00000010 fet:00000014" ∷
      "2 ren:0:00000010 ren:1:00000014 fet:00000018 fet:0000001c" ∷
      "3 alu:0 alu:1 ren:2:00000018 ren:3:0000001c fet:00000020 fet:00000024" ∷
      "4 done:0 done:1 ret:0 ret:1 alu:2 alu:3 ren:4:00000020 ren:5:00000024 fet:00000028 fet:0000002c" ∷
      "5 done:2 done:3 ret:2 ret:3 alu:4 ren:6:00000028 ren:7:0000002c fet:00000030 fet:00000034" ∷
      "6 done:4 ret:4 alu:5 ld:6:00000d90:m ren:8:00000030 ren:9:00000034 fet:00000038 fet:0000003c" ∷
      "7 done:5 res:5:T bp:1:2 sq:6 ret:5 fet:0000005c fet:00000060" ∷
      "8 ren:10:0000005c ren:11:00000060 fet:00000064 fet:00000068" ∷
      "9 alu:10 ren:12:00000064 ren:13:00000068 fet:0000006c fet:00000070" ∷
      "10 fill:00000d90 done:10 ret:10 agu:11 alu:12 ren:14:0000006c ren:15:00000070 fet:00000074 fet:00000078" ∷
      "11 done:11 done:12 ret:11 st:11:00000fc0:m ret:12 alu:13 ren:16:00000074 ren:17:00000078 fet:0000007c fet:00000080" ∷
      "12 done:13 ret:13 div:14:15 ren:18:0000007c ren:19:00000080 fet:00000084 fet:00000088" ∷
      "13 ren:20:00000084 ren:21:00000088 fet:0000008c fet:00000090" ∷
      "14 alu:21 ren:22:0000008c ren:23:00000090 fet:00000094 fet:00000098" ∷
      "15 done:21 agu:22 alu:23 ren:24:00000094 ren:25:00000098 fet:0000009c fet:000000a0" ∷
      "16 done:22 done:23 alu:24 ren:26:0000009c ren:27:000000a0 fet:000000a4 fet:000000a8" ∷
      "17 done:24 alu:25 ren:28:000000a4 ren:29:000000a8 fet:000000ac fet:000000b0" ∷
      "18 done:25 alu:26 ren:30:000000ac ren:31:000000b0 fet:000000b4 fet:000000b8" ∷
      "19 done:26 agu:27 alu:31 ren:32:000000b4 ren:33:000000b8 fet:000000bc fet:000000c0" ∷
      "20 done:27 done:31 fet:000000c4" ∷
      "21" ∷
      "22" ∷
      "23" ∷
      "24" ∷
      "25" ∷
      "26" ∷
      "27 done:14 ret:14 alu:15 ren:34:000000bc" ∷
      "28 done:15 ret:15 alu:16 alu:34" ∷
      "29 done:16 done:34 ret:16 agu:17" ∷
      "30 done:17 ret:17 st:17:00000fc0:m ld:18:00000fc0:m" ∷
      "31 ld:28:f" ∷
      "32 done:28" ∷
      "33" ∷
      "34 fill:00000fc0 done:18 ret:18 ld:19:00000ff0:m" ∷
      "35" ∷
      "36" ∷
      "37" ∷
      "38 fill:00000ff0 done:19 ret:19 div:20:3 ld:29:00000ff0:h" ∷
      "39" ∷
      "40" ∷
      "41 done:20 done:29 ret:20 ret:21 alu:30" ∷
      "42 done:30 ret:22 st:22:00000fd8:m ret:23 alu:32" ∷
      "43 done:32 ret:24 ret:25 alu:33" ∷
      "44 done:33 res:33:J bt:0:000000dc sq:3 ret:26 ret:27 st:27:00000fd8:m fet:000000dc" ∷
      "45 ret:28 ret:29 ren:35:000000dc" ∷
      "46 ret:30 ret:31" ∷
      "47 ret:32 ret:33" ∷
      "48" ∷
      "end trap 1 000000dc retired 30 cycles 48" ∷
      []);
}
