-- Made by tools/evaluate/write: change what it reads, in tools/evaluate/runs, and run it again.
use Rattle.std.specs.Prelude.{[], ◌∷◌}
use Rattle.generated_runs.specs.Agreement.{Run, lines}

-- the run's code:
-- 00010e5c addi x5,x0,1275
-- 00010e60 addi x16,x2,-265
-- 00010e64 addi x10,x0,915
-- 00010e68 addi x11,x2,-1114
-- 00010e6c auipc x1,0x0
-- 00010e70 addi x1,x1,28
-- 00010e74 addi x18,x0,3
-- 00010e78 bne x9,x2,+10
-- 00010e7c lbu x16,13(x2)
-- 00010e80 andi x16,x16,0
-- 00010e84 auipc x9,0x0
-- 00010e88 add x16,x16,x9
-- 00010e8c jalr x1,12(x16)
-- 00010e90 addi x12,x2,0
-- 00010e94 div x12,x12,x2
-- 00010e98 div x12,x12,x2
-- 00010e9c lb x7,-51(x2)
-- 00010ea0 sw x0,-56(x2)
-- 00010ea4 lw x14,-56(x2)
-- 00010ea8 andi x14,x14,4
-- 00010eac sub x14,x2,x14
-- 00010eb0 sw x2,-44(x14)
-- 00010eb4 sw x2,-48(x14)
-- 00010eb8 sw x2,-52(x14)
-- 00010ebc sw x2,-56(x14)
-- 00010ec0 lw x5,-56(x2)
-- 00010ec4 lw x7,0(x5)
-- 00010ec8 andi x6,x7,252
-- 00010ecc sub x6,x2,x6
-- 00010ed0 lw x6,0(x6)
-- 00010ed4 addi x12,x2,0
-- 00010ed8 lhu x9,12(x2)
-- 00010edc sw x11,-4(x2)
-- 00010ee0 lw x14,-4(x2)
-- 00010ee4 andi x14,x14,60
-- 00010ee8 sub x14,x2,x14
-- 00010eec sw x2,-44(x14)
-- 00010ef0 sw x2,-48(x14)
-- 00010ef4 sw x2,-52(x14)
-- 00010ef8 sw x2,-56(x14)
-- 00010efc mul x15,x0,x2
-- 00010f00 mul x15,x15,x15
-- 00010f04 add x15,x15,x2
-- 00010f08 lw x5,-44(x15)
-- 00010f0c lw x8,0(x5)
-- 00010f10 andi x8,x8,12
-- 00010f14 auipc x9,0x0
-- 00010f18 add x8,x8,x9
-- 00010f1c jalr x0,12(x8)
-- 00010f20 addi x18,x18,-1
-- 00010f24 bne x18,x0,-172
-- 00010f28 addi x17,x0,93
-- 00010f2c ecall
-- 00010f30 addi x15,x2,-868
-- 00010f34 sw x15,-52(x2)
-- 00010f38 addi x12,x2,0
-- 00010f3c andi x12,x12,0
-- 00010f40 add x12,x12,x2
-- 00010f44 sw x2,-52(x12)
-- 00010f48 lw x5,-52(x2)
-- 00010f4c lw x7,0(x5)
-- 00010f50 sw x5,-8(x2)
-- 00010f54 andi x16,x7,12
-- 00010f58 sub x16,x2,x16
-- 00010f5c sh x5,-8(x16)
-- 00010f60 lw x6,-8(x2)
-- 00010f64 addi x13,x2,0
-- 00010f68 beq x13,x13,+28
-- 00010f6c lbu x5,-836(x2)
-- 00010f70 rem x5,x5,x5
-- 00010f74 andi x5,x5,4
-- 00010f78 auipc x9,0x0
-- 00010f7c add x5,x5,x9
-- 00010f80 jalr x1,12(x5)
-- 00010f84 beq x5,x11,+0
-- 00010f88 and x10,x5,x16
-- 00010f8c sub x9,x16,x11
-- 00010f90 div x8,x8,x2
-- 00010f94 addi x15,x2,-844
-- 00010f98 sw x15,-44(x2)
-- 00010f9c addi x13,x2,0
-- 00010fa0 div x13,x13,x2
-- 00010fa4 mulhu x13,x13,x2
-- 00010fa8 andi x13,x13,0
-- 00010fac add x13,x13,x2
-- 00010fb0 sw x2,-44(x13)
-- 00010fb4 lw x5,-44(x2)
-- 00010fb8 lw x8,0(x5)
-- 00010fbc sw x8,-40(x2)
-- 00010fc0 lw x8,-40(x2)
-- 00010fc4 andi x7,x8,508
-- 00010fc8 sub x7,x2,x7
-- 00010fcc lw x11,0(x7)
-- 00010fd0 lw x13,-188(x2)
-- 00010fd4 mul x13,x13,x2
-- 00010fd8 mul x13,x13,x13
-- 00010fdc jalr x0,32(x13)
-- 00010fe0 auipc x14,0x0
-- 00010fe4 add x13,x13,x14
-- 00010fe8 fence
-- 00010fec lw x7,-912(x2)
-- 00010ff0 andi x7,x7,60
-- 00010ff4 auipc x9,0x0
-- 00010ff8 add x7,x7,x9
-- 00010ffc jalr x7,12(x7)
abbrev pub run_36 : Run
run_36 = record {
  description = lines (
      "[core]" ∷
      "fetch_width = 2" ∷
      "retire_width = 2" ∷
      "rob = 7" ∷
      "stations = 14" ∷
      "loads = 4" ∷
      "stores = 16" ∷
      "queue = 10" ∷
      "[units]" ∷
      "alus = 3" ∷
      "mul_latency = 2" ∷
      "[predictor]" ∷
      "counters = 64" ∷
      "btb = 8" ∷
      "[cache]" ∷
      "sets = 1" ∷
      "ways = 2" ∷
      "line = 4" ∷
      "hit_latency = 6" ∷
      "miss_latency = 32" ∷
      "mshrs = 1" ∷
      "[ram]" ∷
      "base = 65536" ∷
      "size = 4096" ∷
      "[stt]" ∷
      "model = \"futuristic\"" ∷
      []);
  image =
      0x464c457f ∷ 0x00010101 ∷ 0x00000000 ∷ 0x00000000 ∷ 0x00f30002 ∷ 0x00000001 ∷ 0x00010e5c ∷ 0x00000034 ∷
      0x00000000 ∷ 0x00000000 ∷ 0x00200034 ∷ 0x00000002 ∷ 0x00000000 ∷ 0x00000001 ∷ 0x00000074 ∷ 0x00010e5c ∷
      0x00010e5c ∷ 0x000001a4 ∷ 0x000001a4 ∷ 0x00000005 ∷ 0x00000004 ∷ 0x00000001 ∷ 0x00000218 ∷ 0x00010e1c ∷
      0x00010e1c ∷ 0x00000040 ∷ 0x00000040 ∷ 0x00000006 ∷ 0x00000004 ∷ 0x4fb00293 ∷ 0xef710813 ∷ 0x39300513 ∷
      0xba610593 ∷ 0x00000097 ∷ 0x01c08093 ∷ 0x00300913 ∷ 0x00249563 ∷ 0x00d14803 ∷ 0x00087813 ∷ 0x00000497 ∷
      0x00980833 ∷ 0x00c800e7 ∷ 0x00010613 ∷ 0x02264633 ∷ 0x02264633 ∷ 0xfcd10383 ∷ 0xfc012423 ∷ 0xfc812703 ∷
      0x00477713 ∷ 0x40e10733 ∷ 0xfc272a23 ∷ 0xfc272823 ∷ 0xfc272623 ∷ 0xfc272423 ∷ 0xfc812283 ∷ 0x0002a383 ∷
      0x0fc3f313 ∷ 0x40610333 ∷ 0x00032303 ∷ 0x00010613 ∷ 0x00c15483 ∷ 0xfeb12e23 ∷ 0xffc12703 ∷ 0x03c77713 ∷
      0x40e10733 ∷ 0xfc272a23 ∷ 0xfc272823 ∷ 0xfc272623 ∷ 0xfc272423 ∷ 0x022007b3 ∷ 0x02f787b3 ∷ 0x002787b3 ∷
      0xfd47a283 ∷ 0x0002a403 ∷ 0x00c47413 ∷ 0x00000497 ∷ 0x00940433 ∷ 0x00c40067 ∷ 0xfff90913 ∷ 0xf4091ae3 ∷
      0x05d00893 ∷ 0x00000073 ∷ 0xc9c10793 ∷ 0xfcf12623 ∷ 0x00010613 ∷ 0x00067613 ∷ 0x00260633 ∷ 0xfc262623 ∷
      0xfcc12283 ∷ 0x0002a383 ∷ 0xfe512c23 ∷ 0x00c3f813 ∷ 0x41010833 ∷ 0xfe581c23 ∷ 0xff812303 ∷ 0x00010693 ∷
      0x00d68e63 ∷ 0xcbc14283 ∷ 0x0252e2b3 ∷ 0x0042f293 ∷ 0x00000497 ∷ 0x009282b3 ∷ 0x00c280e7 ∷ 0x00b28063 ∷
      0x0102f533 ∷ 0x40b804b3 ∷ 0x02244433 ∷ 0xcb410793 ∷ 0xfcf12a23 ∷ 0x00010693 ∷ 0x0226c6b3 ∷ 0x0226b6b3 ∷
      0x0006f693 ∷ 0x002686b3 ∷ 0xfc26aa23 ∷ 0xfd412283 ∷ 0x0002a403 ∷ 0xfc812c23 ∷ 0xfd812403 ∷ 0x1fc47393 ∷
      0x407103b3 ∷ 0x0003a583 ∷ 0xf4412683 ∷ 0x022686b3 ∷ 0x02d686b3 ∷ 0x02068067 ∷ 0x00000717 ∷ 0x00e686b3 ∷
      0x0ff0000f ∷ 0xc7012383 ∷ 0x03c3f393 ∷ 0x00000497 ∷ 0x009383b3 ∷ 0x00c383e7 ∷ 0xfbdc5bee ∷ 0xce02edd9 ∷
      0x00000000 ∷ 0x00010758 ∷ 0x00000008 ∷ 0x00010280 ∷ 0x00000000 ∷ 0x00000000 ∷ 0x00000000 ∷ 0x4ce640a0 ∷
      0xd5bfb15b ∷ 0x4df5922c ∷ 0x000000f6 ∷ 0x3ba27057 ∷ 0x00010e6c ∷ 0x00000000 ∷
      [];
  cycles = 400;
  trace = lines (
      "1 fet:00010e5c fet:00010e60" ∷
      "2 ren:0:00010e5c ren:1:00010e60 fet:00010e64 fet:00010e68" ∷
      "3 alu:0 alu:1 ren:2:00010e64 ren:3:00010e68 fet:00010e6c fet:00010e70" ∷
      "4 done:0 done:1 ret:0 ret:1 alu:2 alu:3 ren:4:00010e6c ren:5:00010e70 fet:00010e74 fet:00010e78" ∷
      "5 done:2 done:3 ret:2 ret:3 alu:4 ren:6:00010e74 ren:7:00010e78 fet:00010e7c fet:00010e80" ∷
      "6 done:4 ret:4 alu:5 alu:6 alu:7 ren:8:00010e7c ren:9:00010e80 fet:00010e84 fet:00010e88" ∷
      "7 done:5 done:6 done:7 res:7:T bp:30:2 sq:4 ret:5 ret:6" ∷
      "8" ∷
      "end trap 0 00010e78 retired 7 cycles 8" ∷
      []);
}
