-- Made by tools/evaluate/write: change what it reads, in tools/evaluate/runs, and run it again.
use Rattle.std.specs.Prelude.{[], ◌∷◌}
use Rattle.generated_runs.specs.Agreement.{Run, lines}

-- the run's code:
-- 00010d2c addi x16,x0,-1691
-- 00010d30 auipc x1,0x0
-- 00010d34 addi x1,x1,56
-- 00010d38 lw x12,4(x2)
-- 00010d3c jalr x0,28(x12)
-- 00010d40 auipc x14,0x0
-- 00010d44 add x12,x12,x14
-- 00010d48 fence
-- 00010d4c lhu x5,-748(x2)
-- 00010d50 bgeu x5,x0,+16
-- 00010d54 sra x6,x0,x16
-- 00010d58 lw x5,8(x2)
-- 00010d5c lw x12,-20(x2)
-- 00010d60 lw x6,-48(x2)
-- 00010d64 sw x10,-56(x2)
-- 00010d68 lw x14,-56(x2)
-- 00010d6c andi x14,x14,60
-- 00010d70 sub x14,x2,x14
-- 00010d74 sw x2,-32(x14)
-- 00010d78 sw x2,-36(x14)
-- 00010d7c sw x2,-40(x14)
-- 00010d80 sw x2,-44(x14)
-- 00010d84 sw x2,-48(x14)
-- 00010d88 lw x5,-36(x2)
-- 00010d8c lw x8,0(x5)
-- 00010d90 beq x2,x8,+12
-- 00010d94 srai x10,x9,16
-- 00010d98 lw x5,-24(x2)
-- 00010d9c addi x17,x0,93
-- 00010da0 ecall
-- 00010da4 addi x15,x2,-588
-- 00010da8 sw x15,-16(x2)
-- 00010dac addi x13,x2,0
-- 00010db0 remu x13,x13,x13
-- 00010db4 or x13,x13,x2
-- 00010db8 andi x13,x13,0
-- 00010dbc add x13,x13,x2
-- 00010dc0 sw x2,-16(x13)
-- 00010dc4 lw x5,-16(x2)
-- 00010dc8 lw x7,0(x5)
-- 00010dcc beq x7,x7,+8
-- 00010dd0 sub x7,x9,x6
-- 00010dd4 lw x8,-200(x2)
-- 00010dd8 lhu x16,-62(x2)
-- 00010ddc addi x12,x2,0
-- 00010de0 or x12,x12,x12
-- 00010de4 div x12,x12,x2
-- 00010de8 bge x12,x12,+72
-- 00010dec lw x5,-648(x2)
-- 00010df0 sw x5,-40(x2)
-- 00010df4 andi x16,x5,12
-- 00010df8 add x16,x2,x16
-- 00010dfc sw x5,-40(x16)
-- 00010e00 lbu x9,-40(x2)
-- 00010e04 sltiu x0,x10,1302
-- 00010e08 andi x5,x5,4
-- 00010e0c auipc x9,0x0
-- 00010e10 add x5,x5,x9
-- 00010e14 jalr x7,12(x5)
-- 00010e18 andi x9,x5,60
-- 00010e1c sub x9,x2,x9
-- 00010e20 sb x9,-8(x9)
-- 00010e24 lw x7,-12(x2)
-- 00010e28 lw x11,-4(x2)
-- 00010e2c lhu x9,-60(x2)
-- 00010e30 addi x15,x2,-808
-- 00010e34 sw x15,-4(x2)
-- 00010e38 lw x12,-64(x2)
-- 00010e3c andi x12,x12,0
-- 00010e40 add x12,x12,x2
-- 00010e44 sw x2,-4(x12)
-- 00010e48 lw x6,-4(x2)
-- 00010e4c lw x7,0(x6)
-- 00010e50 mul x10,x7,x7
-- 00010e54 xor x10,x10,x10
-- 00010e58 andi x16,x10,252
-- 00010e5c sub x16,x2,x16
-- 00010e60 lw x9,0(x16)
-- 00010e64 lw x12,8(x2)
-- 00010e68 remu x12,x12,x2
-- 00010e6c bgeu x12,x0,+64
-- 00010e70 lw x5,-924(x2)
-- 00010e74 andi x6,x5,252
-- 00010e78 sub x6,x2,x6
-- 00010e7c lw x7,0(x6)
-- 00010e80 lb x16,-60(x2)
-- 00010e84 mul x16,x5,x5
-- 00010e88 xor x16,x16,x8
-- 00010e8c andi x16,x16,240
-- 00010e90 sub x16,x2,x16
-- 00010e94 lw x10,0(x16)
-- 00010e98 andi x5,x5,60
-- 00010e9c auipc x9,0x0
-- 00010ea0 add x5,x5,x9
-- 00010ea4 jalr x7,12(x5)
-- 00010ea8 sw x2,12(x2)
-- 00010eac lw x8,-176(x2)
-- 00010eb0 andi x5,x8,252
-- 00010eb4 sub x5,x2,x5
-- 00010eb8 sb x7,-4(x5)
-- 00010ebc lb x5,-47(x2)
-- 00010ec0 lw x11,-32(x2)
-- 00010ec4 andi x5,x11,508
-- 00010ec8 sub x5,x2,x5
-- 00010ecc sw x9,0(x5)
-- 00010ed0 lbu x11,-59(x2)
-- 00010ed4 lh x11,-158(x2)
-- 00010ed8 div x11,x11,x11
-- 00010edc bltu x0,x11,+28
abbrev pub run_21 : Run
run_21 = record {
  description = lines (
      "[core]" ∷
      "fetch_width = 4" ∷
      "retire_width = 4" ∷
      "rob = 18" ∷
      "stations = 32" ∷
      "loads = 7" ∷
      "stores = 4" ∷
      "queue = 7" ∷
      "[units]" ∷
      "alus = 1" ∷
      "mul_latency = 8" ∷
      "[predictor]" ∷
      "counters = 2" ∷
      "btb = 4" ∷
      "[cache]" ∷
      "sets = 2" ∷
      "ways = 1" ∷
      "line = 8" ∷
      "hit_latency = 3" ∷
      "miss_latency = 20" ∷
      "mshrs = 3" ∷
      "[ram]" ∷
      "base = 65536" ∷
      "size = 4096" ∷
      "[stt]" ∷
      "model = \"futuristic\"" ∷
      []);
  image =
      0x464c457f ∷ 0x00010101 ∷ 0x00000000 ∷ 0x00000000 ∷ 0x00f30002 ∷ 0x00000001 ∷ 0x00010d2c ∷ 0x00000034 ∷
      0x00000000 ∷ 0x00000000 ∷ 0x00200034 ∷ 0x00000002 ∷ 0x00000000 ∷ 0x00000001 ∷ 0x00000074 ∷ 0x00010d2c ∷
      0x00010d2c ∷ 0x000001b4 ∷ 0x000001b4 ∷ 0x00000001 ∷ 0x00000004 ∷ 0x00000001 ∷ 0x00000228 ∷ 0x00010fc0 ∷
      0x00010fc0 ∷ 0x00000040 ∷ 0x00000040 ∷ 0x00000006 ∷ 0x00000004 ∷ 0x96500813 ∷ 0x00000097 ∷ 0x03808093 ∷
      0x00412603 ∷ 0x01c60067 ∷ 0x00000717 ∷ 0x00e60633 ∷ 0x0ff0000f ∷ 0xd1415283 ∷ 0x0002f863 ∷ 0x41005333 ∷
      0x00812283 ∷ 0xfec12603 ∷ 0xfd012303 ∷ 0xfca12423 ∷ 0xfc812703 ∷ 0x03c77713 ∷ 0x40e10733 ∷ 0xfe272023 ∷
      0xfc272e23 ∷ 0xfc272c23 ∷ 0xfc272a23 ∷ 0xfc272823 ∷ 0xfdc12283 ∷ 0x0002a403 ∷ 0x00810663 ∷ 0x4104d513 ∷
      0xfe812283 ∷ 0x05d00893 ∷ 0x00000073 ∷ 0xdb410793 ∷ 0xfef12823 ∷ 0x00010693 ∷ 0x02d6f6b3 ∷ 0x0026e6b3 ∷
      0x0006f693 ∷ 0x002686b3 ∷ 0xfe26a823 ∷ 0xff012283 ∷ 0x0002a383 ∷ 0x00738463 ∷ 0x406483b3 ∷ 0xf3812403 ∷
      0xfc215803 ∷ 0x00010613 ∷ 0x00c66633 ∷ 0x02264633 ∷ 0x04c65463 ∷ 0xd7812283 ∷ 0xfc512c23 ∷ 0x00c2f813 ∷
      0x01010833 ∷ 0xfc582c23 ∷ 0xfd814483 ∷ 0x51653013 ∷ 0x0042f293 ∷ 0x00000497 ∷ 0x009282b3 ∷ 0x00c283e7 ∷
      0x03c2f493 ∷ 0x409104b3 ∷ 0xfe948c23 ∷ 0xff412383 ∷ 0xffc12583 ∷ 0xfc415483 ∷ 0xcd810793 ∷ 0xfef12e23 ∷
      0xfc012603 ∷ 0x00067613 ∷ 0x00260633 ∷ 0xfe262e23 ∷ 0xffc12303 ∷ 0x00032383 ∷ 0x02738533 ∷ 0x00a54533 ∷
      0x0fc57813 ∷ 0x41010833 ∷ 0x00082483 ∷ 0x00812603 ∷ 0x02267633 ∷ 0x04067063 ∷ 0xc6412283 ∷ 0x0fc2f313 ∷
      0x40610333 ∷ 0x00032383 ∷ 0xfc410803 ∷ 0x02528833 ∷ 0x00884833 ∷ 0x0f087813 ∷ 0x41010833 ∷ 0x00082503 ∷
      0x03c2f293 ∷ 0x00000497 ∷ 0x009282b3 ∷ 0x00c283e7 ∷ 0x00212623 ∷ 0xf5012403 ∷ 0x0fc47293 ∷ 0x405102b3 ∷
      0xfe728e23 ∷ 0xfd110283 ∷ 0xfe012583 ∷ 0x1fc5f293 ∷ 0x405102b3 ∷ 0x0092a023 ∷ 0xfc514583 ∷ 0xf6211583 ∷
      0x02b5c5b3 ∷ 0x00b06e63 ∷ 0x00000000 ∷ 0x000000eb ∷ 0x0000008e ∷ 0x00010d64 ∷ 0x00000000 ∷ 0xa1d85606 ∷
      0x00010d2c ∷ 0x78d750cf ∷ 0x000000c7 ∷ 0x00000000 ∷ 0x00000000 ∷ 0x00000000 ∷ 0x0000008f ∷ 0x000000e3 ∷
      0x00000000 ∷ 0x00000000 ∷
      [];
  cycles = 400;
  trace = lines (
      "1 fet:00010d2c fet:00010d30 fet:00010d34 fet:00010d38" ∷
      "2 ren:0:00010d2c ren:1:00010d30 ren:2:00010d34 ren:3:00010d38 fet:00010d3c fet:00010d40 fet:00010d44 fet:00010d48" ∷
      "3 alu:0 ld:3:00010ff0:m ren:4:00010d3c ren:5:00010d40 ren:6:00010d44 ren:7:00010d48 fet:00010d4c fet:00010d50 fet:00010d54 fet:00010d58" ∷
      "4 done:0 ret:0 alu:1 ren:8:00010d4c ren:9:00010d50 ren:10:00010d54 ren:11:00010d58 fet:00010d5c fet:00010d60 fet:00010d64 fet:00010d68" ∷
      "5 done:1 ret:1 alu:2 ld:8:00010d00:m ren:12:00010d5c ren:13:00010d60 ren:14:00010d64 ren:15:00010d68 fet:00010d6c fet:00010d70 fet:00010d74 fet:00010d78" ∷
      "6 done:2 ret:2 alu:5 ld:11:00010ff8:m agu:14 ren:16:00010d6c ren:17:00010d70 ren:18:00010d74 ren:19:00010d78 fet:00010d7c fet:00010d80 fet:00010d84 fet:00010d88" ∷
      "7 done:5 done:14 alu:7 ren:20:00010d7c fet:00010d8c fet:00010d90 fet:00010d94 fet:00010d98" ∷
      "8 done:7 alu:10" ∷
      "9 done:10" ∷
      "10" ∷
      "11" ∷
      "12" ∷
      "13" ∷
      "14" ∷
      "15" ∷
      "16" ∷
      "17" ∷
      "18" ∷
      "19" ∷
      "20" ∷
      "21" ∷
      "22" ∷
      "23 fill:00010ff0 done:3 ret:3 alu:4 ld:12:00010fd8:m" ∷
      "24 done:4 res:4:J sq:23" ∷
      "end trap 0 00010d3c retired 4 cycles 24" ∷
      []);
}
