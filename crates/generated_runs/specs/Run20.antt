-- Made by tools/evaluate/write: change what it reads, in tools/evaluate/runs, and run it again.
use Rattle.std.specs.Prelude.{[], ◌∷◌}
use Rattle.generated_runs.specs.Agreement.{Run, lines}

-- the run's code:
-- 00010e8c addi x5,x0,769
-- 00010e90 addi x6,x0,-1886
-- 00010e94 addi x7,x2,-855
-- 00010e98 addi x8,x2,956
-- 00010e9c addi x10,x0,1507
-- 00010ea0 auipc x1,0x0
-- 00010ea4 addi x1,x1,56
-- 00010ea8 lw x13,-2008(x2)
-- 00010eac mulhu x13,x13,x2
-- 00010eb0 mulhu x13,x13,x13
-- 00010eb4 jalr x0,20(x13)
-- 00010eb8 auipc x14,0x0
-- 00010ebc add x13,x13,x14
-- 00010ec0 fence
-- 00010ec4 lw x5,-524(x2)
-- 00010ec8 divu x10,x2,x5
-- 00010ecc xori x9,x7,-1167
-- 00010ed0 or x9,x7,x0
-- 00010ed4 addi x13,x2,0
-- 00010ed8 mulhu x13,x13,x2
-- 00010edc lw x11,0(x2)
-- 00010ee0 sw x0,-20(x2)
-- 00010ee4 lw x14,-20(x2)
-- 00010ee8 andi x14,x14,4
-- 00010eec sub x14,x2,x14
-- 00010ef0 sw x2,-40(x14)
-- 00010ef4 sw x2,-44(x14)
-- 00010ef8 sw x2,-48(x14)
-- 00010efc sw x2,-52(x14)
-- 00010f00 sw x2,-56(x14)
-- 00010f04 mul x15,x0,x2
-- 00010f08 mul x15,x15,x15
-- 00010f0c add x15,x15,x2
-- 00010f10 lw x6,-48(x15)
-- 00010f14 lw x7,0(x6)
-- 00010f18 bne x0,x7,+8
-- 00010f1c slli x7,x5,21
-- 00010f20 lbu x9,10(x2)
-- 00010f24 addi x15,x2,-1004
-- 00010f28 sw x15,-16(x2)
-- 00010f2c lw x12,-40(x2)
-- 00010f30 remu x12,x12,x2
-- 00010f34 andi x12,x12,0
-- 00010f38 add x12,x12,x2
-- 00010f3c sw x2,-16(x12)
-- 00010f40 lw x6,-16(x2)
-- 00010f44 lw x8,0(x6)
-- 00010f48 lw x6,0(x8)
-- 00010f4c andi x10,x6,60
-- 00010f50 sub x10,x2,x10
-- 00010f54 lw x9,0(x10)
-- 00010f58 addi x17,x0,94
-- 00010f5c ecall
abbrev pub run_20 : Run
run_20 = record {
  description = lines (
      "[core]" ∷
      "fetch_width = 3" ∷
      "retire_width = 2" ∷
      "rob = 12" ∷
      "stations = 32" ∷
      "loads = 2" ∷
      "stores = 13" ∷
      "queue = 6" ∷
      "[units]" ∷
      "alus = 1" ∷
      "mul_latency = 3" ∷
      "[predictor]" ∷
      "counters = 4" ∷
      "btb = 2" ∷
      "[cache]" ∷
      "sets = 1" ∷
      "ways = 8" ∷
      "line = 16" ∷
      "hit_latency = 2" ∷
      "miss_latency = 23" ∷
      "mshrs = 8" ∷
      "[ram]" ∷
      "base = 65536" ∷
      "size = 4096" ∷
      "[stt]" ∷
      "model = \"spectre\"" ∷
      []);
  image =
      0x464c457f ∷ 0x00010101 ∷ 0x00000000 ∷ 0x00000000 ∷ 0x00f30002 ∷ 0x00000001 ∷ 0x00010e8c ∷ 0x00000034 ∷
      0x00000000 ∷ 0x00000000 ∷ 0x00200034 ∷ 0x00000002 ∷ 0x00000000 ∷ 0x00000001 ∷ 0x00000074 ∷ 0x00010e8c ∷
      0x00010e8c ∷ 0x000000d4 ∷ 0x000000d4 ∷ 0x00000005 ∷ 0x00000004 ∷ 0x00000001 ∷ 0x00000148 ∷ 0x00010d8c ∷
      0x00010d8c ∷ 0x00000100 ∷ 0x00000100 ∷ 0x00000006 ∷ 0x00000004 ∷ 0x30100293 ∷ 0x8a200313 ∷ 0xca910393 ∷
      0x3bc10413 ∷ 0x5e300513 ∷ 0x00000097 ∷ 0x03808093 ∷ 0x82812683 ∷ 0x0226b6b3 ∷ 0x02d6b6b3 ∷ 0x01468067 ∷
      0x00000717 ∷ 0x00e686b3 ∷ 0x0ff0000f ∷ 0xdf412283 ∷ 0x02515533 ∷ 0xb713c493 ∷ 0x0003e4b3 ∷ 0x00010693 ∷
      0x0226b6b3 ∷ 0x00012583 ∷ 0xfe012623 ∷ 0xfec12703 ∷ 0x00477713 ∷ 0x40e10733 ∷ 0xfc272c23 ∷ 0xfc272a23 ∷
      0xfc272823 ∷ 0xfc272623 ∷ 0xfc272423 ∷ 0x022007b3 ∷ 0x02f787b3 ∷ 0x002787b3 ∷ 0xfd07a303 ∷ 0x00032383 ∷
      0x00701463 ∷ 0x01529393 ∷ 0x00a14483 ∷ 0xc1410793 ∷ 0xfef12823 ∷ 0xfd812603 ∷ 0x02267633 ∷ 0x00067613 ∷
      0x00260633 ∷ 0xfe262823 ∷ 0xff012303 ∷ 0x00032403 ∷ 0x00042303 ∷ 0x03c37513 ∷ 0x40a10533 ∷ 0x00052483 ∷
      0x05e00893 ∷ 0x00000073 ∷ 0x6bbda75e ∷ 0x00010ea8 ∷ 0x00000000 ∷ 0x00000034 ∷ 0x0001011c ∷ 0x2fe9d12a ∷
      0x667808f3 ∷ 0x00000083 ∷ 0x00000000 ∷ 0x00000000 ∷ 0x00010ec4 ∷ 0x00000000 ∷ 0x39ad699e ∷ 0x00010ec8 ∷
      0x00000091 ∷ 0x12ce20ec ∷ 0x00000000 ∷ 0x00000000 ∷ 0x00010ea4 ∷ 0x00000000 ∷ 0x4fada79c ∷ 0x00010af8 ∷
      0x00010ec8 ∷ 0x00000000 ∷ 0x00010e90 ∷ 0x000000eb ∷ 0x00000000 ∷ 0x00010294 ∷ 0x00000000 ∷ 0x00000000 ∷
      0x00010ec4 ∷ 0x00010ec8 ∷ 0x00000000 ∷ 0x0000000f ∷ 0x00010eb0 ∷ 0x458342cb ∷ 0x0001016c ∷ 0x000103fc ∷
      0x00000000 ∷ 0x00010ec8 ∷ 0x00000011 ∷ 0x000105a8 ∷ 0xc48ec764 ∷ 0x00010e8c ∷ 0xd5e5e307 ∷ 0x000000c0 ∷
      0xffbe78bf ∷ 0x00010ec0 ∷ 0x00000000 ∷ 0x0444fb80 ∷ 0x83d3b33c ∷ 0x00000000 ∷ 0x000000bb ∷ 0x00000023 ∷
      0x0da73288 ∷ 0x00010ec0 ∷ 0x00000000 ∷ 0xb93b1322 ∷ 0x00000013 ∷ 0x0000001c ∷ 0x60f53209 ∷ 0x00010e94 ∷
      0x0001028c ∷ 0x0001037c ∷
      [];
  cycles = 400;
  trace = lines (
      "1 fet:00010e8c fet:00010e90 fet:00010e94" ∷
      "2 ren:0:00010e8c ren:1:00010e90 ren:2:00010e94 fet:00010e98 fet:00010e9c fet:00010ea0" ∷
      "3 alu:0 ren:3:00010e98 ren:4:00010e9c ren:5:00010ea0 fet:00010ea4 fet:00010ea8 fet:00010eac" ∷
      "4 done:0 ret:0 alu:1 ren:6:00010ea4 ren:7:00010ea8 ren:8:00010eac fet:00010eb0 fet:00010eb4 fet:00010eb8" ∷
      "5 done:1 ret:1 alu:2 ld:7:00010810:m ren:9:00010eb0 ren:10:00010eb4 ren:11:00010eb8 fet:00010ebc fet:00010ec0 fet:00010ec4" ∷
      "6 done:2 ret:2 alu:3 ren:12:00010ebc ren:13:00010ec0 ren:14:00010ec4 fet:00010ec8 fet:00010ecc fet:00010ed0" ∷
      "7 done:3 ret:3 alu:4 ld:14:00010de0:m ren:15:00010ec8 fet:00010ed4 fet:00010ed8 fet:00010edc" ∷
      "8 done:4 ret:4 alu:5 ren:16:00010ecc fet:00010ee0 fet:00010ee4" ∷
      "9 done:5 ret:5 alu:6 ren:17:00010ed0 fet:00010ee8" ∷
      "10 done:6 ret:6 alu:11 ren:18:00010ed4 fet:00010eec" ∷
      "11 done:11 alu:13" ∷
      "12 done:13 alu:16" ∷
      "13 done:16 alu:17" ∷
      "14 done:17 alu:18" ∷
      "15 done:18" ∷
      "16" ∷
      "17" ∷
      "18" ∷
      "19" ∷
      "20" ∷
      "21" ∷
      "22" ∷
      "23" ∷
      "24" ∷
      "25" ∷
      "26" ∷
      "27" ∷
      "28 fill:00010810 done:7 ret:7 mul:8 ren:19:00010ed8 fet:00010ef0" ∷
      "29 mul:19" ∷
      "30 fill:00010de0 done:14" ∷
      "31 done:8 ret:8 mul:9 ren:20:00010edc fet:00010ef4" ∷
      "32 done:19 ld:20:00010ff0:m" ∷
      "33" ∷
      "34 done:9 ret:9 alu:10 ren:21:00010ee0 fet:00010ef8" ∷
      "35 done:10 res:10:J bt:1:00000014 sq:17 ret:10 fet:00000014" ∷
      "36 ren:22:00000014" ∷
      "37" ∷
      "end trap 1 00000014 retired 11 cycles 37" ∷
      []);
}
