-- Made by tools/evaluate/write: change what it reads, in tools/evaluate/runs, and run it again.
use Rattle.std.specs.Prelude.{[], ◌∷◌}
use Rattle.generated_runs.specs.Agreement.{Run, lines}

-- the run's code:
-- 00005f08 addi x6,x0,-8
-- 00005f0c addi x7,x0,380
-- 00005f10 addi x8,x0,1090
-- 00005f14 addi x16,x2,1381
-- 00005f18 addi x10,x0,1869
-- 00005f1c auipc x1,0x0
-- 00005f20 addi x1,x1,64
-- 00005f24 addi x18,x0,2
-- 00005f28 addi x15,x2,-620
-- 00005f2c sw x15,-56(x2)
-- 00005f30 addi x12,x2,0
-- 00005f34 andi x12,x12,0
-- 00005f38 add x12,x12,x2
-- 00005f3c sw x2,-56(x12)
-- 00005f40 lw x5,-56(x2)
-- 00005f44 lw x7,0(x5)
-- 00005f48 lw x5,0(x7)
-- 00005f4c andi x7,x5,508
-- 00005f50 sub x7,x2,x7
-- 00005f54 lw x10,0(x7)
-- 00005f58 lw x13,-48(x2)
-- 00005f5c or x13,x13,x2
-- 00005f60 remu x13,x13,x13
-- 00005f64 jalr x1,36(x13)
-- 00005f68 auipc x14,0x0
-- 00005f6c add x13,x13,x14
-- 00005f70 fence
-- 00005f74 lw x5,-692(x2)
-- 00005f78 bne x5,x5,+8
-- 00005f7c srai x11,x5,26
-- 00005f80 lb x11,-10(x2)
-- 00005f84 lhu x10,-6(x2)
-- 00005f88 remu x5,x5,x2
-- 00005f8c addi x15,x2,-996
-- 00005f90 sw x15,-8(x2)
-- 00005f94 lw x13,-4(x2)
-- 00005f98 andi x13,x13,0
-- 00005f9c add x13,x13,x2
-- 00005fa0 sw x2,-8(x13)
-- 00005fa4 lw x6,-8(x2)
-- 00005fa8 lw x7,0(x6)
-- 00005fac remu x10,x7,x10
-- 00005fb0 addi x18,x18,-1
-- 00005fb4 bne x18,x0,-140
-- 00005fb8 addi x17,x0,93
-- 00005fbc ecall
abbrev pub run_06 : Run
run_06 = record {
  description = lines (
      "[core]" ∷
      "fetch_width = 4" ∷
      "retire_width = 1" ∷
      "rob = 17" ∷
      "stations = 14" ∷
      "loads = 6" ∷
      "stores = 4" ∷
      "queue = 7" ∷
      "[units]" ∷
      "alus = 3" ∷
      "mul_latency = 3" ∷
      "[predictor]" ∷
      "counters = 4" ∷
      "btb = 64" ∷
      "[cache]" ∷
      "sets = 2" ∷
      "ways = 1" ∷
      "line = 16" ∷
      "hit_latency = 8" ∷
      "miss_latency = 9" ∷
      "mshrs = 1" ∷
      "[ram]" ∷
      "base = 24304" ∷
      "size = 5888" ∷
      "[stt]" ∷
      "model = \"spectre\"" ∷
      []);
  image =
      0x464c457f ∷ 0x00010101 ∷ 0x00000000 ∷ 0x00000000 ∷ 0x00f30002 ∷ 0x00000001 ∷ 0x00005f08 ∷ 0x00000034 ∷
      0x00000000 ∷ 0x00000000 ∷ 0x00200034 ∷ 0x00000002 ∷ 0x00000000 ∷ 0x00000001 ∷ 0x00000074 ∷ 0x00005f08 ∷
      0x00005f08 ∷ 0x000000b8 ∷ 0x000000b8 ∷ 0x00000001 ∷ 0x00000004 ∷ 0x00000001 ∷ 0x0000012c ∷ 0x000074c4 ∷
      0x000074c4 ∷ 0x0000012c ∷ 0x0000012c ∷ 0x00000006 ∷ 0x00000004 ∷ 0xff800313 ∷ 0x17c00393 ∷ 0x44200413 ∷
      0x56510813 ∷ 0x74d00513 ∷ 0x00000097 ∷ 0x04008093 ∷ 0x00200913 ∷ 0xd9410793 ∷ 0xfcf12423 ∷ 0x00010613 ∷
      0x00067613 ∷ 0x00260633 ∷ 0xfc262423 ∷ 0xfc812283 ∷ 0x0002a383 ∷ 0x0003a283 ∷ 0x1fc2f393 ∷ 0x407103b3 ∷
      0x0003a503 ∷ 0xfd012683 ∷ 0x0026e6b3 ∷ 0x02d6f6b3 ∷ 0x024680e7 ∷ 0x00000717 ∷ 0x00e686b3 ∷ 0x0ff0000f ∷
      0xd4c12283 ∷ 0x00529463 ∷ 0x41a2d593 ∷ 0xff610583 ∷ 0xffa15503 ∷ 0x0222f2b3 ∷ 0xc1c10793 ∷ 0xfef12c23 ∷
      0xffc12683 ∷ 0x0006f693 ∷ 0x002686b3 ∷ 0xfe26ac23 ∷ 0xff812303 ∷ 0x00032383 ∷ 0x02a3f533 ∷ 0xfff90913 ∷
      0xf6091ae3 ∷ 0x05d00893 ∷ 0x00000073 ∷ 0x000000d5 ∷ 0x00006a48 ∷ 0x00000049 ∷ 0x00005f1c ∷ 0x00005f00 ∷
      0x00000000 ∷ 0xb5d002a8 ∷ 0x00005f20 ∷ 0x00005f10 ∷ 0x0000612c ∷ 0x00005f08 ∷ 0xc00898e0 ∷ 0x00000000 ∷
      0x00000000 ∷ 0x00000000 ∷ 0xebcf07d8 ∷ 0x00005f3c ∷ 0x00000000 ∷ 0x0000008d ∷ 0x00005f14 ∷ 0x00006088 ∷
      0x00000000 ∷ 0x000000b2 ∷ 0x00000000 ∷ 0x00000000 ∷ 0x00000011 ∷ 0x000000a1 ∷ 0x000061cc ∷ 0x00000000 ∷
      0x00006fb8 ∷ 0x00000000 ∷ 0x00000000 ∷ 0x00000000 ∷ 0x00000000 ∷ 0xbf364fd5 ∷ 0x00000021 ∷ 0x77deb0dd ∷
      0x0000002a ∷ 0x00005f34 ∷ 0x3ac25f89 ∷ 0x000061e4 ∷ 0x0000655c ∷ 0x000000c1 ∷ 0x000000ea ∷ 0x000067d8 ∷
      0x000000fe ∷ 0x89c19814 ∷ 0x00000089 ∷ 0x00000000 ∷ 0x00000000 ∷ 0x00000000 ∷ 0x00000000 ∷ 0x00000000 ∷
      0x00000000 ∷ 0x0000001b ∷ 0x000073c8 ∷ 0x00000000 ∷ 0x00005f14 ∷ 0x92641ad4 ∷ 0x00006fec ∷ 0xbfecec16 ∷
      0x000000dc ∷ 0x00000000 ∷ 0x00005f14 ∷ 0x00000000 ∷ 0x00006420 ∷ 0x00005f0c ∷ 0x00000000 ∷ 0x00006158 ∷
      0x00000000 ∷ 0x00000035 ∷ 0x00005f1c ∷ 0x6b8519af ∷ 0x000000a9 ∷ 0x00006f80 ∷
      [];
  cycles = 400;
  trace = lines (
      "1 fet:00005f08 fet:00005f0c fet:00005f10 fet:00005f14" ∷
      "2 ren:0:00005f08 ren:1:00005f0c ren:2:00005f10 ren:3:00005f14 fet:00005f18 fet:00005f1c fet:00005f20 fet:00005f24" ∷
      "3 alu:0 alu:1 alu:2 ren:4:00005f18 ren:5:00005f1c ren:6:00005f20 ren:7:00005f24 fet:00005f28 fet:00005f2c fet:00005f30 fet:00005f34" ∷
      "4 done:0 done:1 done:2 ret:0 alu:3 alu:4 alu:5 ren:8:00005f28 ren:9:00005f2c ren:10:00005f30 ren:11:00005f34 fet:00005f38 fet:00005f3c fet:00005f40 fet:00005f44" ∷
      "5 done:3 done:4 done:5 ret:1 alu:6 alu:7 alu:8 ren:12:00005f38 ren:13:00005f3c ren:14:00005f40 ren:15:00005f44 fet:00005f48 fet:00005f4c fet:00005f50 fet:00005f54" ∷
      "6 done:6 done:7 done:8 ret:2 agu:9 alu:10 ren:16:00005f48 ren:17:00005f4c ren:18:00005f50 ren:19:00005f54 fet:00005f58 fet:00005f5c fet:00005f60 fet:00005f64" ∷
      "7 done:9 done:10 ret:3 alu:11 ren:20:00005f58 fet:00005f68 fet:00005f6c fet:00005f70 fet:00005f74" ∷
      "8 done:11 ret:4 alu:12 ren:21:00005f5c fet:00005f78" ∷
      "9 done:12 ret:5 agu:13 ren:22:00005f60 fet:00005f7c" ∷
      "10 done:13 ret:6 ld:14:f ren:23:00005f64 fet:00005f80" ∷
      "11 done:14 ret:7 ld:15:000075e0:m ren:24:00005f68 fet:00005f84" ∷
      "12 ret:8 alu:24 ren:25:00005f6c fet:00005f88" ∷
      "13 done:24 ret:9 st:9:000075a0:m ren:26:00005f70 fet:00005f8c" ∷
      "14 ret:10 alu:26 ren:27:00005f74 fet:00005f90" ∷
      "15 done:26 ret:11 ren:28:00005f78 fet:00005f94" ∷
      "16 ret:12 ren:29:00005f7c fet:00005f98" ∷
      "17 ret:13 st:13:000075a0:m" ∷
      "18 ret:14 ren:30:00005f80 fet:00005f9c" ∷
      "19" ∷
      "20 fill:000075e0 done:15 ret:15 ld:16:00005f10:m ren:31:00005f84 ren:32:00005f88 fet:00005fa0 fet:00005fa4" ∷
      "21" ∷
      "22" ∷
      "23" ∷
      "24" ∷
      "25" ∷
      "26" ∷
      "27" ∷
      "28" ∷
      "29 fill:00005f10 done:16 ret:16 alu:17 ld:20:000075b0:m ren:33:00005f8c fet:00005fa8" ∷
      "30 done:17 ret:17 alu:18 alu:33 ren:34:00005f90 fet:00005fac" ∷
      "31 done:18 done:33 ret:18 agu:34 ren:35:00005f94 fet:00005fb0" ∷
      "32 done:34" ∷
      "33" ∷
      "34" ∷
      "35" ∷
      "36" ∷
      "37" ∷
      "38 fill:000075b0 done:20 ld:19:00007540:m alu:21" ∷
      "39 done:21 div:22:18" ∷
      "40" ∷
      "41" ∷
      "42" ∷
      "43" ∷
      "44" ∷
      "45" ∷
      "46" ∷
      "47 fill:00007540 done:19 ret:19 ld:27:00007320:m ren:36:00005f98 fet:00005fb4" ∷
      "48 ret:20 ren:37:00005f9c fet:00005fb8" ∷
      "49 ret:21 ren:38:00005fa0 fet:00005fbc" ∷
      "50" ∷
      "51" ∷
      "52" ∷
      "53" ∷
      "54" ∷
      "55" ∷
      "56 fill:00007320 done:27 alu:28 alu:29 ld:30:000075d0:m" ∷
      "57 done:22 done:28 done:29 ret:22 alu:23 alu:25 ld:31:000075d0:j ren:39:00005fa4 fet:00005fc0" ∷
      "58 done:23 done:25 res:23:J bt:25:00000024 sq:23 ret:23 fet:00000024" ∷
      "59 ren:40:00000024" ∷
      "60" ∷
      "end trap 1 00000024 retired 24 cycles 60" ∷
      []);
}
