-- Made by tools/evaluate/write: change what it reads, in tools/evaluate/runs, and run it again.
use Rattle.std.specs.Prelude.{[], ◌∷◌}
use Rattle.generated_runs.specs.Agreement.{Run, lines}

-- the run's code:
-- 00010e10 addi x6,x0,1691
-- 00010e14 addi x11,x0,1219
-- 00010e18 auipc x1,0x0
-- 00010e1c addi x1,x1,44
-- 00010e20 addi x18,x0,5
-- 00010e24 lw x9,-1476(x2)
-- 00010e28 lw x11,-8(x2)
-- 00010e2c andi x16,x11,12
-- 00010e30 sub x16,x2,x16
-- 00010e34 lw x5,0(x16)
-- 00010e38 auipc x7,0x0
-- 00010e3c jalr x1,4(x7)
-- 00010e40 lw x13,-48(x2)
-- 00010e44 lw x8,-628(x2)
-- 00010e48 sw x0,0(x2)
-- 00010e4c lw x14,0(x2)
-- 00010e50 andi x14,x14,12
-- 00010e54 sub x14,x2,x14
-- 00010e58 sw x2,-56(x14)
-- 00010e5c lw x5,-60(x2)
-- 00010e60 lw x7,0(x5)
-- 00010e64 sw x2,-28(x2)
-- 00010e68 andi x9,x7,12
-- 00010e6c add x9,x2,x9
-- 00010e70 sh x2,-28(x9)
-- 00010e74 lw x5,-28(x2)
-- 00010e78 lw x8,-20(x2)
-- 00010e7c addi x15,x2,-636
-- 00010e80 sw x15,-64(x2)
-- 00010e84 lw x12,-20(x2)
-- 00010e88 mul x12,x12,x2
-- 00010e8c andi x12,x12,0
-- 00010e90 add x12,x12,x2
-- 00010e94 sw x2,-64(x12)
-- 00010e98 lw x5,-64(x2)
-- 00010e9c lw x8,0(x5)
-- 00010ea0 andi x8,x8,12
-- 00010ea4 auipc x9,0x0
-- 00010ea8 add x8,x8,x9
-- 00010eac jalr x1,12(x8)
-- 00010eb0 addi x18,x18,-1
-- 00010eb4 bne x18,x0,-144
-- 00010eb8 addi x17,x0,94
-- 00010ebc ecall
abbrev pub run_27 : Run
run_27 = record {
  description = lines (
      "[core]" ∷
      "fetch_width = 2" ∷
      "retire_width = 3" ∷
      "rob = 21" ∷
      "stations = 32" ∷
      "loads = 4" ∷
      "stores = 5" ∷
      "queue = 3" ∷
      "[units]" ∷
      "alus = 2" ∷
      "mul_latency = 5" ∷
      "[predictor]" ∷
      "counters = 2" ∷
      "btb = 16" ∷
      "[cache]" ∷
      "sets = 4" ∷
      "ways = 1" ∷
      "line = 4" ∷
      "hit_latency = 1" ∷
      "miss_latency = 110" ∷
      "mshrs = 5" ∷
      "[ram]" ∷
      "base = 65536" ∷
      "size = 4096" ∷
      "[stt]" ∷
      "model = \"spectre\"" ∷
      []);
  image =
      0x464c457f ∷ 0x00010101 ∷ 0x00000000 ∷ 0x00000000 ∷ 0x00f30002 ∷ 0x00000001 ∷ 0x00010e10 ∷ 0x00000034 ∷
      0x00000000 ∷ 0x00000000 ∷ 0x00200034 ∷ 0x00000002 ∷ 0x00000000 ∷ 0x00000001 ∷ 0x00000074 ∷ 0x00010e10 ∷
      0x00010e10 ∷ 0x000000b0 ∷ 0x000000b0 ∷ 0x00000005 ∷ 0x00000004 ∷ 0x00000001 ∷ 0x00000124 ∷ 0x00010fc0 ∷
      0x00010fc0 ∷ 0x00000040 ∷ 0x00000040 ∷ 0x00000006 ∷ 0x00000004 ∷ 0x69b00313 ∷ 0x4c300593 ∷ 0x00000097 ∷
      0x02c08093 ∷ 0x00500913 ∷ 0xa3c12483 ∷ 0xff812583 ∷ 0x00c5f813 ∷ 0x41010833 ∷ 0x00082283 ∷ 0x00000397 ∷
      0x004380e7 ∷ 0xfd012683 ∷ 0xd8c12403 ∷ 0x00012023 ∷ 0x00012703 ∷ 0x00c77713 ∷ 0x40e10733 ∷ 0xfc272423 ∷
      0xfc412283 ∷ 0x0002a383 ∷ 0xfe212223 ∷ 0x00c3f493 ∷ 0x009104b3 ∷ 0xfe249223 ∷ 0xfe412283 ∷ 0xfec12403 ∷
      0xd8410793 ∷ 0xfcf12023 ∷ 0xfec12603 ∷ 0x02260633 ∷ 0x00067613 ∷ 0x00260633 ∷ 0xfc262023 ∷ 0xfc012283 ∷
      0x0002a403 ∷ 0x00c47413 ∷ 0x00000497 ∷ 0x00940433 ∷ 0x00c400e7 ∷ 0xfff90913 ∷ 0xf60918e3 ∷ 0x05e00893 ∷
      0x00000073 ∷ 0x00000000 ∷ 0x00000000 ∷ 0x00000049 ∷ 0x00000000 ∷ 0x00000000 ∷ 0x00010c6c ∷ 0x00010e44 ∷
      0x00000000 ∷ 0x00000000 ∷ 0xac2adfc5 ∷ 0x36ca3669 ∷ 0x00010e34 ∷ 0x00000000 ∷ 0x00010994 ∷ 0x00010714 ∷
      0x00000068 ∷
      [];
  cycles = 13;
  trace = lines (
      "1 fet:00010e10 fet:00010e14" ∷
      "2 ren:0:00010e10 ren:1:00010e14 fet:00010e18 fet:00010e1c" ∷
      "3 alu:0 alu:1 ren:2:00010e18 ren:3:00010e1c fet:00010e20 fet:00010e24" ∷
      "4 done:0 done:1 ret:0 ret:1 alu:2 ren:4:00010e20 ren:5:00010e24 fet:00010e28 fet:00010e2c" ∷
      "5 done:2 ret:2 alu:3 alu:4 ld:5:00010a2c:m ren:6:00010e28 ren:7:00010e2c fet:00010e30 fet:00010e34" ∷
      "6 done:3 done:4 ret:3 ret:4 ld:6:00010fe8:m ren:8:00010e30 ren:9:00010e34 fet:00010e38 fet:00010e3c" ∷
      "7 ren:10:00010e38 ren:11:00010e3c fet:00010e40 fet:00010e44" ∷
      "8 alu:10 ren:12:00010e40 fet:00010e48 fet:00010e4c" ∷
      "9 done:10 alu:11 ld:12:00010fc0:m" ∷
      "10 done:11 res:11:J bt:15:00010e3c sq:4 fet:00010e3c fet:00010e3c" ∷
      "11 ren:13:00010e3c ren:14:00010e3c fet:00010e3c fet:00010e3c" ∷
      "12 alu:13 alu:14 ren:15:00010e3c ren:16:00010e3c fet:00010e3c fet:00010e3c" ∷
      "13 done:13 done:14 res:13:J bt:15:00010e3c alu:15 alu:16 ren:17:00010e3c ren:18:00010e3c fet:00010e3c fet:00010e3c" ∷
      "end budget retired 5 cycles 13" ∷
      []);
}
