-- Made by tools/evaluate/write: change what it reads, in tools/evaluate/runs, and run it again.
use Rattle.std.specs.Prelude.{[], ◌∷◌}
use Rattle.generated_runs.specs.Agreement.{Run, lines}

-- the run's code:
-- 00008df4 addi x10,x2,-1193
-- 00008df8 auipc x1,0x0
-- 00008dfc addi x1,x1,56
-- 00008e00 addi x12,x2,0
-- 00008e04 mul x12,x12,x2
-- 00008e08 beq x12,x12,+24
-- 00008e0c lhu x6,-820(x2)
-- 00008e10 lw x10,0(x6)
-- 00008e14 andi x6,x10,252
-- 00008e18 sub x6,x2,x6
-- 00008e1c lw x7,0(x6)
-- 00008e20 addi x13,x2,0
-- 00008e24 div x13,x13,x2
-- 00008e28 div x13,x13,x2
-- 00008e2c bgeu x13,x0,+24
-- 00008e30 lw x5,-980(x2)
-- 00008e34 andi x9,x5,4
-- 00008e38 add x9,x2,x9
-- 00008e3c sh x2,-60(x9)
-- 00008e40 lw x5,-64(x2)
-- 00008e44 addi x17,x0,94
-- 00008e48 ecall
abbrev pub run_37 : Run
run_37 = record {
  description = lines (
      "[core]" ∷
      "fetch_width = 4" ∷
      "retire_width = 4" ∷
      "rob = 21" ∷
      "stations = 22" ∷
      "loads = 3" ∷
      "stores = 1" ∷
      "queue = 6" ∷
      "[units]" ∷
      "alus = 2" ∷
      "mul_latency = 4" ∷
      "[predictor]" ∷
      "counters = 4" ∷
      "btb = 1" ∷
      "[cache]" ∷
      "sets = 2" ∷
      "ways = 3" ∷
      "line = 32" ∷
      "hit_latency = 2" ∷
      "miss_latency = 96" ∷
      "mshrs = 1" ∷
      "[ram]" ∷
      "base = 36320" ∷
      "size = 7936" ∷
      "[stt]" ∷
      "model = \"futuristic\"" ∷
      []);
  image =
      0x464c457f ∷ 0x00010101 ∷ 0x00000000 ∷ 0x00000000 ∷ 0x00f30002 ∷ 0x00000001 ∷ 0x00008df4 ∷ 0x00000034 ∷
      0x00000000 ∷ 0x00000000 ∷ 0x00200034 ∷ 0x00000002 ∷ 0x00000000 ∷ 0x00000001 ∷ 0x00000074 ∷ 0x00008df4 ∷
      0x00008df4 ∷ 0x00000058 ∷ 0x00000058 ∷ 0x00000005 ∷ 0x00000004 ∷ 0x00000001 ∷ 0x000000cc ∷ 0x0000aca0 ∷
      0x0000aca0 ∷ 0x00000040 ∷ 0x00000040 ∷ 0x00000006 ∷ 0x00000004 ∷ 0xb5710513 ∷ 0x00000097 ∷ 0x03808093 ∷
      0x00010613 ∷ 0x02260633 ∷ 0x00c60c63 ∷ 0xccc15303 ∷ 0x00032503 ∷ 0x0fc57313 ∷ 0x40610333 ∷ 0x00032383 ∷
      0x00010693 ∷ 0x0226c6b3 ∷ 0x0226c6b3 ∷ 0x0006fc63 ∷ 0xc2c12283 ∷ 0x0042f493 ∷ 0x009104b3 ∷ 0xfc249223 ∷
      0xfc012283 ∷ 0x05e00893 ∷ 0x00000073 ∷ 0x397a0705 ∷ 0xcace7dd6 ∷ 0x20245bc6 ∷ 0x0000a6d8 ∷ 0x0000927c ∷
      0x5e6b729e ∷ 0x00000000 ∷ 0x00000079 ∷ 0x00000000 ∷ 0x000000fe ∷ 0x00000000 ∷ 0x00000000 ∷ 0x00008e24 ∷
      0x00009ca4 ∷ 0x000000c8 ∷ 0x33e94a74 ∷
      [];
  cycles = 28;
  trace = lines (
      "1 fet:00008df4 fet:00008df8 fet:00008dfc fet:00008e00" ∷
      "2 ren:0:00008df4 ren:1:00008df8 ren:2:00008dfc ren:3:00008e00 fet:00008e04 fet:00008e08 fet:00008e0c fet:00008e10" ∷
      "3 alu:0 alu:1 ren:4:00008e04 ren:5:00008e08 ren:6:00008e0c ren:7:00008e10 fet:00008e14 fet:00008e18 fet:00008e1c fet:00008e20" ∷
      "4 done:0 done:1 ret:0 ret:1 alu:2 alu:3 ld:6:0000a980:m ren:8:00008e14 ren:9:00008e18 ren:10:00008e1c ren:11:00008e20 fet:00008e24 fet:00008e28 fet:00008e2c fet:00008e30" ∷
      "5 done:2 done:3 ret:2 ret:3 mul:4 alu:11 ren:12:00008e24 ren:13:00008e28 ren:14:00008e2c fet:00008e34 fet:00008e38 fet:00008e3c fet:00008e40" ∷
      "6 done:11 div:12:19 fet:00008e44" ∷
      "7" ∷
      "8" ∷
      "9 done:4 ret:4 alu:5" ∷
      "10 done:5 res:5:T bp:2:2 sq:15 ret:5 fet:00008e20 fet:00008e24 fet:00008e28 fet:00008e2c" ∷
      "11 ren:15:00008e20 ren:16:00008e24 ren:17:00008e28 ren:18:00008e2c fet:00008e30 fet:00008e34 fet:00008e38 fet:00008e3c" ∷
      "12 alu:15 ren:19:00008e30 ren:20:00008e34 ren:21:00008e38 ren:22:00008e3c fet:00008e40 fet:00008e44 fet:00008e48 fet:00008e4c" ∷
      "13 done:15 ret:15 div:16:19 ren:23:00008e40 ren:24:00008e44" ∷
      "14 alu:24" ∷
      "15 done:24" ∷
      "16" ∷
      "17" ∷
      "18" ∷
      "19" ∷
      "20" ∷
      "21" ∷
      "22" ∷
      "23" ∷
      "24" ∷
      "25" ∷
      "26" ∷
      "27" ∷
      "28" ∷
      "end budget retired 7 cycles 28" ∷
      []);
}
