-- Made by tools/evaluate/write: change what it reads, in tools/evaluate/runs, and run it again.
use Rattle.std.specs.Prelude.{[], ◌∷◌}
use Rattle.generated_runs.specs.Agreement.{Run, lines}

-- the run's code:
-- 00000e84 addi x5,x0,-662
-- 00000e88 auipc x1,0x0
-- 00000e8c addi x1,x1,72
-- 00000e90 sw x6,-12(x2)
-- 00000e94 sw x16,-40(x2)
-- 00000e98 jal x1,+12
-- 00000e9c lh x5,0(x2)
-- 00000ea0 andi x5,x5,12
-- 00000ea4 auipc x9,0x0
-- 00000ea8 add x5,x5,x9
-- 00000eac jalr x0,12(x5)
-- 00000eb0 lw x11,-20(x2)
-- 00000eb4 andi x11,x11,508
-- 00000eb8 sub x11,x2,x11
-- 00000ebc lw x8,0(x11)
-- 00000ec0 lw x16,-20(x2)
-- 00000ec4 addi x17,x0,93
-- 00000ec8 ecall
-- 00000ecc lh x9,-254(x2)
-- 00000ed0 srli x9,x9,4
-- 00000ed4 andi x10,x9,252
-- 00000ed8 sub x10,x2,x10
-- 00000edc sw x9,0(x10)
-- 00000ee0 sw x7,-8(x2)
-- 00000ee4 lbu x10,-104(x2)
-- 00000ee8 beq x10,x0,+24
-- 00000eec lw x16,-24(x2)
-- 00000ef0 lb x11,-40(x2)
-- 00000ef4 sw x11,-4(x2)
-- 00000ef8 lw x5,-36(x2)
-- 00000efc lw x9,-1824(x2)
abbrev pub run_12 : Run
run_12 = record {
  description = lines (
      "[core]" ∷
      "fetch_width = 3" ∷
      "retire_width = 2" ∷
      "rob = 64" ∷
      "stations = 19" ∷
      "loads = 4" ∷
      "stores = 4" ∷
      "queue = 3" ∷
      "[units]" ∷
      "alus = 2" ∷
      "mul_latency = 2" ∷
      "[predictor]" ∷
      "counters = 16" ∷
      "btb = 8" ∷
      "[cache]" ∷
      "sets = 8" ∷
      "ways = 2" ∷
      "line = 16" ∷
      "hit_latency = 5" ∷
      "miss_latency = 53" ∷
      "mshrs = 8" ∷
      "[ram]" ∷
      "base = 0" ∷
      "size = 4096" ∷
      "[stt]" ∷
      "model = \"spectre\"" ∷
      []);
  image =
      0x464c457f ∷ 0x00010101 ∷ 0x00000000 ∷ 0x00000000 ∷ 0x00f30002 ∷ 0x00000001 ∷ 0x00000e84 ∷ 0x00000034 ∷
      0x00000000 ∷ 0x00000000 ∷ 0x00200034 ∷ 0x00000002 ∷ 0x00000000 ∷ 0x00000001 ∷ 0x00000074 ∷ 0x00000e84 ∷
      0x00000e84 ∷ 0x0000007c ∷ 0x0000007c ∷ 0x00000005 ∷ 0x00000004 ∷ 0x00000001 ∷ 0x000000f0 ∷ 0x00000ff0 ∷
      0x00000ff0 ∷ 0x00000010 ∷ 0x00000010 ∷ 0x00000006 ∷ 0x00000004 ∷ 0xd6a00293 ∷ 0x00000097 ∷ 0x04808093 ∷
      0xfe612a23 ∷ 0xfd012c23 ∷ 0x00c000ef ∷ 0x00011283 ∷ 0x00c2f293 ∷ 0x00000497 ∷ 0x009282b3 ∷ 0x00c28067 ∷
      0xfec12583 ∷ 0x1fc5f593 ∷ 0x40b105b3 ∷ 0x0005a403 ∷ 0xfec12803 ∷ 0x05d00893 ∷ 0x00000073 ∷ 0xf0211483 ∷
      0x0044d493 ∷ 0x0fc4f513 ∷ 0x40a10533 ∷ 0x00952023 ∷ 0xfe712c23 ∷ 0xf9814503 ∷ 0x00050c63 ∷ 0xfe812803 ∷
      0xfd810583 ∷ 0xfeb12e23 ∷ 0xfdc12283 ∷ 0x8e012483 ∷ 0x00000000 ∷ 0x0f343de6 ∷ 0x00000000 ∷ 0x00000e9c ∷
      [];
  cycles = 400;
  trace = lines (
      "1 fet:00000e84 fet:00000e88 fet:00000e8c" ∷
      "2 ren:0:00000e84 ren:1:00000e88 ren:2:00000e8c fet:00000e90 fet:00000e94 fet:00000e98" ∷
      "3 alu:0 alu:1 ren:3:00000e90 ren:4:00000e94 ren:5:00000e98 fet:00000ea4 fet:00000ea8 fet:00000eac" ∷
      "4 done:0 done:1 ret:0 ret:1 alu:2 agu:3 alu:5 ren:6:00000ea4 ren:7:00000ea8 ren:8:00000eac fet:00000eb0 fet:00000eb4 fet:00000eb8" ∷
      "5 done:2 done:3 done:5 ret:2 ret:3 st:3:00000fe0:m agu:4 alu:6 ren:9:00000eb0 ren:10:00000eb4 ren:11:00000eb8 fet:00000ebc fet:00000ec0 fet:00000ec4" ∷
      "6 done:4 done:6 ret:4 st:4:00000fc0:m ret:5 alu:7 ld:9:00000fd0:m ren:12:00000ebc ren:13:00000ec0 ren:14:00000ec4 fet:00000ec8 fet:00000ecc fet:00000ed0" ∷
      "7 done:7 ret:6 ret:7 alu:8 ld:13:00000fd0:j alu:14" ∷
      "8 done:8 done:14 res:8:J sq:9" ∷
      "end trap 0 00000eac retired 8 cycles 8" ∷
      []);
}
