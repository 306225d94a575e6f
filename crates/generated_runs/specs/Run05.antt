-- Made by tools/evaluate/write: change what it reads, in tools/evaluate/runs, and run it again.
use Rattle.std.specs.Prelude.{[], ◌∷◌}
use Rattle.generated_runs.specs.Agreement.{Run, lines}

-- the run's code:
-- 0001000c addi x16,x2,608
-- 00010010 addi x10,x0,-2035
-- 00010014 auipc x1,0x0
-- 00010018 addi x1,x1,44
-- 0001001c addi x18,x0,4
-- 00010020 addi x18,x18,-1
-- 00010024 bne x18,x0,-4
-- 00010028 addi x17,x0,93
-- 0001002c ecall
-- 00010030 remu x9,x16,x9
-- 00010034 lw x6,8(x2)
-- 00010038 sh x6,-16(x2)
-- 0001003c sw x9,0(x2)
-- 00010040 sltu x7,x10,x16
-- 00010044 srli x6,x5,6
-- 00010048 lhu x9,-190(x2)
-- 0001004c andi x8,x9,252
-- 00010050 sub x8,x2,x8
-- 00010054 lw x5,0(x8)
-- 00010058 lh x8,-6(x2)
-- 0001005c jal x1,+12
abbrev pub run_05 : Run
run_05 = record {
  description = lines (
      "[core]" ∷
      "fetch_width = 1" ∷
      "retire_width = 1" ∷
      "rob = 48" ∷
      "stations = 12" ∷
      "loads = 3" ∷
      "stores = 5" ∷
      "queue = 16" ∷
      "[units]" ∷
      "alus = 1" ∷
      "mul_latency = 2" ∷
      "[predictor]" ∷
      "counters = 16" ∷
      "btb = 64" ∷
      "[cache]" ∷
      "sets = 1" ∷
      "ways = 5" ∷
      "line = 4" ∷
      "hit_latency = 3" ∷
      "miss_latency = 24" ∷
      "mshrs = 4" ∷
      "[ram]" ∷
      "base = 65536" ∷
      "size = 4096" ∷
      "[stt]" ∷
      "model = \"spectre\"" ∷
      []);
  image =
      0x464c457f ∷ 0x00010101 ∷ 0x00000000 ∷ 0x00000000 ∷ 0x00f30002 ∷ 0x00000001 ∷ 0x0001000c ∷ 0x00000034 ∷
      0x00000000 ∷ 0x00000000 ∷ 0x00200034 ∷ 0x00000002 ∷ 0x00000000 ∷ 0x00000001 ∷ 0x00000074 ∷ 0x0001000c ∷
      0x0001000c ∷ 0x00000054 ∷ 0x00000054 ∷ 0x00000005 ∷ 0x00000004 ∷ 0x00000001 ∷ 0x000000c8 ∷ 0x00010fc0 ∷
      0x00010fc0 ∷ 0x00000040 ∷ 0x00000040 ∷ 0x00000006 ∷ 0x00000004 ∷ 0x26010813 ∷ 0x80d00513 ∷ 0x00000097 ∷
      0x02c08093 ∷ 0x00400913 ∷ 0xfff90913 ∷ 0xfe091ee3 ∷ 0x05d00893 ∷ 0x00000073 ∷ 0x029874b3 ∷ 0x00812303 ∷
      0xfe611823 ∷ 0x00912023 ∷ 0x010533b3 ∷ 0x0062d313 ∷ 0xf4215483 ∷ 0x0fc4f413 ∷ 0x40810433 ∷ 0x00042283 ∷
      0xffa11403 ∷ 0x00c000ef ∷ 0x00000000 ∷ 0x0000003f ∷ 0x00010020 ∷ 0x00000000 ∷ 0x0000007e ∷ 0x00000000 ∷
      0x000000a0 ∷ 0x00000000 ∷ 0x00010030 ∷ 0x00010028 ∷ 0x000000be ∷ 0x000103b8 ∷ 0x00000000 ∷ 0xc451421d ∷
      0x00000000 ∷ 0x000000dc ∷
      [];
  cycles = 249;
  trace = lines (
      "1 fet:0001000c" ∷
      "2 ren:0:0001000c fet:00010010" ∷
      "3 alu:0 ren:1:00010010 fet:00010014" ∷
      "4 done:0 ret:0 alu:1 ren:2:00010014 fet:00010018" ∷
      "5 done:1 ret:1 alu:2 ren:3:00010018 fet:0001001c" ∷
      "6 done:2 ret:2 alu:3 ren:4:0001001c fet:00010020" ∷
      "7 done:3 ret:3 alu:4 ren:5:00010020 fet:00010024" ∷
      "8 done:4 ret:4 alu:5 ren:6:00010024 fet:00010028" ∷
      "9 done:5 ret:5 alu:6 ren:7:00010028 fet:0001002c" ∷
      "10 done:6 res:6:T bp:9:2 sq:2 ret:6 fet:00010020" ∷
      "11 ren:8:00010020 fet:00010024" ∷
      "12 alu:8 ren:9:00010024 fet:00010020" ∷
      "13 done:8 ret:8 alu:9 ren:10:00010020 fet:00010024" ∷
      "14 done:9 res:9:T bp:9:3 ret:9 alu:10 ren:11:00010024 fet:00010020" ∷
      "15 done:10 ret:10 alu:11 ren:12:00010020 fet:00010024" ∷
      "16 done:11 res:11:T bp:9:3 ret:11 alu:12 ren:13:00010024 fet:00010020" ∷
      "17 done:12 ret:12 alu:13 ren:14:00010020 fet:00010024" ∷
      "18 done:13 res:13:N bp:9:2 sq:2 ret:13 fet:00010028" ∷
      "19 ren:15:00010028 fet:0001002c" ∷
      "20 alu:15 fet:00010030" ∷
      "21 done:15 ret:15 ren:16:0001002c fet:00010034" ∷
      "22 ret:16 call:16:0" ∷
      "end exit 4294965261 retired 15 cycles 22" ∷
      []);
}
