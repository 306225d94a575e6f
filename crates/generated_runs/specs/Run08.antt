-- Made by tools/evaluate/write: change what it reads, in tools/evaluate/runs, and run it again.
use Rattle.std.specs.Prelude.{[], ◌∷◌}
use Rattle.generated_runs.specs.Agreement.{Run, lines}

-- the run's code:
-- 0001000c addi x6,x2,-1952
-- 00010010 addi x16,x0,1199
-- 00010014 auipc x1,0x0
-- 00010018 addi x1,x1,28
-- 0001001c addi x18,x0,5
-- 00010020 addi x18,x18,-1
-- 00010024 bne x18,x0,-4
abbrev pub run_08 : Run
run_08 = record {
  description = lines (
      "[core]" ∷
      "fetch_width = 1" ∷
      "retire_width = 1" ∷
      "rob = 64" ∷
      "stations = 6" ∷
      "loads = 3" ∷
      "stores = 13" ∷
      "queue = 7" ∷
      "[units]" ∷
      "alus = 4" ∷
      "mul_latency = 1" ∷
      "[predictor]" ∷
      "counters = 16" ∷
      "btb = 1" ∷
      "[cache]" ∷
      "sets = 4" ∷
      "ways = 1" ∷
      "line = 8" ∷
      "hit_latency = 1" ∷
      "miss_latency = 200" ∷
      "mshrs = 2" ∷
      "[ram]" ∷
      "base = 65536" ∷
      "size = 65536" ∷
      "[stt]" ∷
      "model = \"futuristic\"" ∷
      []);
  image =
      0x464c457f ∷ 0x00010101 ∷ 0x00000000 ∷ 0x00000000 ∷ 0x00f30002 ∷ 0x00000001 ∷ 0x0001000c ∷ 0x00000034 ∷
      0x00000000 ∷ 0x00000000 ∷ 0x00200034 ∷ 0x00000002 ∷ 0x00000000 ∷ 0x00000001 ∷ 0x00000074 ∷ 0x0001000c ∷
      0x0001000c ∷ 0x0000001c ∷ 0x0000001c ∷ 0x00000005 ∷ 0x00000004 ∷ 0x00000001 ∷ 0x00000090 ∷ 0x0001ff00 ∷
      0x0001ff00 ∷ 0x00000100 ∷ 0x00000100 ∷ 0x00000006 ∷ 0x00000004 ∷ 0x86010313 ∷ 0x4af00813 ∷ 0x00000097 ∷
      0x01c08093 ∷ 0x00500913 ∷ 0xfff90913 ∷ 0xfe091ee3 ∷ 0x00010040 ∷ 0x0001e8cc ∷ 0x0001001c ∷ 0x00000000 ∷
      0x00010040 ∷ 0x00000000 ∷ 0x000000b5 ∷ 0x5031e42a ∷ 0x0000003c ∷ 0x21b8274e ∷ 0x00000017 ∷ 0x00000089 ∷
      0x0001002c ∷ 0x00010530 ∷ 0x00000000 ∷ 0x00010038 ∷ 0x00010048 ∷ 0x0001001c ∷ 0x0001f370 ∷ 0x000000aa ∷
      0x00000000 ∷ 0x00010010 ∷ 0x00000000 ∷ 0x37f77d46 ∷ 0x00000000 ∷ 0x00010010 ∷ 0x00000000 ∷ 0x00010010 ∷
      0x0001001c ∷ 0x000000c3 ∷ 0x00010040 ∷ 0x9080a696 ∷ 0x00010020 ∷ 0x00019c84 ∷ 0xf9571a9f ∷ 0x00000098 ∷
      0x00000000 ∷ 0x0001e9f4 ∷ 0x00019424 ∷ 0x00000000 ∷ 0x00000000 ∷ 0x00000000 ∷ 0x00000000 ∷ 0xaff57485 ∷
      0x0001000c ∷ 0x00000000 ∷ 0x0000008f ∷ 0x00010030 ∷ 0x00000000 ∷ 0x5e92ca00 ∷ 0x00000000 ∷ 0x0001de94 ∷
      0x00000070 ∷ 0x00011f0c ∷ 0x00000086 ∷ 0xc075bb09 ∷ 0xebb3789b ∷ 0x00010048 ∷ 0x0001000c ∷ 0x861fb23c ∷
      0x0001002c ∷ 0x00000000 ∷ 0x00013424 ∷ 0xc9c9f76c ∷
      [];
  cycles = 400;
  trace = lines (
      "1 fet:0001000c" ∷
      "2 ren:0:0001000c fet:00010010" ∷
      "3 alu:0 ren:1:00010010 fet:00010014" ∷
      "4 done:0 ret:0 alu:1 ren:2:00010014 fet:00010018" ∷
      "5 done:1 ret:1 alu:2 ren:3:00010018 fet:0001001c" ∷
      "6 done:2 ret:2 alu:3 ren:4:0001001c fet:00010020" ∷
      "7 done:3 ret:3 alu:4 ren:5:00010020 fet:00010024" ∷
      "8 done:4 ret:4 alu:5 ren:6:00010024 fet:00010028" ∷
      "9 done:5 ret:5 alu:6 ren:7:00010028" ∷
      "10 done:6 res:6:T bp:9:2 sq:1 ret:6 fet:00010020" ∷
      "11 ren:8:00010020 fet:00010024" ∷
      "12 alu:8 ren:9:00010024 fet:00010020" ∷
      "13 done:8 ret:8 alu:9 ren:10:00010020 fet:00010024" ∷
      "14 done:9 res:9:T bp:9:3 ret:9 alu:10 ren:11:00010024 fet:00010020" ∷
      "15 done:10 ret:10 alu:11 ren:12:00010020 fet:00010024" ∷
      "16 done:11 res:11:T bp:9:3 ret:11 alu:12 ren:13:00010024 fet:00010020" ∷
      "17 done:12 ret:12 alu:13 ren:14:00010020 fet:00010024" ∷
      "18 done:13 res:13:T bp:9:3 ret:13 alu:14 ren:15:00010024 fet:00010020" ∷
      "19 done:14 ret:14 alu:15 ren:16:00010020 fet:00010024" ∷
      "20 done:15 res:15:N bp:9:2 sq:2 ret:15 fet:00010028" ∷
      "21 ren:17:00010028" ∷
      "22" ∷
      "end trap 1 00010028 retired 15 cycles 22" ∷
      []);
}
