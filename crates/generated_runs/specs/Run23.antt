-- Made by tools/evaluate/write: change what it reads, in tools/evaluate/runs, and run it again.
use Rattle.std.specs.Prelude.{[], ◌∷◌}
use Rattle.generated_runs.specs.Agreement.{Run, lines}

-- the run's code:
-- fffff004 auipc x1,0x0
-- fffff008 addi x1,x1,44
-- fffff00c slti x7,x10,-1462
-- fffff010 lh x7,-16(x2)
-- fffff014 andi x10,x7,124
-- fffff018 sub x10,x2,x10
-- fffff01c sb x16,-4(x10)
-- fffff020 lw x5,-1508(x2)
-- fffff024 slti x11,x2,-1063
-- fffff028 lhu x8,-1848(x2)
-- fffff02c sw x16,-61(x2)
-- fffff030 lb x9,-236(x2)
-- fffff034 andi x7,x9,252
-- fffff038 sub x7,x2,x7
-- fffff03c lw x6,0(x7)
-- fffff040 lbu x0,-248(x2)
-- fffff044 lh x9,-60(x2)
-- fffff048 andi x6,x9,508
-- fffff04c sub x6,x2,x6
-- fffff050 lw x7,0(x6)
-- fffff054 addi x17,x0,94
-- fffff058 ecall
abbrev pub run_23 : Run
run_23 = record {
  description = lines (
      "[core]" ∷
      "fetch_width = 4" ∷
      "retire_width = 2" ∷
      "rob = 33" ∷
      "stations = 5" ∷
      "loads = 10" ∷
      "stores = 12" ∷
      "queue = 5" ∷
      "[units]" ∷
      "alus = 4" ∷
      "mul_latency = 2" ∷
      "[predictor]" ∷
      "counters = 16" ∷
      "btb = 2" ∷
      "[cache]" ∷
      "sets = 256" ∷
      "ways = 1" ∷
      "line = 16" ∷
      "hit_latency = 3" ∷
      "miss_latency = 4" ∷
      "mshrs = 8" ∷
      "[ram]" ∷
      "base = 4294963200" ∷
      "size = 4096" ∷
      "[stt]" ∷
      "model = \"spectre\"" ∷
      []);
  image =
      0x464c457f ∷ 0x00010101 ∷ 0x00000000 ∷ 0x00000000 ∷ 0x00f30002 ∷ 0x00000001 ∷ 0xfffff004 ∷ 0x00000034 ∷
      0x00000000 ∷ 0x00000000 ∷ 0x00200034 ∷ 0x00000002 ∷ 0x00000000 ∷ 0x00000001 ∷ 0x00000074 ∷ 0xfffff004 ∷
      0xfffff004 ∷ 0x00000058 ∷ 0x00000058 ∷ 0x00000005 ∷ 0x00000004 ∷ 0x00000001 ∷ 0x000000cc ∷ 0xffffffc0 ∷
      0xffffffc0 ∷ 0x00000040 ∷ 0x00000040 ∷ 0x00000006 ∷ 0x00000004 ∷ 0x00000097 ∷ 0x02c08093 ∷ 0xa4a52393 ∷
      0xff011383 ∷ 0x07c3f513 ∷ 0x40a10533 ∷ 0xff050e23 ∷ 0xa1c12283 ∷ 0xbd912593 ∷ 0x8c815403 ∷ 0xfd0121a3 ∷
      0xf1410483 ∷ 0x0fc4f393 ∷ 0x407103b3 ∷ 0x0003a303 ∷ 0xf0814003 ∷ 0xfc411483 ∷ 0x1fc4f313 ∷ 0x40610333 ∷
      0x00032383 ∷ 0x05e00893 ∷ 0x00000073 ∷ 0xfffffe08 ∷ 0xd0089e18 ∷ 0x00000000 ∷ 0xfffff7c4 ∷ 0x00000000 ∷
      0x000000bc ∷ 0x000000b5 ∷ 0x00000000 ∷ 0x00000000 ∷ 0x5fb6b2fb ∷ 0xfffffa94 ∷ 0xfffff02c ∷ 0x00000000 ∷
      0x00000000 ∷ 0x00000000 ∷ 0xfffff3c4 ∷
      [];
  cycles = 210;
  trace = lines (
      "1 fet:fffff004 fet:fffff008 fet:fffff00c fet:fffff010" ∷
      "2 ren:0:fffff004 ren:1:fffff008 ren:2:fffff00c ren:3:fffff010 fet:fffff014 fet:fffff018 fet:fffff01c fet:fffff020" ∷
      "3 alu:0 alu:2 ld:3:ffffffe0:m ren:4:fffff014 ren:5:fffff018 ren:6:fffff01c ren:7:fffff020 fet:fffff024 fet:fffff028 fet:fffff02c fet:fffff030" ∷
      "4 done:0 done:2 ret:0 alu:1 ren:8:fffff024 fet:fffff034 fet:fffff038" ∷
      "5 done:1 ret:1 ret:2 alu:8 ren:9:fffff028 fet:fffff03c" ∷
      "6 done:8" ∷
      "7 fill:ffffffe0 done:3 ret:3 alu:4 ren:10:fffff02c fet:fffff040" ∷
      "8 done:4 ret:4 alu:5 agu:10 ren:11:fffff030 ren:12:fffff034 fet:fffff044 fet:fffff048" ∷
      "9 done:5 done:10 ret:5 agu:6 ren:13:fffff038 fet:fffff04c" ∷
      "10 done:6 ret:6 st:6:ffffffe0:h ld:7:fffffa00:m ren:14:fffff03c fet:fffff050" ∷
      "11 ld:9:fffff8b0:m ren:15:fffff040 fet:fffff054" ∷
      "12 ld:11:ffffff00:m ren:16:fffff044 fet:fffff058" ∷
      "13 ld:15:fffffef0:m ren:17:fffff048 fet:fffff05c" ∷
      "14 fill:fffffa00 done:7 ret:7 ret:8 ld:16:ffffffb0:m ren:18:fffff04c" ∷
      "15 fill:fffff8b0 done:9 ret:9" ∷
      "end trap 6 fffff02c retired 10 cycles 15" ∷
      []);
}
