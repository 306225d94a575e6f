-- Made by tools/evaluate/write: change what it reads, in tools/evaluate/runs, and run it again.
use Rattle.std.specs.Prelude.{[], ◌∷◌}
use Rattle.generated_runs.specs.Agreement.{Run, lines}

-- the run's code:
-- 00010f90 addi x6,x2,-1388
-- 00010f94 addi x16,x0,-568
-- 00010f98 auipc x1,0x0
-- 00010f9c addi x1,x1,64
abbrev pub run_14 : Run
run_14 = record {
  description = lines (
      "[core]" ∷
      "fetch_width = 4" ∷
      "retire_width = 1" ∷
      "rob = 12" ∷
      "stations = 2" ∷
      "loads = 5" ∷
      "stores = 6" ∷
      "queue = 3" ∷
      "[units]" ∷
      "alus = 1" ∷
      "mul_latency = 2" ∷
      "[predictor]" ∷
      "counters = 2" ∷
      "btb = 4" ∷
      "[cache]" ∷
      "sets = 4" ∷
      "ways = 5" ∷
      "line = 4" ∷
      "hit_latency = 2" ∷
      "miss_latency = 3" ∷
      "mshrs = 3" ∷
      "[ram]" ∷
      "base = 65536" ∷
      "size = 4096" ∷
      "[stt]" ∷
      "model = \"futuristic\"" ∷
      []);
  image =
      0x464c457f ∷ 0x00010101 ∷ 0x00000000 ∷ 0x00000000 ∷ 0x00f30002 ∷ 0x00000001 ∷ 0x00010f90 ∷ 0x00000034 ∷
      0x00000000 ∷ 0x00000000 ∷ 0x00200034 ∷ 0x00000002 ∷ 0x00000000 ∷ 0x00000001 ∷ 0x00000074 ∷ 0x00010f90 ∷
      0x00010f90 ∷ 0x00000010 ∷ 0x00000010 ∷ 0x00000005 ∷ 0x00000004 ∷ 0x00000001 ∷ 0x00000084 ∷ 0x00010e90 ∷
      0x00010e90 ∷ 0x00000100 ∷ 0x00000100 ∷ 0x00000006 ∷ 0x00000004 ∷ 0xa9410313 ∷ 0xdc800813 ∷ 0x00000097 ∷
      0x04008093 ∷ 0x00000000 ∷ 0x00010fcc ∷ 0x00010fc0 ∷ 0x0000004c ∷ 0x00000000 ∷ 0xa0a7fe06 ∷ 0x00000000 ∷
      0x00000050 ∷ 0x00010d94 ∷ 0x5e676071 ∷ 0x00000000 ∷ 0x039b62d2 ∷ 0x00000000 ∷ 0x000108f0 ∷ 0x00010fb4 ∷
      0x00010e3c ∷ 0x0001057c ∷ 0x00000000 ∷ 0x00010ea8 ∷ 0x00010e90 ∷ 0x00000000 ∷ 0x00000000 ∷ 0x00000000 ∷
      0x00000000 ∷ 0xcf5760f2 ∷ 0x00000000 ∷ 0x00000000 ∷ 0x00000000 ∷ 0x0000004f ∷ 0x00000000 ∷ 0x000000e1 ∷
      0x00000011 ∷ 0x00000058 ∷ 0x00010fc4 ∷ 0x00010fc8 ∷ 0x00000000 ∷ 0x00000000 ∷ 0x000000ce ∷ 0xc5832079 ∷
      0x00000000 ∷ 0x0001006c ∷ 0x00000000 ∷ 0x00010bd4 ∷ 0x00010fc8 ∷ 0x000108ac ∷ 0x51f6f824 ∷ 0x00000098 ∷
      0x00000000 ∷ 0x00000040 ∷ 0x00000028 ∷ 0xf60669e4 ∷ 0x00000000 ∷ 0x00000000 ∷ 0x00000000 ∷ 0x00010fc8 ∷
      0x000000e2 ∷ 0x00000000 ∷ 0x00010f98 ∷ 0x00010f98 ∷ 0x00010fc8 ∷ 0x00000000 ∷ 0x000000d3 ∷ 0x000000bc ∷
      0x00000000 ∷
      [];
  cycles = 400;
  trace = lines (
      "1 fet:00010f90 fet:00010f94 fet:00010f98" ∷
      "2 ren:0:00010f90 ren:1:00010f94 fet:00010f9c fet:00010fa0" ∷
      "3 alu:0 ren:2:00010f98" ∷
      "4 done:0 ret:0 alu:1 ren:3:00010f9c ren:4:00010fa0" ∷
      "5 done:1 ret:1 alu:2" ∷
      "6 done:2 ret:2 alu:3" ∷
      "7 done:3 ret:3" ∷
      "8" ∷
      "end trap 1 00010fa0 retired 4 cycles 8" ∷
      []);
}
