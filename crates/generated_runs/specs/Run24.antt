-- Made by tools/evaluate/write: change what it reads, in tools/evaluate/runs, and run it again.
use Rattle.std.specs.Prelude.{[], ◌∷◌}
use Rattle.generated_runs.specs.Agreement.{Run, lines}

-- the run's code:
-- fffff010 addi x8,x0,521
-- fffff014 addi x10,x2,929
-- fffff018 addi x11,x0,-703
-- fffff01c auipc x1,0x0
-- fffff020 addi x1,x1,68
-- fffff024 sw x2,12(x2)
-- fffff028 lw x6,-60(x2)
-- fffff02c mul x6,x6,x6
-- fffff030 bne x0,x6,+32
-- fffff034 sw x5,-144(x2)
-- fffff038 sw x9,-44(x2)
-- fffff03c lhu x7,-60(x2)
-- fffff040 slli x7,x7,4
-- fffff044 andi x6,x7,252
-- fffff048 sub x6,x2,x6
-- fffff04c lw x6,0(x6)
-- fffff050 lh x7,-108(x2)
-- fffff054 bne x0,x7,+8
-- fffff058 andi x6,x5,-1678
-- fffff05c mul x10,x7,x10
-- fffff060 lb x9,-29(x2)
-- fffff064 div x9,x9,x9
-- fffff068 beq x0,x9,+36
-- fffff06c sb x7,-11(x2)
-- fffff070 lhu x10,-1628(x2)
-- fffff074 bgeu x10,x0,+32
-- fffff078 lbu x10,-174(x2)
-- fffff07c mul x10,x10,x10
-- fffff080 beq x10,x0,+28
-- fffff084 sh x16,8(x2)
-- fffff088 sra x16,x7,x8
-- fffff08c lb x6,-5(x2)
-- fffff090 bltu x6,x2,+8
-- fffff094 lw x7,-64(x2)
-- fffff098 andi x11,x7,508
-- fffff09c sub x11,x2,x11
-- fffff0a0 sb x6,-4(x11)
-- fffff0a4 lhu x9,-1502(x2)
-- fffff0a8 addi x17,x0,93
-- fffff0ac ecall
-- fffff0b0 sh x2,-1354(x2)
-- fffff0b4 srl x9,x2,x8
-- fffff0b8 sw x8,-1444(x2)
-- fffff0bc divu x8,x11,x5
-- fffff0c0 sltiu x9,x9,183
-- fffff0c4 auipc x6,0x60403
-- fffff0c8 lb x16,-6(x2)
-- fffff0cc mul x16,x11,x9
abbrev pub run_24 : Run
run_24 = record {
  description = lines (
      "[core]" ∷
      "fetch_width = 4" ∷
      "retire_width = 1" ∷
      "rob = 12" ∷
      "stations = 25" ∷
      "loads = 6" ∷
      "stores = 12" ∷
      "queue = 8" ∷
      "[units]" ∷
      "alus = 3" ∷
      "mul_latency = 3" ∷
      "[predictor]" ∷
      "counters = 4" ∷
      "btb = 256" ∷
      "[cache]" ∷
      "sets = 1" ∷
      "ways = 1" ∷
      "line = 4" ∷
      "hit_latency = 3" ∷
      "miss_latency = 4" ∷
      "mshrs = 2" ∷
      "[ram]" ∷
      "base = 4294963200" ∷
      "size = 4096" ∷
      "[stt]" ∷
      "model = \"futuristic\"" ∷
      []);
  image =
      0x464c457f ∷ 0x00010101 ∷ 0x00000000 ∷ 0x00000000 ∷ 0x00f30002 ∷ 0x00000001 ∷ 0xfffff010 ∷ 0x00000034 ∷
      0x00000000 ∷ 0x00000000 ∷ 0x00200034 ∷ 0x00000002 ∷ 0x00000000 ∷ 0x00000001 ∷ 0x00000074 ∷ 0xfffff010 ∷
      0xfffff010 ∷ 0x000000c0 ∷ 0x000000c0 ∷ 0x00000007 ∷ 0x00000004 ∷ 0x00000001 ∷ 0x00000134 ∷ 0xfffffed4 ∷
      0xfffffed4 ∷ 0x0000012c ∷ 0x0000012c ∷ 0x00000006 ∷ 0x00000004 ∷ 0x20900413 ∷ 0x3a110513 ∷ 0xd4100593 ∷
      0x00000097 ∷ 0x04408093 ∷ 0x00212623 ∷ 0xfc412303 ∷ 0x02630333 ∷ 0x02601063 ∷ 0xf6512823 ∷ 0xfc912a23 ∷
      0xfc415383 ∷ 0x00439393 ∷ 0x0fc3f313 ∷ 0x40610333 ∷ 0x00032303 ∷ 0xf9411383 ∷ 0x00701463 ∷ 0x9722f313 ∷
      0x02a38533 ∷ 0xfe310483 ∷ 0x0294c4b3 ∷ 0x02900263 ∷ 0xfe710aa3 ∷ 0x9a415503 ∷ 0x02057063 ∷ 0xf5214503 ∷
      0x02a50533 ∷ 0x00050e63 ∷ 0x01011423 ∷ 0x4083d833 ∷ 0xffb10303 ∷ 0x00236463 ∷ 0xfc012383 ∷ 0x1fc3f593 ∷
      0x40b105b3 ∷ 0xfe658e23 ∷ 0xa2215483 ∷ 0x05d00893 ∷ 0x00000073 ∷ 0xaa211b23 ∷ 0x008154b3 ∷ 0xa4812e23 ∷
      0x0255d433 ∷ 0x0b74b493 ∷ 0x60403317 ∷ 0xffa10803 ∷ 0x02958833 ∷ 0xfffff7d0 ∷ 0x00000000 ∷ 0x00000000 ∷
      0x00000000 ∷ 0xfffffec8 ∷ 0x00000000 ∷ 0x0000000a ∷ 0xfffffe34 ∷ 0x00000005 ∷ 0xfffff034 ∷ 0x00000000 ∷
      0x00000000 ∷ 0xfffff048 ∷ 0x00000000 ∷ 0x00000000 ∷ 0x000000ea ∷ 0xfffff020 ∷ 0x00000000 ∷ 0x00000000 ∷
      0x00000000 ∷ 0xfffffc38 ∷ 0x00000000 ∷ 0x1afb701e ∷ 0x7e44be05 ∷ 0xec981d85 ∷ 0x5bd0984e ∷ 0x00000000 ∷
      0xfffff01c ∷ 0x0000004a ∷ 0xfffff020 ∷ 0x5dcf107e ∷ 0x00000000 ∷ 0x432721b2 ∷ 0x00000000 ∷ 0xd72cdc46 ∷
      0x00000027 ∷ 0x000000d7 ∷ 0x00000000 ∷ 0x00000000 ∷ 0x0000009d ∷ 0xc8b59b92 ∷ 0x00000000 ∷ 0xfffff02c ∷
      0xfffff034 ∷ 0x00000029 ∷ 0xfffffbb8 ∷ 0xfffffed0 ∷ 0x0000004a ∷ 0x00000000 ∷ 0x00000000 ∷ 0xfffff02c ∷
      0xfffff010 ∷ 0x00000000 ∷ 0xd2edbfcc ∷ 0xfffff044 ∷ 0x00000000 ∷ 0x00000000 ∷ 0x00000000 ∷ 0x0000001a ∷
      0xfffff044 ∷ 0x00000000 ∷ 0xfffff010 ∷ 0xfffff010 ∷ 0x00000000 ∷ 0xfffff040 ∷ 0x0000007e ∷ 0x0000007f ∷
      0x000000d2 ∷ 0x27e8710e ∷ 0x84df1c45 ∷ 0x22788347 ∷ 0xfffff274 ∷ 0xfffff048 ∷ 0x177e7e29 ∷ 0x00000065 ∷
      [];
  cycles = 400;
  trace = lines (
      "1 fet:fffff010 fet:fffff014 fet:fffff018 fet:fffff01c" ∷
      "2 ren:0:fffff010 ren:1:fffff014 ren:2:fffff018 ren:3:fffff01c fet:fffff020 fet:fffff024 fet:fffff028 fet:fffff02c" ∷
      "3 alu:0 alu:1 alu:2 ren:4:fffff020 ren:5:fffff024 ren:6:fffff028 ren:7:fffff02c fet:fffff030 fet:fffff034 fet:fffff038 fet:fffff03c" ∷
      "4 done:0 done:1 done:2 ret:0 alu:3 agu:5 ren:8:fffff030 ren:9:fffff034 ren:10:fffff038 ren:11:fffff03c fet:fffff040 fet:fffff044 fet:fffff048 fet:fffff04c" ∷
      "5 done:3 done:5 ret:1 alu:4 ld:6:ffffffb4:m agu:9 ren:12:fffff040 ren:13:fffff044 fet:fffff050 fet:fffff054 fet:fffff058 fet:fffff05c" ∷
      "6 done:4 done:9 ret:2 agu:10 ren:14:fffff048 fet:fffff060 fet:fffff064 fet:fffff068" ∷
      "7 done:10 ret:3 ld:11:ffffffb4:j ren:15:fffff04c fet:fffff06c" ∷
      "8 ret:4 ren:16:fffff050 fet:fffff070" ∷
      "9 fill:ffffffb4 done:6 done:11 ret:5 st:5:fffffffc:m mul:7 alu:12 ld:16:ffffff84:m ren:17:fffff054 fet:fffff074" ∷
      "10 done:12 ret:6 alu:13 ren:18:fffff058 fet:fffff078" ∷
      "11 done:13 alu:14 alu:18" ∷
      "12 done:7 done:14 done:18 ret:7 alu:8 ren:19:fffff05c fet:fffff07c" ∷
      "13 fill:ffffff84 done:8 done:16 res:8:N bp:0:0 ret:8 ld:15:fffffff0:m alu:17 mul:19 ren:20:fffff060 fet:fffff080" ∷
      "14 done:17 ret:9 st:9:ffffff60:m ld:20:ffffffd0:m ren:21:fffff064 fet:fffff084" ∷
      "15 ret:10 st:10:ffffffc4:m ren:22:fffff068 fet:fffff088" ∷
      "16 done:19 ret:11 ren:23:fffff06c fet:fffff08c" ∷
      "17 fill:fffffff0 done:15 res:17:T bp:1:2 sq:14 ret:12 fet:fffff05c fet:fffff060 fet:fffff064 fet:fffff068" ∷
      "18 fill:ffffffd0 ret:13 ren:24:fffff05c ren:25:fffff060 ren:26:fffff064 ren:27:fffff068 fet:fffff06c fet:fffff070 fet:fffff074 fet:fffff094" ∷
      "19 ret:14 mul:24 ld:25:ffffffd0:h ren:28:fffff06c ren:29:fffff070 ren:30:fffff074 ren:31:fffff094 fet:fffff098 fet:fffff09c fet:fffff0a0 fet:fffff0a4" ∷
      "20 ret:15 agu:28 ren:32:fffff098 ren:33:fffff09c fet:fffff0a8 fet:fffff0ac fet:fffff0b0 fet:fffff0b4" ∷
      "21 done:28 ret:16 ld:29:fffff994:m ren:34:fffff0a0 fet:fffff0b8 fet:fffff0bc fet:fffff0c0" ∷
      "22 done:24 done:25 ret:17 div:26:3 ld:31:ffffffb0:m ren:35:fffff0a4 fet:fffff0c4" ∷
      "23 ret:24 ren:36:fffff0a8 fet:fffff0c8" ∷
      "24 ret:25 alu:36" ∷
      "25 fill:fffff994 done:26 done:29 done:36 ret:26 alu:27 alu:30" ∷
      "26 fill:ffffffb0 done:27 done:30 done:31 res:27:N bp:2:0 ret:27 alu:32" ∷
      "27 done:32 res:30:T bp:1:3 ret:28 st:28:ffffffe4:m alu:33" ∷
      "28 done:33 ret:29 agu:34" ∷
      "29 done:34 ret:30 ld:35:fffffa10:m" ∷
      "30 ret:31" ∷
      "31 ret:32" ∷
      "32 ret:33" ∷
      "33 fill:fffffa10 done:35 ret:34 st:34:ffffffec:m" ∷
      "34 ret:35" ∷
      "35 ret:36 ren:37:fffff0ac fet:fffff0cc" ∷
      "36 ret:37 call:37:0" ∷
      "end exit 0 retired 32 cycles 36" ∷
      []);
}
