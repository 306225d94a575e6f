-- Made by tools/evaluate/write: change what it reads, in tools/evaluate/runs, and run it again.
use Rattle.std.specs.Prelude.{[], ◌∷◌}
use Rattle.generated_runs.specs.Agreement.{Run, lines}

-- the run's code:
-- fffff01c addi x8,x0,647
-- fffff020 addi x10,x2,2001
-- fffff024 auipc x1,0x0
-- fffff028 addi x1,x1,20
-- fffff02c addi x18,x0,3
-- fffff030 lw x6,8(x2)
-- fffff034 remu x6,x6,x6
-- fffff038 beq x0,x6,+36
-- fffff03c addi x18,x18,-1
-- fffff040 bne x18,x0,-16
-- fffff044 addi x17,x0,94
-- fffff048 ecall
-- fffff04c rem x8,x5,x16
-- fffff050 auipc x5,0x0
-- fffff054 jalr x0,10(x5)
-- fffff058 ori x7,x10,1285
-- fffff05c or x6,x11,x10
-- fffff060 remu x9,x8,x7
-- fffff064 fence
-- fffff068 sb x5,9(x2)
-- fffff06c jal x0,+4
abbrev pub run_32 : Run
run_32 = record {
  description = lines (
      "[core]" ∷
      "fetch_width = 2" ∷
      "retire_width = 2" ∷
      "rob = 16" ∷
      "stations = 32" ∷
      "loads = 1" ∷
      "stores = 10" ∷
      "queue = 2" ∷
      "[units]" ∷
      "alus = 1" ∷
      "mul_latency = 2" ∷
      "[predictor]" ∷
      "counters = 2" ∷
      "btb = 8" ∷
      "[cache]" ∷
      "sets = 1" ∷
      "ways = 2" ∷
      "line = 16" ∷
      "hit_latency = 3" ∷
      "miss_latency = 18" ∷
      "mshrs = 3" ∷
      "[ram]" ∷
      "base = 4294963200" ∷
      "size = 4096" ∷
      "[stt]" ∷
      "model = \"spectre\"" ∷
      []);
  image =
      0x464c457f ∷ 0x00010101 ∷ 0x00000000 ∷ 0x00000000 ∷ 0x00f30002 ∷ 0x00000001 ∷ 0xfffff01c ∷ 0x00000034 ∷
      0x00000000 ∷ 0x00000000 ∷ 0x00200034 ∷ 0x00000002 ∷ 0x00000000 ∷ 0x00000001 ∷ 0x00000074 ∷ 0xfffff01c ∷
      0xfffff01c ∷ 0x00000054 ∷ 0x00000054 ∷ 0x00000005 ∷ 0x00000004 ∷ 0x00000001 ∷ 0x000000c8 ∷ 0xffffffc0 ∷
      0xffffffc0 ∷ 0x00000040 ∷ 0x00000040 ∷ 0x00000006 ∷ 0x00000004 ∷ 0x28700413 ∷ 0x7d110513 ∷ 0x00000097 ∷
      0x01408093 ∷ 0x00300913 ∷ 0x00812303 ∷ 0x02637333 ∷ 0x02600263 ∷ 0xfff90913 ∷ 0xfe0918e3 ∷ 0x05e00893 ∷
      0x00000073 ∷ 0x0302e433 ∷ 0x00000297 ∷ 0x00a28067 ∷ 0x50556393 ∷ 0x00a5e333 ∷ 0x027474b3 ∷ 0x0ff0000f ∷
      0x005104a3 ∷ 0x0040006f ∷ 0xfffff028 ∷ 0x00000041 ∷ 0x00000000 ∷ 0x00000046 ∷ 0x00000000 ∷ 0x00000000 ∷
      0xfffff050 ∷ 0xfffff020 ∷ 0xfffff808 ∷ 0x03771691 ∷ 0x000000ec ∷ 0xfffff910 ∷ 0x00000000 ∷ 0x00000054 ∷
      0x09a1fffe ∷ 0x000000d6 ∷
      [];
  cycles = 400;
  trace = lines (
      "1 fet:fffff01c fet:fffff020" ∷
      "2 ren:0:fffff01c ren:1:fffff020 fet:fffff024 fet:fffff028" ∷
      "3 alu:0 ren:2:fffff024 ren:3:fffff028 fet:fffff02c fet:fffff030" ∷
      "4 done:0 ret:0 alu:1 ren:4:fffff02c ren:5:fffff030 fet:fffff034 fet:fffff038" ∷
      "5 done:1 ret:1 alu:2 ld:5:fffffff0:m ren:6:fffff034 ren:7:fffff038 fet:fffff03c fet:fffff040" ∷
      "6 done:2 ret:2 alu:3 ren:8:fffff03c ren:9:fffff040 fet:fffff044 fet:fffff048" ∷
      "7 done:3 ret:3 alu:4 ren:10:fffff044 fet:fffff04c" ∷
      "8 done:4 ret:4 alu:8" ∷
      "9 done:8 alu:9" ∷
      "10 done:9 res:9:T bp:0:2 sq:3 fet:fffff030 fet:fffff034" ∷
      "11" ∷
      "12" ∷
      "13" ∷
      "14" ∷
      "15" ∷
      "16" ∷
      "17" ∷
      "18" ∷
      "19" ∷
      "20" ∷
      "21" ∷
      "22" ∷
      "23 fill:fffffff0 done:5 ret:5 div:6:31 ren:11:fffff030 ren:12:fffff034 fet:fffff038 fet:fffff05c" ∷
      "24 ld:11:fffffff0:h ren:13:fffff038 ren:14:fffff05c fet:fffff060 fet:fffff064" ∷
      "25 alu:14 ren:15:fffff060 ren:16:fffff064 fet:fffff068 fet:fffff06c" ∷
      "26 done:14 alu:16 ren:17:fffff068 ren:18:fffff06c fet:fffff070" ∷
      "27 done:11 done:16 agu:17 alu:18 ren:19:fffff070" ∷
      "28 done:17 done:18" ∷
      "29" ∷
      "30" ∷
      "31" ∷
      "32" ∷
      "33" ∷
      "34" ∷
      "35" ∷
      "36" ∷
      "37" ∷
      "38" ∷
      "39" ∷
      "40" ∷
      "41" ∷
      "42" ∷
      "43" ∷
      "44" ∷
      "45" ∷
      "46" ∷
      "47" ∷
      "48" ∷
      "49" ∷
      "50" ∷
      "51" ∷
      "52" ∷
      "53" ∷
      "54 done:6 ret:6 alu:7 div:15:13" ∷
      "55 done:7 res:7:T bp:0:3 sq:11 ret:7 fet:fffff05c fet:fffff060" ∷
      "56 ren:20:fffff05c ren:21:fffff060 fet:fffff064 fet:fffff068" ∷
      "57 alu:20 div:21:13 ren:22:fffff064 ren:23:fffff068 fet:fffff06c fet:fffff070" ∷
      "58 done:20 ret:20 alu:22 agu:23 ren:24:fffff06c ren:25:fffff070" ∷
      "59 done:22 done:23 alu:24" ∷
      "60 done:24" ∷
      "61" ∷
      "62" ∷
      "63" ∷
      "64" ∷
      "65" ∷
      "66" ∷
      "67" ∷
      "68" ∷
      "69" ∷
      "70 done:21 ret:21 ret:22" ∷
      "71 ret:23 st:23:fffffff0:h ret:24" ∷
      "72" ∷
      "end trap 1 fffff070 retired 13 cycles 72" ∷
      []);
}
