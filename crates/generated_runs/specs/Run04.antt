-- Made by tools/evaluate/write: change what it reads, in tools/evaluate/runs, and run it again.
use Rattle.std.specs.Prelude.{[], ◌∷◌}
use Rattle.generated_runs.specs.Agreement.{Run, lines}

-- the run's code:
-- 00004c84 addi x5,x2,1783
-- 00004c88 addi x8,x0,-52
-- 00004c8c addi x10,x0,1422
-- 00004c90 addi x11,x0,-1623
-- 00004c94 auipc x1,0x0
-- 00004c98 addi x1,x1,80
-- 00004c9c divu x8,x2,x8
-- 00004ca0 lw x12,-4(x2)
-- 00004ca4 or x12,x12,x2
-- 00004ca8 div x12,x12,x2
-- 00004cac lb x9,-1786(x2)
-- 00004cb0 sw x11,-40(x2)
-- 00004cb4 lw x14,-40(x2)
-- 00004cb8 andi x14,x14,4
-- 00004cbc sub x14,x2,x14
-- 00004cc0 sw x2,-28(x14)
-- 00004cc4 sw x2,-32(x14)
-- 00004cc8 sw x2,-36(x14)
-- 00004ccc lw x5,-36(x2)
-- 00004cd0 lw x8,0(x5)
-- 00004cd4 lw x8,0(x8)
-- 00004cd8 andi x16,x8,240
-- 00004cdc sub x16,x2,x16
-- 00004ce0 lw x6,0(x16)
-- 00004ce4 addi x17,x0,94
-- 00004ce8 ecall
abbrev pub run_04 : Run
run_04 = record {
  description = lines (
      "[core]" ∷
      "fetch_width = 1" ∷
      "retire_width = 2" ∷
      "rob = 15" ∷
      "stations = 2" ∷
      "loads = 6" ∷
      "stores = 14" ∷
      "queue = 16" ∷
      "[units]" ∷
      "alus = 4" ∷
      "mul_latency = 1" ∷
      "[predictor]" ∷
      "counters = 4" ∷
      "btb = 2" ∷
      "[cache]" ∷
      "sets = 1" ∷
      "ways = 2" ∷
      "line = 4" ∷
      "hit_latency = 3" ∷
      "miss_latency = 6" ∷
      "mshrs = 1" ∷
      "[ram]" ∷
      "base = 19584" ∷
      "size = 4896" ∷
      "[stt]" ∷
      "model = \"futuristic\"" ∷
      []);
  image =
      0x464c457f ∷ 0x00010101 ∷ 0x00000000 ∷ 0x00000000 ∷ 0x00f30002 ∷ 0x00000001 ∷ 0x00004c84 ∷ 0x00000034 ∷
      0x00000000 ∷ 0x00000000 ∷ 0x00200034 ∷ 0x00000002 ∷ 0x00000000 ∷ 0x00000001 ∷ 0x00000074 ∷ 0x00004c84 ∷
      0x00004c84 ∷ 0x00000068 ∷ 0x00000068 ∷ 0x00000007 ∷ 0x00000004 ∷ 0x00000001 ∷ 0x000000dc ∷ 0x00005ea0 ∷
      0x00005ea0 ∷ 0x00000100 ∷ 0x00000100 ∷ 0x00000006 ∷ 0x00000004 ∷ 0x6f710293 ∷ 0xfcc00413 ∷ 0x58e00513 ∷
      0x9a900593 ∷ 0x00000097 ∷ 0x05008093 ∷ 0x02815433 ∷ 0xffc12603 ∷ 0x00266633 ∷ 0x02264633 ∷ 0x90610483 ∷
      0xfcb12c23 ∷ 0xfd812703 ∷ 0x00477713 ∷ 0x40e10733 ∷ 0xfe272223 ∷ 0xfe272023 ∷ 0xfc272e23 ∷ 0xfdc12283 ∷
      0x0002a403 ∷ 0x00042403 ∷ 0x0f047813 ∷ 0x41010833 ∷ 0x00082303 ∷ 0x05e00893 ∷ 0x00000073 ∷ 0x00004ca0 ∷
      0x00000000 ∷ 0x000000e6 ∷ 0x9e38a633 ∷ 0x00000000 ∷ 0x00000000 ∷ 0x00005930 ∷ 0x00004ca8 ∷ 0x00000000 ∷
      0x0000009a ∷ 0x00004ca8 ∷ 0x00000000 ∷ 0x000000d5 ∷ 0x00000000 ∷ 0x00000000 ∷ 0x00000000 ∷ 0x497d20f9 ∷
      0x00004ca8 ∷ 0x00005310 ∷ 0x00005118 ∷ 0x38a67e3b ∷ 0x00000062 ∷ 0x00004c84 ∷ 0x00004cb8 ∷ 0x00000000 ∷
      0x00005f7c ∷ 0x00000092 ∷ 0x00000000 ∷ 0x00004cc0 ∷ 0x00000081 ∷ 0x00000000 ∷ 0x00000069 ∷ 0xdb35a1a0 ∷
      0x00000000 ∷ 0x0000003c ∷ 0x00000000 ∷ 0x0000513c ∷ 0x00004c90 ∷ 0x84c68b13 ∷ 0x00004ca0 ∷ 0x000000f7 ∷
      0x00000000 ∷ 0x00000000 ∷ 0x9922da9f ∷ 0x00005264 ∷ 0xcc2a95a5 ∷ 0x00000000 ∷ 0x00000000 ∷ 0x00000000 ∷
      0x0000009c ∷ 0x00000000 ∷ 0x73010daf ∷ 0xf7132af4 ∷ 0x00004ca0 ∷ 0x00005c38 ∷ 0x00000000 ∷ 0x151c0e17 ∷
      0x00000000 ∷ 0xfca587aa ∷ 0x00004c84 ∷ 0x0000536c ∷ 0x00000000 ∷ 0x00000000 ∷ 0x00004cb4 ∷
      [];
  cycles = 95;
  trace = lines (
      "1 fet:00004c84" ∷
      "2 ren:0:00004c84 fet:00004c88" ∷
      "3 alu:0 ren:1:00004c88 fet:00004c8c" ∷
      "4 done:0 ret:0 alu:1 ren:2:00004c8c fet:00004c90" ∷
      "5 done:1 ret:1 alu:2 ren:3:00004c90 fet:00004c94" ∷
      "6 done:2 ret:2 alu:3 ren:4:00004c94 fet:00004c98" ∷
      "7 done:3 ret:3 alu:4 ren:5:00004c98 fet:00004c9c" ∷
      "8 done:4 ret:4 alu:5 ren:6:00004c9c fet:00004ca0" ∷
      "9 done:5 ret:5 div:6:18 ren:7:00004ca0 fet:00004ca4" ∷
      "10 ld:7:00005f8c:m ren:8:00004ca4 fet:00004ca8" ∷
      "11 ren:9:00004ca8 fet:00004cac" ∷
      "12 fet:00004cb0" ∷
      "13 fet:00004cb4" ∷
      "14 fet:00004cb8" ∷
      "15 fet:00004cbc" ∷
      "16 fill:00005f8c done:7 alu:8 ren:10:00004cac fet:00004cc0" ∷
      "17 done:8 ld:10:00005894:m ren:11:00004cb0 fet:00004cc4" ∷
      "18 agu:11 ren:12:00004cb4 fet:00004cc8" ∷
      "19 done:11 ld:12:f ren:13:00004cb8 fet:00004ccc" ∷
      "20 done:12 alu:13 ren:14:00004cbc fet:00004cd0" ∷
      "21 done:13 alu:14 ren:15:00004cc0 fet:00004cd4" ∷
      "22 done:14 agu:15 ren:16:00004cc4 fet:00004cd8" ∷
      "23 fill:00005894 done:10 done:15 agu:16 ren:17:00004cc8 fet:00004cdc" ∷
      "24 done:16 agu:17 ren:18:00004ccc fet:00004ce0" ∷
      "25 done:17 ld:18:f ren:19:00004cd0 fet:00004ce4" ∷
      "26 done:18 ld:19:00005f90:m ren:20:00004cd4 fet:00004ce8" ∷
      "27 done:6 ret:6 ret:7 div:9:18 ren:21:00004cd8 fet:00004cec" ∷
      "28 ret:8" ∷
      "29" ∷
      "30" ∷
      "31" ∷
      "32 fill:00005f90 done:19 ld:20:0000536c:m ren:22:00004cdc" ∷
      "33" ∷
      "34" ∷
      "35" ∷
      "36" ∷
      "37" ∷
      "38 fill:0000536c done:20 alu:21 ren:23:00004ce0" ∷
      "39 done:21 alu:22" ∷
      "40 done:22 ld:23:00005f90:h" ∷
      "41" ∷
      "42" ∷
      "43 done:23" ∷
      "44" ∷
      "45 done:9 ret:9 ret:10 ren:24:00004ce4" ∷
      "46 ret:11 st:11:00005f68:m ret:12 alu:24" ∷
      "47 done:24 ret:13 ret:14" ∷
      "48 ret:15 st:15:00005f74:m" ∷
      "49 ret:16 st:16:00005f70:m" ∷
      "50 ret:17 st:17:00005f6c:m ret:18" ∷
      "51 ret:19 ret:20" ∷
      "52 ret:21 ret:22" ∷
      "53 ret:23 ret:24 ren:25:00004ce8" ∷
      "54 ret:25 call:25:0" ∷
      "end exit 1422 retired 26 cycles 54" ∷
      []);
}
