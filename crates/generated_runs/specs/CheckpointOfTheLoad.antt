-- Made by tools/evaluate/write: change what it reads, in tools/evaluate/runs, and run it again.
use Rattle.std.specs.Prelude.{[], ◌∷◌}
use Rattle.generated_runs.specs.Agreement.{Run, lines}

-- the run's code:
-- 00010000 addi x5,x0,4
-- 00010004 div x7,x2,x2
-- 00010008 add x7,x7,x2
-- 0001000c sw x2,-1(x7)
-- 00010010 beq x0,x0,+8
-- 00010014 addi x0,x0,0
-- 00010018 lw x6,0(x2)
-- 0001001c addi x5,x5,-1
-- 00010020 bne x5,x0,-16
-- 00010024 addi x17,x0,93
-- 00010028 ecall
abbrev pub checkpoint_of_the_load : Run
checkpoint_of_the_load = record {
  description = lines (
      "version = 2" ∷
      "[core]" ∷
      "fetch_width = 2" ∷
      "retire_width = 2" ∷
      "rob = 16" ∷
      "stations = 8" ∷
      "loads = 4" ∷
      "stores = 4" ∷
      "queue = 8" ∷
      "[units]" ∷
      "alus = 2" ∷
      "mul_latency = 3" ∷
      "[predictor]" ∷
      "counters = 16" ∷
      "btb = 4" ∷
      "depend = 16" ∷
      "history = 2" ∷
      "returns = 0" ∷
      "[cache]" ∷
      "sets = 2" ∷
      "ways = 2" ∷
      "line = 16" ∷
      "hit_latency = 2" ∷
      "miss_latency = 10" ∷
      "mshrs = 2" ∷
      "second_sets = 0" ∷
      "second_ways = 1" ∷
      "second_latency = 2" ∷
      "prefetch = 0" ∷
      "[ram]" ∷
      "base = 65536" ∷
      "size = 65536" ∷
      "misaligned = 0" ∷
      "[stt]" ∷
      "model = \"spectre\"" ∷
      "defence = \"stt\"" ∷
      []);
  image =
      0x464c457f ∷ 0x00010101 ∷ 0x00000000 ∷ 0x00000000 ∷ 0x00f30002 ∷ 0x00000001 ∷ 0x00010000 ∷ 0x00000034 ∷
      0x00000000 ∷ 0x00000000 ∷ 0x00200034 ∷ 0x00000001 ∷ 0x00000000 ∷ 0x00000001 ∷ 0x00000054 ∷ 0x00010000 ∷
      0x00010000 ∷ 0x0000002c ∷ 0x0000002c ∷ 0x00000005 ∷ 0x00000004 ∷ 0x00400293 ∷ 0x022143b3 ∷ 0x002383b3 ∷
      0xfe23afa3 ∷ 0x00000463 ∷ 0x00000013 ∷ 0x00012303 ∷ 0xfff28293 ∷ 0xfe0298e3 ∷ 0x05d00893 ∷ 0x00000073 ∷
      [];
  cycles = 200;
  trace = lines (
      "1 fet:00010000 fet:00010004" ∷
      "2 ren:0:00010000 ren:1:00010004 fet:00010008 fet:0001000c" ∷
      "3 alu:0 div:1:20 ren:2:00010008 ren:3:0001000c fet:00010010 fet:00010014" ∷
      "4 done:0 ret:0 std:3 ren:4:00010010 ren:5:00010014 fet:00010018 fet:0001001c" ∷
      "5 alu:4 alu:5 ren:6:00010018 ren:7:0001001c fet:00010020 fet:00010024" ∷
      "6 done:4 done:5 res:4:T bp:4:2 sq:5 fet:00010018 fet:0001001c" ∷
      "7 ren:8:00010018 ren:9:0001001c fet:00010020 fet:00010024" ∷
      "8 ld:8:0001fff0:m alu:9 ren:10:00010020 ren:11:00010024 fet:00010028 fet:0001002c" ∷
      "9 done:9 alu:10 alu:11" ∷
      "10 done:10 done:11 res:10:T bp:9:2 sq:3 fet:00010010 fet:00010014" ∷
      "11 ren:12:00010010 ren:13:00010014 fet:00010018 fet:0001001c" ∷
      "12 alu:12 alu:13 ren:14:00010018 ren:15:0001001c fet:00010020 fet:00010024" ∷
      "13 done:12 done:13 res:12:T bp:7:2 sq:5 fet:00010018 fet:0001001c" ∷
      "14 ren:16:00010018 ren:17:0001001c fet:00010020 fet:00010024" ∷
      "15 ld:16:0001fff0:j alu:17 ren:18:00010020 ren:19:00010024 fet:00010028 fet:0001002c" ∷
      "16 done:17 alu:18 alu:19" ∷
      "17 done:18 done:19 res:18:T bp:11:2 sq:3 fet:00010010 fet:00010018" ∷
      "18 fill:0001fff0 done:8 done:16 ren:20:00010010 ren:21:00010018 fet:0001001c fet:00010020" ∷
      "19 alu:20 ld:21:0001fff0:h ren:22:0001001c ren:23:00010020 fet:00010010 fet:00010018" ∷
      "20 done:20 res:20:T bp:7:3 alu:22 ren:24:00010010 fet:0001001c fet:00010020" ∷
      "21 done:21 done:22 alu:23 alu:24 fet:00010010 fet:00010018" ∷
      "22 done:23 done:24 res:23:T bp:11:3 fet:0001001c fet:00010020" ∷
      "23 done:1 res:24:T bp:7:3 ret:1 alu:2 ren:25:00010018 fet:00010010 fet:00010018" ∷
      "24 done:2 ret:2 agu:3 ld:25:0001fff0:h ren:26:0001001c fet:0001001c" ∷
      "25 done:3 clr:3 vio:8 dp:6:1 sq:22 ret:3 st:3:0001fff0:h ret:4 fet:00010018 fet:0001001c" ∷
      "26 ren:27:00010018 ren:28:0001001c fet:00010020 fet:00010010" ∷
      "27 ld:27:0001fff0:h alu:28 ren:29:00010020 ren:30:00010010 fet:00010018 fet:0001001c" ∷
      "28 done:28 alu:29 alu:30 ren:31:00010018 ren:32:0001001c fet:00010020 fet:00010010" ∷
      "29 done:27 done:29 done:30 res:29:T bp:9:3 ret:27 ret:28 ld:31:0001fff0:h alu:32 ren:33:00010020 ren:34:00010010 fet:00010018 fet:0001001c" ∷
      "30 done:32 res:30:T bp:7:3 ret:29 ret:30 alu:33 alu:34 ren:35:00010018 ren:36:0001001c fet:00010020 fet:00010010" ∷
      "31 done:31 done:33 done:34 res:33:T bp:11:3 ret:31 ret:32 ld:35:0001fff0:h alu:36 ren:37:00010020 ren:38:00010010 fet:00010018 fet:0001001c" ∷
      "32 done:36 res:34:T bp:7:3 ret:33 ret:34 alu:37 alu:38 ren:39:00010018 ren:40:0001001c fet:00010020 fet:00010010" ∷
      "33 done:35 done:37 done:38 res:37:T bp:11:3 ret:35 ret:36 ld:39:0001fff0:h alu:40 ren:41:00010020 ren:42:00010010 fet:00010018 fet:0001001c" ∷
      "34 done:40 res:38:T bp:7:3 ret:37 ret:38 alu:41 alu:42 ren:43:00010018 ren:44:0001001c fet:00010020 fet:00010010" ∷
      "35 done:39 done:41 done:42 res:41:N bp:11:2 sq:5 ret:39 ret:40 fet:00010024 fet:00010028" ∷
      "36 ret:41 ren:45:00010024 fet:0001002c" ∷
      "37 alu:45" ∷
      "38 done:45 ret:45 ren:46:00010028" ∷
      "39 ret:46 call:46:0" ∷
      "end exit 0 retired 22 cycles 39" ∷
      []);
}
