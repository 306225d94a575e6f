-- What the path of small programs tells, step by step. The first step has number 1; the secret byte is 17, at 0x1fff8.
use Rattle.std.specs.Prelude.{◌≡◌, ◌<◌, ◌^◌, ℕ, All, true, List, [], ◌∷◌, length, Option, Some, None}
use Rattle.std.specs.Option.{option_map}
use Rattle.rv_types.specs.declared.Kind.TheVariants.{Call, Load, Store}
use Rattle.machine_desc.specs.declared.Desc.{Desc}
use Rattle.machine_desc.specs.declared.SttModel.{SttModel}
use Rattle.machine_desc.specs.declared.SttModel.TheVariants.{Spectre, Futuristic}
use Rattle.rv_types.specs.Isa.{isa_step, start}
use Rattle.rv_types.specs.Path.{pass_step}
use Rattle.window_model.proofs.Worked.{bounds_check, branch, code_of, divisor, fault, injection, memory}
use Rattle.window_model.specs.Cycle.{trace}
use Rattle.window_model.specs.Delay.{delays}
use Rattle.window_model.specs.Path.{path}
use Rattle.window_model.specs.Taint.{protects}
use Rattle.secret_marks.specs.Cipher.{cipher, memory_with_key, no_key, table, the_key}
use Rattle.secret_marks.specs.Programs as program
use Rattle.secret_marks.specs.Published.{Public, no_stream}
use Rattle.secret_marks.specs.Worked.{stream_two, the_secret}
use Rattle.constant_time.specs.declared.FirstStep.{FirstStep}
use Rattle.constant_time.specs.PathMarks.{first_marks, first_shown, path_ends}

-- what shows first in 60 steps of these words on a model's path, where this bound stands at 0x1fff0
abbrev pub told_on : SttModel → Public → List ℕ → ℕ → Option FirstStep
told_on model public words bound =
    let m = memory bound 17 in first_shown public (path model) (code_of words) 60 1 (start 0x10000 m) (first_marks the_secret m)

-- the number of the first of these steps in which the secret shows
abbrev pub first_on : SttModel → Public → List ℕ → ℕ → Option ℕ
first_on model public words bound = option_map (λ (f : FirstStep). f.step) (told_on model public words bound)

-- the secret shows in the step of this number first
abbrev pub Shows : ℕ → List ℕ → ℕ → Type 0
Shows step words bound = first_on Futuristic no_stream words bound ≡ Some step

-- the secret shows in none of the first 60 steps
abbrev pub Hides : List ℕ → ℕ → Type 0
Hides words bound = first_on Futuristic no_stream words bound ≡ None

-- a division by the secret: lbu x6,8(x2); div x7,x2,x6; addi x10,x0,0; addi x17,x0,93; ecall
abbrev pub divides_by : List ℕ
divides_by = 0x00814303 ∷ 0x026143b3 ∷ 0x00000513 ∷ 0x05d00893 ∷ 0x00000073 ∷ []

-- the programs whose path shows the secret, with the first step that does
pub record PathsThatShow : Type 0 where
  -- the base of a load, and of a store
  pub looked_up : Shows 3 program.lookup 0
  pub stored_to : Shows 3 program.address 0
  pub stored_told : told_on Futuristic no_stream program.address 0 ≡ Some (record { step = 3; kind = Store; pc = 0x10008 })
  -- a branch, the target of a JALR, a dividend, the value of an exit
  pub branches : Shows 5 branch 1
  pub jumps : Shows 6 injection 1
  pub divides : Shows 5 divisor 1
  pub exits : Shows 3 program.exits 0
  pub exit_told : told_on Futuristic no_stream program.exits 0 ≡ Some (record { step = 3; kind = Call; pc = 0x10008 })
  -- the base behind a bounds check that is passed
  pub passed : Shows 7 bounds_check 1
  -- the secret, followed through memory by bytes and half words, by a second source, a sign and a carry
  pub forwarded : Shows 6 program.forwarded 0
  pub stored : Shows 7 program.stored 0
  pub upper_half : Shows 7 program.upper_half 0
  pub second : Shows 4 program.second 0
  pub sign : Shows 5 program.sign 0
  pub carry : Shows 5 program.carry 0
  -- behind a call
  pub called : Shows 5 program.called 0
  -- behind a load that faults: on the path that passes it over alone
  pub behind_fault : first_on Spectre no_stream fault 0 ≡ Some 6
  pub no_further : first_on Futuristic no_stream fault 0 ≡ None

-- the programs whose path doesn't show the secret
pub record PathsThatHide : Type 0 where
  -- what a bounds check that fails leaves out: no wrong path is walked
  pub bypassed : Hides bounds_check 0
  -- a choice by a mask, arithmetic, and a divisor
  pub selects : Hides program.select 0
  pub mixes : Hides program.mixes 0
  pub divides_by_secret : Hides divides_by 0
  -- public bytes of a word that has a secret one, and the answer of a call
  pub lower_half : Hides program.lower_half 0
  pub public_byte : Hides program.public_byte 0
  pub answered : Hides program.answered 0

-- what the path tells where stream 2 is public
pub record PathsThatPublish : Type 0 where
  -- a secret that is published and loaded anew shows no more; nor does the branch on a verdict, and the exit with it
  pub published : first_on Futuristic stream_two program.published 0 ≡ None
  pub verdict : first_on Futuristic stream_two program.verdict 0 ≡ None
  pub in_time : first_on Futuristic stream_two program.too_early 0 ≡ None
  -- without a public stream they do
  pub published_marked : Shows 10 program.published 0
  pub verdict_marked : Shows 10 program.verdict 0
  pub in_time_marked : Shows 11 program.too_early 0
  -- another stream publishes nothing, nor does a write that goes beyond memory; a register keeps its marks, and so do
  -- bytes beside those that are written
  pub other_stream : first_on Futuristic stream_two program.other_stream 0 ≡ Some 10
  pub outside : first_on Futuristic stream_two program.outside 0 ≡ Some 10
  pub kept : first_on Futuristic stream_two program.kept 0 ≡ Some 9
  pub in_part : first_on Futuristic stream_two program.in_part 0 ≡ Some 11

-- ---- a cipher, and a look-up in a table

-- the run of the cipher with the key 0 ends within 60 steps
abbrev pub CipherEnds : Type 0
CipherEnds = path_ends pass_step (code_of cipher) 60 (start 0x10000 (memory_with_key no_key)) ≡ true

-- two rounds of XTEA have one trace for all keys, of any number of cycles, on every core with a model that protects and
-- the defence `delay`
abbrev pub CipherOnEveryCore : Type 0
CipherOnEveryCore = (d : Desc) (n : ℕ) → protects d.stt_model ≡ true → delays d.stt_defence ≡ true →
    (key : List ℕ) → length key ≡ 8 → All (λ b. b < 2 ^ 8) key →
    trace d (code_of cipher) 0x10000 (memory_with_key key) n ≡ trace d (code_of cipher) 0x10000 (memory_with_key no_key) n

-- a look-up by a byte of the key shows in the step that loads from the table, the fourth
abbrev pub TableShows : Type 0
TableShows =
    first_shown no_stream isa_step (code_of table) 10 1 (start 0x10000 (memory_with_key no_key)) (first_marks the_key (memory_with_key no_key))
    ≡ Some (record { step = 4; kind = Load; pc = 0x1000c })
