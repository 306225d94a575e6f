-- What the instructions of loads and stores say.
use Rattle.std.proofs.Common.{◌≡◌, ℕ, Bool, true, false, List, Option, Some, None, refl, ap, sym, ◌∙◌, subst}
use Rattle.std.specs.Prelude.{◌%◌, ◌==◌}
use Rattle.std.specs.List.{list_any, AllByRecursion as All}
use Rattle.rv_types.specs.Word.{word}
use Rattle.rv_types.specs.Decode.{decode}
use Rattle.rv_types.specs.Kind.{kind_of}
use Rattle.rv_types.specs.Regs.{reads_of}
use Rattle.rv_types.specs.Causes.{jump_misaligned, outside_code}
use Rattle.rv_types.specs.Memory.{Code, load_fault, range, bytes_at}
use Rattle.rv_types.specs.Path.{loads_of, unless_fault}
use Rattle.rv_types.specs.Isa.{Effect, effect}
use Rattle.rv_types.specs.declared.Cause.{Cause}
use Rattle.rv_types.specs.declared.Instr.{Instr}
use Rattle.rv_types.specs.declared.Kind.{Kind}
use Rattle.rv_types.specs.declared.Kind.TheVariants.{Load, Stop}
use Rattle.rv_types.specs.declared.Instr.TheVariants as instr
use Rattle.machine_desc.specs.declared.SttModel.{SttModel}
use Rattle.window_model.specs.declared.Entry.{Entry}
use Rattle.window_model.specs.Order.{base_of, is_load}
use Rattle.window_model.specs.Retire.{byte_count, width_in}
use Rattle.window_model.specs.Taint.{tainted, any_tainted, address_tainted}
use Rattle.window_model.specs.Fetch.{instr_at, kind_at}
use Rattle.window_model.specs.Shape.{SameShape}
use Rattle.window_model.proofs.KindTests.{jal_kind, op_is}
use Rattle.window_model.proofs.Memory.{inside}
use Rattle.committed_state.specs.Computed.{Bank, outcome_as}
use Rattle.committed_state.specs.Replay.{effect_on, replayed_as}
use Rattle.committed_state.proofs.Computed.{access_effect, is_access, outcome_same}
use Rattle.committed_state.specs.Consistent.{IsItem}
use Rattle.noninterference.specs.InStep.{byte}
use Rattle.noninterference.proofs.SameBytes.{same_bytes}

-- a load of equal bytes has one outcome
pub load_same : (s s2 : Bank) (e e2 : Entry) → SameShape s.ram s2.ram → e.item.instr ≡ e2.item.instr → effect_on s e ≡ effect_on s2 e2 →
    All (λ a. byte s.ram a ≡ byte s2.ram a) (unless_fault (load_fault s.ram (effect_on s e).addr (byte_count e)) (range (effect_on s e).addr (byte_count e))) → replayed_as Load s e ≡ replayed_as Load s2 e2
load_same s s2 e e2 p i f b =
    let a = (effect_on s e).addr in
    let w = byte_count e in
    let bytes = λ (n : load_fault s.ram a w ≡ None).
    let r = inside _ _ s.ram a w n in
    ap (λ (f : Effect). bytes_at s2.ram f.addr w) (sym f) ∙ sym (same_bytes s.ram s2.ram a w p r.0 r.1 (subst (λ c. All (λ a. byte s.ram a ≡ byte s2.ram a) (unless_fault c (range a w))) n b)) in
    sym (outcome_same s.ram s2.ram e.item.instr p Load (effect_on s e) (effect_on s2 e2) _ _ (sym f) (λ l n. bytes n)) ∙ ap (λ i. outcome_as Load s2.ram i (effect_on s2 e2) (bytes_at s2.ram (effect_on s2 e2).addr (width_in i))) i

-- the bytes that a load's instruction loads in a step are those of its access in the replay
pub is_load_instr : (i : Instr) → kind_of i ≡ Load → (s : Bank) (e : Entry) → e.item.instr ≡ i →
    loads_of (record { pc = e.item.pc; regs = s.regs; ram = s.ram }) i ≡ unless_fault (load_fault s.ram (effect_on s e).addr (byte_count e)) (range (effect_on s e).addr (byte_count e))
is_load_instr (instr.Load op rd rs1 imm) k s e q = rw q refl
is_load_instr (instr.Jal rd imm) k s e q = absurd (let j = jal_kind is_load (word imm % 4 == 0) jump_misaligned refl refl in let t = ap is_load k in cc)
is_load_instr (instr.OpReg o rd rs1 rs2) k s e q = absurd (let j = op_is is_load o refl refl refl in let t = ap is_load k in cc)
is_load_instr _ k s e q = absurd (cc)

-- what is no stop stands in the program, with its instruction
pub word_of : (code : Code) (e : Entry) (f : Kind → Bool) → IsItem code e.item → ((c : Cause) → f (Stop c) ≡ false) → f e.item.kind ≡ true → (w : ℕ) × (code e.item.pc ≡ Some w) × (e.item.instr ≡ decode w) × (e.item.kind ≡ kind_of (decode w))
word_of code e f item n k = by_word (code e.item.pc) refl
  where
    by_word : (o : Option ℕ) → code e.item.pc ≡ o → (w : ℕ) × (code e.item.pc ≡ Some w) × (e.item.instr ≡ decode w) × (e.item.kind ≡ kind_of (decode w))
    by_word None q = absurd (let z = item.kind ∙ ap kind_at q in let t = ap f z in let u = n outside_code in cc)
    by_word (Some w) q = (w, q, item.instr ∙ ap instr_at q, item.kind ∙ ap kind_at q)

-- a kind that is tested to be a load's is that of loads
pub is_load_kind : (k : Kind) → is_load k ≡ true → k ≡ Load
is_load_kind Load h = refl
is_load_kind _ h = absurd (cc)

-- the one source of a load is its base
one_source : (f : ℕ → Bool) (i : Instr) → kind_of i ≡ Load → list_any f (base_of (reads_of i)) ≡ list_any f (reads_of i)
one_source f (instr.Branch op rs1 rs2 imm) k = absurd (cc)
one_source f (instr.Store op rs1 rs2 imm) k = absurd (cc)
one_source f (instr.OpReg o rd rs1 rs2) k = absurd (let j = op_is is_load o refl refl refl in let t = ap is_load k in cc)
one_source f _ k = refl

-- ---- entries that are loads or stores

-- the address of an entry that is a load or store comes from its base alone
pub by_base : (code : Code) (e : Entry) → IsItem code e.item → is_access e.item.kind ≡ true → (pc a b c : ℕ) → (effect pc e.item.instr a b).addr ≡ (effect pc e.item.instr a c).addr
by_base code e item k pc a b c = (access_effect code e item k).addr pc a c b

-- a load whose base is untainted has no tainted operand
pub load_untainted : (code : Code) (model : SttModel) (b : List Entry) (e : Entry) → IsItem code e.item → is_load e.item.kind ≡ true → address_tainted model b e ≡ false → any_tainted model b e ≡ false
load_untainted code model b e item k t =
    let w = word_of code e is_load item (λ c. refl) k in
    sym (one_source (tainted model b) e.item.instr (ap kind_of w.2 ∙ sym w.3 ∙ is_load_kind e.item.kind k)) ∙ t
