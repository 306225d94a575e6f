-- What a step puts out, and the bytes that it publishes: those are equal, and lose their marks.
use Rattle.std.proofs.Common.{◌≡◌, ℕ, ◌-◌, Bool, true, false, List, [], ◌⊎◌, inl, inr, length, take, drop, Option, Some, None, refl, ap, sym, ◌∙◌, subst}
use Rattle.std.specs.Prelude.{if◌then◌else◌, nat_le}
use Rattle.rv_types.specs.Causes.{jump_misaligned}
use Rattle.rv_types.specs.Isa.{Effect, Hart, Step, Goes, Exits, Traps, goes_to, or_trap, other_step, reg}
use Rattle.rv_types.specs.Path.{pass_fault, state_past_access}
use Rattle.rv_types.specs.declared.Cause.{Cause}
use Rattle.rv_types.specs.declared.Instr.{Instr}
use Rattle.secret_marks.specs.Alike.{Beside, SameByte}
use Rattle.secret_marks.specs.Published.{Public, public_piece, unmarked_at}
use Rattle.secret_marks.proofs.Outputs.{of_nothing}
use Rattle.secret_marks.proofs.Publish.{unmarks}
use Rattle.constant_time.specs.PathMarks.{PathMarks, after_instr, after_step}
use Rattle.constant_time.proofs.Sources.{StatesAlike}

-- ---- steps that put out nothing

-- a step that goes on puts out nothing
abbrev pub Silent : Step → Type 0
Silent (Goes t p) = p ≡ []
Silent _ = Unit {0}

-- what is no load, store or call puts out nothing
pub silent_other : (s : Hart) (rd : Option ℕ) (e : Effect) → Silent (other_step s rd e)
silent_other s rd e = by_jump e.misaligned
  where
    by_jump : (c : Bool) → Silent (if c then Traps jump_misaligned else Goes (goes_to s rd e) [])
    by_jump true = tt
    by_jump false = refl

-- a load or store puts out nothing
pub silent_or : (f : Option Cause) (t : Hart) → Silent (or_trap f (Goes t []))
silent_or None t = refl
silent_or (Some c) t = tt

-- so does a step that passes a fault over
pub silent_passed : (b : Bool) (s : Hart) (i : Instr) (t : Step) → Silent t → Silent (if b then pass_fault s i t else t)
silent_passed false s i t h = h
silent_passed true s i (Goes t p) h = h
silent_passed true s i (Exits v t) h = tt
silent_passed true s i (Traps c) h = by_cause (nat_le 4 c.number)
  where
    by_cause : (x : Bool) → Silent (if x then Goes (state_past_access s i) [] else Traps c)
    by_cause true = refl
    by_cause false = tt

-- ---- two steps

-- where the first step goes on, so does the second
abbrev pub GoesWith : Step → Step → Type 0
GoesWith (Goes t p) (Goes t2 p2) = Unit {0}
GoesWith (Goes t p) _ = ⊥
GoesWith _ _ = Unit {0}

-- accesses that fault alike go on alike
pub with_or : (f f2 : Option Cause) → f ≡ f2 → (t t2 : Step) → GoesWith t t2 → GoesWith (or_trap f t) (or_trap f2 t2)
with_or None None e t t2 h = h
with_or (Some c) f2 e t t2 h = tt
with_or None (Some c) e t t2 h = absurd (cc)

-- instructions that jump alike go on alike
pub with_other : (s s2 : Hart) (rd rd2 : Option ℕ) (e e2 : Effect) → e.misaligned ≡ e2.misaligned → GoesWith (other_step s rd e) (other_step s2 rd2 e2)
with_other s s2 rd rd2 e e2 q = by_jump e.misaligned e2.misaligned q
  where
    by_jump : (c c2 : Bool) → c ≡ c2 → GoesWith (if c then Traps jump_misaligned else Goes (goes_to s rd e) []) (if c2 then Traps jump_misaligned else Goes (goes_to s2 rd2 e2) [])
    by_jump false false q = tt
    by_jump true c2 q = tt
    by_jump false true q = absurd (cc)

-- two steps put out as many bytes to one stream, which both memories have behind them from a1 on
pub record WroteAlike (s s2 t t2 : Hart) (p p2 : List ℕ) : Type 0 where
  pub stream : reg s.regs 10 ≡ reg s2.regs 10
  pub place : reg s.regs 11 - s.ram.base ≡ reg s2.regs 11 - s2.ram.base
  pub size : length p ≡ length p2
  pub bytes : take (length p) (drop (reg s.regs 11 - s.ram.base) t.ram.bytes) ≡ p
  pub bytes2 : take (length p2) (drop (reg s2.regs 11 - s2.ram.base) t2.ram.bytes) ≡ p2

-- two steps that go on put out nothing, or write alike
abbrev pub PiecesAlike : Hart → Hart → Step → Step → Type 0
PiecesAlike s s2 (Goes t p) (Goes t2 p2) = ((p ≡ []) × (p2 ≡ [])) ⊎ WroteAlike s s2 t t2 p p2
PiecesAlike s s2 _ _ = Unit {0}

-- two steps that put out nothing put out alike
pub both_silent : (s s2 : Hart) (t t2 : Step) → Silent t → Silent t2 → PiecesAlike s s2 t t2
both_silent s s2 (Goes t p) (Goes t2 p2) h h2 = inl (h, h2)
both_silent s s2 (Goes t p) (Exits v t2) h h2 = tt
both_silent s s2 (Goes t p) (Traps c) h h2 = tt
both_silent s s2 (Exits v t) t2 h h2 = tt
both_silent s s2 (Traps c) t2 h h2 = tt

module _ (public : Public) (s s2 t t2 : Hart) (p p2 : List ℕ) where
  -- what both steps publish has one length
  pub published_length : PiecesAlike s s2 (Goes t p) (Goes t2 p2) → length (public_piece public s p) ≡ length (public_piece public s2 p2)
  published_length (inl e) = ap length (of_nothing public s p e.0 ∙ sym (of_nothing public s2 p2 e.1))
  published_length (inr w) = by_stream (public (reg s.regs 10)) (public (reg s2.regs 10)) (ap public w.stream)
    where
      by_stream : (b b2 : Bool) → b ≡ b2 → length (if b then p else []) ≡ length (if b2 then p2 else [])
      by_stream true true q = w.size
      by_stream false false q = refl
      by_stream true false q = absurd (cc)
      by_stream false true q = absurd (cc)

  module _ (i : Instr) (m : PathMarks) (h : StatesAlike (after_instr s i m) t t2) where
    -- both memories are alike behind the steps where these bytes have lost their marks
    abbrev Out : List ℕ → Type 0
    Out q = Beside SameByte (unmarked_at (reg s.regs 11 - s.ram.base) q (after_instr s i m).bytes) t.ram.bytes t2.ram.bytes

    wrote : WroteAlike s s2 t t2 p p2 → p ≡ p2 → Out p
    wrote w q =
        let at : ℕ = reg s.regs 11 - s.ram.base in
        let b = ap (λ n. take n (drop at t2.ram.bytes)) w.size ∙ ap (λ i. take (length p2) (drop i t2.ram.bytes)) w.place ∙ w.bytes2 in
        unmarks at p (after_instr s i m).bytes t.ram.bytes t2.ram.bytes h.bytes (w.bytes ∙ q ∙ sym b) (ap length w.bytes)

    none : (q : List ℕ) → q ≡ [] → Out q
    none q z = subst Out (sym z) h.bytes

    by_pieces : PiecesAlike s s2 (Goes t p) (Goes t2 p2) → public_piece public s p ≡ public_piece public s2 p2 → Out (public_piece public s p)
    by_pieces (inl z) e = none (public_piece public s p) (of_nothing public s p z.0)
    by_pieces (inr w) e = by_stream (public (reg s.regs 10)) (public (reg s2.regs 10)) (ap public w.stream) e
      where
        by_stream : (b b2 : Bool) → b ≡ b2 → (if b then p else []) ≡ (if b2 then p2 else []) → Out (if b then p else [])
        by_stream true true q e = wrote w e
        by_stream false b2 q e = none [] refl
        by_stream true false q e = absurd (cc)

    -- what both steps publish loses its marks where it is equal
    pub published_alike : PiecesAlike s s2 (Goes t p) (Goes t2 p2) → public_piece public s p ≡ public_piece public s2 p2 → StatesAlike (after_step public s i p m) t t2
    published_alike a e = record { pc = h.pc; regs = h.regs; place = h.place; bytes = by_pieces a e }
