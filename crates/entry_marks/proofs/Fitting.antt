-- The stores that retire lie within memory, where memory takes each Done store without a fault.
use Rattle.std.proofs.Common.{◌≡◌, ℕ, zero, suc, ◌+◌, ◌-◌, ◌≤◌, Bool, true, false, ◌&&◌, ◌||◌, List, [], ◌∷◌, ◌++◌, length, Option, Some, None, slice_get, refl, ap, sym, subst, ◌∙◌, ◌⊎◌, inl, inr, arith, length-append}
use Rattle.std.specs.Prelude.{if◌then◌else◌}
use Rattle.std.specs.List.{AllByRecursion as Each}
use Rattle.rv_types.specs.Isa.{Step, Goes, Exits, Traps, call}
use Rattle.rv_types.specs.Memory.{Ram, store_fault}
use Rattle.rv_types.specs.declared.Cause.{Cause}
use Rattle.rv_types.specs.declared.End.{End}
use Rattle.rv_types.specs.declared.Kind.{Kind}
use Rattle.rv_types.specs.declared.Kind.TheVariants.{Store, Call}
use Rattle.machine_desc.specs.declared.Desc.{Desc}
use Rattle.window_model.specs.declared.Entry.{Entry}
use Rattle.window_model.specs.State.{Machine}
use Rattle.rv_types.specs.Value.{bytes_in}
use Rattle.window_model.specs.Order.{is_done, is_store, fault_of}
use Rattle.window_model.specs.Retire.{Retired, addr_of, call_leaves, hart_of, head_leaves, head_turn, may_leave, retire, stays, store_waits, then_retires, trap_as, trap_of, turn, turns, unless_ended, byte_count}
use Rattle.secret_marks.specs.declared.EntryMarks.{EntryMarks}
use Rattle.entry_marks.specs.declared.oldest.LeavingEntry.{LeavingEntry}
use Rattle.entry_marks.specs.Oldest.{InsideEach, IsCopiedFrom, done_heads}
use Rattle.entry_marks.proofs.Before.{found_at}
use Rattle.std.proofs.lemmas.Option.{slice_get_within}
use Rattle.window_model.proofs.Memory.{inside}

first_of : (a b : Bool) → (a && b) ≡ true → a ≡ true
first_of true b h = refl
first_of false b h = absurd (cc)

-- the entry may leave, and ends no run as a trap
abbrev pub Leaves : Entry → Type 0
Leaves e = (may_leave e ≡ true) × (trap_of e ≡ None)

-- the entries that are gone from the front of the window all may leave
pub record Went (window after : List Entry) : Type 0 where
  pub gone : List Entry
  pub is : window ≡ gone ++ after
  pub leaves : Each Leaves gone

stayed : (window after : List Entry) → window ≡ after → Went window after
stayed window after same = record { gone = []; is = same; leaves = tt }

one_went : (e : Entry) (rest after : List Entry) → Leaves e → Went rest after → Went (e ∷ rest) after
one_went e rest after it w = record { gone = e ∷ w.gone; is = ap (λ es. e ∷ es) w.is; leaves = (it, w.leaves) }

-- ---- the turns of Retire

-- a call that retires leaves the entries behind it; one that traps would leave all
call_went : (e : Entry) (rest : List Entry) (x : Machine) (s : Step) → ((call_leaves e rest x s).machine.window ≡ rest) ⊎ ((call_leaves e rest x s).machine.window ≡ x.window)
call_went e rest x (Goes s piece) = inl refl
call_went e rest x (Exits v s) = inl refl
call_went e rest x (Traps cause) = inr refl

-- a head of any kind that retires leaves the entries behind it; a call that traps would leave all
head_went : (k : Kind) (d : Desc) (e : Entry) (rest : List Entry) (x : Machine) →
    ((head_leaves k d e rest x).machine.window ≡ rest) ⊎ ((head_leaves k d e rest x).machine.window ≡ x.window)
head_went Store d e rest x = inl refl
head_went Call d e rest x = call_went e rest x (call (hart_of x))
head_went _ d e rest x = inl refl

module _ (d : Desc) (more : Bool → Machine → Retired) (later : (stored : Bool) (x : Machine) → Went x.window (more stored x).machine.window) where
  -- a head that may leave, and the turns behind it, let entries go that may leave
  next_went : (stored : Bool) (e : Entry) (rest : List Entry) (x : Machine) → x.window ≡ e ∷ rest → Leaves e →
      Went (e ∷ rest) (more stored (head_leaves e.item.kind d e rest x).machine).machine.window
  next_went stored e rest x is it =
      let y = (head_leaves e.item.kind d e rest x).machine in
      elim (head_went e.item.kind d e rest x) [
        | inl h ↦ one_went e rest _ it (subst (λ es. Went es (more stored y).machine.window) h (later stored y))
        | inr h ↦ subst (λ es. Went es (more stored y).machine.window) (h ∙ is) (later stored y)
      ]

  unless_waits : (b stored : Bool) (e : Entry) (rest : List Entry) (x : Machine) → x.window ≡ e ∷ rest → Leaves e →
      Went (e ∷ rest) (if b then stays x else then_retires (head_leaves e.item.kind d e rest x) (more stored)).machine.window
  unless_waits true stored e rest x is it = stayed _ _ (sym is)
  unless_waits false stored e rest x is it = next_went stored e rest x is it

  unless_traps : (stored : Bool) (trap : Option Cause) (e : Entry) (rest : List Entry) (x : Machine) → x.window ≡ e ∷ rest → may_leave e ≡ true →
      trap_of e ≡ trap → Went (e ∷ rest) (turn d stored trap e rest x more).machine.window
  unless_traps stored (Some cause) e rest x is may t = stayed _ _ (sym is)
  unless_traps stored None e rest x is may t = unless_waits (store_waits stored e) (stored || is_store e.item.kind) e rest x is (may, t)

  if_may : (b stored : Bool) (e : Entry) (rest : List Entry) (x : Machine) → x.window ≡ e ∷ rest → may_leave e ≡ b →
      Went (e ∷ rest) (if b then turn d stored (trap_of e) e rest x more else stays x).machine.window
  if_may true stored e rest x is may = unless_traps stored (trap_of e) e rest x is may refl
  if_may false stored e rest x is may = stayed _ _ (sym is)

  turn_went : (stored : Bool) (window : List Entry) (x : Machine) → x.window ≡ window → Went window (head_turn d stored window x more).machine.window
  turn_went stored [] x is = stayed _ _ (sym is)
  turn_went stored (e ∷ rest) x is = if_may (may_leave e) stored e rest x is refl

  running_went : (end : Option End) (stored : Bool) (x : Machine) → Went x.window (unless_ended end (stays x) (head_turn d stored x.window x more)).machine.window
  running_went None stored x = turn_went stored x.window x refl
  running_went (Some end) stored x = stayed _ _ refl

turns_went : (d : Desc) (n : ℕ) (stored : Bool) (x : Machine) → Went x.window (turns d n stored x).machine.window
turns_went d zero stored x = stayed _ _ refl
turns_went d (suc n) stored x = running_went d (turns d n) (turns_went d n) x.end stored x

-- the window that Retire leaves is the one before without its oldest entries, each of which may leave
pub retire_went : (d : Desc) (x : Machine) → Went x.window (retire d x).machine.window
unfolding retire
retire_went d x = turns_went d d.core_retire_width false x

-- ---- who retires is Done

all_done : (gone after : List Entry) → Each Leaves gone → length gone ≤ done_heads (gone ++ after)
all_done [] after h = omega arith
all_done (e ∷ gone) after h =
    let more = all_done gone after h.1 in
    subst (λ b. suc (length gone) ≤ (if b then suc (done_heads (gone ++ after)) else 0)) (sym (first_of (is_done e.state) _ h.0.0)) (omega (arith, more))

-- Retire takes no more entries than are Done from the oldest on
pub done_taken : (d : Desc) (x : Machine) → length x.window - length (retire d x).machine.window ≤ done_heads x.window
done_taken d x =
    let w = retire_went d x in
    let many = ap (λ es. length es) w.is ∙ length-append w.gone (retire d x).machine.window in
    let heads = ap done_heads w.is in
    let done = all_done w.gone (retire d x).machine.window w.leaves in
    omega (arith, many, heads, done)

-- ---- the stores among the entries that retire

-- memory takes what the entry writes, if it is a Done store without a fault
abbrev pub Takes : Ram → Entry → Type 0
Takes ram e = is_store e.item.kind ≡ true → is_done e.state ≡ true → fault_of e.outcome ≡ None → store_fault ram (addr_of e.outcome) (byte_count e) ≡ None

-- what holds of each entry holds of the one at a position
pub each_at : (P : Entry → Type 0) (es : List Entry) → Each P es → (i : ℕ) (e : Entry) → slice_get es i ≡ Some e → P e
each_at P [] h i e at = absurd (cc)
each_at P (y ∷ es) h zero e at = let same : y ≡ e = cc in subst P same h.0
each_at P (y ∷ es) h (suc i) e at = each_at P es h.1 i e at

get_left : (es more : List Entry) (i : ℕ) (e : Entry) → slice_get es i ≡ Some e → slice_get (es ++ more) i ≡ Some e
get_left [] more i e at = absurd (cc)
get_left (y ∷ es) more zero e at = at
get_left (y ∷ es) more (suc i) e at = get_left es more i e at

-- an access that memory takes lies within it
fits : (ram : Ram) (a n : ℕ) → store_fault ram a n ≡ None → (a - ram.base) + n ≤ length ram.bytes
fits ram a n h = let within = inside _ _ ram a n h in omega (arith, within)

done_store : (ram : Ram) (e : Entry) → e.item.kind ≡ Store → Leaves e → Takes ram e → (addr_of e.outcome - ram.base) + byte_count e ≤ length ram.bytes
done_store ram e k it takes =
    fits ram (addr_of e.outcome) (byte_count e)
    (takes (ap is_store k) (first_of (is_done e.state) _ it.0) (sym (ap (λ k. trap_as k e) k) ∙ it.1))

-- marks of memory have a place for each byte of the stores that retire
pub stores_inside : (d : Desc) (x : Machine) (marks : List EntryMarks) (copies : List LeavingEntry) (n : ℕ) → IsCopiedFrom x.window marks copies →
    Each (Takes x.ram) x.window → n ≡ length x.window - length (retire d x).machine.window → InsideEach x.ram.base (length x.ram.bytes) n copies
stores_inside d x marks copies n copied takes count i copy lt at = λ k.
    let w = retire_went d x in
    let many = ap (λ es. length es) w.is ∙ length-append w.gone (retire d x).machine.window in
    let (e, here) = found_at w.gone i (omega (arith, lt, count, many)) in
    let here2 = ap (λ es. slice_get es i) w.is ∙ get_left w.gone _ i e here in
    let within = slice_get_within x.window i e here2 in
    let (mark, here3) = found_at marks i (omega (arith, within, copied.step)) in
    let it = copied.each i e mark copy here2 here3 at in
    let bound = done_store x.ram e (sym it.kind ∙ k) (each_at Leaves w.gone w.leaves i e here) (each_at (Takes x.ram) x.window takes i e here2) in
    subst (λ a. (a - x.ram.base) + bytes_in copy.width ≤ length x.ram.bytes) (sym it.addr)
    (subst (λ b. (addr_of e.outcome - x.ram.base) + b ≤ length x.ram.bytes) (sym it.width) bound)
