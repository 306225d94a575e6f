-- What a head leaves in two runs in which it is one entry.
use Rattle.std.proofs.Common.{◌≡◌, ℕ, suc, ◌+◌, ◌≤◌, Bool, false, List, [], ◌∷◌, ◌++◌, length, map, Option, Some, None, refl, ap, sym, ◌∙◌, subst, arith}
use Rattle.std.specs.List.{fold}
use Rattle.std.proofs.lemmas.List.{length-append}
use Rattle.rv_types.specs.Regs.{writes_of}
use Rattle.rv_types.specs.Memory.{Code}
use Rattle.rv_types.specs.Isa.{Hart, Step, Goes, Exits, Traps, isa_step, with_reg}
use Rattle.rv_types.specs.declared.End.{End}
use Rattle.rv_types.specs.declared.End.TheVariants.{Exit}
use Rattle.rv_types.specs.declared.Kind.{Kind}
use Rattle.rv_types.specs.declared.Kind.TheVariants.{Store, Call}
use Rattle.machine_desc.specs.declared.Desc.{Desc}
use Rattle.window_model.specs.Retire.{has_line, Retired, turns, head_leaves, call_leaves, as_hart, then_retires, stays, hart_of, lines_in, with_line_touched}
use Rattle.window_model.specs.declared.Entry.{Entry}
use Rattle.window_model.specs.State.{Machine}
use Rattle.window_model.specs.Order.{value_of}
use Rattle.window_model.specs.Resolve.{next_of}
use Rattle.window_model.specs.Rename.{is_call}
use Rattle.window_model.specs.declared.Event.TheVariants as event
use Rattle.window_model.proofs.Calls.{CallDoes}
use Rattle.committed_state.specs.Consistent.{ConsistentIn}
use Rattle.committed_state.proofs.Calls.{turns_empty}
use Rattle.committed_state.proofs.Retire.{LeftAs}
use Rattle.noninterference.specs.Alike.{Alike, part_that_shows, without_outcome}
use Rattle.noninterference.specs.InStep.{InStepUpTo}
use Rattle.noninterference.specs.Together.{RetiresAlike}
use Rattle.noninterference.proofs.StepsAlike.{Moved, StepsAlike}
use Rattle.noninterference.proofs.Onward.{goes_on}
use Rattle.noninterference.proofs.Paths.{path_goes}

module _ (now : ℕ) (d : Desc) (code : Code) (total : ℕ) where
  -- what turns of Retire leave in both runs is alike
  abbrev pub R : Retired → Retired → Type 0
  R r r2 = RetiresAlike d.stt_model code total r r2

  -- no turn leaves both runs alike
  pub stays_alike : (x x2 : Machine) → Alike x x2 → InStepUpTo d.stt_model code total x x2 → R (stays x) (stays x2)
  stays_alike x x2 r a = record { alike = r; events = refl; piece = refl; in_step = λ n. a }

  -- a turn and the rest leave both runs alike, where the rest does and the turn has the same events
  then_alike : (r r2 : Retired) (more more2 : Machine → Retired) → r.events ≡ r2.events → length r.piece ≡ length r2.piece → R (more r.machine) (more2 r2.machine) → R (then_retires r more) (then_retires r2 more2)
  then_alike r r2 more more2 ev p h = record {
    alike = h.alike;
    events = ap (λ t. t ++ (more r.machine).events) ev ∙ ap (λ t. r2.events ++ t) h.events;
    piece = length-append r.piece (more r.machine).piece ∙ ap (λ n. n + length (more r.machine).piece) p ∙ ap (λ n. length r2.piece + n) h.piece ∙ sym (length-append r2.piece (more2 r2.machine).piece);
    in_step = h.in_step;
  }

  -- what is left of Retire leaves both runs alike, on machines that are alike, consistent and in step
  abbrev pub Follows : (Machine → Retired) → Type 0
  Follows more = (y y2 : Machine) → y.end ≡ None → ConsistentIn now d code y → ConsistentIn now d code y2 → y.retired + length y.window ≤ total → Alike y y2 → InStepUpTo d.stt_model code total y y2 → R (more y) (more y2)

  -- a step of both runs keeps them in step
  in_step_after : (x x2 y y2 : Machine) (p p2 : List ℕ) → InStepUpTo d.stt_model code total x x2 → isa_step code (hart_of x) ≡ Goes (hart_of y) p → isa_step code (hart_of x2) ≡ Goes (hart_of y2) p2 → y.retired ≡ x.retired + 1 → InStepUpTo d.stt_model code total y y2
  in_step_after x x2 y y2 p p2 a s s2 q n le =
      (goes_on d.stt_model code n (hart_of x) (hart_of x2) (hart_of y) (hart_of y2) p p2 (a (suc n) (omega (arith, q, le)))
      (path_goes d.stt_model code (hart_of x) (hart_of y) p s) (path_goes d.stt_model code (hart_of x2) (hart_of y2) p2 s2)).0

  -- the machine that a head leaves, which is no call and no store
  abbrev left : Entry → List Entry → Machine → Machine
  left e w m = record m { window = w; regs = with_reg m.regs (writes_of e.item.instr) (value_of e.outcome); pc = next_of e.outcome; retired = m.retired + 1 }

  abbrev left_store : Entry → List Entry → Machine → Machine
  left_store e w m = record (left e w m) { cache = fold (with_line_touched d) m.cache (lines_in d e) }

  -- a head that is no call leaves both runs alike
  pub left_turn : (k : Kind) (x x2 : Machine) (e : Entry) (rest rest2 : List Entry) (more : Machine → Retired) → is_call k ≡ false → LeftAs now d code k x e rest → LeftAs now d code k x2 e rest2 → x.end ≡ None → map without_outcome rest ≡ map without_outcome rest2 → x.retired + suc (length rest) ≤ total → Alike x x2 → InStepUpTo d.stt_model code total x x2 → Follows more →
      R (then_retires (head_leaves k d e rest x) more) (then_retires (head_leaves k d e rest2 x2) more)
  left_turn Call x x2 e rest rest2 more c l l2 n w le r a m = absurd (cc)
  left_turn Store x x2 e rest rest2 more c l l2 n w le r a m =
      let t = head_leaves Store d e rest x in
      let t2 = head_leaves Store d e rest2 x2 in
      then_alike t t2 more more
      (ap (λ (u : Machine). event.Ret e.serial ∷ map (λ line. event.St e.serial line (has_line d u.cache line)) (lines_in d e)) r) refl
      (m t.machine t2.machine n l.holds l2.holds (omega (arith, le)) (ap (left_store e (map without_outcome rest)) r ∙ ap (λ w. left_store e w (part_that_shows x2)) w) (in_step_after x x2 t.machine t2.machine [] [] a l.step l2.step refl))
  left_turn k x x2 e rest rest2 more c l l2 n w le r a m =
      let t = head_leaves k d e rest x in
      let t2 = head_leaves k d e rest2 x2 in
      then_alike t t2 more more refl refl
      (m t.machine t2.machine n l.holds l2.holds (omega (arith, le)) (ap (left e (map without_outcome rest)) r ∙ ap (λ w. left e w (part_that_shows x2)) w) (in_step_after x x2 t.machine t2.machine [] [] a l.step l2.step refl))

  -- what shows of the machine behind a call
  abbrev called : Machine → List ℕ → ℕ → ℕ → Bool → Option End → Machine
  called m g p b f o = record m { window = []; regs = g; pc = p; ram = record { base = b; bytes = []; misaligned = f }; retired = m.retired + 1; end = o }

  as_alike : (x x2 : Machine) (s s2 t t2 : Hart) (o : Option End) → Alike x x2 → Moved s s2 t t2 → Alike (as_hart t [] o x) (as_hart t2 [] o x2)
  as_alike x x2 s s2 t t2 o r v =
      let f = t.ram.misaligned in
      ap (λ m. called m t.regs t.pc t.ram.base f o) r
      ∙ ap (λ g. called (part_that_shows x2) g t.pc t.ram.base f o) v.regs
      ∙ ap (λ p. called (part_that_shows x2) t2.regs p t.ram.base f o) v.pc
      ∙ ap (λ b. called (part_that_shows x2) t2.regs t2.pc b f o) (sym v.place.base)
      ∙ ap (λ f. called (part_that_shows x2) t2.regs t2.pc t2.ram.base f o) (sym v.place.misaligned)

  -- a call leaves both runs alike
  pub call_turn : (x x2 : Machine) (e : Entry) (n : ℕ) (stored : Bool) (t t2 : Step) → isa_step code (hart_of x) ≡ t → isa_step code (hart_of x2) ≡ t2 → StepsAlike (hart_of x) (hart_of x2) t t2 → CallDoes (hart_of x) t → Alike x x2 → InStepUpTo d.stt_model code total x x2 →
      R (then_retires (call_leaves e [] x t) (turns d n stored)) (then_retires (call_leaves e [] x2 t2) (turns d n stored))
  call_turn x x2 e n stored (Goes t p) (Goes t2 p2) q q2 s c r a =
      let y = as_hart t [] None x in
      let y2 = as_hart t2 [] None x2 in
      then_alike (call_leaves e [] x (Goes t p)) (call_leaves e [] x2 (Goes t2 p2)) (turns d n stored) (turns d n stored)
      (ap (λ k. event.Ret e.serial ∷ event.Call e.serial k ∷ []) s.1) s.1
      (subst (λ u. R u (turns d n stored y2)) (sym (turns_empty d n stored y refl)) (subst (R (stays y)) (sym (turns_empty d n stored y2 refl))
      (stays_alike y y2 (as_alike x x2 (hart_of x) (hart_of x2) t t2 None r s.0) (in_step_after x x2 y y2 p p2 a q q2 refl))))
  call_turn x x2 e n stored (Exits v t) (Exits v2 t2) q q2 s c r a =
      let y = as_hart t [] (Some (Exit v)) x in
      let y2 = as_hart t2 [] (Some (Exit v2)) x2 in
      let al : Alike y y2 = as_alike x x2 (hart_of x) (hart_of x2) t t2 (Some (Exit v)) r s.1 ∙ ap (λ v. called (part_that_shows x2) t2.regs t2.pc t2.ram.base t2.ram.misaligned (Some (Exit v))) s.0 in
      then_alike (call_leaves e [] x (Exits v t)) (call_leaves e [] x2 (Exits v2 t2)) (turns d n stored) (turns d n stored) refl refl
      (subst (λ u. R u (turns d n stored y2)) (sym (turns_empty d n stored y refl)) (subst (R (stays y)) (sym (turns_empty d n stored y2 refl))
      (record { alike = al; events = refl; piece = refl; in_step = λ z. absurd (cc) })))
  call_turn x x2 e n stored (Traps z) t2 q q2 s c r a = absurd c
  call_turn x x2 e n stored (Goes t p) (Exits v t2) q q2 s c r a = absurd s
  call_turn x x2 e n stored (Goes t p) (Traps z) q q2 s c r a = absurd s
  call_turn x x2 e n stored (Exits v t) (Goes t2 p) q q2 s c r a = absurd s
  call_turn x x2 e n stored (Exits v t) (Traps z) q q2 s c r a = absurd s
