-- Visible loads of both runs have read the same, so all outcomes that may be looked at are equal.
use Rattle.std.proofs.Common.{◌≡◌, ℕ, ◌+◌, ◌≤◌, Bool, true, not, List, [], ◌∷◌, length, map, refl, ap, sym, ◌∙◌, subst, arith}
use Rattle.std.specs.Prelude.{is_some}
use Rattle.std.specs.List.{AllByRecursion as All}
use Rattle.std.proofs.lemmas.List.{length-map}
use Rattle.rv_types.specs.Decode.{decode}
use Rattle.rv_types.specs.Memory.{Code}
use Rattle.rv_types.specs.Path.{loads_at}
use Rattle.rv_types.specs.declared.Kind.{Kind}
use Rattle.rv_types.specs.declared.Kind.TheVariants.{Load, Store}
use Rattle.machine_desc.specs.declared.Desc.{Desc}
use Rattle.machine_desc.specs.declared.SttModel.{SttModel}
use Rattle.window_model.specs.declared.Entry.{Entry}
use Rattle.window_model.specs.declared.Outcome.{Outcome}
use Rattle.window_model.specs.declared.Progress.{Progress}
use Rattle.window_model.specs.declared.Progress.TheVariants.{Waiting, Busy, Done}
use Rattle.window_model.specs.State.{Machine}
use Rattle.window_model.specs.Order.{has_address, has_data, is_load}
use Rattle.window_model.specs.Retire.{hart_of}
use Rattle.window_model.specs.Taint.{protects, visible}
use Rattle.window_model.specs.Rename.{at_once}
use Rattle.window_model.specs.Committed.{Aligned}
use Rattle.window_model.specs.Path.{path}
use Rattle.window_model.proofs.Lists.{each_left}
use Rattle.committed_state.specs.Replay.{Bank, bank, effect_on, replay_outcome, replayed_as}
use Rattle.committed_state.proofs.Known.{replayed_behind}
use Rattle.committed_state.specs.Computed.{ComesTo, as_known, as_known_by}
use Rattle.committed_state.specs.Consistent.{FitsParts, FitsState, all_issued, all_issued_by, bank_in, is_issued}
use Rattle.noninterference.specs.Alike.{without_outcome}
use Rattle.noninterference.specs.Outcomes.{SameOutcomes}
use Rattle.noninterference.specs.InStep.{byte, InStep}
use Rattle.two_runs.proofs.Looking.{same_visible}
use Rattle.noninterference.proofs.Looking.{seen_by_outcomes}
use Rattle.noninterference.proofs.Derive.{AllSameReads, derive}
use Rattle.noninterference.proofs.Loads.{is_load_kind, is_load_instr, word_of, load_same}
use Rattle.noninterference.proofs.OneRun.{OneRun, older}
use Rattle.noninterference.proofs.Onward.{leads_on}
use Rattle.noninterference.proofs.PathLink.{leads_to, visible_clear}
use Rattle.noninterference.proofs.Faults.{hart}
use Rattle.noninterference.proofs.Replays.{same_outcome}

-- where all of an entry has issued in one run it has in the other, by its progress
all_alike : (st : Progress) (e e2 : Entry) → FitsState st e → FitsState st e2 → at_once e.item.kind ≡ at_once e2.item.kind → all_issued e ≡ all_issued e2
all_alike Waiting e e2 f f2 k = f.0 ∙ sym f2.0
all_alike (Busy due) e e2 f f2 k = f.0 ∙ sym f2.0
all_alike Done e e2 f f2 k = f.0 ∙ ap not k ∙ sym f2.0

issued_by : (k : Kind) (a c i j : Bool) → FitsParts k a c i → FitsParts k a c j → all_issued_by k a c i ≡ all_issued_by k a c j → i ≡ j
issued_by Store a c i j p p2 h = p ∙ sym p2
issued_by _ a c i j p p2 h = h

issued_alike : (e e2 : Entry) → without_outcome e ≡ without_outcome e2 → FitsParts e.item.kind (has_address e) (has_data e) (is_issued e) → FitsParts e2.item.kind (has_address e2) (has_data e2) (is_issued e2) → FitsState e.state e → FitsState e2.state e2 → is_issued e ≡ is_issued e2
issued_alike e e2 h p p2 f f2 =
    let P : Entry → Type 0 = λ t. FitsParts t.item.kind (has_address t) (has_data t) (is_issued e2) in
    let A : Entry → Bool = λ t. all_issued_by t.item.kind (has_address t) (has_data t) (is_issued e2) in
    let all = all_alike e.state e e2 f (subst (λ st. FitsState st e2) (sym (ap (λ (t : Entry). t.state) h)) f2) (ap (λ (t : Entry). at_once t.item.kind) h) in
    issued_by e.item.kind (has_address e) (has_data e) (is_issued e) (is_issued e2) p (subst P (sym h) p2) (all ∙ ap A (sym h))

-- the whole outcome of a load is known
of_load : (e : Entry) (v : Outcome) → e.item.kind ≡ Load → ComesTo e.outcome (as_known e v) → ComesTo e.outcome v
of_load e v k c = subst (ComesTo e.outcome) (ap (λ k. as_known_by k (has_address e) (has_data e) v) k) c

module _ (now : ℕ) (d : Desc) (protected : protects d.stt_model ≡ true) (code : Code) (aligned : Aligned code) (x x2 : Machine) (limit : ℕ) (n : length x.regs ≡ 32) (n2 : length x2.regs ≡ 32) (in_step : (k : ℕ) → k ≤ limit → InStep (path d.stt_model) code k (hart_of x) (hart_of x2)) where
  abbrev model : SttModel
  model = d.stt_model

  abbrev s : Bank
  s = bank_in (hart_of x)

  abbrev s2 : Bank
  s2 = bank_in (hart_of x2)

  abbrev One : List Entry → Type 0
  One = OneRun now d code x

  abbrev Two : List Entry → Type 0
  Two = OneRun now d code x2

  -- a visible load reads the same in both runs, whose paths lead to it in step
  visible_load : (b b2 : List Entry) (e e2 : Entry) → length b + 1 ≤ limit → One (e ∷ b) → Two (e2 ∷ b2) → length b ≡ length b2 → without_outcome e ≡ without_outcome e2 → is_some e.outcome ≡ is_some e2.outcome → visible model b ≡ true → visible model b2 ≡ true → is_load e.item.kind ≡ true → e.outcome ≡ e2.outcome
  visible_load b b2 e e2 lt w w2 l h i v v2 k =
      let t = hart e.item.pc (bank s b) in
      let t2 = hart e2.item.pc (bank s2 b2) in
      let one = leads_to now d protected code aligned s n x.pc b e.item.pc w.stands.1 w.linked.1 w.stands.0.through v w.linked.0 in
      let two = leads_to now d protected code aligned s2 n2 x2.pc b2 e2.item.pc w2.stands.1 w2.linked.1 w2.stands.0.through v2 w2.linked.0 in
      let there = leads_on model code 1 (length b) (hart_of x) (hart_of x2) t t2 (in_step (length b + 1) lt) one (rw l two) in
      let f : effect_on (bank s b) e ≡ effect_on (bank s2 b2) e2 = (let g = there.regs in let q = ap (λ (x : Entry). x.item) h in cc) in
      let word = word_of code e is_load w.stands.0.item (λ c. refl) k in
      let kl : e.item.kind ≡ Load = is_load_kind e.item.kind k in
      let kl2 : e2.item.kind ≡ Load = sym (ap (λ (x : Entry). x.item.kind) h) ∙ kl in
      let q = ap (λ o. loads_at o t) word.1 ∙ is_load_instr (decode word.0) (sym word.3 ∙ kl) (bank s b) e word.2 in
      let bytes = subst (All (λ a. byte (bank s b).ram a ≡ byte (bank s2 b2).ram a)) q (each_left _ (loads_at (code e.item.pc) t) _ there.bytes) in
      let same = load_same (bank s b) (bank s2 b2) e e2 there.place (ap (λ (x : Entry). x.item.instr) h) f bytes in
      let r = of_load e (replay_outcome (bank s b) e) kl ((replayed_behind d code s now n (e ∷ b) w.stands).0 (visible_clear model b protected v)) in
      let r2 = of_load e2 (replay_outcome (bank s2 b2) e2) kl2 ((replayed_behind d code s2 now n2 (e2 ∷ b2) w2.stands).0 (visible_clear model b2 protected v2)) in
      same_outcome e.outcome e2.outcome (replay_outcome (bank s b) e) (replay_outcome (bank s2 b2) e2) i r r2
      (λ y. ap (λ k. replayed_as k (bank s b) e) kl ∙ same ∙ ap (λ k. replayed_as k (bank s2 b2) e2) (sym kl2))

  derived : (b b2 : List Entry) → One b → Two b2 → AllSameReads model b b2 → SameOutcomes model b b2
  derived b b2 w w2 a = let start = in_step 0 (omega arith) in derive now d code x x2 start.regs start.place b b2 a w w2

  same_reads : (b b2 : List Entry) → length b ≤ limit → One b → Two b2 → map without_outcome b ≡ map without_outcome b2 → AllSameReads model b b2
  same_reads [] [] lt w w2 h = tt
  same_reads (e ∷ b) (e2 ∷ b2) lt w w2 h =
      let h1 : without_outcome e ≡ without_outcome e2 = cc in
      let h2 : map without_outcome b ≡ map without_outcome b2 = cc in
      let rest = same_reads b b2 (omega (arith, lt)) (older now d code x e b w) (older now d code x2 e2 b2 w2) h2 in
      let same = derived b b2 (older now d code x e b w) (older now d code x2 e2 b2 w2) rest in
      let l : length b ≡ length b2 = sym (length-map b without_outcome) ∙ ap length h2 ∙ length-map b2 without_outcome in
      let i = issued_alike e e2 h1 w.stands.0.parts w2.stands.0.parts w.stands.0.state w2.stands.0.state in (
        record {
          but_outcome = h1;
          issued = i;
          reads = λ k v. visible_load b b2 e e2 (omega (arith, lt)) w w2 l h1 i v (sym (same_visible model b b2 (seen_by_outcomes model b b2 same)) ∙ v) k;
        },
        rest,
      )
  same_reads _ _ lt w w2 h = absurd (cc)

  -- two runs whose paths run in step have equal outcomes where they may be looked at
  pub same_window : (b b2 : List Entry) → length b ≤ limit → One b → Two b2 → map without_outcome b ≡ map without_outcome b2 → SameOutcomes model b b2
  same_window b b2 lt w w2 h = derived b b2 w w2 (same_reads b b2 lt w w2 h)
