-- Rename and Fetch look at neither registers nor memory, and at no outcome.
use Rattle.std.proofs.Common.{◌≡◌, ℕ, zero, suc, Bool, true, false, List, [], ◌∷◌, ◌++◌, map, Option, Some, None, refl, ap, sym, ◌∙◌, length, append_assoc}
use Rattle.std.specs.Prelude.{if◌then◌else◌, nat_lt}
use Rattle.std.proofs.lemmas.List.{append-nil, map-append}
use Rattle.rv_types.specs.Memory.{Code, Ram}
use Rattle.machine_desc.specs.declared.Desc.{Desc}
use Rattle.window_model.specs.declared.Entry.{Entry}
use Rattle.window_model.specs.declared.Item.{Item}
use Rattle.window_model.specs.State.{Machine, After, then_does, nothing}
use Rattle.window_model.specs.Rename.{rename, rename_up_to, rename_from, rename_one, entry_of_item, fits}
use Rattle.window_model.specs.Fetch.{fetch, fetch_up_to, fetch_from, fetch_one, item_at}
use Rattle.two_runs.specs.Laws.{FetchAlike, RenameAlike}
use Rattle.two_runs.specs.Seen.{Adds, after_data, with_data, without_outcome}
use Rattle.two_runs.proofs.Choices.{if_both}
use Rattle.two_runs.proofs.Fitting.{same_fits}

-- the registers, memory and window of the other machine
module _ (regs : List ℕ) (ram : Ram) where
  -- ---- Rename as a whole

  -- what is left of Rename adds the same entries to both machines
  abbrev AddsAlike : (Machine → After) → Type 0
  AddsAlike more = (w : List Entry) (x : Machine) → map without_outcome x.window ≡ map without_outcome w → Adds regs ram x.window w (more x) (more (with_data regs ram w x))

  none_added : AddsAlike nothing
  none_added w x h = record {
    new = [];
    plain = refl;
    window = sym (append-nil x.window);
    same = ap (λ w. after_data regs ram w (nothing x)) (sym (append-nil w));
  }

  -- windows that are equal but for outcomes are so with one more entry
  one_more : (e : Entry) (w w2 : List Entry) → map without_outcome w ≡ map without_outcome w2 → map without_outcome (w ++ e ∷ []) ≡ map without_outcome (w2 ++ e ∷ [])
  one_more e w w2 h = map-append without_outcome w (e ∷ []) ∙ ap (λ t. t ++ map without_outcome (e ∷ [])) h ∙ sym (map-append without_outcome w2 (e ∷ []))

  one_added : (d : Desc) (more : Machine → After) → AddsAlike more → (i : Item) (rest : List Item) (w : List Entry) (x : Machine) → map without_outcome x.window ≡ map without_outcome w →
      Adds regs ram x.window w (then_does (rename_one d i rest x) more) (then_does (rename_one d i rest (with_data regs ram w x)) more)
  one_added d more f i rest w x h =
      let e = entry_of_item d x.next_serial i in
      let y = rename_one d i rest x in
      let r = f (w ++ e ∷ []) y.machine (one_more e x.window w h) in
      record {
        new = e ∷ r.new;
        plain = ap (λ t. e ∷ t) r.plain;
        window = r.window ∙ append_assoc x.window (e ∷ []) r.new;
        same = ap (λ (a : After). then_does y (λ m. a)) r.same ∙ ap (λ t. after_data regs ram t (then_does y more)) (append_assoc w (e ∷ []) r.new);
      }

  from_queue : (d : Desc) (more : Machine → After) → AddsAlike more → (q : List Item) (w : List Entry) (x : Machine) → map without_outcome x.window ≡ map without_outcome w →
      Adds regs ram x.window w (rename_from d q x more) (rename_from d q (with_data regs ram w x) more)
  from_queue d more f [] w x h = none_added w x h
  from_queue d more f (i ∷ rest) w x h =
      if_both (Adds regs ram x.window w) (fits d x.window i) (fits d w i) _ _ _ _ (sym (same_fits d x.window i) ∙ ap (λ ts. fits d ts i) h ∙ same_fits d w i)
      (λ z. one_added d more f i rest w x h) (λ z. none_added w x h)

  rename_times : (d : Desc) (n : ℕ) → AddsAlike (rename_up_to d n)
  rename_times d zero w x h = none_added w x h
  rename_times d (suc n) w x h = from_queue d (rename_up_to d n) (rename_times d n) x.queue w x h

  -- ---- Fetch as a whole

  -- what is left of Fetch does to both machines the same
  abbrev FetchesAlike : (Machine → After) → Type 0
  FetchesAlike more = (w : List Entry) (x : Machine) → more (with_data regs ram w x) ≡ after_data regs ram w (more x)

  fetch_if : (d : Desc) (more : Machine → After) → FetchesAlike more → (b : Bool) (item : Item) (w : List Entry) (x : Machine) →
      (if b then then_does (fetch_one d item (with_data regs ram w x)) more else nothing (with_data regs ram w x)) ≡ after_data regs ram w (if b then then_does (fetch_one d item x) more else nothing x)
  fetch_if d more h true item w x = ap (λ (a : After). then_does (fetch_one d item x) (λ m. a)) (h w (fetch_one d item x).machine)
  fetch_if d more h false item w x = refl

  from_pc : (d : Desc) (code : Code) (more : Machine → After) → FetchesAlike more → (o : Option ℕ) (w : List Entry) (x : Machine) →
      fetch_from d code o (with_data regs ram w x) more ≡ after_data regs ram w (fetch_from d code o x more)
  from_pc d code more h None w x = refl
  from_pc d code more h (Some pc) w x = fetch_if d more h (nat_lt (length x.queue) d.core_queue) (item_at d code x pc) w x

  fetch_times : (d : Desc) (code : Code) (n : ℕ) → FetchesAlike (fetch_up_to d code n)
  fetch_times d code zero w x = refl
  fetch_times d code (suc n) w x = from_pc d code (fetch_up_to d code n) (fetch_times d code n) x.fetch_pc w x

-- two machines that differ in registers, memory and outcomes alone get the same new entries from Rename
pub rename_alike : RenameAlike
unfolding rename
rename_alike d regs ram w x h = rename_times regs ram d d.core_fetch_width w x h

-- two machines that differ in registers, memory and window alone do so after Fetch
pub fetch_alike : FetchAlike
unfolding fetch
fetch_alike d code regs ram w x = fetch_times regs ram d code d.core_fetch_width w x
