-- A pass over cells, step by step.
use Rattle.std.proofs.Common.{◌≡◌, ◌≢◌, ℕ, ◌+◌, ◌<◌, ◌≤◌, Bool, true, false, not, ◌&&◌, cond, List, length, get_or, set, refl, sym, ◌∙◌, ◌⊎◌, inl, inr, arith, length-set, get_or-set_same, get_or-set_other, subst}
use Rattle.std.proofs.lemmas.Bool.{cases_eq, cases_lt}
use Rattle.elf_loader.specs.inner.Filling.{Fills}

-- a cell that isn't both left and covered keeps its value, and its place
kept : {X : Type 0} (l c : Bool) (v x : X) → (l ≡ false) ⊎ (c ≡ false) → x ≡ cond (l && c) v x
kept false c v x h = refl
kept true false v x h = refl
kept true true v x (inl e) = absurd (cc)
kept true true v x (inr e) = absurd (cc)

kept_place : (l c : Bool) → (l ≡ false) ⊎ (c ≡ false) → l ≡ (l && not c)
kept_place false c h = refl
kept_place true false h = refl
kept_place true true (inl e) = absurd (cc)
kept_place true true (inr e) = absurd (cc)

-- cells that are not left or not covered may be passed over
skip_cell : {X : Type 0} (covered : ℕ → Bool) (value : ℕ → X) (done : ℕ) (old new : List X) (left left' : List Bool) → Fills covered value done old new left left'
    → (k : ℕ) (d : X) → k < length old → (k < done) ⊎ (done ≤ k) → (done ≤ k → (get_or left' k false ≡ false) ⊎ (covered k ≡ false))
    → get_or new k d ≡ cond (get_or left k false && covered k) (value k) (get_or old k d)
skip_cell covered value done old new left left' h k d b (inl l) none = h.cells k d l b
skip_cell covered value done old new left left' h k d b (inr l) none =
    h.rest_cells k d l ∙ kept (get_or left k false) (covered k) (value k) (get_or old k d) (subst (λ (v : Bool). (v ≡ false) ⊎ (covered k ≡ false)) (h.rest_places k l) (none l))

skip_place : {X : Type 0} (covered : ℕ → Bool) (value : ℕ → X) (done : ℕ) (old new : List X) (left left' : List Bool) → Fills covered value done old new left left'
    → (k : ℕ) → (k < done) ⊎ (done ≤ k) → (done ≤ k → (get_or left' k false ≡ false) ⊎ (covered k ≡ false))
    → get_or left' k false ≡ (get_or left k false && not (covered k))
skip_place covered value done old new left left' h k (inl l) none = h.places k l
skip_place covered value done old new left left' h k (inr l) none =
    h.rest_places k l ∙ kept_place (get_or left k false) (covered k) (subst (λ (v : Bool). (v ≡ false) ⊎ (covered k ≡ false)) (h.rest_places k l) (none l))

pub fills_skip : {X : Type 0} (covered : ℕ → Bool) (value : ℕ → X) (done to : ℕ) (old new : List X) (left left' : List Bool) → Fills covered value done old new left left'
    → done ≤ to → ((k : ℕ) → done ≤ k → k < to → (get_or left' k false ≡ false) ⊎ (covered k ≡ false)) → Fills covered value to old new left left'
fills_skip covered value done to old new left left' h up none = record {
  size = h.size;
  room = h.room;
  cells = λ k d a b. skip_cell covered value done old new left left' h k d b (cases_lt k done) (λ l. none k l a);
  places = λ k a. skip_place covered value done old new left left' h k (cases_lt k done) (λ l. none k l a);
  rest_cells = λ k d a. h.rest_cells k d (omega arith);
  rest_places = λ k a. h.rest_places k (omega arith);
}

-- a cell that is left and covered is filled and taken
filled : {X : Type 0} (l c : Bool) (v x : X) → l ≡ true → c ≡ true → v ≡ cond (l && c) v x
filled true true v x a b = refl
filled true false v x a b = absurd (cc)
filled false c v x a b = absurd (cc)

filled_place : (l c : Bool) → l ≡ true → c ≡ true → false ≡ (l && not c)
filled_place true true a b = refl
filled_place true false a b = absurd (cc)
filled_place false c a b = absurd (cc)

fill_cell : {X : Type 0} (covered : ℕ → Bool) (value : ℕ → X) (at : ℕ) (old new : List X) (left left' : List Bool) → Fills covered value at old new left left'
    → at < length old → covered at ≡ true → get_or left' at false ≡ true → (k : ℕ) (d : X) → k < at + 1 → k < length old → (k ≡ at) ⊎ (k ≢ at)
    → get_or (set new at (value at)) k d ≡ cond (get_or left k false && covered k) (value k) (get_or old k d)
fill_cell {X} covered value at old new left left' h l c here k d a b (inl e) =
    let l2 : at < length new = omega (arith, h.size) in
    let was : get_or left at false ≡ true = sym (h.rest_places at (omega arith)) ∙ here in
    let P : ℕ → Type 0 = λ j. get_or (set new at (value at)) j d ≡ cond (get_or left j false && covered j) (value j) (get_or old j d) in
    subst P (sym e) (get_or-set_same new at (value at) d l2 ∙ filled (get_or left at false) (covered at) (value at) (get_or old at d) was c)
fill_cell covered value at old new left left' h l c here k d a b (inr n) =
    get_or-set_other new at k (value at) d n ∙ h.cells k d (omega arith) b

fill_place : {X : Type 0} (covered : ℕ → Bool) (value : ℕ → X) (at : ℕ) (old new : List X) (left left' : List Bool) → Fills covered value at old new left left'
    → at < length left → covered at ≡ true → get_or left' at false ≡ true → (k : ℕ) → k < at + 1 → (k ≡ at) ⊎ (k ≢ at)
    → get_or (set left' at false) k false ≡ (get_or left k false && not (covered k))
fill_place covered value at old new left left' h l c here k a (inl e) =
    let l2 : at < length left' = omega (arith, h.room) in
    let was : get_or left at false ≡ true = sym (h.rest_places at (omega arith)) ∙ here in
    let P : ℕ → Type 0 = λ j. get_or (set left' at false) j false ≡ (get_or left j false && not (covered j)) in
    subst P (sym e) (get_or-set_same left' at false false l2 ∙ filled_place (get_or left at false) (covered at) was c)
fill_place covered value at old new left left' h l c here k a (inr n) =
    get_or-set_other left' at k false false n ∙ h.places k (omega arith)

pub fills_more : {X : Type 0} (covered : ℕ → Bool) (value : ℕ → X) (at : ℕ) (old new : List X) (left left' : List Bool) → Fills covered value at old new left left'
    → at < length old → at < length left → covered at ≡ true → get_or left' at false ≡ true → Fills covered value (at + 1) old (set new at (value at)) left (set left' at false)
fills_more covered value at old new left left' h l l2 c here = record {
  size = length-set new at (value at) ∙ h.size;
  room = length-set left' at false ∙ h.room;
  cells = λ k d a b. fill_cell covered value at old new left left' h l c here k d a b (cases_eq k at);
  places = λ k a. fill_place covered value at old new left left' h l2 c here k a (cases_eq k at);
  rest_cells = λ k d a. let n : k ≢ at = omega arith in get_or-set_other new at k (value at) d n ∙ h.rest_cells k d (omega arith);
  rest_places = λ k a. let n : k ≢ at = omega arith in get_or-set_other left' at k false false n ∙ h.rest_places k (omega arith);
}
