-- Which entries the defence may keep, and which it keeps, by what is held back and visible.
use Rattle.std.proofs.Common.{◌≡◌, ℕ, Bool, true, false, not, ◌&&◌, List, [], ◌∷◌, Some, None, refl, ap, ap₂, sym, ◌∙◌}
use Rattle.std.specs.Prelude.{if◌then◌else◌}
use Rattle.std.specs.List.{list_all}
use Rattle.std.proofs.Math.Bool.{and-false}
use Rattle.machine_desc.specs.declared.Desc.{Desc}
use Rattle.machine_desc.specs.declared.SttModel.{SttModel}
use Rattle.machine_desc.specs.declared.SttModel.TheVariants.{Off}
use Rattle.window_model.specs.declared.Entry.{Entry}
use Rattle.window_model.specs.Along.{Behind, Fact}
use Rattle.window_model.specs.Order.{is_done, is_load, is_waiting, sources, writes}
use Rattle.window_model.specs.Ready.{all_known, gives, holds, is_held, is_known, ready}
use Rattle.window_model.specs.Taint.{protects, visible}
use Rattle.window_model.proofs.Booleans.{both}
use Rattle.slot_reasons.specs.Kept.{has_operands, is_asked, is_made, serial_kept, shows_as}

-- ---- tests of lists of registers

all_agree : (p q : ℕ → Bool) (rs : List ℕ) → ((r : ℕ) → p r ≡ q r) → list_all p rs ≡ list_all q rs
all_agree p q [] h = refl
all_agree p q (r ∷ rs) h = ap₂ (λ a b. a && b) (h r) (all_agree p q rs h)

all_then : (p q : ℕ → Bool) (rs : List ℕ) → ((r : ℕ) → p r ≡ true → q r ≡ true) → list_all p rs ≡ true → list_all q rs ≡ true
all_then p q [] h a = refl
all_then p q (r ∷ rs) h a = let t = both (p r) (list_all p rs) a in ap₂ (λ a b. a && b) (h r t.0) (all_then p q rs h t.1)

-- under a model that doesn't protect everything is visible
pub visible_all : (model : SttModel) (before : List Entry) → protects model ≡ false → visible model before ≡ true
visible_all Off [] h = refl
visible_all Off (e ∷ before) h = visible_all Off before h
visible_all _ before h = absurd (cc)

module _ (d : Desc) where
  -- ---- what is held back

  -- the entry's result isn't held back
  abbrev NotHeld : Fact
  NotHeld before e = is_held d before e ≡ false

  none_held : (before : List Entry) → holds d.stt_defence ≡ false → Behind NotHeld before
  none_held [] h = tt
  none_held (e ∷ before) h = (ap (λ b. b && is_load e.item.kind && not (visible d.stt_model before)) h, none_held before h)

  given : (before : List Entry) (r : ℕ) → Behind NotHeld before → is_known d before r ≡ is_made before r
  given [] r t = refl
  given (e ∷ before) r t = by_writes (writes r e) (given before r t.1)
    where
      by_writes : (b : Bool) → is_known d before r ≡ is_made before r → (if b then gives d before e else is_known d before r) ≡ (if b then is_done e.state else is_made before r)
      by_writes true h = ap (λ h. not h && is_done e.state) t.0
      by_writes false h = h

  -- what a writer gives is made
  pub known_made : (before : List Entry) (r : ℕ) → is_known d before r ≡ true → is_made before r ≡ true
  known_made [] r h = refl
  known_made (e ∷ before) r h = by_writes (writes r e) (known_made before r) h
    where
      by_writes : (b : Bool) → (is_known d before r ≡ true → is_made before r ≡ true) → (if b then gives d before e else is_known d before r) ≡ true → (if b then is_done e.state else is_made before r) ≡ true
      by_writes true rest h = (both (not (is_held d before e)) (is_done e.state) h).1
      by_writes false rest h = rest h

  -- what is known of each is made for each
  pub all_made : (before : List Entry) (rs : List ℕ) → all_known d before rs ≡ true → list_all (is_made before) rs ≡ true
  all_made before rs h = all_then (is_known d before) (is_made before) rs (known_made before) h

  -- ---- one entry

  module _ (before : List Entry) (e : Entry) where
    ready_given : Behind NotHeld before → ready d before e ≡ has_operands before e
    ready_given t = all_agree (is_known d before) (is_made before) (sources e) (λ r. given before r t)

    -- an entry that is visible isn't asked
    pub visible_passed : visible d.stt_model before ≡ true → is_asked d before e ≡ false
    visible_passed v = ap (λ v. is_waiting e.state && (has_operands before e && not v)) v ∙ none (is_waiting e.state) (has_operands before e)
      where
        none : (w h : Bool) → (w && (h && not true)) ≡ false
        none true true = refl
        none true false = refl
        none false h = refl

    -- an entry that doesn't wait isn't asked
    pub unwaiting_passed : is_waiting e.state ≡ false → is_asked d before e ≡ false
    unwaiting_passed w = ap (λ w. w && (has_operands before e && not (visible d.stt_model before))) w

    -- an entry that lacks something that it reads isn't asked
    pub lacks_passed : has_operands before e ≡ false → is_asked d before e ≡ false
    lacks_passed h = ap (λ h. is_waiting e.state && (h && not (visible d.stt_model before))) h ∙ and-false (is_waiting e.state)

    -- an entry that waits and isn't visible is asked where it has all that it reads
    pub asked_by : is_waiting e.state ≡ true → visible d.stt_model before ≡ false → has_operands before e ≡ is_asked d before e
    asked_by w v =
        sym (ap₂ (λ w v. w && (has_operands before e && not v)) w v ∙ as_it_is (has_operands before e))
      where
        as_it_is : (h : Bool) → (true && (h && not false)) ≡ h
        as_it_is true = refl
        as_it_is false = refl

    -- an entry that isn't ready lacks something that it reads, where no result is held back
    pub unready_lacks : holds d.stt_defence ≡ false → ready d before e ≡ false → has_operands before e ≡ false
    unready_lacks h r = sym (ready_given (none_held before h)) ∙ r

    -- an entry that is ready has all that it reads
    pub ready_has : ready d before e ≡ true → has_operands before e ≡ true
    ready_has r = all_made before (sources e) r

    -- the defence keeps an entry that isn't ready, or may not show what it shows
    pub kept_by : (a b : Bool) → ready d before e ≡ a → shows_as e.item.kind d before e ≡ b → serial_kept d before e ≡ (if a && b then None else Some e.serial)
    kept_by a b r s = ap₂ (λ r s. if r && s then None else Some e.serial) r s

    pub unready_kept : ready d before e ≡ false → Some e.serial ≡ serial_kept d before e
    unready_kept r = sym (kept_by false (shows_as e.item.kind d before e) r refl)
