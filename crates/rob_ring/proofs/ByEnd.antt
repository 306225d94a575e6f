-- The position of an entry of which the serial is known.
use Rattle.std.proofs.Common.{◌≡◌, ◌≢◌, ℕ, zero, suc, ◌<◌, List, [], ◌∷◌, length, take, get_or, Some, refl, ap, sym, subst, ◌∙◌, arith, slice_get}
use Rattle.std.specs.List.{All}
use Rattle.std.proofs.lemmas.List.Elements.{All-cons, All-nil, All-weaker}
use Rattle.std.proofs.lemmas.Option.{slice_get-get_or}
use Rattle.std.specs.Option.{option_map}
use Rattle.std.proofs.Math.Seq.{take-append_seam}
use Rattle.window_model.specs.declared.Entry.{Entry}
use Rattle.window_model.specs.Serials.{Rise, below}
use Rattle.window_model.proofs.Serials.{place_of, rise_head, splits}

module _ (serial : ℕ) where
  entry_at : (es : List Entry) (i : ℕ) → option_map (λ e. e.serial) (slice_get es i) ≡ Some serial → (e : Entry) × (slice_get es i ≡ Some e) × (e.serial ≡ serial)
  entry_at [] i h = absurd (cc)
  entry_at (e ∷ es) zero h = (e, refl, cc)
  entry_at (e ∷ es) (suc i) h = entry_at es i h

  pub within_at : (es : List Entry) (i : ℕ) → option_map (λ e. e.serial) (slice_get es i) ≡ Some serial → i < length es
  within_at [] i h = absurd (cc)
  within_at (e ∷ es) zero h = omega arith
  within_at (e ∷ es) (suc i) h = let lt = within_at es i h in omega (arith, lt)

  pub count_at : (es : List Entry) (i : ℕ) → Rise es → option_map (λ e. e.serial) (slice_get es i) ≡ Some serial → i ≡ length (below serial es)
  count_at es i r h =
      let e = entry_at es i h in
      sym (place_of es i e.0 r e.1) ∙ ap (λ s. length (below s es)) e.2

  pub older_at : (es : List Entry) (i : ℕ) → Rise es → option_map (λ e. e.serial) (slice_get es i) ≡ Some serial → take i es ≡ below serial es
  older_at es i r h =
      let s = splits serial es r in
      ap (λ n. take n es) (count_at es i r h) ∙ ap (take (length (below serial es))) s.whole ∙ take-append_seam (below serial es) s.gone

  pub serial_at : (es : List Entry) (i : ℕ) (e : Entry) → slice_get es i ≡ Some e → e.serial ≡ serial → option_map (λ e. e.serial) (slice_get es i) ≡ Some serial
  serial_at es i e is same = ap (option_map (λ e. e.serial)) is ∙ ap Some same

  -- no entry has the serial, where the one in the serial's place has another
  pub lacks : (es : List Entry) → Rise es → ((e : Entry) → slice_get es (length (below serial es)) ≡ Some e → e.serial ≢ serial) → All (λ e. e.serial ≢ serial) es
  lacks es r other k d lt same =
      let is = slice_get-get_or es k d lt in
      let at = count_at es k r (serial_at es k (get_or es k d) is same) in
      other (get_or es k d) (subst (λ n. slice_get es n ≡ Some (get_or es k d)) at is) same

  -- no entry has the serial, where the oldest one's is above it
  pub lacks_before : (es : List Entry) (head : Entry) → Rise es → slice_get es 0 ≡ Some head → serial < head.serial → All (λ e. e.serial ≢ serial) es
  lacks_before [] head r h lower = absurd (cc)
  lacks_before (e ∷ es) head r h lower =
      let is : e ≡ head = cc in
      let below_it : serial < e.serial = subst (λ (e : Entry). serial < e.serial) (sym is) lower in
      All-cons (λ e. e.serial ≢ serial) e es (λ same. absurd (omega (arith, below_it, same)))
      (All-weaker (λ d. e.serial < d.serial) (λ d. d.serial ≢ serial) (λ d higher same. absurd (omega (arith, below_it, higher, same))) es (rise_head e es r))

  -- where there is no entry none has the serial
  pub lacks_all : (es : List Entry) → length es ≡ 0 → All (λ e. e.serial ≢ serial) es
  lacks_all [] none = All-nil (λ e. e.serial ≢ serial)
  lacks_all (e ∷ es) none = absurd (omega (arith, none))
