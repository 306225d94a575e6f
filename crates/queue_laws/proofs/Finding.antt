-- Who is found in a queue is who is found in the window, by a test of what both show.
use Rattle.std.proofs.Common.{◌≡◌, ◌≢◌, ℕ, Bool, true, false, cond, ◌&&◌, List, [], ◌∷◌, ◌++◌, Option, Some, refl, ap, ap₂, ◌∙◌, arith}
use Rattle.std.specs.Prelude.{map, ◌==◌}
use Rattle.std.specs.List.{filter, find}
use Rattle.std.specs.Option.{option_map}
use Rattle.std.proofs.lemmas.List.Elements.{All-head, All-tail}
use Rattle.std.proofs.lemmas.Bool.Decides.{nat_tests}
use Rattle.window_model.specs.declared.Entry.{Entry}
use Rattle.queue_laws.specs.Window.{Others}

-- a queue shows f of its items, a window g of its entries of the kind t
module _ {Q S : Type 0} (f : Q → S) (g : Entry → S) (t : Entry → Bool) where
  abbrev shown_in : List Entry → List S
  shown_in es = map g (filter t es)

  map_found : (b : Bool) (q : Q) (o : Option Q) (r : Option S) → option_map f o ≡ r → option_map f (cond b (Some q) o) ≡ cond b (Some (f q)) r
  map_found true q o r h = refl
  map_found false q o r h = h

  found_map : (P : S → Bool) (qs : List Q) → option_map f (find (λ q. P (f q)) qs) ≡ find P (map f qs)
  found_map P [] = refl
  found_map P (q ∷ qs) = map_found (P (f q)) q (find (λ q. P (f q)) qs) (find P (map f qs)) (found_map P qs)

  test_found : (b : Bool) (e : Entry) (r : Option S) (o : Option Entry) → r ≡ option_map g o → cond b (Some (g e)) r ≡ option_map g (cond b (Some e) o)
  test_found true e r o h = refl
  test_found false e r o h = h

  found_one : (P : S → Bool) (b : Bool) (e : Entry) (fs : List Entry) (o : Option Entry) → find P (map g fs) ≡ option_map g o →
      find P (map g (cond b (e ∷ fs) fs)) ≡ option_map g (cond (b && P (g e)) (Some e) o)
  found_one P true e fs o h = test_found (P (g e)) e (find P (map g fs)) o h
  found_one P false e fs o h = h

  found_in : (P : S → Bool) (es : List Entry) → find P (shown_in es) ≡ option_map g (find (λ e. t e && P (g e)) es)
  found_in P [] = refl
  found_in P (e ∷ es) = found_one P (t e) e (filter t es) (find (λ e. t e && P (g e)) es) (found_in P es)

  -- by a test of what is shown
  pub found_as : (P : S → Bool) (qs : List Q) (es : List Entry) → map f qs ≡ shown_in es → option_map f (find (λ q. P (f q)) qs) ≡ option_map g (find (λ e. t e && P (g e)) es)
  found_as P qs es h = found_map P qs ∙ ap (find P) h ∙ found_in P es

  -- ---- by serials

  module _ (sn : S → ℕ) (of_entry : (e : Entry) → sn (g e) ≡ e.serial) where
    none_other : (b c : Bool) (x : Entry) (o : Option Entry) → c ≡ false → cond (b && c) (Some x) o ≡ o
    none_other true c x o h = ap (λ c. cond c (Some x) o) h
    none_other false c x o h = refl

    found_past : (old : List Entry) (e : Entry) (young : List Entry) → t e ≡ true → Others e.serial old → find (λ x. t x && sn (g x) == e.serial) (old ++ e ∷ young) ≡ Some e
    found_past [] e young k o =
        let own : (e.serial == e.serial) ≡ true = grind (arith, nat_tests) in
        ap₂ (λ a b. cond (a && b) (Some e) (find (λ x. t x && sn (g x) == e.serial) young)) k (ap (λ m. m == e.serial) (of_entry e) ∙ own)
    found_past (x ∷ old) e young k o =
        let ne = All-head (λ (x : Entry). x.serial ≢ e.serial) x old o in
        let b : (x.serial == e.serial) ≡ false = grind (arith, nat_tests) in
        none_other (t x) (sn (g x) == e.serial) x _ (ap (λ m. m == e.serial) (of_entry x) ∙ b)
        ∙ found_past old e young k (All-tail (λ (x : Entry). x.serial ≢ e.serial) x old o)

    -- the one of an entry's serial is found
    pub own_found : (qs : List Q) (old : List Entry) (e : Entry) (young : List Entry) → map f qs ≡ shown_in (old ++ e ∷ young) → t e ≡ true → Others e.serial old →
        option_map f (find (λ q. sn (f q) == e.serial) qs) ≡ Some (g e)
    own_found qs old e young h k o = found_as (λ s. sn s == e.serial) qs (old ++ e ∷ young) h ∙ ap (option_map g) (found_past old e young k o)
