-- The positions of the puts are those of the entries that issue.
use Rattle.std.proofs.Common.{◌≡◌, ℕ, suc, ◌<◌, List, [], ◌∷◌, get_or, Option, None, Some, slice_get, refl, ap, sym, subst, ◌∙◌, ◌⊎◌, inl, inr, arith}
use Rattle.std.specs.Prelude.{◌≢◌}
use Rattle.std.specs.List.{All, AllPairs, Contains}
use Rattle.std.proofs.lemmas.Bool.{cases_eq}
use Rattle.std.proofs.lemmas.List.Elements.{All-cons, All-head, All-map, All-nil, All-tail}
use Rattle.std.proofs.lemmas.List.Kept.{AllPairs-cons}
use Rattle.circular_buffer.proofs.Places.{slice_get-set_other}
use Rattle.window_model.specs.declared.Entry.{Entry}
use Rattle.window_model.proofs.Lists.{set_here}
use Rattle.rob_ring.specs.Issued.{issued_of, with_issued}
use Rattle.rob_ring.specs.declared.issued.Issued.{Issued}
use Rattle.core_parts.specs.declared.decided.Put.{Put}
use Rattle.core_parts.specs.Described.{Described}
use Rattle.core_parts.specs.Held.{Held, Whole, described_of}
use Rattle.issue.specs.Named.{NamesIssued, positions_of}
use Rattle.issue.specs.Puts.{ArePuts, IsPut, issue_by, issue_in, window_with_puts}

-- a put leaves the entries at other positions as they are
put_elsewhere : (p : Put) (window : List Entry) (i : ℕ) → p.position ≢ i → slice_get (issue_in p window) i ≡ slice_get window i
put_elsewhere p window i h = by_entry (slice_get window p.position)
  where
    by_entry : (o : Option Entry) → slice_get (issue_by p window o) i ≡ slice_get window i
    by_entry None = refl
    by_entry (Some e) = slice_get-set_other window p.position i (with_issued p.issued e) (λ q. h (sym q))

-- an entry is as it was, or a put has its position
named_or : (puts : List Put) (window : List Entry) (i : ℕ) → (slice_get (window_with_puts puts window) i ≡ slice_get window i) ⊎ Contains (positions_of puts) i
named_or [] window i = inl refl
named_or (p ∷ puts) window i = elim (cases_eq p.position i) [
  | inl same ↦ inr (0, omega arith, same)
  | inr other ↦ elim (named_or puts window i) [
    | inl as_was ↦ inl (put_elsewhere p (window_with_puts puts window) i other ∙ as_was)
    | inr found ↦ let lt = found.1 in inr (suc found.0, omega (arith, lt), found.2)
  ]
]

pairs_tail : (p : Put) (puts : List Put) → AllPairs (λ p q. p.position < q.position) (p ∷ puts) → AllPairs (λ p q. p.position < q.position) puts
pairs_tail p puts a i j d lt within = a (suc i) (suc j) d (omega (arith, lt)) (omega (arith, within))

pairs_head : (p : Put) (puts : List Put) → AllPairs (λ p q. p.position < q.position) (p ∷ puts) → All (λ q. p.position < q.position) puts
pairs_head p puts a k d within = a 0 (suc k) d (omega arith) (omega (arith, within))

rise : (puts : List Put) → AllPairs (λ p q. p.position < q.position) puts → AllPairs (λ i j. i < j) (positions_of puts)
rise [] a = λ i j d lt within. absurd (omega (arith, within))
rise (p ∷ puts) a =
    AllPairs-cons (λ i j. i < j) p.position (positions_of puts) (All-map (λ i. p.position < i) (λ (q : Put). q.position) puts (pairs_head p puts a)) (rise puts (pairs_tail p puts a))

-- puts at other positions leave an entry as it is
as_it_was : (puts : List Put) (window : List Entry) (i : ℕ) → All (λ q. i < q.position) puts → slice_get (window_with_puts puts window) i ≡ slice_get window i
as_it_was [] window i a = refl
as_it_was (p ∷ puts) window i a =
    let lt = All-head (λ (q : Put). i < q.position) p puts a in
    put_elsewhere p (window_with_puts puts window) i (λ q. absurd (omega (arith, lt, q)))
    ∙ as_it_was puts window i (All-tail (λ (q : Put). i < q.position) p puts a)

some_issued : (o : Issued) (e : Entry) → Some (with_issued o e) ≡ Some e → o ≡ issued_of e
some_issued o e h = let same : with_issued o e ≡ e = cc in ap issued_of same

-- the window isn't as it was where an entry is put in its place
changes : (puts : List Put) (window : List Entry) → All (IsPut window) puts → AllPairs (λ p q. p.position < q.position) puts →
    All (λ (p : Put). slice_get (window_with_puts puts window) p.position ≢ slice_get window p.position) puts
changes [] window each a = All-nil (λ (p : Put). slice_get (window_with_puts [] window) p.position ≢ slice_get window p.position)
changes (p ∷ puts) window each a =
    All-cons (λ (q : Put). slice_get (window_with_puts (p ∷ puts) window) q.position ≢ slice_get window q.position) p puts here
    (λ k d within q.
    let lt = pairs_head p puts a k d within in
    changes puts window (All-tail (IsPut window) p puts each) (pairs_tail p puts a) k d within
    (sym (put_elsewhere p (window_with_puts puts window) (get_or puts k d).position (λ e. absurd (omega (arith, lt, e)))) ∙ q))
  where
    put : IsPut window p
    put = All-head (IsPut window) p puts each

    stands : slice_get (window_with_puts puts window) p.position ≡ Some put.old
    stands = as_it_was puts window p.position (pairs_head p puts a) ∙ put.here

    here : slice_get (window_with_puts (p ∷ puts) window) p.position ≢ slice_get window p.position
    here q =
        put.more (some_issued p.issued put.old
        (sym (set_here (window_with_puts puts window) p.position put.old (with_issued p.issued put.old) stands)
        ∙ sym (ap (λ o. slice_get (issue_by p (window_with_puts puts window) o) p.position) stands) ∙ q ∙ put.here))

-- the positions of the puts are those of the entries that have issued, or of which a part has
pub names_issued : (window : List Entry) (puts : List Put) → ArePuts window puts → NamesIssued window (window_with_puts puts window) (positions_of puts)
names_issued window puts a = record {
  by_age = rise puts a.by_age;
  each = All-map (λ i. slice_get (window_with_puts puts window) i ≢ slice_get window i) (λ (p : Put). p.position) puts (changes puts window a.each_put a.by_age);
  others = named_or puts window;
}

-- the positions of what is decided are those of the entries that have issued in the machine's window
pub machine_named : (h : Held) (v : Described) (puts : List Put) (entries : List Entry) (positions : List ℕ) → Whole h → described_of h ≡ v → ArePuts h.rob.entries puts →
    entries ≡ window_with_puts puts h.rob.entries → positions ≡ positions_of puts → NamesIssued v.machine.window entries positions
machine_named h v puts entries positions w s a e p =
    subst (λ (v : Described). NamesIssued v.machine.window entries positions) s
    (subst (λ es. NamesIssued h.rob.entries es positions) (sym e)
    (subst (NamesIssued h.rob.entries (window_with_puts puts h.rob.entries)) (sym p) (names_issued h.rob.entries puts a)))
