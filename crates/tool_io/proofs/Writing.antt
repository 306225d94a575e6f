-- Texts that are written in turn.
use Rattle.std.proofs.Common.{zero, suc, ◌≡◌, ◌≤◌, ℕ, ◌+◌, List, [], ◌∷◌, ◌++◌, length, take, Option, Some, None, option_map, refl, ap, sym, ◌∙◌, rules, arith, append_assoc, append-nil, subst}
use Rattle.std.proofs.Math.Seq.{take-append-add}
use Rattle.std.proofs.Common.{Result, IsErr}
use Rattle.std.proofs.lemmas.Result.{MatchResult-weaker, MatchResult-from_err}
use Rattle.tool_io.specs.declared.Failed.{Failed}
use Rattle.tool_io.specs.Outside.{Told, Wrote, WrotePrefix, Writes, Rose}

-- two texts that are appended one after the other are appended as one
pub appended_twice : (o : Option (List ℕ)) (a b : List ℕ) → option_map (λ w. w ++ b) (option_map (λ w. w ++ a) o) ≡ option_map (λ w. w ++ (a ++ b)) o
appended_twice None a b = refl
appended_twice (Some w) a b = ap Some (append_assoc w a b)

pub appended_nothing : (o : Option (List ℕ)) → option_map (λ w. w ++ []) o ≡ o
appended_nothing None = refl
appended_nothing (Some w) = search rules

-- nothing is written by nothing
pub wrote_nothing : (s : Told) → Wrote [] s s
wrote_nothing s = record { appended = sym (appended_nothing s.written); count = refl }

-- two texts that are written one after the other are written as one
pub wrote_then : (a b : List ℕ) (s t u : Told) → Wrote a s t → Wrote b t u → Wrote (a ++ b) s u
wrote_then a b s t u p q = record {
  appended = q.appended ∙ (ap (option_map (λ w. w ++ b)) p.appended ∙ appended_twice s.written a b);
  count = q.count ∙ p.count;
}

-- a text, and then a part of another
pub wrote_then_part : (a b : List ℕ) (s t u : Told) → Wrote a s t → WrotePrefix b t u → WrotePrefix (a ++ b) s u
wrote_then_part a b s t u p q = record {
  sent = length a + q.sent;
  appended =
      rw (take-append-add a b q.sent)
      (q.appended ∙ (ap (option_map (λ w. w ++ take q.sent b)) p.appended ∙ appended_twice s.written a (take q.sent b)));
  rose = let P : ℕ → Type 0 = λ n. Rose n u.faults in subst P p.count q.rose;
  later = let h : t.faults ≡ s.faults = p.count in let k : t.faults ≤ u.faults = q.later in omega arith;
}

-- the first bytes of a list are the first bytes of a longer one
pub take-longer : (n : ℕ) (a b : List ℕ) → (k : ℕ) × (take k (a ++ b) ≡ take n a)
take-longer zero a b = (0, refl)
take-longer (suc n) [] b = (0, refl)
take-longer (suc n) (x ∷ a) b = let k = take-longer n a b in (suc k.0, ap (λ r. x ∷ r) k.1)

-- a part of a text is a part of a longer one
pub part_more : (a b : List ℕ) (s t : Told) → WrotePrefix a s t → WrotePrefix (a ++ b) s t
part_more a b s t q =
    let k = take-longer q.sent a b in
    record { sent = k.0; appended = rw k.1 q.appended; rose = q.rose; later = q.later }

-- a part of the text `all` is written, and `rest` is what is left of it
pub record WroteUpTo (all rest : List ℕ) (s t : Told) : Type 0 where
  pub text : List ℕ
  pub wrote : Wrote text s t
  pub whole : text ++ rest ≡ all

-- before anything is written, all of the text is left
pub up_to_start : (all : List ℕ) (s : Told) → WroteUpTo all all s s
up_to_start all s = record { text = []; wrote = wrote_nothing s; whole = refl }

-- once the next piece is written too, less of the text is left
pub up_to_more : (all a rest : List ℕ) (s t u : Told) → WroteUpTo all (a ++ rest) s t → Wrote a t u → WroteUpTo all rest s u
up_to_more all a rest s t u p q = record {
  text = p.text ++ a;
  wrote = wrote_then p.text a s t u p.wrote q;
  whole = append_assoc p.text a rest ∙ p.whole;
}

-- where the next piece is written in part, the text is
pub up_to_part : (all a rest : List ℕ) (s t u : Told) → WroteUpTo all (a ++ rest) s t → WrotePrefix a t u → WrotePrefix all s u
up_to_part all a rest s t u p q =
    let r : WrotePrefix ((p.text ++ a) ++ rest) s u = part_more _ rest _ _ (wrote_then_part p.text a s t u p.wrote q) in
    let P : List ℕ → Type 0 = λ x. WrotePrefix x s u in
    subst P (append_assoc p.text a rest ∙ p.whole) r

-- once nothing of the text is left, all of it is written
pub up_to_end : (all : List ℕ) (s t : Told) → WroteUpTo all [] s t → Wrote all s t
up_to_end all s t p =
    let e : p.text ≡ all = sym (append-nil p.text) ∙ p.whole in
    let P : List ℕ → Type 0 = λ x. Wrote x s t in
    subst P e p.wrote

-- one text is written, and then a call writes the next
pub writes_then : (a b : List ℕ) (s t u : Told) (r : Result (Unit {0}) Failed) → Wrote a s t → Writes b t u r → Writes (a ++ b) s u r
writes_then a b s t u r p q = MatchResult-weaker r q (λ _ w. wrote_then a b s t u p w) (λ _ w. wrote_then_part a b s t u p w)

-- a call that hands on a fault after a part was written
pub writes_part : (text : List ℕ) (s u : Told) (r : Result (Unit {0}) Failed) → IsErr r → WrotePrefix text s u → Writes text s u r
writes_part text s u r e p = MatchResult-from_err r _ _ e (λ _. p)
