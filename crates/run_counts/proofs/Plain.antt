-- Events that tell no amount.
use Rattle.std.proofs.Common.{◌≡◌, ℕ, true, List, Option, None, refl, ◌∙◌}
use Rattle.window_model.specs.declared.Event.{Event}
use Rattle.window_model.specs.declared.Event.TheVariants.{Fill, Done, Res, Bp, Bt, Clr, Vio, Dp, Ret, St, Alu, Mul, Agu, Std, Ld, LdForward, LdFault, Pf, Ren, Fet}
use Rattle.run_counts.specs.Counted.{names, name_of}
use Rattle.run_counts.specs.inner.Counting.{after_event, is_plain, number_with, numbers_by}
use Rattle.run_counts.proofs.Each.{each_alike}

-- such an event adds one to the number that it names by itself, whatever comes before it
one_added : (before : Option Event) (event : Event) → is_plain event ≡ true → (name : List ℕ) (k : ℕ)
    → number_with name (name_of None event) 1 k ≡ after_event name before event k
one_added before (Fill line) e name k = refl
one_added before (Done serial) e name k = refl
one_added before (Res serial way) e name k = refl
one_added before (Bp index value) e name k = refl
one_added before (Bt index target) e name k = refl
one_added before (Clr serial) e name k = refl
one_added before (Vio serial) e name k = refl
one_added before (Dp index value) e name k = refl
one_added before (Ret serial) e name k = refl
one_added before (St serial line found) e name k = refl
one_added before (Alu serial) e name k = refl
one_added before (Mul serial) e name k = refl
one_added before (Agu serial) e name k = refl
one_added before (Std serial) e name k = refl
one_added before (Ld serial line look) e name k = refl
one_added before (LdForward serial) e name k = refl
one_added before (LdFault serial) e name k = refl
one_added before (Pf line look) e name k = refl
one_added before (Ren serial pc) e name k = refl
one_added before (Fet pc) e name k = refl
one_added before _ e name k = absurd (cc)

pub plain_added : (before : Option Event) (event : Event) (old new : List ℕ) → is_plain event ≡ true → new ≡ numbers_by (λ name k. number_with name (name_of None event) 1 k) names old
    → new ≡ numbers_by (λ name k. after_event name before event k) names old
plain_added before event old new p e = e ∙ each_alike _ _ names old (one_added before event p)
