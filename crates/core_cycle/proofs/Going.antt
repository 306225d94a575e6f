-- Whether a run goes on behind a cycle, and how many cycles are left: for who calls a core cycle by cycle.
use Rattle.std.proofs.Common.{◌≡◌, ◌<◌, ℕ, suc, ◌+◌, ◌-◌, Bool, true, false, Option, Some, None, refl, ap, sym, ◌∙◌, arith}
use Rattle.std.specs.Prelude.{is_some}
use Rattle.rv_types.specs.declared.End.{End}
use Rattle.window_model.specs.Retire.{unless_ended}

-- what stands behind `unless_ended` goes on where there is no end
pub goes_on : {A : Type 0} (o : Option End) (ended goes : A) → o ≡ None → unless_ended o ended goes ≡ goes
goes_on None ended goes e = refl
goes_on (Some k) ended goes e = absurd (cc)

-- what stands behind `unless_ended` doesn't go where there is an end
pub stops : {A : Type 0} (o : Option End) (ended goes : A) → is_some o ≡ true → unless_ended o ended goes ≡ ended
stops None ended goes e = absurd (cc)
stops (Some k) ended goes e = refl

-- a run goes on where the core tells no end
pub running_at : (end told : Option End) (b : Bool) → told ≡ end → b ≡ is_some told → b ≡ false → end ≡ None
running_at end None b t e q = sym t
running_at end (Some k) b t e q = absurd (cc)

-- where a core tells of an end its machine has ended
pub ended_at : (end told : Option End) (b : Bool) → told ≡ end → b ≡ is_some told → b ≡ true → is_some end ≡ true
ended_at end told b t e q = ap is_some (sym t) ∙ sym e ∙ q

-- of n cycles, i of which are done, one more is left than once the next is done too
pub one_more : (n i : ℕ) → i < n → n - i ≡ suc (n - (i + 1))
one_more n i h = omega arith
