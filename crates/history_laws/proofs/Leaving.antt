-- Retire takes as many entries off the front of the window as the count of the retired grows, and leaves the queue and
-- the checkpoint.
use Rattle.std.proofs.Common.{◌≡◌, ℕ, suc, ◌+◌, ◌-◌, Bool, List, ◌∷◌, ◌++◌, drop, take, refl, ap, sym, ◌∙◌, subst, append_assoc, arith}
use Rattle.std.specs.List.{AllByRecursion as Each}
use Rattle.std.proofs.lemmas.List.{take-append-drop}
use Rattle.machine_desc.specs.declared.Desc.{Desc}
use Rattle.window_model.specs.declared.Entry.{Entry}
use Rattle.window_model.specs.Retire.{head_leaves, retire}
use Rattle.window_model.specs.History.{no_checkpoint}
use Rattle.window_model.specs.State.{Machine}
use Rattle.window_model.proofs.Leaving.{gone, head_by}
use Rattle.window_model.proofs.Lists.{each_right}
use Rattle.window_model.proofs.Walks.{retire_by}
use Rattle.history_laws.specs.Left.{Leads}
use Rattle.history_laws.proofs.Phases.{Left, Fresh}

-- n entries have retired: they are gone from the front of the window, the count has risen by n, queue and checkpoint
-- stay
pub record Lets (n : ℕ) (x y : Machine) : Type 0 where
  pub count : y.retired ≡ x.retired + n
  pub window : y.window ≡ drop n x.window
  pub queue : y.queue ≡ x.queue
  pub checkpoint : y.checkpoint ≡ x.checkpoint

pub record LetsSome (x y : Machine) : Type 0 where
  pub number : ℕ
  pub lets : Lets number x y

none : (x : Machine) → LetsSome x x
none x = record { number = 0; lets = record { count = omega arith; window = refl; queue = refl; checkpoint = refl } }

one_more : (x y : Machine) (e : Entry) (rest : List Entry) → x.window ≡ e ∷ rest → y.retired ≡ x.retired + 1 → y.window ≡ rest → y.queue ≡ x.queue → y.checkpoint ≡ x.checkpoint → (z : Machine) → LetsSome y z → LetsSome x z
one_more x y e rest q r w k m z s = record {
  number = suc s.number;
  lets = record {
    count = (let c = s.lets.count in omega (arith, c, r));
    window = s.lets.window ∙ ap (drop s.number) w ∙ sym (ap (drop (suc s.number)) q);
    queue = s.lets.queue ∙ k;
    checkpoint = s.lets.checkpoint ∙ m;
  };
}

head_lets : (d : Desc) (x : Machine) (e : Entry) (rest : List Entry) → x.window ≡ e ∷ rest → (z : Machine) → LetsSome (head_leaves e.item.kind d e rest x).machine z → LetsSome x z
head_lets d x e rest q z =
    head_by d e rest x (λ y. LetsSome y z → LetsSome x z) (λ s. s) (λ t end f s. one_more x _ e rest q refl refl refl refl z s) (one_more x _ e rest q refl refl refl refl z) e.item.kind
    (λ k s. one_more x _ e rest q refl refl refl refl z s)

pub retire_lets : (d : Desc) (x : Machine) → LetsSome x (retire d x).machine
retire_lets d =
    retire_by d (λ n stored x r. LetsSome x r.machine) (λ n stored x s. none x) (λ n stored x e rest u q l t w more. head_lets d x e rest q _ more)
    (λ n stored x e rest cause u q l t. record { number = 0; lets = record { count = omega arith; window = refl; queue = refl; checkpoint = refl } })

-- what leaves stands in front of what stays
pub left_retire : (d : Desc) (gone : List Entry) (ways : List Bool) (x : Machine) → Left d gone ways x →
    Left d (gone ++ take ((retire d x).machine.retired - x.retired) x.window) ways (retire d x).machine
left_retire d gone ways x h =
    let s = retire_lets d x in
    let y = (retire d x).machine in
    let n : y.retired - x.retired ≡ s.number = (let c = s.lets.count in omega (arith, c)) in
    let whole : (gone ++ take (y.retired - x.retired) x.window) ++ y.window ≡ gone ++ x.window =
    append_assoc gone (take (y.retired - x.retired) x.window) y.window
    ∙ ap (λ w. gone ++ (take (y.retired - x.retired) x.window ++ w)) s.lets.window
    ∙ ap (λ n. gone ++ (take n x.window ++ drop s.number x.window)) n
    ∙ ap (λ w. gone ++ w) (take-append-drop s.number x.window) in
    record {
      leads =
          subst (λ w. Leads d no_checkpoint w y.queue ways y.checkpoint) (sym whole)
          (subst (λ q. Leads d no_checkpoint (gone ++ x.window) q ways y.checkpoint) (sym s.lets.queue) (subst (λ m. Leads d no_checkpoint (gone ++ x.window) x.queue ways m) (sym s.lets.checkpoint) h.leads));
      fresh =
          subst (Each Fresh) (sym s.lets.window)
          (each_right Fresh (take s.number x.window) (drop s.number x.window) (subst (Each Fresh) (sym (take-append-drop s.number x.window)) h.fresh));
    }
