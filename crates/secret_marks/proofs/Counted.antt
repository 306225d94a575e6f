-- What the cycles of a run publish is what as many steps of the instruction set do as they retire.
use Rattle.std.proofs.Common.{◌≡◌, ℕ, zero, suc, ◌+◌, ◌-◌, [], ◌++◌, ◌⊎◌, inl, inr, Option, Some, None, refl, ap, sym, ◌∙◌, arith}
use Rattle.rv_types.specs.Memory.{Code}
use Rattle.rv_types.specs.declared.End.{End}
use Rattle.machine_desc.specs.declared.Desc.{Desc}
use Rattle.window_model.specs.State.{Machine, opening}
use Rattle.window_model.specs.Retire.{hart_of, retire, unless_ended}
use Rattle.window_model.specs.Cycle.{after_cycles, cycle}
use Rattle.window_model.specs.Committed.{Aligned}
use Rattle.window_model.proofs.Quiet.{at_retire, before_quiet}
use Rattle.committed_state.specs.Consistent.{Consistent}
use Rattle.committed_state.proofs.Cycle.{consistent_before, consistent_cycle, cycle_does}
use Rattle.committed_state.proofs.Run.{consistent_opening}
use Rattle.secret_marks.specs.Published.{Public, public_piece, published_by, published_in}
use Rattle.secret_marks.specs.Laws.{CyclesPublishTheirSteps}
use Rattle.secret_marks.proofs.Cycle.{piece_is, retired_is}
use Rattle.secret_marks.proofs.Outputs.{cycle_and_more, follows, rises}
use Rattle.secret_marks.proofs.Puts.{Puts, alone_in, retire_puts}

module _ (public : Public) (d : Desc) (code : Code) (aligned : Aligned code) where
  -- a cycle puts out nothing, or retires one instruction
  pub one_step : (k : ℕ) (x : Machine) → Consistent d code x → (cycle d code x).machine.retired ≡ x.retired + k →
      ((cycle d code x).piece ≡ []) ⊎ (k ≡ 1)
  one_step k x c q = by_puts (retire_puts d (at_retire d x) (alone_in (x.cycle + 1) d code (at_retire d x) (consistent_before code d x c)))
    where
      by_puts : Puts (at_retire d x) (retire d (at_retire d x)) → ((cycle d code x).piece ≡ []) ⊎ (k ≡ 1)
      by_puts (inl e) = inl (piece_is d code x ∙ e)
      by_puts (inr p) =
          let one : (cycle d code x).machine.retired ≡ x.retired + 1 = retired_is d code x ∙ p.one ∙ ap (λ k. k + 1) (before_quiet d x).retired in
          inr (omega (arith, q, one))

  publish_steps : (n : ℕ) (x : Machine) → (x.end ≡ None → Consistent d code x) → (t : ℕ) → (after_cycles d code n x).retired ≡ x.retired + t →
      published_by public d code n x ≡ published_in public code t (hart_of x)
  publish_steps zero x c t q = let z : 0 ≡ t = omega (arith, q) in ap (λ t. published_in public code t (hart_of x)) z
  publish_steps (suc n) x c t q = by_end x.end refl q (publish_steps n (cycle d code x).machine)
    where
      y : Machine
      y = (cycle d code x).machine

      by_end : (o : Option End) → x.end ≡ o → (unless_ended o x (after_cycles d code n (cycle d code x).machine)).retired ≡ x.retired + t →
          (((cycle d code x).machine.end ≡ None → Consistent d code (cycle d code x).machine) → (t : ℕ) → (after_cycles d code n (cycle d code x).machine).retired ≡ (cycle d code x).machine.retired + t →
          published_by public d code n (cycle d code x).machine ≡ published_in public code t (hart_of (cycle d code x).machine)) →
          unless_ended o [] (public_piece public (hart_of x) (cycle d code x).piece ++ published_by public d code n (cycle d code x).machine) ≡ published_in public code t (hart_of x)
      by_end (Some e) ne l more = let z : 0 ≡ t = omega (arith, l) in ap (λ t. published_in public code t (hart_of x)) z
      by_end None ne l more =
          let k = c ne in
          let up = rises d code aligned n y (λ z. consistent_cycle d code x aligned k ne) in
          let counted = (cycle_does code d x aligned k ne).0.counted in
          let own : ℕ = y.retired - x.retired in
          let own_is : y.retired ≡ x.retired + own = omega (arith, counted) in
          let u : ℕ = (after_cycles d code n y).retired - y.retired in
          let u_is : (after_cycles d code n y).retired ≡ y.retired + u = omega (arith, up) in
          let all : own + u ≡ t = omega (arith, l, own_is, u_is) in
          let rest = more (λ z. consistent_cycle d code x aligned k ne) u u_is in
          let joined = cycle_and_more public code d aligned x k ne own u own_is (one_step own x k own_is) (follows d code aligned n y) in
          ap (λ p. public_piece public (hart_of x) (cycle d code x).piece ++ p) rest ∙ sym joined ∙ ap (λ t. published_in public code t (hart_of x)) all

-- what cycles publish is what as many steps of the instruction set publish as these cycles retire
pub cycles_publish : CyclesPublishTheirSteps
cycles_publish public d code entry m n aligned =
    let x = opening d entry m in
    let t : ℕ = (after_cycles d code n x).retired in
    let from_none : t ≡ 0 + t = omega arith in
    publish_steps public d code aligned n x (λ z. consistent_opening code d entry m) t from_none
