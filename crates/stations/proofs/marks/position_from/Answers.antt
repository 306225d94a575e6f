use Rattle.std.proofs.Common.{◌≡◌, ◌<◌, sym, ap, ◌∙◌, length, refl, Some, get_or, slice_get, arith, inl, inr}
use Rattle.std.proofs.lemmas.Bool.{cases_lt}
use Rattle.std.proofs.lemmas.Option.{slice_get_read, slice_get_within}
use Rattle.stations.proofs.marks.position_from.Goals as goal

pub loop-i-init : goal.loop-i-init
loop-i-init c = λ k low lt. absurd (omega (arith, low, lt))

pub returns-then-index-place : goal.returns-then-index-place
returns-then-index-place c =
    let lt : c.loop-i.i < length c.args.ages.now.items = omega (arith, c.loop-i-test.true, c.len-i-end.ensures, c.args.ages.now.ok.0) in
    slice_get_read c.args.ages.now.items _ c.loop-i.i _ refl lt c.index.ensures ∙ ap Some c.if-index-place.true

pub loop-i-preserved : goal.loop-i-preserved
loop-i-preserved c = λ k low lt e. elim (cases_lt k c.loop-i.i) [
  | inl before ↦ c.loop-i.invariant k low before e
  | inr past ↦
      let here : k ≡ c.loop-i.i = omega (arith, lt, past) in
      let within = slice_get_within c.args.ages.now.items k c.args.place e in
      let read : slice_get c.args.ages.now.items k ≡ Some c.index.result.now =
      slice_get_read c.args.ages.now.items _ k _ refl within (c.index.ensures ∙ ap (λ k. get_or c.args.ages.now.items k c.index.result.now) (sym here)) in
      let same : c.index.result.now ≡ c.args.place = cc in
      c.if-index-place.false same
]

pub returns : goal.returns
returns c = λ k low e.
    let within = slice_get_within c.args.ages.now.items k c.args.place e in
    c.loop-i.invariant k low (omega (arith, within, c.loop-i-test.false, c.len-i-end.ensures, c.args.ages.now.ok.0)) e
