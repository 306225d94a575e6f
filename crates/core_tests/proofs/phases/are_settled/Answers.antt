use Rattle.std.proofs.Common.{◌≡◌, ℕ, ◌+◌, length, ◌≤◌, List, [], ◌∷◌, ◌++◌, take, slice_get, Some, ap, ◌∙◌, arith}
use Rattle.std.proofs.lemmas.List.{take_all, take_more}
use Rattle.std.proofs.lemmas.Option.{get_or_from_slice_get, slice_get_within}
use Rattle.std.specs.List.{AllByRecursion as Each}
use Rattle.machine_facts.specs.Timely.{WaitsOrDone}
use Rattle.window_model.specs.declared.Entry.{Entry}
use Rattle.window_model.proofs.Lists.{each_push}
use Rattle.core_tests.proofs.phases.are_settled.Goals as goal

-- one entry more
one_more : (es : List Entry) (i : ℕ) (e : Entry) → slice_get es i ≡ Some e → Each WaitsOrDone (take i es) → WaitsOrDone e → Each WaitsOrDone (take (i + 1) es)
one_more es i e at before this =
    let p = take_more es i e (slice_get_within es i e at) ∙ ap (λ x. take i es ++ x ∷ []) (get_or_from_slice_get es i e e at) in
    rw p (each_push WaitsOrDone (take i es) e before this)

-- all of them
all_of : (es : List Entry) (i n : ℕ) → n ≡ length es → n ≤ i → Each WaitsOrDone (take i es) → Each WaitsOrDone es
all_of es i n len end h = rw (take_all i es (grind (arith, len, end))) at h

pub loop-i-init : goal.loop-i-init
loop-i-init c = tt

pub loop-i-preserved : goal.loop-i-preserved
loop-i-preserved c =
    one_more c.args.rob.now.entries c.loop-i.i c.lend.result.now c.lend.ensures c.loop-i.invariant (c.is_settled.ensures c.if-not-is_settled.false)

pub returns : goal.returns
returns c = λ _. all_of c.args.rob.now.entries c.loop-i.i c.len-i-end.result c.len-i-end.ensures.len c.loop-i-test.false c.loop-i.invariant
