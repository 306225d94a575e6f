use Rattle.std.proofs.Common.{map, drop, ◌+◌, ◌≡◌, ◌++◌, [], ◌∷◌, rules, sym, subst}
use Rattle.secret_words.proofs.Reading.{GoOn, go_on-next, go_on-more, go_on-end, go_on-none}
use Rattle.secret_words.proofs.ranges.read_ranges.Goals as goal

pub returns-in-None-clause-refused : goal.returns-in-None-clause-refused
returns-in-None-clause-refused c = λ e. go_on-none _ _ _ _ (go_on-next _ _ _ _ c.loop-text-test.true c.loop-text.invariant) c.in-None.ensures

pub loop-text-preserved : goal.loop-text-preserved
loop-text-preserved c =
    let pushed : c.push.new.self.items ≡ c.loop-text.ranges.items ++ c.in-Some.range ∷ [] = search rules in
    subst (λ got. GoOn (map (λ t. t.now) c.args.texts.now) got (map (λ t. t.now) (drop (c.loop-text.text-index + 1) c.args.texts.now))) (sym pushed)
    (go_on-more _ _ _ _ _ (go_on-next _ _ _ _ c.loop-text-test.true c.loop-text.invariant) c.in-Some.ensures)

pub returns-clause-ok : goal.returns-clause-ok
returns-clause-ok c = go_on-end _ _ _ c.loop-text-test.false c.loop-text.invariant
