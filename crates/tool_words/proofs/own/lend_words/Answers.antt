-- The next word is lent behind those so far.
use Rattle.std.proofs.Common.{◌≡◌, ℕ, ◌+◌, ◌<◌, ◌++◌, List, [], ◌∷◌, String, length, get_or, map, take, string_bytes, rules, ap, sym, ◌∙◌}
use Rattle.std.proofs.lemmas.List.{map-append, map_more, take_all}
use Rattle.std.specs.Borrow.{Bor}
use Rattle.tool_words.proofs.own.lend_words.Goals as goal

lent_more : {W : Type 0} (words : List (String W)) (lent lent' : List (Bor (List ℕ))) (text : Bor (List ℕ)) (i : ℕ) (word : String W) → i < length words → lent' ≡ lent ++ text ∷ []
    → text.now ≡ string_bytes word → word ≡ get_or words i word → map (λ w. w.now) lent ≡ map string_bytes (take i words) → map (λ w. w.now) lent' ≡ map string_bytes (take (i + 1) words)
lent_more words lent lent' text i word l p t w h =
    let same : text.now ≡ string_bytes (get_or words i word) = t ∙ ap string_bytes w in
    ap (map (λ w. w.now)) p ∙ (map-append (λ w. w.now) lent (text ∷ []) ∙ (ap (λ xs. xs ++ text.now ∷ []) h ∙ (ap (λ x. map string_bytes (take i words) ++ x ∷ []) same ∙ sym (map_more string_bytes words i word l))))

pub loop-word-preserved : goal.loop-word-preserved
loop-word-preserved c =
    let pushed : c.push.new.self.items ≡ c.loop-word.lent.items ++ c.as_str.result ∷ [] = search rules in
    lent_more c.args.words.now c.loop-word.lent.items c.push.new.self.items c.as_str.result c.loop-word.word-index c.word-item.result
    c.loop-word-test.true pushed c.as_str.ensures.value c.word-item.is c.loop-word.invariant

pub returns-clause-lent : goal.returns-clause-lent
returns-clause-lent c = c.loop-word.invariant ∙ ap (map string_bytes) (take_all _ _ c.loop-word-test.false)
