-- Streams are named text by text.
use Rattle.std.proofs.Common.{◌≡◌, ℕ, ◌+◌, ◌<◌, ◌≤◌, List, [], ◌∷◌, length, drop, get_or, Option, Some, None, refl, sym, ap, ◌∙◌, drop-cons, add-one}
use Rattle.std.proofs.lemmas.List.{drop_all}
use Rattle.std.specs.Borrow.{Bor}
use Rattle.std.specs.Prelude.{map, option_and_then}
use Rattle.clap.specs.Words.{Text}
use Rattle.secret_marks.specs.declared.PublicStreams.{PublicStreams}
use Rattle.secret_words.specs.Streams.{streams_of, with_named}

pub streams_next : (texts : List (Bor Text)) (streams : PublicStreams) (i : ℕ) (d : Bor Text) → i < length texts →
    streams_of streams (map (λ t. t.now) (drop i texts)) ≡ streams_of streams ((get_or texts i d).now ∷ map (λ t. t.now) (drop (i + 1) texts))
streams_next texts streams i d l =
    ap (λ rest. streams_of streams (map (λ t. t.now) rest)) (drop-cons texts i d l ∙ ap (λ k. get_or texts i d ∷ drop k texts) (sym (add-one i)))

pub streams_more : (streams more : PublicStreams) (t : Text) (ts : List Text) → Some more ≡ with_named streams t → streams_of streams (t ∷ ts) ≡ streams_of more ts
unfolding streams_of
streams_more streams more t ts h = ap (option_and_then (λ more. streams_of more ts)) (sym h)

pub streams_none : (streams : PublicStreams) (t : Text) (ts : List Text) → None ≡ with_named streams t → streams_of streams (t ∷ ts) ≡ None
unfolding streams_of
streams_none streams t ts h = ap (option_and_then (λ more. streams_of more ts)) (sym h)

pub streams_end : (texts : List (Bor Text)) (streams : PublicStreams) (i : ℕ) → length texts ≤ i → streams_of streams (map (λ t. t.now) (drop i texts)) ≡ Some streams
unfolding streams_of
streams_end texts streams i l = ap (λ rest. streams_of streams (map (λ t. t.now) rest)) (drop_all i texts l)
