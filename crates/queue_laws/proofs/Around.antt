-- The loads and stores of a window around one of its entries.
use Rattle.std.proofs.Common.{◌≡◌, ◌≢◌, ◌<◌, true, cond, List, [], ◌∷◌, ◌++◌, ap, ◌∙◌, arith}
use Rattle.std.specs.Prelude.{map}
use Rattle.std.specs.List.{filter}
use Rattle.std.proofs.lemmas.List.{map-append}
use Rattle.std.proofs.lemmas.List.Elements.{filter-append, All-cons, All-head, All-nil}
use Rattle.window_model.specs.declared.Entry.{Entry}
use Rattle.window_model.specs.Order.{is_store}
use Rattle.window_model.specs.Serials.{Rise}
use Rattle.window_model.proofs.Serials.{all_right, rise_head, rise_tail}
use Rattle.queue_laws.specs.Window.{Others, shown_entry, stores_in}

-- the stores of a window are those older than an entry, its own, and those younger
pub stores_around : (old : List Entry) (e : Entry) (young : List Entry) → stores_in (old ++ e ∷ young) ≡ stores_in old ++ (stores_in (e ∷ []) ++ stores_in young)
stores_around old e young =
    ap (map shown_entry) (filter-append (λ e. is_store e.item.kind) old (e ∷ young)
    ∙ ap (λ ws. filter (λ e. is_store e.item.kind) old ++ ws) (filter-append (λ e. is_store e.item.kind) (e ∷ []) young))
    ∙ map-append shown_entry (filter (λ e. is_store e.item.kind) old) _
    ∙ ap (λ ws. stores_in old ++ ws) (map-append shown_entry (filter (λ e. is_store e.item.kind) (e ∷ [])) (filter (λ e. is_store e.item.kind) young))

-- an entry alone, where it is a store and where it is none
pub store_alone : (e : Entry) → is_store e.item.kind ≡ true → stores_in (e ∷ []) ≡ shown_entry e ∷ []
store_alone e h = ap (λ s. map shown_entry (cond s (e ∷ []) [])) h

-- ---- an entry in its place

-- no older entry has the serial of an entry
pub others_older : (older : List Entry) (e : Entry) (younger : List Entry) → Rise (older ++ e ∷ younger) → Others e.serial older
others_older [] e younger r = All-nil (λ d. d.serial ≢ e.serial)
others_older (x ∷ older) e younger r =
    let lt : x.serial < e.serial = All-head (λ d. x.serial < d.serial) e younger (all_right (λ d. x.serial < d.serial) older (e ∷ younger) (rise_head x (older ++ e ∷ younger) r)) in
    All-cons (λ d. d.serial ≢ e.serial) x older (omega (arith, lt)) (others_older older e younger (rise_tail x (older ++ e ∷ younger) r))
