-- What a queue tells of the store at a place is so of the window's.
use Rattle.std.proofs.Common.{◌≡◌, Option, Some, None, refl, ap, sym, ◌∙◌, slice_get}
use Rattle.std.specs.Prelude.{is_some}
use Rattle.std.specs.List.{filter}
use Rattle.std.specs.Option.{option_map}
use Rattle.std.proofs.lemmas.Option.{slice_get-map}
use Rattle.window_model.specs.declared.Entry.{Entry}
use Rattle.window_model.specs.Order.{is_store}
use Rattle.lsq.specs.declared.store.Span.{Span}
use Rattle.lsq.specs.declared.store.Store.{Store}
use Rattle.lsq.specs.Clearing.{info_of}
use Rattle.queue_laws.specs.Window.{ShownClearing, StoreSeen, shown_cleared, shown_clearing, seen_in_window, store_seen}
use Rattle.queue_laws.specs.Laws.{TellsInPlace}

abbrev told_by : ShownClearing → StoreSeen
told_by c = record { serial = c.serial; known = is_some c.known_from; cleared = c.cleared }

known_is : (k : Option Span) → is_some k ≡ is_some (option_map (λ (k : Span). k.known_from) k)
known_is None = refl
known_is (Some k) = refl

told_is : (s : Store) → store_seen (info_of s) ≡ told_by (shown_cleared s)
told_is s = ap (λ k. record { serial = s.serial; known = k; cleared = s.cleared }) (known_is s.span)

told_all : (o : Option Store) → option_map store_seen (option_map info_of o) ≡ option_map told_by (option_map shown_cleared o)
told_all None = refl
told_all (Some s) = ap Some (told_is s)

told_entry : (o : Option Entry) → option_map told_by (option_map shown_clearing o) ≡ option_map seen_in_window o
told_entry None = refl
told_entry (Some e) = refl

pub tells_in_place : TellsInPlace
tells_in_place q window k t =
    let stores = filter (λ (e : Entry). is_store e.item.kind) window in
    told_all (slice_get q.stores k)
    ∙ ap (option_map told_by) (sym (slice_get-map shown_cleared q.stores k) ∙ ap (λ ws. slice_get ws k) t.stores ∙ slice_get-map shown_clearing stores k)
    ∙ told_entry (slice_get stores k)
