-- In version 1 both parts of a store go in one cycle, with one event.
use Rattle.std.proofs.Common.{◌≡◌, Bool, true, false, List, [], ◌∷◌, ◌++◌, refl, ap, sym, subst, ◌∙◌, arith}
use Rattle.std.proofs.lemmas.Bool.Decides.{nat_tests}
use Rattle.std.specs.Prelude.{if◌then◌else◌, ◌==◌}
use Rattle.machine_desc.specs.declared.Desc.{Desc}
use Rattle.window_model.specs.declared.Entry.{Entry}
use Rattle.window_model.specs.declared.Event.TheVariants as event
use Rattle.window_model.specs.declared.Item.{Item}
use Rattle.window_model.specs.Around.{Around}
use Rattle.window_model.specs.Order.{is_store, has_address, has_data}
use Rattle.window_model.specs.MayIssue.{effect_of}
use Rattle.window_model.specs.Ports.{AddressPort, DataPort, is_granted}
use Rattle.window_model.specs.Issue.{Begun, if_granted, issue_entry, issue_whole, waits, with_address, with_data}
use Rattle.window_model.proofs.Issuing.{issue_goes}
use Rattle.window_model.proofs.Together.{entry_parts, granted_together, issue_parts}
use Rattle.machine_facts.specs.Sized.{Together}

-- ---- what issues of a store: both parts, or nothing

module _ (d : Desc) (now : Around) (before : List Entry) (e : Entry) where
  -- the store once both its parts have issued, with one event
  abbrev pub in_one : Begun
  in_one =
      let f = effect_of now.regs before e in
      record { entry = with_data now f (with_address now f e); events = event.Agu e.serial ∷ [] }

  -- what issues where each part is granted its port or not, and the data part has an event or none
  abbrev parts_as : Bool → Bool → Bool → Begun
  parts_as a c v =
      let f = effect_of now.regs before e in
      let g = if_granted a (with_address now f) (event.Agu e.serial ∷ []) e in
      let r = if_granted c (with_data now f) (if v then [] else event.Std e.serial ∷ []) g.entry in
      record { entry = r.entry; events = g.events ++ r.events }

  by_grants : (a c v : Bool) → v ≡ true → c ≡ a → parts_as a c v ≡ (if a then in_one else waits e)
  by_grants true true true p q = refl
  by_grants false false true p q = refl
  by_grants true false true p q = absurd (cc)
  by_grants false true true p q = absurd (cc)
  by_grants a c false p q = absurd (cc)

  pub parts_in_one : d.version ≡ 1 → issue_parts d now before e ≡ (if is_granted d now AddressPort before e then in_one else waits e)
  parts_in_one one = by_grants (is_granted d now AddressPort before e) (is_granted d now DataPort before e) (d.version == 1) is_one (granted_together d now one before e)
    where
      is_one : (d.version == 1) ≡ true
      is_one = grind (arith, nat_tests)

-- the entry has both its parts, or neither
abbrev Paired : Begun → Type 0
Paired b = has_address b.entry ≡ has_data b.entry

-- in version 1 the parts of an entry still go together after Issue
pub together_issued : (d : Desc) (now : Around) (before : List Entry) (e : Entry) → Together d e → Together d (issue_entry d now before e).entry
together_issued d now before e h one s = subst Paired (sym (entry_parts d now before e)) (by_store (is_store e.item.kind) store)
  where
    store : is_store e.item.kind ≡ true
    store = sym (ap (λ (i : Item). is_store i.kind) (issue_goes d now before e).item) ∙ s

    by_grant : (g : Bool) → Paired (if g then in_one d now before e else waits e)
    by_grant true = refl
    by_grant false = h one store

    by_store : (b : Bool) → b ≡ true → Paired (if b then issue_parts d now before e else issue_whole d now before e)
    by_store true q = subst Paired (sym (parts_in_one d now before e one)) (by_grant (is_granted d now AddressPort before e))
    by_store false q = absurd (cc)
