-- Where fetch has nowhere to go there is a reason: a stop, or an entry with a fault.
use Rattle.std.proofs.Common.{◌≡◌, ℕ, Bool, true, false, ◌&&◌, ◌||◌, List, [], ◌∷◌, Option, Some, None, refl, ap, subst}
use Rattle.std.specs.Prelude.{if◌then◌else◌, is_some}
use Rattle.rv_types.specs.Memory.{Code}
use Rattle.rv_types.specs.declared.Kind.{Kind}
use Rattle.rv_types.specs.declared.Kind.TheVariants.{Branch, Jalr, Jal, Stop}
use Rattle.machine_desc.specs.declared.Desc.{Desc}
use Rattle.window_model.specs.declared.Entry.{Entry}
use Rattle.window_model.specs.declared.Item.{Item}
use Rattle.window_model.specs.Order.{is_faulty}
use Rattle.window_model.specs.Resolve.{next_of}
use Rattle.window_model.specs.Rename.{is_stop}
use Rattle.committed_state.specs.Computed.{Bank}
use Rattle.window_model.specs.Along.{Along}
use Rattle.committed_state.specs.Links.{Chain, links, entry_link}
use Rattle.committed_state.specs.Consistent.{EntryInvariant, IsItem, Predicts, HasStopped}
use Rattle.committed_state.specs.Laws.{NowhereHasReason}
use Rattle.std.specs.List.{AllByRecursion as Each}

-- only a stop predicts nothing
stop_predicts : (k : Kind) (i : Item) → Predicts k i → i.predicted ≡ None → is_stop k ≡ true
stop_predicts (Stop c) i h n = refl
stop_predicts Jal i h n = absurd (cc)
stop_predicts Branch i h n = absurd (let q = ap is_some n in cc)
stop_predicts Jalr i h n = absurd (let q = ap is_some n in cc)
stop_predicts _ i h n = absurd (cc)

queue_stops : (code : Code) (from : Option ℕ) (i : Item) (is : List Item) → Each (IsItem code) (i ∷ is) → Chain from (links [] (i ∷ is)) None → HasStopped [] (i ∷ is)
queue_stops code from i [] h k = stop_predicts i.kind i h.0.next k.1
queue_stops code from i (j ∷ is) h k = queue_stops code i.predicted j is h.1 k.1

-- the youngest entry of the window
entry_stops : (r f s : Bool) (p : Option ℕ) (n : ℕ) → (p ≡ None → s ≡ true) → (if r then (if f then None else Some n) else p) ≡ None → (s || (r && f)) ≡ true
entry_stops true true true p n h k = refl
entry_stops true true false p n h k = refl
entry_stops true false s p n h k = absurd (cc)
entry_stops false f s p n h k = let q = h k in cc

window_stops : (d : Desc) (code : Code) (s : Bank) (now : ℕ) (b : List Entry) (from : Option ℕ) (e : Entry) (es : List Entry) (queue : List Item) → Along (EntryInvariant d code s now) b (e ∷ es) → Each (IsItem code) queue → Chain from (links (e ∷ es) queue) None → HasStopped (e ∷ es) queue
window_stops d code s now b from e [] [] h q k = entry_stops e.resolved (is_faulty e) (is_stop e.item.kind) e.item.predicted (next_of e.outcome) (stop_predicts e.item.kind e.item h.0.item.next) k.1
window_stops d code s now b from e [] (i ∷ is) h q k = queue_stops code (entry_link e).next i is q k.1
window_stops d code s now b from e (f ∷ es) queue h q k = window_stops d code s now (e ∷ b) (entry_link e).next f es queue h.1 q k.1

reason : (d : Desc) (code : Code) (s : Bank) (now : ℕ) (pc : ℕ) (window : List Entry) (queue : List Item) → Along (EntryInvariant d code s now) [] window → Each (IsItem code) queue → Chain (Some pc) (links window queue) None → HasStopped window queue
reason d code s now pc [] [] h q k = absurd (let n = ap is_some k in cc)
reason d code s now pc [] (i ∷ is) h q k = queue_stops code (Some pc) i is q k
reason d code s now pc (e ∷ es) queue h q k = window_stops d code s now [] (Some pc) e es queue h q k

-- where there is no pc to fetch from, an entry or an item stops the fetch
pub nowhere_has_reason : NowhereHasReason
nowhere_has_reason d code x h n = reason d code _ _ x.pc x.window x.queue h.entries h.items (subst (Chain (Some x.pc) (links x.window x.queue)) n h.chain)
