-- The reason why nothing is fetched stays: the youngest is a stop or a known fault.
use Rattle.std.proofs.Common.{◌≡◌, ℕ, Bool, true, false, ◌&&◌, ◌||◌, List, [], ◌∷◌, ◌++◌, Option, Some, None, refl, ap, sym, ◌∙◌}
use Rattle.std.specs.Prelude.{if◌then◌else◌, is_some, map}
use Rattle.std.specs.List.{AllByRecursion as Each}
use Rattle.rv_types.specs.declared.Cause.{Cause}
use Rattle.rv_types.specs.declared.Instr.{Instr}
use Rattle.rv_types.specs.declared.Kind.{Kind}
use Rattle.rv_types.specs.declared.Kind.TheVariants.{Stop}
use Rattle.machine_desc.specs.declared.Desc.{Desc}
use Rattle.window_model.specs.declared.Entry.{Entry}
use Rattle.window_model.specs.declared.Item.{Item}
use Rattle.window_model.specs.declared.Target.{Target}
use Rattle.window_model.specs.declared.Progress.TheVariants.{Done}
use Rattle.window_model.specs.Order.{each_from, is_done, is_faulty, fault_of}
use Rattle.window_model.specs.Fill.{after_completion, completes}
use Rattle.window_model.specs.Retire.{trap_of}
use Rattle.window_model.specs.Around.{Around}
use Rattle.window_model.specs.Issue.{Begun, issue_entry}
use Rattle.window_model.specs.Rename.{is_stop, entry_of_item}
use Rattle.window_model.specs.Fetch.{predicted_pc}
use Rattle.window_model.specs.declared.Checkpoint.{Checkpoint}
use Rattle.window_model.proofs.Issuing.{issue_goes}
use Rattle.machine_facts.proofs.StoreParts.{issued_stays}
use Rattle.machine_facts.specs.Sized.{HasParts}
use Rattle.machine_facts.specs.Timely.{is_last, last_from, last_item_from}
use Rattle.window_model.proofs.Booleans.{done_waits}
use Rattle.window_model.proofs.Leaving.{no_trap}

-- ---- folds over the window and the queue

-- a change that spares the last leaves the last
pub last_map : (f : Entry → Entry) → ((e : Entry) → is_last e ≡ true → is_last (f e) ≡ true) → (b b2 : Bool) → (b ≡ true → b2 ≡ true) → (es : List Entry) → last_from b es ≡ true → last_from b2 (map f es) ≡ true
last_map f k b b2 i [] h = i h
last_map f k b b2 i (e ∷ es) h = last_map f k (is_last e) (is_last (f e)) (k e) es h

-- items behind which nothing is fetched stay so, whatever more stands before them
pub items_more : (b b2 : Bool) → (b ≡ true → b2 ≡ true) → (is : List Item) → last_item_from b is ≡ true → last_item_from b2 is ≡ true
items_more b b2 i [] h = i h
items_more b b2 i (j ∷ js) h = h

-- what holds with no youngest entry holds with one
pub last_more : (b b2 : Bool) → (b ≡ true → b2 ≡ true) → (es : List Entry) → last_from b es ≡ true → last_from b2 es ≡ true
last_more b b2 i [] h = i h
last_more b b2 i (e ∷ es) h = h

-- of two lists of entries, one behind the other, the second decides unless it is empty
pub last_join : (b : Bool) (a c : List Entry) → last_from b (a ++ c) ≡ last_from (last_from b a) c
last_join b [] c = refl
last_join b (e ∷ a) c = last_join (is_last e) a c

-- one more entry at the end is the youngest
pub last_push : (b : Bool) (es : List Entry) (e : Entry) → last_from b (es ++ e ∷ []) ≡ is_last e
last_push b es e = last_join b es (e ∷ [])

-- one more item at the end is the youngest
pub last_item_push : (b : Bool) (is : List Item) (i : Item) → last_item_from b (is ++ i ∷ []) ≡ is_stop i.kind
last_item_push b [] i = refl
last_item_push b (x ∷ is) i = last_item_push (is_stop x.kind) is i

-- ---- entries that become done

done_last : (s t f : Bool) → (s || t && f) ≡ true → (s || f) ≡ true
done_last true t f h = refl
done_last false true f h = h
done_last false false f h = absurd (cc)

-- nothing is fetched behind an entry that becomes Done where nothing was before
pub last_completed : (cycle : ℕ) (e : Entry) → is_last e ≡ true → is_last (after_completion cycle e) ≡ true
last_completed cycle e h = by_due (completes cycle e)
  where
    by_due : (b : Bool) → is_last (if b then record e { state = Done } else e) ≡ true
    by_due true = done_last (is_stop e.item.kind) (is_done e.state) (is_faulty e) h
    by_due false = h

-- ---- entries that begin stay the last

-- an entry after which nothing is fetched is still one, by what becomes of it
last_by : (s t f s2 t2 f2 : Bool) → s ≡ s2 → (t ≡ true → (s2 || t2 && f2) ≡ true) → (s || t && f) ≡ true → (s2 || t2 && f2) ≡ true
last_by true t f true t2 f2 p k h = refl
last_by true t f false t2 f2 p k h = absurd (cc)
last_by false true f s2 t2 f2 p k h = k refl
last_by false false f s2 t2 f2 p k h = absurd (cc)

last_begins : (d : Desc) (now : Around) (b : List Entry) (e : Entry) → HasParts e → is_last e ≡ true → is_last (issue_entry d now b e).entry ≡ true
last_begins d now b e p h =
    let r = (issue_entry d now b e).entry in
    last_by (is_stop e.item.kind) (is_done e.state) (is_faulty e) (is_stop r.item.kind) (is_done r.state) (is_faulty r)
    (ap (λ (i : Item). is_stop i.kind) (sym (issue_goes d now b e).item)) (λ t. ap is_last (issued_stays d now b e p (done_waits e.state t)) ∙ h) h

-- nothing is fetched behind entries that issue where nothing was before
pub last_issued : (d : Desc) (now : Around) (b : List Entry) (n n2 : Bool) → (n ≡ true → n2 ≡ true) → (es : List Entry) → Each HasParts es → last_from n es ≡ true → last_from n2 (map (λ (t : Begun). t.entry) (each_from (issue_entry d now) b es)) ≡ true
last_issued d now b n n2 i [] p h = i h
last_issued d now b n n2 i (e ∷ es) p h = last_issued d now (e ∷ b) (is_last e) (is_last (issue_entry d now b e).entry) (last_begins d now b e p.0) es p.1 h

-- ---- a head that doesn't trap is not the last

no_fault : (s t f : Bool) → s ≡ false → f ≡ false → (s || t && f) ≡ false
no_fault s true f p q = cc
no_fault s false f p q = cc

not_faulty : (o : Option Cause) → o ≡ None → is_some o ≡ false
not_faulty None h = refl
not_faulty (Some c) h = absurd (cc)

-- an entry that doesn't trap isn't one behind which nothing is fetched
pub not_last : (e : Entry) → trap_of e ≡ None → is_last e ≡ false
not_last e h =
    let n = no_trap e.item.kind e h in
    no_fault (is_stop e.item.kind) (is_done e.state) (is_faulty e) n.0 (not_faulty (fault_of e.outcome) n.1)

-- the reason why nothing is fetched stays without a head that doesn't trap
pub last_rest : (e : Entry) (rest : List Entry) (q : List Item) (n : Bool) → trap_of e ≡ None → last_item_from (last_from (is_last e) rest) q ≡ true → last_item_from (last_from n rest) q ≡ true
last_rest e rest q n t h =
    let none : last_item_from (last_from false rest) q ≡ true = ap (λ b. last_item_from (last_from b rest) q) (sym (not_last e t)) ∙ h in
    items_more (last_from false rest) (last_from n rest) (last_more false n (λ b. absurd (cc)) rest) q none

-- ---- what is renamed and fetched

-- nothing is fetched behind a renamed entry exactly where it is a stop
pub last_new : (d : Desc) (serial : ℕ) (i : Item) → is_last (entry_of_item d serial i) ≡ is_stop i.kind
last_new d serial i = by (is_stop i.kind) (is_done (entry_of_item d serial i).state)
  where
    by : (s t : Bool) → (s || t && false) ≡ s
    by true t = refl
    by false true = refl
    by false false = refl

-- only a stop predicts nothing
pub stop_predicts : (k : Kind) (d : Desc) (t : List (Option Target)) (m : Checkpoint) (way : Bool) (pc : ℕ) (i : Instr) → predicted_pc k d t m way pc i ≡ None → is_stop k ≡ true
stop_predicts (Stop a) d t m way pc i h = refl
stop_predicts _ d t m way pc i h = absurd (cc)
