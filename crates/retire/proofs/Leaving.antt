-- Retiring head by head: what is left makes the whole, whatever else the machine holds.
use Rattle.std.proofs.Common.{◌≡◌, ℕ, suc, ◌+◌, ◌-◌, ◌<◌, ◌≤◌, Bool, true, false, ◌||◌, cond, List, [], ◌∷◌, ◌++◌, length, take, drop, Option, Some, None, refl, ap, sym, ◌∙◌, subst, arith}
use Rattle.std.proofs.lemmas.List.{append-nil, append_assoc, length-append, take_at}
use Rattle.std.specs.List.{AllByRecursion as Each}
use Rattle.rv_types.specs.Memory.{Ram, store_fault}
use Rattle.rv_types.specs.declared.Cause.{Cause}
use Rattle.rv_types.specs.declared.End.{End}
use Rattle.rv_types.specs.declared.End.TheVariants.{Trap}
use Rattle.rv_types.specs.declared.Kind.TheVariants.{Store, Call}
use Rattle.machine_desc.specs.declared.Desc.{Desc}
use Rattle.window_model.specs.declared.Entry.{Entry}
use Rattle.window_model.specs.declared.Event.{Event}
use Rattle.window_model.specs.Rename.{is_call, CallAlone, calls}
use Rattle.window_model.specs.Order.{is_store, is_done}
use Rattle.window_model.specs.Retire.{Retired, retire, turns, head_leaves, stays, trap_as, addr_of, byte_count}
use Rattle.window_model.specs.Row.{Row}
use Rattle.window_model.specs.inner.Row.{HasRoom, most_retired, row_room, with_events}
use Rattle.window_model.specs.Shape.{SameShape}
use Rattle.window_model.specs.State.{Machine, opening}
use Rattle.window_model.proofs.Booleans.{both}
use Rattle.window_model.proofs.Counts.{count, count_is}
use Rattle.window_model.proofs.Lists.{each_then, each_push}
use Rattle.window_model.proofs.Memory.{same_fault}
use Rattle.window_model.proofs.Telling.{retire_few}
use Rattle.rob_ring.specs.Ring.{Ring}
use Rattle.rename_taint.specs.declared.Write.{Write}
use Rattle.rename_taint.specs.Writes.{without_retired}
use Rattle.lsq.specs.Queues.{Queues, without}
use Rattle.cache_tags.specs.Sets.{Cache}
use Rattle.retire.specs.declared.turn.Turn.TheVariants.{Waits, Traps}
use Rattle.retire.specs.Parts.{IsLeft, PrintsHead, TakesStore, TellsHead, with_effects, with_parts, with_more_retired, head_retires, head_told, lines_moved, retires}
use Rattle.retire.specs.Turn.{Goes, turn_at}
use Rattle.retire.specs.Gone.{leaving_entries, MayRetire, without_each, queues_without}
use Rattle.retire.proofs.Quiet.{quiet}
use Rattle.retire.proofs.Turns.{head_at, ended, waits, traps, leaves}

-- ---- all that retiring changes

pub record Parts : Type 0 where
  pub rob : Ring
  pub writes : List Write
  pub table_room : ℕ
  pub queues : Queues
  pub tags : Cache
  pub ram : Ram
  pub regs : List ℕ
  pub pc : ℕ
  pub row : Row
  pub piece : List ℕ

-- a machine with these parts, of which n more have retired
abbrev pub standing : Parts → ℕ → Option End → Machine → Machine
standing s n end x = with_more_retired n (with_parts s.rob s.tags s.ram s.regs s.pc end x)

-- what turns leave, with their events and bytes behind those so far
abbrev pub behind : Parts → Retired → Retired
behind s r = record { machine = r.machine; events = s.row.events ++ r.events; piece = s.piece ++ r.piece }

-- what the whole phase leaves of a machine with these parts
abbrev pub phase : Desc → Parts → Machine → Retired
phase d s x = retires d s.rob s.tags s.ram s.regs s.pc x

-- the entries `went` have left the parts `s0`, in this order, and `s` are left
pub record Left (s0 : Parts) (s : Parts) (went : List Entry) : Type 0 where
  pub window : s0.rob.entries ≡ went ++ s.rob.entries
  pub may_retire : Each MayRetire went
  pub room : s.rob.room ≡ s0.rob.room
  pub table : s.writes ≡ without_each went s0.writes
  pub table_room : s.table_room ≡ s0.table_room
  pub queues : s.queues ≡ queues_without went s0.queues
  pub desc : s.tags.desc ≡ s0.tags.desc
  pub cycle : s.row.cycle ≡ s0.row.cycle

-- at most n more turns of what is left now make what the whole phase leaves
pub record RetiresOn (d : Desc) (s0 : Parts) (n : ℕ) (stored : Bool) (s : Parts) : Type 0 where
  pub went : List Entry
  pub left : Left s0 s went
  pub whole : (x : Machine) → behind s (turns d n stored (standing s (length went) None x)) ≡ behind s0 (phase d s0 x)
  pub empty : 1 ≤ length s.rob.entries → s.piece ≡ []
  pub alone : CallAlone s.rob.entries
  pub stores : Each (TakesStore s.ram) s.rob.entries

-- what the phase asks of the parts: no output yet, a call that stands alone, and stores that memory takes
pub record Ready (d : Desc) (s : Parts) : Type 0 where
  pub piece : s.piece ≡ []
  pub alone : CallAlone s.rob.entries
  pub stores : Each (TakesStore s.ram) s.rob.entries

pub ready : (d : Desc) (s : Parts) → s.piece ≡ [] → CallAlone s.rob.entries → Each (TakesStore s.ram) s.rob.entries → Ready d s
ready d s p a e = record { piece = p; alone = a; stores = e }

pub retires_start : (d : Desc) (s : Parts) → Ready d s → RetiresOn d s (d.core_retire_width - 0) false s
unfolding retire
retires_start d s h =
    let e : d.core_retire_width - 0 ≡ d.core_retire_width = omega arith in
    let none : (x : Machine) → standing s 0 None x ≡ with_parts s.rob s.tags s.ram s.regs s.pc None x = λ x. (let z : x.retired + 0 ≡ x.retired = omega arith in ap (λ n. record (with_parts s.rob s.tags s.ram s.regs s.pc None x) { retired = n }) z) in
    record {
      went = [];
      left = record { window = refl; may_retire = tt; room = refl; table = refl; table_room = refl; queues = refl; desc = refl; cycle = refl };
      whole = λ x. ap (λ n. behind s (turns d n false (standing s 0 None x))) e ∙ ap (λ y. behind s (turns d d.core_retire_width false y)) (none x);
      empty = λ one. h.piece;
      alone = h.alone;
      stores = h.stores;
    }

-- ---- one more head retires

-- the rename table without one more entry
without_more : (went : List Entry) (e : Entry) (writes : List Write) → without_each (went ++ e ∷ []) writes ≡ without_retired e.serial (without_each went writes)
without_more [] e writes = refl
without_more (w ∷ went) e writes = without_more went e (without_retired w.serial writes)

popped_more : (went : List Entry) (e : Entry) (q : Queues) → queues_without (went ++ e ∷ []) q ≡ without e.serial (queues_without went q)
popped_more [] e q = refl
popped_more (w ∷ went) e q = popped_more went e (without w.serial q)

-- the parts once a head has left and taken effect
pub record HeadLeft (d : Desc) (s : Parts) (e : Entry) (end : Option End) (s2 : Parts) : Type 0 where
  pub rob : s2.rob ≡ record s.rob { entries = drop 1 s.rob.entries }
  pub table : s2.writes ≡ without_retired e.serial s.writes
  pub table_room : s2.table_room ≡ s.table_room
  pub queues : s2.queues ≡ without e.serial s.queues
  pub state : IsLeft (head_retires d e s.tags s.ram s.regs s.pc) (lines_moved e.item.kind d e s.tags) s2.ram s2.regs s2.pc end
  pub tags : s2.tags ≡ lines_moved e.item.kind d e s.tags
  pub told : TellsHead (head_retires d e s.tags s.ram s.regs s.pc) (head_told e.item.kind d s.tags e (length s2.piece))
  pub row : s2.row ≡ with_events s.row (head_told e.item.kind d s.tags e (length s2.piece))
  pub piece : PrintsHead (head_retires d e s.tags s.ram s.regs s.pc) s2.piece
  pub desc : s2.tags.desc ≡ s.tags.desc
  pub shape : SameShape s.ram s2.ram

-- once a head has left, the machine's parts and the row are the definition's
module _ (d : Desc) (s : Parts) (e : Entry) (end : Option End) (s2 : Parts) (g : HeadLeft d s e end s2) where
  state_left : IsLeft (head_retires d e s.tags s.ram s.regs s.pc) s2.tags s2.ram s2.regs s2.pc end
  state_left = subst (λ t. IsLeft (head_retires d e s.tags s.ram s.regs s.pc) t s2.ram s2.regs s2.pc end) (sym g.tags) g.state

  row_left : (x : Machine) (rest : List Entry) → s2.row ≡ with_events s.row (head_retires d e s.tags s.ram s.regs s.pc x rest).events
  row_left x rest = g.row ∙ ap (with_events s.row) (g.told x rest)

drop_head : (w rest : List Entry) (e : Entry) → w ≡ e ∷ rest → drop 1 w ≡ rest
drop_head w rest e h = ap (drop 1) h

left_more : (d : Desc) (s0 s s2 : Parts) (went rest : List Entry) (e : Entry) (end : Option End) → Left s0 s went → HeadLeft d s e end s2 → s.rob.entries ≡ e ∷ rest → MayRetire e → Machine → Left s0 s2 (went ++ e ∷ [])
left_more d s0 s s2 went rest e end h g w m x =
    let r : s2.rob.entries ≡ rest = ap (λ (r : Ring). r.entries) g.rob ∙ drop_head s.rob.entries rest e w in
    record {
      window = h.window ∙ ap (λ es. went ++ es) w ∙ sym (append_assoc went (e ∷ []) rest) ∙ ap (λ es. (went ++ e ∷ []) ++ es) (sym r);
      may_retire = each_push MayRetire went e h.may_retire m;
      room = ap (λ (r : Ring). r.room) g.rob ∙ h.room;
      table = g.table ∙ ap (without_retired e.serial) h.table ∙ sym (without_more went e s0.writes);
      table_room = g.table_room ∙ h.table_room;
      queues = g.queues ∙ ap (without e.serial) h.queues ∙ sym (popped_more went e s0.queues);
      desc = g.desc ∙ h.desc;
      cycle = ap (λ (r : Row). r.cycle) (row_left d s e end s2 g x rest) ∙ h.cycle;
    }

-- a machine after one more head is one of which one more has retired
counted_more : (s2 : Parts) (went rest : List Entry) (e : Entry) (end : Option End) (x : Machine) → s2.rob.entries ≡ rest →
    record (with_effects s2.tags s2.ram s2.regs s2.pc end x) { window = rest; retired = (x.retired + length went) + 1 } ≡ standing s2 (length (went ++ e ∷ [])) end x
counted_more s2 went rest e end x r =
    let n : (x.retired + length went) + 1 ≡ x.retired + length (went ++ e ∷ []) = (let l = length-append went (e ∷ []) in omega (arith, l)) in
    ap (λ w. record (with_effects s2.tags s2.ram s2.regs s2.pc end x) { window = w; retired = (x.retired + length went) + 1 }) (sym r)
    ∙ ap (λ n. record (with_effects s2.tags s2.ram s2.regs s2.pc end x) { window = s2.rob.entries; retired = n }) n

one_more : (d : Desc) (n : ℕ) (stored : Bool) (s s2 : Parts) (went rest : List Entry) (e : Entry) (end : Option End) → Goes stored s.rob.entries e → s.rob.entries ≡ e ∷ rest → s.piece ≡ [] → HeadLeft d s e end s2 → (x : Machine) →
    behind s2 (turns d n (stored || is_store e.item.kind) (standing s2 (length (went ++ e ∷ [])) end x)) ≡ behind s (turns d (suc n) stored (standing s (length went) None x))
one_more d n stored s s2 went rest e end t w p g x =
    let y : Machine = record x { window = s.rob.entries; retired = x.retired + length went } in
    let r = head_leaves e.item.kind d e rest (standing s (length went) None x) in
    let after : s2.rob.entries ≡ rest = ap (λ (r : Ring). r.entries) g.rob ∙ drop_head s.rob.entries rest e w in
    let m : standing s2 (length (went ++ e ∷ [])) end x ≡ r.machine = sym (counted_more s2 went rest e end x after) ∙ state_left d s e end s2 g y rest in
    let more = turns d n (stored || is_store e.item.kind) r.machine in
    let es : s2.row.events ≡ s.row.events ++ r.events = ap (λ (r : Row). r.events) (row_left d s e end s2 g y rest) in
    let ps : s2.piece ++ more.piece ≡ s.piece ++ (r.piece ++ more.piece) = ap (λ p. p ++ more.piece) (g.piece y rest) ∙ sym (ap (λ p. p ++ (r.piece ++ more.piece)) p) in
    ap (λ y. behind s2 (turns d n (stored || is_store e.item.kind) y)) m
    ∙ ap (λ es. record { machine = more.machine; events = es; piece = s2.piece ++ more.piece }) (ap (λ es. es ++ more.events) es ∙ append_assoc s.row.events r.events more.events)
    ∙ ap (λ ps. record { machine = more.machine; events = s.row.events ++ (r.events ++ more.events); piece = ps }) ps
    ∙ sym (ap (behind s) (leaves d n stored (standing s (length went) None x) e rest refl t.turn w))

-- ---- what is asked stays so

-- a call stands alone in the rest of a window in which it does
pub alone_rest : (e : Entry) (rest : List Entry) → CallAlone (e ∷ rest) → CallAlone rest
alone_rest e rest h one =
    let a = count_is calls rest in
    let b = count_is calls (e ∷ rest) in
    let few : length (e ∷ rest) ≤ 1 = h (omega (arith, one, a, b)) in
    omega (arith, few)

one_if : (b : Bool) (n : ℕ) → b ≡ true → cond b 1 0 + n ≡ suc n
one_if true n h = omega arith
one_if false n h = absurd (cc)

-- behind a call there is nothing that could retire, so nothing else puts anything out
quiet_if : (b : Bool) (e : Entry) (rest : List Entry) (p : List ℕ) → calls e ≡ b → CallAlone (e ∷ rest) → ((e.item.kind ≡ Call → ⊥) → p ≡ []) → 1 ≤ length rest → p ≡ []
quiet_if true e rest p c h q one =
    let b = count_is calls (e ∷ rest) in
    let v : count calls (e ∷ rest) ≡ suc (count calls rest) = one_if (calls e) (count calls rest) c in
    let few : length (e ∷ rest) ≤ 1 = h (omega (arith, b, v)) in
    absurd (omega (arith, few, one))
quiet_if false e rest p c h q one = q (λ k. let v : is_call e.item.kind ≡ true = ap is_call k in let n : is_call e.item.kind ≡ false = c in absurd (cc))

takes_over : (ram ram2 : Ram) → SameShape ram ram2 → (e : Entry) → TakesStore ram e → TakesStore ram2 e
takes_over ram ram2 k e h st done f = same_fault _ _ ram ram2 _ _ k ∙ h st done f

retires_head : (d : Desc) (s0 : Parts) (i : ℕ) (stored : Bool) (s s2 : Parts) (e : Entry) → RetiresOn d s0 (d.core_retire_width - i) stored s → i < d.core_retire_width → Goes stored s.rob.entries e → HeadLeft d s e None s2 →
    RetiresOn d s0 (d.core_retire_width - (i + 1)) (stored || is_store e.item.kind) s2
retires_head d s0 i stored s s2 e h lt t g =
    let head = head_at stored s.rob.entries e t in
    let rest = head.first.0 in
    let w = head.first.1 in
    let n : d.core_retire_width - i ≡ suc (d.core_retire_width - (i + 1)) = omega (arith, lt) in
    let after : s2.rob.entries ≡ rest = ap (λ (r : Ring). r.entries) g.rob ∙ drop_head s.rob.entries rest e w in
    let p : s.piece ≡ [] = h.empty (let l = ap length w in omega (arith, l)) in
    let alone : CallAlone (e ∷ rest) = subst CallAlone w h.alone in
    let stores : Each (TakesStore s.ram) (e ∷ rest) = subst (Each (TakesStore s.ram)) w h.stores in
    record {
      went = h.went ++ e ∷ [];
      left = left_more d s0 s s2 h.went rest e None h.left g w (head.may, head.goes, head.cleared) (opening d 0 s.ram);
      whole = λ x. one_more d (d.core_retire_width - (i + 1)) stored s s2 h.went rest e None t w p g x ∙ sym (ap (λ n. behind s (turns d n stored (standing s (length h.went) None x))) n) ∙ h.whole x;
      empty = λ one.
          quiet_if (calls e) e rest s2.piece refl alone (λ k. g.piece (opening d 0 s.ram) rest ∙ quiet e.item.kind d e rest (with_effects s.tags s.ram s.regs s.pc None (opening d 0 s.ram)) k) (subst (λ w. 1 ≤ length w) after one);
      alone = subst CallAlone (sym after) (alone_rest e rest alone);
      stores = subst (Each (TakesStore s2.ram)) (sym after) (each_then (TakesStore s.ram) (TakesStore s2.ram) (takes_over s.ram s2.ram g.shape) rest stores.1);
    }

pub retires_more : (d : Desc) (s0 : Parts) (i : ℕ) (stored : Bool) (s s2 : Parts) (e : Entry) (stored2 : Bool) (o : Option End) → RetiresOn d s0 (d.core_retire_width - i) stored s → i < d.core_retire_width → Goes stored s.rob.entries e → HeadLeft d s e o s2 →
    o ≡ None → stored2 ≡ (stored || is_store e.item.kind) → RetiresOn d s0 (d.core_retire_width - (i + 1)) stored2 s2
retires_more d s0 i stored s s2 e stored2 o h lt t g n b =
    subst (λ b. RetiresOn d s0 (d.core_retire_width - (i + 1)) b s2) (sym b) (retires_head d s0 i stored s s2 e h lt t (subst (λ o. HeadLeft d s e o s2) n g))

-- a store that retires writes inside memory
pub head_inside : (ram : Ram) (stored : Bool) (w : List Entry) (e : Entry) → Each (TakesStore ram) w → Goes stored w e → e.item.kind ≡ Store → store_fault ram (addr_of e.outcome) (byte_count e) ≡ None
head_inside ram stored w e h t k =
    let head = head_at stored w e t in
    let own : Each (TakesStore ram) (e ∷ head.first.0) = subst (Each (TakesStore ram)) head.first.1 h in
    own.0 (ap is_store k) (both (is_done e.state) _ head.may).0 (sym (ap (λ k. trap_as k e) k) ∙ head.goes)

-- ---- the row has room

-- the events so far and the next ones are few, as those of the whole phase are
few_told : (d : Desc) (s0 s : Parts) (told more : List Event) → Ready d s0 → s.row.events ++ (told ++ more) ≡ s0.row.events ++ (phase d s0 (opening d 0 s0.ram)).events →
    length s.row.events + length told ≤ length s0.row.events + most_retired
few_told d s0 s told more r h =
    let few : length (phase d s0 (opening d 0 s0.ram)).events ≤ d.core_retire_width + 2 = retire_few d _ r.alone in
    let all = ap length h in
    let a = length-append s.row.events (told ++ more) in
    let b = length-append told more in
    let c = length-append s0.row.events (phase d s0 (opening d 0 s0.ram)).events in
    omega (arith, few, all, a, b, c, d.stands.retire_width.1)

-- the row has room for the events of a head that retires
pub tell_room : (d : Desc) (s0 : Parts) (i : ℕ) (stored : Bool) (s : Parts) (e : Entry) (told : List Event) → RetiresOn d s0 (d.core_retire_width - i) stored s → Ready d s0 → i < d.core_retire_width →
    Goes stored s.rob.entries e → TellsHead (head_retires d e s.tags s.ram s.regs s.pc) told → HasRoom most_retired s0.row → length s.row.events + length told ≤ row_room
tell_room d s0 i stored s e told h r lt t tells room =
    let x = opening d 0 s0.ram in
    let y : Machine = record x { window = s.rob.entries; retired = x.retired + length h.went } in
    let head = head_at stored s.rob.entries e t in
    let rest = head.first.0 in
    let k = d.core_retire_width - (i + 1) in
    let n : d.core_retire_width - i ≡ suc k = omega (arith, lt) in
    let leaving = head_leaves e.item.kind d e rest (standing s (length h.went) None x) in
    let more = turns d k (stored || is_store e.item.kind) leaving.machine in
    let here : s.row.events ++ (leaving.events ++ more.events) ≡ s0.row.events ++ (phase d s0 x).events =
    ap (λ (r : Retired). s.row.events ++ r.events) (sym (leaves d k stored (standing s (length h.went) None x) e rest refl t.turn head.first.1))
    ∙ ap (λ n. s.row.events ++ (turns d n stored (standing s (length h.went) None x)).events) (sym n)
    ∙ ap (λ (r : Retired). r.events) (h.whole x) in
    let few = few_told d s0 s leaving.events more.events r here in
    let same = ap length (tells y rest) in
    omega (arith, few, same, room)

-- ---- the end of the phase

-- no turn is left: what the parts then are is what the whole phase leaves
pub record Over (d : Desc) (s0 : Parts) (end : Option End) (s : Parts) : Type 0 where
  pub state : (x : Machine) → standing s (length s0.rob.entries - length s.rob.entries) end x ≡ (phase d s0 x).machine
  pub row : (x : Machine) → s.row ≡ record s0.row { events = s0.row.events ++ (phase d s0 x).events }
  pub piece : (x : Machine) → s.piece ≡ (phase d s0 x).piece
  pub left : Left s0 s (leaving_entries s0.rob s.rob)
  pub few : length s.row.events ≤ length s0.row.events + most_retired

as_many : (went w rest : List Entry) → w ≡ went ++ rest → length w - length rest ≡ length went
as_many went w rest h = let a = ap length h in let b = length-append went rest in omega (arith, a, b)

gone_is : (went w rest : List Entry) → w ≡ went ++ rest → take (length w - length rest) w ≡ went
gone_is went w rest h = ap (λ n. take n w) (as_many went w rest h) ∙ ap (take (length went)) h ∙ take_at went rest (length went) refl

over : (d : Desc) (s0 s : Parts) (went : List Entry) (end : Option End) → Ready d s0 → Left s0 s went → ((x : Machine) → behind s (stays (standing s (length went) end x)) ≡ behind s0 (phase d s0 x)) → Over d s0 end s
over d s0 s went end r l h =
    let n = as_many went s0.rob.entries s.rob.entries l.window in
    let g = gone_is went s0.rob.entries s.rob.entries l.window in
    record {
      state = λ x. ap (λ n. standing s n end x) n ∙ ap (λ (r : Retired). r.machine) (h x);
      row = λ x.
          ap (λ c. record { cycle = c; events = s.row.events }) l.cycle
          ∙ ap (λ es. record { cycle = s0.row.cycle; events = es }) (sym (append-nil s.row.events) ∙ ap (λ (r : Retired). r.events) (h x));
      piece = λ x. sym (append-nil s.piece) ∙ ap (λ (r : Retired). r.piece) (h x) ∙ ap (λ p. p ++ (phase d s0 x).piece) r.piece;
      left = subst (Left s0 s) (sym g) l;
      few = let f = few_told d s0 s [] _ r (ap (λ (r : Retired). r.events) (h (opening d 0 s0.ram))) in omega (arith, f);
    }

-- the phase is over where as many turns are done as the description says
pub over_last : (d : Desc) (s0 : Parts) (i : ℕ) (stored : Bool) (s : Parts) → RetiresOn d s0 (d.core_retire_width - i) stored s → Ready d s0 → d.core_retire_width ≤ i → Over d s0 None s
over_last d s0 i stored s h r le =
    let e : d.core_retire_width - i ≡ 0 = omega (arith, le) in
    over d s0 s h.went None r h.left (λ x. sym (ap (λ n. behind s (turns d n stored (standing s (length h.went) None x))) e) ∙ h.whole x)

-- the phase is over where the head waits
pub over_waits : (d : Desc) (s0 : Parts) (n : ℕ) (stored : Bool) (s : Parts) → RetiresOn d s0 n stored s → Ready d s0 → turn_at stored s.rob.entries ≡ Waits → Over d s0 None s
over_waits d s0 n stored s h r t =
    over d s0 s h.went None r h.left (λ x. sym (ap (behind s) (waits d n stored (standing s (length h.went) None x) refl t)) ∙ h.whole x)

-- the phase is over where the head traps
pub over_traps : (d : Desc) (s0 : Parts) (i : ℕ) (stored : Bool) (s : Parts) (cause : Cause) (pc : ℕ) → RetiresOn d s0 (d.core_retire_width - i) stored s → Ready d s0 → i < d.core_retire_width → turn_at stored s.rob.entries ≡ Traps cause pc →
    Over d s0 (Some (Trap cause pc)) s
over_traps d s0 i stored s cause pc h r lt t =
    let e : d.core_retire_width - i ≡ suc (d.core_retire_width - (i + 1)) = omega (arith, lt) in
    over d s0 s h.went (Some (Trap cause pc)) r h.left (λ x.
    sym (ap (λ n. behind s (turns d n stored (standing s (length h.went) None x))) e ∙ ap (behind s) (traps d (d.core_retire_width - (i + 1)) stored (standing s (length h.went) None x) cause pc refl t))
    ∙ h.whole x)

-- the phase is over where the head retires and ends the run
pub over_ends : (d : Desc) (s0 : Parts) (i : ℕ) (stored : Bool) (s s2 : Parts) (e : Entry) (o : Option End) (end : End) → RetiresOn d s0 (d.core_retire_width - i) stored s → Ready d s0 → i < d.core_retire_width → Goes stored s.rob.entries e →
    HeadLeft d s e o s2 → o ≡ Some end → Over d s0 (Some end) s2
over_ends d s0 i stored s s2 e o end h r lt t left ends =
    let g = subst (λ o. HeadLeft d s e o s2) ends left in
    let head = head_at stored s.rob.entries e t in
    let rest = head.first.0 in
    let w = head.first.1 in
    let k = d.core_retire_width - (i + 1) in
    let n : d.core_retire_width - i ≡ suc k = omega (arith, lt) in
    let p : s.piece ≡ [] = h.empty (let l = ap length w in omega (arith, l)) in
    let went = h.went ++ e ∷ [] in
    over d s0 s2 went (Some end) r (left_more d s0 s s2 h.went rest e (Some end) h.left g w (head.may, head.goes, head.cleared) (opening d 0 s.ram)) (λ x.
    sym (ap (behind s2) (ended d k (stored || is_store e.item.kind) (standing s2 (length went) (Some end) x) end refl))
    ∙ one_more d k stored s s2 h.went rest e (Some end) t w p g x
    ∙ sym (ap (λ n. behind s (turns d n stored (standing s (length h.went) None x))) n)
    ∙ h.whole x)
