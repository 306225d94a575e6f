-- What an entry's turn comes to: it waits on, or it goes on with an event.
use Rattle.std.proofs.Common.{◌≡◌, ℕ, ◌+◌, ◌<◌, ◌≤◌, Bool, true, false, ◌&&◌, List, [], ◌∷◌, ◌++◌, length, refl, ap, ap₂, sym, subst, ◌∙◌, inl, inr, arith, append-nil, slice_get, Option, None, Some, eqb-true}
use Rattle.std.specs.Prelude.{◌==◌, ◌≢◌, ◌||◌, if◌then◌else◌, is_some, slice_set, ◌⊎◌}
use Rattle.std.specs.List.{All}
use Rattle.std.proofs.lemmas.List.{set_at}
use Rattle.std.proofs.lemmas.List.Elements.{All-push}
use Rattle.std.proofs.lemmas.List.Quantifiers.{all_pairs_push}
use Rattle.rv_types.specs.Isa.{Effect}
use Rattle.rv_types.specs.Value.{one_if}
use Rattle.rv_types.specs.declared.Kind.{Kind}
use Rattle.rv_types.specs.declared.Kind.TheVariants.{Div, Load, Mul, Store}
use Rattle.machine_desc.specs.declared.Desc.{Desc}
use Rattle.window_model.specs.declared.Entry.{Entry}
use Rattle.window_model.specs.declared.Event.{Event}
use Rattle.window_model.specs.declared.Event.TheVariants as event
use Rattle.window_model.specs.declared.Outcome.{Outcome}
use Rattle.window_model.specs.Around.{Around}
use Rattle.window_model.specs.declared.lookup.Lines.{Lines}
use Rattle.window_model.specs.declared.lookup.Request.{Request}
use Rattle.window_model.specs.declared.lookup.Access.TheVariants.{Looks}
use Rattle.window_model.specs.Access.{looked_up, prefetch_request}
use Rattle.window_model.specs.Order.{has_address, has_data, is_load, is_store, is_waiting}
use Rattle.window_model.specs.Retire.{op_of, byte_count}
use Rattle.window_model.specs.MayIssue.{effect_of}
use Rattle.window_model.specs.Ports.{AddressPort, DataPort, is_granted, port_of}
use Rattle.window_model.specs.Issue.{Begun, access_of, begin_as, begins, issue_entry, issue_store, load_as, waits}
use Rattle.window_model.proofs.Booleans.{waiting_done}
use Rattle.window_model.proofs.Issuing.{by_load, may_parts}
use Rattle.window_model.specs.inner.Issue.{data_events, parts_as}
use Rattle.window_model.proofs.Together.{data_few, entry_parts, granted_together, issue_parts}
use Rattle.unit_ports.specs.Ports.{port_for}
use Rattle.rob_ring.specs.Issued.{issued_of, with_issued}
use Rattle.rob_ring.specs.declared.issued.Issued.{Issued}
use Rattle.refinement.specs.Noted.{PartsGoOn, TracksOn}
use Rattle.refinement.specs.Stations.{Issues, station_of}
use Rattle.core_parts.specs.declared.decided.Put.{Put}
use Rattle.issue.specs.Ports.{most_events_of}
use Rattle.issue.specs.Puts.{ArePuts, IsPut, issue_by, issue_in, window_with_puts, width_for}
use Rattle.issue.specs.Turns.{after_by, begin_entry, puts_by, puts_of}
use Rattle.issue.proofs.Advanced.{lacks_address, lacks_data, still_undone}
use Rattle.issue.proofs.Asking.{AsksNone, InStep, fresh_address, fresh_data, granted_may, grants_none}
use Rattle.issue.proofs.Width.{size_is}
use Rattle.machine_facts.proofs.Ports.{load_few}

-- ---- what one in one piece comes to, by whether it is granted its port

turn_by : (k : Kind) (b : Bool) (d : Desc) (now : Around) (before : List Entry) (e : Entry) → is_store k ≡ false → is_granted d now (port_for k) before e ≡ b →
    (if is_store k then issue_store d now before e else (if is_granted d now (port_of k) before e then begin_as k d now before e else waits e)) ≡ (if b then begin_as k d now before e else waits e)
turn_by Store b d now before e s h = absurd (cc)
turn_by Mul b d now before e s h = ap (λ b. if b then begin_as Mul d now before e else waits e) h
turn_by Div b d now before e s h = ap (λ b. if b then begin_as Div d now before e else waits e) h
turn_by Load b d now before e s h = ap (λ b. if b then begin_as Load d now before e else waits e) h
turn_by k b d now before e s h = ap (λ b. if b then begin_as k d now before e else waits e) h

-- an entry that is served does what its kind does, and one that is granted no port waits on
pub turn_is : (b : Bool) (d : Desc) (now : Around) (before : List Entry) (e : Entry) → is_store e.item.kind ≡ false → is_granted d now (port_for e.item.kind) before e ≡ b →
    issue_entry d now before e ≡ (if b then begin_entry d now before e else waits e)
turn_is b d now before e s h = turn_by e.item.kind b d now before e s h

-- ---- what a store comes to, by whether each of its parts is granted its port

abbrev pub parts_here : Bool → Bool → Desc → Around → List Entry → Entry → Begun
parts_here a c d now before e = parts_as a c d now (effect_of now.regs before e) e

pub store_turn : (a c : Bool) (d : Desc) (now : Around) (before : List Entry) (e : Entry) → is_store e.item.kind ≡ true → is_granted d now AddressPort before e ≡ a → is_granted d now DataPort before e ≡ c →
    issue_entry d now before e ≡ parts_here a c d now before e
store_turn a c d now before e s p q =
    entry_parts d now before e
    ∙ ap (λ s. if s then issue_parts d now before e else (if is_granted d now (port_of e.item.kind) before e then begin_as e.item.kind d now before e else waits e)) s
    ∙ ap₂ (λ a c. parts_here a c d now before e) p q

-- an entry that asks for no port waits on
pub turn_none : (d : Desc) (now : Around) (before : List Entry) (e : Entry) → AsksNone d now before e → issue_entry d now before e ≡ waits e
turn_none d now before e n = by_store (is_store e.item.kind) refl
  where
    by_store : (s : Bool) → is_store e.item.kind ≡ s → issue_entry d now before e ≡ waits e
    by_store false s = turn_is false d now before e s (grants_none d now (port_for e.item.kind) before e n)
    by_store true s = store_turn false false d now before e s (grants_none d now AddressPort before e n) (grants_none d now DataPort before e n)

-- ---- An entry waits on, or it goes on with an event

-- the entry waited, and goes on in this turn with an event
pub record Acts (e : Entry) (b : Begun) : Type 0 where
  pub event : Event
  pub more : List Event
  pub has : b.events ≡ event ∷ more
  pub waits : is_waiting e.state ≡ true
  -- nothing else of the entry changes
  pub rest : with_issued (issued_of b.entry) e ≡ b.entry
  pub issues : Issues e b.entry
  pub more_issued : issued_of b.entry ≢ issued_of e
  pub stay : is_store e.item.kind ≡ true → PartsGoOn (width_for (byte_count e)) e b.entry
  pub tracks : TracksOn (width_for (byte_count e)) e b.entry

abbrev pub Turns : Entry → Begun → Type 0
Turns e b = (b ≡ waits e) ⊎ Acts e b

-- a load that issues has read
unread_not : (load : Bool) → load ≡ true → (load && true) ≡ false → ⊥
unread_not true l h = absurd (cc)
unread_not false l h = absurd (cc)

some_events : (now : Around) (e : Entry) (due : ℕ) (o : Outcome) (v : Event) (more : List Event) → is_store e.item.kind ≡ false → is_waiting e.state ≡ true → Turns e (begins now e due o (v ∷ more))
some_events now e due o v more s w = inr (record {
  event = v;
  more = more;
  has = refl;
  waits = w;
  rest = refl;
  issues = record { on = record { serial = refl; item = refl }; undone = refl; resolved = refl; cleared = refl };
  more_issued = λ same. let state = ap (λ (o : Issued). is_waiting o.state) same in absurd (cc);
  stay = λ t. absurd (cc);
  tracks = record {
    cleared = refl;
    unread = λ l h. absurd (unread_not (is_load e.item.kind) l h);
    size = size_is (op_of e.item.instr);
  };
})

one_event : (now : Around) (e : Entry) (due : ℕ) (o : Outcome) (v : Event) → is_store e.item.kind ≡ false → is_waiting e.state ≡ true → Turns e (begins now e due o (v ∷ []))
one_event now e due o v s w = some_events now e due o v [] s w

-- a load that looks lines up has an event for the first of them
looks_turns : (d : Desc) (now : Around) (e : Entry) (f : Effect) (v : ℕ) (found : Lines) (ahead : Option Request) → is_store e.item.kind ≡ false → is_waiting e.state ≡ true →
    Turns e (load_as (Looks found ahead) d now e f v)
looks_turns d now e f v found ahead s w = some_events now e _ _ _ _ s w

load_turns : (d : Desc) (now : Around) (b : List Entry) (e : Entry) (f : Effect) (v : ℕ) → is_store e.item.kind ≡ false → is_waiting e.state ≡ true → Turns e (load_as (access_of d now b e) d now e f v)
load_turns d now b e f v s w =
    by_load d now (λ a. Turns e (load_as a d now e f v)) (one_event now e _ _ _ s w) (λ a n some room. let found = looked_up d now a n in looks_turns d now e f v found (prefetch_request d now found) s w)
    (λ a n some full. inl refl) (λ c. one_event now e _ _ _ s w) b e

begin_turns : (k : Kind) (d : Desc) (now : Around) (before : List Entry) (e : Entry) → is_store e.item.kind ≡ false → is_waiting e.state ≡ true → Turns e (begin_as k d now before e)
begin_turns Load d now before e s w = load_turns d now before e _ _ s w
begin_turns _ d now before e s w = one_event now e _ _ _ s w

-- what is tracked of a store stays
parts_track : (a c : Bool) (d : Desc) (now : Around) (before : List Entry) (e : Entry) →
    TracksOn (width_for (byte_count e)) e (parts_here a c d now before e).entry
parts_track true true d now before e = record { cleared = refl; unread = λ l h. refl; size = size_is (op_of e.item.instr) }
parts_track true false d now before e = record { cleared = refl; unread = λ l h. refl; size = size_is (op_of e.item.instr) }
parts_track false true d now before e = record { cleared = refl; unread = λ l h. refl; size = size_is (op_of e.item.instr) }
parts_track false false d now before e = record { cleared = refl; unread = λ l h. refl; size = size_is (op_of e.item.instr) }

-- a part that hadn't issued had no cycle from which on it is known
has_no_part : (due : Option ℕ) (cycle : ℕ) → is_some due ≡ false → Some cycle ≡ due → ⊥
has_no_part None cycle h q = absurd (cc)
has_no_part (Some due) cycle h q = absurd (cc)

parts_turns : (a c : Bool) (d : Desc) (now : Around) (before : List Entry) (e : Entry) → ((a || c) ≡ true → is_waiting e.state ≡ true) → (a ≡ false → c ≡ true → (d.version == 1) ≡ false) →
    (a ≡ true → has_address e ≡ false) → (c ≡ true → has_data e ≡ false) → Turns e (parts_here a c d now before e)
parts_turns false false d now before e w v p q = inl refl
parts_turns true true d now before e w v p q = inr (record {
  event = event.Agu e.serial;
  more = data_events d e;
  has = refl;
  waits = w refl;
  rest = refl;
  issues = record { on = record { serial = refl; item = refl }; undone = refl; resolved = refl; cleared = refl };
  more_issued = λ same. has_no_part e.addr_due _ (p refl) (ap (λ (o : Issued). o.addr_due) same);
  stay = λ t. record { address = λ h. refl; stored = λ h. refl; outcome = λ h. refl; size = size_is (op_of e.item.instr) };
  tracks = parts_track true true d now before e;
})
parts_turns true false d now before e w v p q = inr (record {
  event = event.Agu e.serial;
  more = [];
  has = refl;
  waits = w refl;
  rest = refl;
  issues = record {
    on = record { serial = refl; item = refl };
    undone = still_undone (Some (now.cycle + 1)) e.data_due e.state (waiting_done e.state (w refl));
    resolved = refl;
    cleared = refl;
  };
  more_issued = λ same. has_no_part e.addr_due _ (p refl) (ap (λ (o : Issued). o.addr_due) same);
  stay = λ t. record { address = λ h. refl; stored = λ h. h; outcome = λ h. refl; size = size_is (op_of e.item.instr) };
  tracks = parts_track true false d now before e;
})
parts_turns false true d now before e w v p q = inr (record {
  event = event.Std e.serial;
  more = [];
  has = ap (λ one. if one then [] else event.Std e.serial ∷ []) (v refl refl);
  waits = w refl;
  rest = refl;
  issues = record {
    on = record { serial = refl; item = refl };
    undone = still_undone e.addr_due (Some (now.cycle + 1)) e.state (waiting_done e.state (w refl));
    resolved = refl;
    cleared = refl;
  };
  more_issued = λ same. has_no_part e.data_due _ (q refl) (ap (λ (o : Issued). o.data_due) same);
  stay = λ t. record { address = λ h. h; stored = λ h. refl; outcome = λ h. refl; size = size_is (op_of e.item.instr) };
  tracks = parts_track false true d now before e;
})

module _ (d : Desc) (now : Around) (before : List Entry) (e : Entry) where
  whole_turns : (b : Bool) → is_store e.item.kind ≡ false → is_granted d now (port_for e.item.kind) before e ≡ b → Turns e (if b then begin_entry d now before e else waits e)
  whole_turns true s g = begin_turns e.item.kind d now before e s (may_parts d now before e (granted_may d now before e s g)).waits
  whole_turns false s g = inl refl

  -- a store of which a part is granted its port waits
  part_waits : (a c : Bool) → InStep d e → is_store e.item.kind ≡ true → is_granted d now AddressPort before e ≡ a → is_granted d now DataPort before e ≡ c → (a || c) ≡ true → is_waiting e.state ≡ true
  part_waits true c t s p q h = lacks_address (has_address e) (has_data e) (is_waiting e.state) (t.parts s) (fresh_address d now before e s p)
  part_waits false true t s p q h = lacks_data (has_address e) (has_data e) (is_waiting e.state) (t.parts s) (fresh_data d now before e s q)
  part_waits false false t s p q h = absurd (cc)

  -- in version 1 the data part doesn't go alone
  pub not_alone : (v : Bool) → (d.version == 1) ≡ v → is_granted d now AddressPort before e ≡ false → is_granted d now DataPort before e ≡ true → (d.version == 1) ≡ false
  not_alone false v p q = v
  not_alone true v p q = let one : d.version ≡ 1 = eqb-true _ _ v in let same = granted_together d now one before e in absurd (cc)

  store_turns : (a c : Bool) → InStep d e → is_store e.item.kind ≡ true → is_granted d now AddressPort before e ≡ a → is_granted d now DataPort before e ≡ c → Turns e (parts_here a c d now before e)
  store_turns a c t s p q = parts_turns a c d now before e (part_waits a c t s p q) (λ x y. not_alone (d.version == 1) refl (p ∙ x) (q ∙ y)) (λ x. fresh_address d now before e s (p ∙ x)) (λ x. fresh_data d now before e s (q ∙ x))

  pub entry_turns : InStep d e → Turns e (issue_entry d now before e)
  entry_turns t = by_store (is_store e.item.kind) refl
    where
      by_store : (s : Bool) → is_store e.item.kind ≡ s → Turns e (issue_entry d now before e)
      by_store false s =
          let granted = is_granted d now (port_for e.item.kind) before e in
          subst (Turns e) (sym (turn_is granted d now before e s refl)) (whole_turns granted s refl)
      by_store true s =
          let a = is_granted d now AddressPort before e in
          let c = is_granted d now DataPort before e in
          subst (Turns e) (sym (store_turn a c d now before e s refl refl)) (store_turns a c t s refl refl)

-- ---- how many events it has

begin_few : (k : Kind) (d : Desc) (now : Around) (before : List Entry) (e : Entry) → length (begin_as k d now before e).events ≤ most_events_of k
begin_few Load d now before e = load_few d now before e _ _
begin_few _ d now before e = omega arith

-- an entry in one piece has at most the events of its kind
pub few_events : (d : Desc) (now : Around) (before : List Entry) (e : Entry) → length (begin_entry d now before e).events ≤ most_events_of e.item.kind
few_events d now before e = begin_few e.item.kind d now before e

-- the events of a store are at most one for each part that issues
pub few_parts : (a c : Bool) (d : Desc) (now : Around) (before : List Entry) (e : Entry) → length (parts_here a c d now before e).events ≤ one_if a + one_if c
few_parts true true d now before e = let few = data_few d e in omega (arith, few)
few_parts true false d now before e = omega arith
few_parts false true d now before e = let few = data_few d e in omega (arith, few)
few_parts false false d now before e = omega arith

-- a store of which a part issues has a put, since it has an event
pub parts_put : (a c : Bool) (d : Desc) (now : Around) (before : List Entry) (e : Entry) → (a || c) ≡ true → (a ≡ false → c ≡ true → (d.version == 1) ≡ false) →
    after_by (parts_here a c d now before e).entry (parts_here a c d now before e).events ≡ Some (issued_of (parts_here a c d now before e).entry)
parts_put true c d now before e h v = refl
parts_put false true d now before e h v = ap (λ one. after_by (parts_here false true d now before e).entry (if one then [] else event.Std e.serial ∷ [])) (v refl refl)
parts_put false false d now before e h v = absurd (cc)

-- ---- the puts of the entries' turns

-- the puts of the entries before a position
pub record PutsTo (window : List Entry) (i : ℕ) (puts : List Put) : Type 0 where
  pub puts_are : ArePuts window puts
  pub older : All (λ p. p.position < i) puts

later : (i : ℕ) (puts : List Put) → All (λ p. p.position < i) puts → All (λ p. p.position < i + 1) puts
later i puts a k d within = let h = a k d within in omega (arith, h)

pub puts_more : (window : List Entry) (i station : ℕ) (e : Entry) (puts : List Put) (b : Begun) → slice_get window i ≡ Some e → station ≡ station_of i window →
    Turns e b → PutsTo window i puts → PutsTo window (i + 1) (puts ++ puts_of i station b)
puts_more window i station e puts b h n (inl q) t =
    subst (PutsTo window (i + 1)) (sym (ap (λ b. puts ++ puts_of i station b) q ∙ append-nil puts))
    (record { puts_are = t.puts_are; older = later i puts t.older })
puts_more window i station e puts b h n (inr a) t =
    let p : Put = record { position = i; station = station; issued = issued_of b.entry } in
    let put : IsPut window p = record {
      old = e;
      here = h;
      waits = a.waits;
      station = n;
      issues = subst (Issues e) (sym a.rest) a.issues;
      more = a.more_issued;
      stay = λ s. subst (PartsGoOn (width_for (byte_count e)) e) (sym a.rest) (a.stay s);
      tracks = subst (TracksOn (width_for (byte_count e)) e) (sym a.rest) a.tracks;
    } in
    subst (λ events. PutsTo window (i + 1) (puts ++ puts_by i station (after_by b.entry events))) (sym a.has)
    (record {
      puts_are = record {
        each_put = All-push (IsPut window) puts p t.puts_are.each_put put;
        by_age = all_pairs_push (λ p q. p.position < q.position) puts p t.puts_are.by_age t.older;
      };
      older = All-push (λ p. p.position < i + 1) puts p (later i puts t.older) (omega arith);
    })

-- the youngest is put in its place first
pub placed_push : (puts : List Put) (p : Put) (window : List Entry) → window_with_puts (puts ++ p ∷ []) window ≡ window_with_puts puts (issue_in p window)
placed_push [] p window = refl
placed_push (q ∷ ps) p window = ap (issue_in q) (placed_push ps p window)

-- a put changes the entry that stands at its position
pub issues_here : (p : Put) (window : List Entry) (e : Entry) → slice_get window p.position ≡ Some e → issue_in p window ≡ slice_set window p.position (with_issued p.issued e)
issues_here p window e h = ap (issue_by p window) h

-- the entry behind a list stands at the position that is the list's length
here_between : (older : List Entry) (e : Entry) (younger : List Entry) (i : ℕ) → length older ≡ i → slice_get (older ++ e ∷ younger) i ≡ Some e
here_between older e younger i l = subst (λ i. slice_get (older ++ e ∷ younger) i ≡ Some e) l (seam older)
  where
    seam : (older : List Entry) → slice_get (older ++ e ∷ younger) (length older) ≡ Some e
    seam [] = refl
    seam (x ∷ xs) = seam xs

pub placed_more : (puts : List Put) (i station : ℕ) (e : Entry) (b : Begun) (older younger : List Entry) → length older ≡ i → Turns e b →
    window_with_puts (puts ++ puts_of i station b) (older ++ e ∷ younger) ≡ window_with_puts puts (older ++ b.entry ∷ younger)
placed_more puts i station e b older younger l (inl q) =
    let P : Begun → Type 0 = λ b. window_with_puts (puts ++ puts_of i station b) (older ++ e ∷ younger) ≡ window_with_puts puts (older ++ b.entry ∷ younger) in
    subst P (sym q) (ap (λ ps. window_with_puts ps (older ++ e ∷ younger)) (append-nil puts))
placed_more puts i station e b older younger l (inr a) =
    let P : List Event → Type 0 = λ events. window_with_puts (puts ++ puts_by i station (after_by b.entry events)) (older ++ e ∷ younger) ≡ window_with_puts puts (older ++ b.entry ∷ younger) in
    let p : Put = record { position = i; station = station; issued = issued_of b.entry } in
    let there : issue_in p (older ++ e ∷ younger) ≡ older ++ b.entry ∷ younger =
    issues_here p (older ++ e ∷ younger) e (here_between older e younger i l) ∙ set_at older e younger (with_issued (issued_of b.entry) e) i l
    ∙ ap (λ r. older ++ r ∷ younger) a.rest in
    subst P (sym a.has) (placed_push puts p (older ++ e ∷ younger) ∙ ap (window_with_puts puts) there)
