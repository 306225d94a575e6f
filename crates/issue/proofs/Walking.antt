-- The walk, an entry at a time.
use Rattle.std.proofs.Common.{◌≡◌, ℕ, ◌+◌, ◌<◌, ◌≤◌, List, [], ◌∷◌, ◌++◌, length, map, take, Option, Some, None, refl, ap, sym, subst, ◌∙◌, arith, append-nil, append_assoc}
use Rattle.std.specs.Prelude.{if◌then◌else◌}
use Rattle.std.specs.List.{flat_map}
use Rattle.std.proofs.lemmas.List.{length-take-le, take_all}
use Rattle.std.proofs.lemmas.List.Elements.{All-nil}
use Rattle.std.proofs.lemmas.Option.{get_or_from_slice_get, slice_get_within}
use Rattle.window_model.specs.declared.Divider.{Divider}
use Rattle.window_model.specs.declared.Entry.{Entry}
use Rattle.window_model.specs.declared.Event.{Event}
use Rattle.window_model.specs.declared.lookup.Access.{Access}
use Rattle.machine_desc.specs.declared.Desc.{Desc}
use Rattle.window_model.specs.Around.{Around}
use Rattle.window_model.specs.Order.{before_at, each}
use Rattle.window_model.specs.Ports.{DivPort, LoadPort, is_granted, may_at}
use Rattle.window_model.specs.Issue.{Begun, access_of, issue_entry, taken_for, waits}
use Rattle.window_model.proofs.Before.{before_more, each_push}
use Rattle.unit_ports.specs.Ports.{Ports}
use Rattle.unit_ports.specs.Laws.{LeftAfter}
use Rattle.refinement.specs.Stations.{station_of}
use Rattle.core_parts.specs.declared.decided.Put.{Put}
use Rattle.issue.specs.declared.seen.Seen.{Seen}
use Rattle.core_parts.specs.declared.decided.Decided.{Decided}
use Rattle.issue.specs.Decisions.{DecidesFor, turns_of}
use Rattle.issue.specs.Puts.{ArePuts, IsPut, window_with_puts}
use Rattle.issue.specs.Shared.{divider_left}
use Rattle.issue.specs.State.{IssueInvariant, StandsAt, around_of, window_of}
use Rattle.issue.specs.Turns.{puts_of}
use Rattle.issue.proofs.Choosing.{the_other}
use Rattle.issue.proofs.Slots.{divider_more, of_first, one_more, slot_more}
use Rattle.issue.proofs.Asking.{AsksNone, InStep, grants_none, in_step, not_waiting}
use Rattle.issue.proofs.Testing.{left_none}
use Rattle.issue.proofs.Waiting.{Keeps, Reaches}
use Rattle.issue.proofs.Turning.{PutsTo, entry_turns, placed_more, puts_more, turn_none}

-- what is decided once the entries before a position have had their turns
pub record DecidedTo (s : Seen) (i : ℕ) (puts : List Put) (load : Option Access) (start divider : Divider) (earlier events : List Event) : Type 0 where
  pub puts_to : PutsTo (window_of s) i puts
  -- the window with the older entries put in their places, whatever entries are younger
  pub window : (younger : List Entry) → window_with_puts puts (take i (window_of s) ++ younger) ≡ map (λ b. b.entry) (each (issue_entry s.desc.now (around_of s)) (take i (window_of s))) ++ younger
  pub events_are : events ≡ earlier ++ flat_map (λ b. b.events) (each (issue_entry s.desc.now (around_of s)) (take i (window_of s)))
  pub load_is : load ≡ of_first (may_at s.desc.now (around_of s) LoadPort) (access_of s.desc.now (around_of s)) (take i (window_of s))
  pub divider_is : divider ≡ divider_left (of_first (may_at s.desc.now (around_of s) DivPort) (taken_for (around_of s)) (take i (window_of s))) start

entries_push : (bs : List Begun) (b : Begun) → map (λ b. b.entry) (bs ++ b ∷ []) ≡ map (λ b. b.entry) bs ++ b.entry ∷ []
entries_push [] b = refl
entries_push (a ∷ bs) b = ap (λ es. a.entry ∷ es) (entries_push bs b)

events_push : (bs : List Begun) (b : Begun) → flat_map (λ b. b.events) (bs ++ b ∷ []) ≡ flat_map (λ b. b.events) bs ++ b.events
events_push [] b = append-nil b.events
events_push (a ∷ bs) b = ap (λ es. a.events ++ es) (events_push bs b) ∙ sym (append_assoc a.events (flat_map (λ b. b.events) bs) b.events)

module _ (s : Seen) (i : ℕ) (e : Entry) (stands : IssueInvariant s) (h : StandsAt s i e) where
  abbrev d : Desc
  d = s.desc.now

  abbrev now : Around
  now = around_of s

  abbrev window_up_to : ℕ → List Entry
  window_up_to n = take n (window_of s)

  abbrev before : List Entry
  before = before_at (window_of s) i

  step : InStep d e
  step = in_step s i e stands h

  abbrev turn : Begun
  turn = issue_entry d now before e

  abbrev turns : ℕ → List Begun
  turns n = each (issue_entry d now) (window_up_to n)

  -- the turns of the entries up to this one
  turns_more : turns (i + 1) ≡ turns i ++ turn ∷ []
  turns_more = ap (each (issue_entry d now)) (one_more (window_of s) i e h) ∙ each_push (issue_entry d now) [] (window_up_to i) e

  window_more : (station : ℕ) (puts : List Put) → ((younger : List Entry) → window_with_puts puts (window_up_to i ++ younger) ≡ map (λ b. b.entry) (turns i) ++ younger) →
      (younger : List Entry) → window_with_puts (puts ++ puts_of i station turn) (window_up_to (i + 1) ++ younger) ≡ map (λ b. b.entry) (turns (i + 1)) ++ younger
  window_more station puts w younger =
      let within : i < length (window_of s) = slice_get_within (window_of s) i e h in
      let l : length (window_up_to i) ≡ i = length-take-le i (window_of s) (omega (arith, within)) in
      let older : window_up_to (i + 1) ++ younger ≡ window_up_to i ++ e ∷ younger = ap (λ es. es ++ younger) (one_more (window_of s) i e h) ∙ append_assoc (window_up_to i) (e ∷ []) younger in
      let turned : map (λ b. b.entry) (turns (i + 1)) ≡ map (λ b. b.entry) (turns i) ++ turn.entry ∷ [] = ap (map (λ b. b.entry)) turns_more ∙ entries_push (turns i) turn in
      let whole : map (λ b. b.entry) (turns (i + 1)) ++ younger ≡ map (λ b. b.entry) (turns i) ++ turn.entry ∷ younger = ap (λ es. es ++ younger) turned ∙ append_assoc (map (λ b. b.entry) (turns i)) (turn.entry ∷ []) younger in
      ap (window_with_puts (puts ++ puts_of i station turn)) older
      ∙ placed_more puts i station e turn (window_up_to i) younger l (entry_turns d now before e step)
      ∙ w (turn.entry ∷ younger) ∙ sym whole

  events_more : (earlier events more : List Event) → more ≡ events ++ turn.events → events ≡ earlier ++ flat_map (λ b. b.events) (turns i) →
      more ≡ earlier ++ flat_map (λ b. b.events) (turns (i + 1))
  events_more earlier events more m k =
      m ∙ ap (λ es. es ++ turn.events) k ∙ append_assoc earlier (flat_map (λ b. b.events) (turns i)) turn.events
      ∙ ap (λ es. earlier ++ es) (sym (ap (flat_map (λ b. b.events)) turns_more ∙ events_push (turns i) turn))

  -- the decision goes on over an entry that has had its turn
  pub decided_more : (station : ℕ) (puts new_puts : List Put) (load new_load : Option Access) (start divider new_divider : Divider) (earlier events more : List Event) → station ≡ station_of i (window_of s) →
      new_puts ≡ puts ++ puts_of i station turn → more ≡ events ++ turn.events →
      new_load ≡ (if is_granted d now LoadPort before e then Some (access_of d now before e) else load) →
      new_divider ≡ (if is_granted d now DivPort before e then taken_for now before e else divider) →
      DecidedTo s i puts load start divider earlier events → DecidedTo s (i + 1) new_puts new_load start new_divider earlier more
  decided_more station puts new_puts load new_load start divider new_divider earlier events more n p m l v t =
      record {
        puts_to = subst (PutsTo (window_of s) (i + 1)) (sym p) (puts_more (window_of s) i station e puts turn h n (entry_turns d now before e step) t.puts_to);
        window = λ younger. ap (λ ps. window_with_puts ps (window_up_to (i + 1) ++ younger)) p ∙ window_more station puts t.window younger;
        events_are = events_more earlier events more m t.events_are;
        load_is = slot_more (access_of d now) d now LoadPort (window_of s) i e load new_load h refl l t.load_is;
        divider_is = divider_more d now (window_of s) i e start divider new_divider h v t.divider_is;
      }

  -- the decision goes on as it is over an entry that asks for no port
  pub decided_past : (puts : List Put) (load : Option Access) (start divider : Divider) (earlier events : List Event) → AsksNone d now before e →
      DecidedTo s i puts load start divider earlier events → DecidedTo s (i + 1) puts load start divider earlier events
  decided_past puts load start divider earlier events m t =
      let stays : turn ≡ waits e = turn_none d now before e m in
      decided_more (station_of i (window_of s)) puts puts load load start divider divider earlier events events refl
      (sym (ap (λ b. puts ++ puts_of i (station_of i (window_of s)) b) stays ∙ append-nil puts))
      (sym (ap (λ b. events ++ b.events) stays ∙ append-nil events))
      (the_other _ _ load (grants_none d now LoadPort before e m)) (the_other _ _ divider (grants_none d now DivPort before e m)) t

  -- what older entries have left is left to the next
  pub left_on : (p : Ports) → LeftAfter d now (e ∷ before) p → LeftAfter d now (before_at (window_of s) (i + 1)) p
  left_on p l = subst (λ before. LeftAfter d now before p) (sym (before_more (window_of s) i e (slice_get_within (window_of s) i e h) ∙ ap (λ e. e ∷ before) (get_or_from_slice_get (window_of s) i e e h))) l

  pub left_past : (p : Ports) → AsksNone d now before e → LeftAfter d now before p → LeftAfter d now (before_at (window_of s) (i + 1)) p
  left_past p m l = left_on p (left_none d now before e p m l)

-- ---- the walk over the window

-- what is decided before a position, and the ports that are left there
pub record Walked (s : Seen) (ports : Ports) (puts : List Put) (load : Option Access) (start : Divider) (earlier events : List Event) (i : ℕ) : Type 0 where
  pub decided : DecidedTo s i puts load start ports.divider earlier events
  pub left : LeftAfter s.desc.now (around_of s) (before_at (window_of s) i) ports

module _ (s : Seen) (ports : Ports) (puts : List Put) (load : Option Access) (start : Divider) (earlier events : List Event) (stands : IssueInvariant s) where
  -- the walk goes on as it is over an entry that asks for no port
  pub walked_past : (i : ℕ) (e : Entry) (h : StandsAt s i e) → AsksNone s.desc.now (around_of s) (before_at (window_of s) i) e →
      Walked s ports puts load start earlier events i → Walked s ports puts load start earlier events (i + 1)
  walked_past i e h m t = record { decided = decided_past s i e stands h puts load start ports.divider earlier events m t.decided; left = left_past s i e stands h ports m t.left }

  -- an entry that doesn't wait leaves what the walk has reached as it is
  pub keeps : Keeps (Walked s ports puts load start earlier events) (window_of s)
  keeps i e h w t = walked_past i e h (not_waiting s.desc.now (around_of s) (before_at (window_of s) i) e (in_step s i e stands h) w) t

-- ---- at the end of the walk

-- what is decided once all have had their turns is what the definition decides
pub record DecidesAll (s : Seen) (decided : Decided) (start divider : Divider) (earlier events : List Event) : Type 0 where
  pub puts_are : ArePuts (window_of s) decided.puts.items
  pub decides : DecidesFor s decided start divider
  pub events_are : events ≡ earlier ++ flat_map (λ b. b.events) (turns_of s)

pub decided_all : (s : Seen) (i : ℕ) (decided : Decided) (start divider : Divider) (earlier events : List Event) → length (window_of s) ≤ i →
    DecidedTo s i decided.puts.items decided.load start divider earlier events → DecidesAll s decided start divider earlier events
decided_all s i decided start divider earlier events le t =
    let now = around_of s in
    let d = s.desc.now in
    let all : take i (window_of s) ≡ window_of s = take_all i (window_of s) le in
    let turns = ap (each (issue_entry d now)) all in
    record {
      puts_are = t.puts_to.puts_are;
      decides = record {
        window = ap (window_with_puts decided.puts.items) (sym (append-nil (take i (window_of s)) ∙ all)) ∙ t.window []
            ∙ append-nil (map (λ b. b.entry) (each (issue_entry d now) (take i (window_of s)))) ∙ ap (map (λ b. b.entry)) turns;
        load = t.load_is ∙ ap (of_first (may_at d now LoadPort) (access_of d now)) all;
        divider = t.divider_is ∙ ap (λ es. divider_left (of_first (may_at d now DivPort) (taken_for now) es) start) all;
      };
      events_are = t.events_are ∙ ap (λ bs. earlier ++ flat_map (λ b. b.events) bs) turns;
    }

-- nothing is decided as the walk begins
pub walked_none : (s : Seen) (ports : Ports) (puts : List Put) (load : Option Access) (earlier : List Event) → puts ≡ [] → load ≡ None → LeftAfter s.desc.now (around_of s) [] ports →
    Reaches (Walked s ports puts load ports.divider earlier earlier) (window_of s) 0
walked_none s ports puts load earlier p l left =
    record {
      position = 0;
      within = omega arith;
      station = refl;
      holds = record {
        decided = record {
          puts_to = subst (PutsTo (window_of s) 0) (sym p)
              (record {
                puts_are = record { each_put = All-nil (IsPut (window_of s)); by_age = λ i j d lt within. absurd (omega arith) };
                older = All-nil (λ p. p.position < 0);
              });
          window = λ younger. ap (λ ps. window_with_puts ps younger) p;
          events_are = sym (append-nil earlier);
          load_is = l;
          divider_is = refl;
        };
        left = left;
      };
    }
