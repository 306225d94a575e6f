-- Two runs see alike who may be resolved, cleared and issue, and who asks for a port, where loads that ask ask alike.
use Rattle.std.proofs.Common.{◌≡◌, ℕ, ◌+◌, Bool, true, false, not, ◌&&◌, ◌||◌, List, [], ◌∷◌, refl, ap, ap₂, sym, ◌∙◌}
use Rattle.std.specs.Prelude.{if◌then◌else◌, nat_lt, ◌==◌}
use Rattle.rv_types.specs.Causes.{load_misaligned, load_outside}
use Rattle.rv_types.specs.Memory.{load_fault, range}
use Rattle.rv_types.specs.Path.{unless_fault}
use Rattle.rv_types.specs.Value.{one_if}
use Rattle.rv_types.specs.declared.Kind.{Kind}
use Rattle.rv_types.specs.declared.Kind.TheVariants.{Div, Load}
use Rattle.machine_desc.specs.declared.Desc.{Desc}
use Rattle.machine_desc.specs.Questions.{loads_pass}
use Rattle.window_model.specs.declared.Entry.{Entry}
use Rattle.window_model.specs.State.{Machine}
use Rattle.window_model.specs.Around.{Around, around, is_free}
use Rattle.window_model.specs.MayIssue.{address_of, bytes_of, goes_behind, may_issue, may_issue_as, passes_stores, stores_let}
use Rattle.window_model.specs.Ports.{Port, AddressPort, DataPort, asking, is_granted, may_at, part_may, port_of, ports, same_port}
use Rattle.window_model.proofs.Together.{address_part, data_part, is_whole, ready_part}
use Rattle.window_model.specs.Order.{base_of, has_address, has_data, is_control, is_done, is_load, is_store, is_waiting, others_of, sources}
use Rattle.window_model.specs.Delay.{delays, may_show}
use Rattle.window_model.specs.Dependence.{waits_for_stores}
use Rattle.window_model.specs.Ready.{ready}
use Rattle.window_model.specs.Retire.{byte_count}
use Rattle.window_model.specs.Taint.{address_tainted, any_tainted}
use Rattle.window_model.proofs.Memory.{same_fault}
use Rattle.two_runs.specs.Laws.{MayClearAlike, MayResolveAlike}
use Rattle.two_runs.specs.Seen.{AsksAlike, EachAsks, SeenEntries, SeenMachine, without_outcome}
use Rattle.two_runs.proofs.Looking.{same_address, same_all_known, same_any, same_stores_done, same_visible, stores_let_alike}

-- ---- who may be resolved, and who may be cleared

-- two runs see alike whether what stands behind these entries may show its operands
pub show_alike : (d : Desc) (b b2 : List Entry) → SeenEntries d.stt_model b b2 → may_show d b ≡ may_show d b2
show_alike d b b2 s = ap (λ v. not (delays d.stt_defence) || v) (same_visible d.stt_model b b2 s)

-- two runs see alike whether an entry may be resolved
pub may_resolve_alike : MayResolveAlike
may_resolve_alike d b b2 s e e2 h =
    ap₂ (λ a c. a && c) (ap (λ (t : Entry). is_control t.item.kind && is_done t.state && not t.resolved) h)
    (ap₂ (λ t v. not t && v) (same_any d.stt_model b b2 s e e2 h) (show_alike d b b2 s))

-- two runs see alike whether an entry may be cleared
pub may_clear_alike : MayClearAlike
may_clear_alike d b b2 s e e2 h =
    ap₂ (λ a t. a && not t) (ap (λ (t : Entry). is_store t.item.kind && not t.cleared && has_address t) h) (same_address d.stt_model b b2 s e e2 h)

-- ---- who may issue

-- the last of three tests is asked where the others hold
guarded : (w r t g g2 : Bool) → ((w && r && t) ≡ true → g ≡ g2) → ((w && r) && (t && g)) ≡ ((w && r) && (t && g2))
guarded true true true g g2 f = f refl
guarded true true false g g2 f = refl
guarded true false t g g2 f = refl
guarded false r t g g2 f = refl

module _ (d : Desc) (x x2 : Machine) (m : SeenMachine x x2) where
  abbrev now : Around
  now = around x

  abbrev now2 : Around
  now2 = around x2

  module _ (b b2 : List Entry) (s : SeenEntries d.stt_model b b2) (e e2 : Entry) (h : without_outcome e ≡ without_outcome e2) where
    -- two runs see alike which bytes a load reads, where it has one address
    bytes_alike : address_of x.regs b e ≡ address_of x2.regs b2 e2 → bytes_of now b e ≡ bytes_of now2 b2 e2
    bytes_alike q =
        let w : byte_count e ≡ byte_count e2 = ap byte_count h in
        let a2 = address_of x2.regs b2 e2 in
        ap₂ (λ a w. unless_fault (load_fault x.ram a w) (range a w)) q w
        ∙ ap (λ c. unless_fault c (range a2 (byte_count e2))) (sym (same_fault load_misaligned load_outside x.ram x2.ram a2 (byte_count e2) m.place))

    -- two runs see alike whether a load passes stores of unknown address
    passes_alike : passes_stores d now e ≡ passes_stores d now2 e2
    passes_alike =
        ap (λ (bits : List Bool). loads_pass d && not (waits_for_stores d bits e.item.pc)) m.dependence ∙ ap (λ (u : Entry). loads_pass d && not (waits_for_stores d x2.dependence u.item.pc)) h

    -- two runs see alike whether older stores let a load go, where it has one address
    behind_alike : address_of x.regs b e ≡ address_of x2.regs b2 e2 → goes_behind d now b e ≡ goes_behind d now2 b2 e2
    behind_alike q =
        let let_go =
        stores_let_alike d.stt_model (passes_stores d now e) (bytes_of now b e) b b2 s
        ∙ ap₂ (λ p bytes. stores_let d.stt_model p bytes b2) passes_alike (bytes_alike q) in
        ap₂ (λ y z. if d.version == 1 then y else z) (same_stores_done d.stt_model b b2 s) let_go

    -- two runs see alike whether an entry waits
    pub waits_alike : is_waiting e.state ≡ is_waiting e2.state
    waits_alike = ap (λ (u : Entry). is_waiting u.state) h

    -- two runs see alike whether an entry is ready
    pub ready_alike : ready d b e ≡ ready d b2 e2
    ready_alike = same_all_known d b b2 (sources e) (sources e2) s (ap sources h)

    -- two runs see alike whether an entry of a kind may issue as one
    kind_alike : (k : Kind) → ((is_load k && (is_waiting e.state && ready d b e && (not (address_tainted d.stt_model b e) && may_show d b))) ≡ true → address_of x.regs b e ≡ address_of x2.regs b2 e2) →
        (is_waiting e.state && ready d b e && may_issue_as k d now b e) ≡ (is_waiting e2.state && ready d b2 e2 && may_issue_as k d now2 b2 e2)
    kind_alike Load n =
        let clear = ap₂ (λ t v. not t && v) (same_address d.stt_model b b2 s e e2 h) (show_alike d b b2 s) in
        guarded (is_waiting e.state) (ready d b e) (not (address_tainted d.stt_model b e) && may_show d b) (goes_behind d now b e) (goes_behind d now2 b2 e2) (λ q. behind_alike (n q))
        ∙ ap₂ (λ w r. w && r && ((not (address_tainted d.stt_model b e) && may_show d b) && goes_behind d now2 b2 e2)) waits_alike ready_alike
        ∙ ap (λ c. is_waiting e2.state && ready d b2 e2 && (c && goes_behind d now2 b2 e2)) clear
    kind_alike Div n =
        let clear = ap₂ (λ t v. not t && v) (same_any d.stt_model b b2 s e e2 h) (show_alike d b b2 s) in
        ap₂ (λ w r. w && r && ((not (any_tainted d.stt_model b e) && may_show d b) && is_free now)) waits_alike ready_alike
        ∙ ap₂ (λ c f. is_waiting e2.state && ready d b2 e2 && (c && f)) clear m.free
    kind_alike _ n = ap₂ (λ w r. w && r && true) waits_alike ready_alike

    -- two runs see alike whether an entry may issue as one
    may_alike : AsksAlike d x x2 b b2 e e2 → may_issue d now b e ≡ may_issue d now2 b2 e2
    may_alike n =
        kind_alike e.item.kind n
        ∙ ap (λ (u : Entry). is_waiting e2.state && ready d b2 e2 && may_issue_as u.item.kind d now2 b2 e2) h

    -- two runs see alike whether a part of a store is ready
    part_ready : (own own2 : List ℕ) (shows shows2 : Bool) → own ≡ own2 → shows ≡ shows2 → ready_part d own shows b e ≡ ready_part d own2 shows2 b2 e2
    part_ready own own2 shows shows2 q k =
        ap₂ (λ y z. if d.version == 1 then y else z) (ap₂ (λ r v. r && v) (ap₂ (λ r w. r && w) ready_alike (ap is_whole h)) (show_alike d b b2 s))
        (ap₂ (λ g a. g && a) k (same_all_known d b b2 own own2 s q))

    -- two runs see alike whether a part of a store may issue at a port
    pub part_alike : (port : Port) → part_may port d b e ≡ part_may port d b2 e2
    part_alike AddressPort =
        address_part d b e ∙ ap₂ (λ a k. not a && k) (ap has_address h) (part_ready _ _ _ _ (ap (λ (u : Entry). base_of (sources u)) h) (show_alike d b b2 s))
        ∙ sym (address_part d b2 e2)
    part_alike DataPort =
        data_part d b e ∙ ap₂ (λ a k. not a && k) (ap has_data h) (part_ready _ _ true true (ap (λ (u : Entry). others_of (sources u)) h) refl)
        ∙ sym (data_part d b2 e2)
    part_alike _ = refl

    -- two runs see alike whether an entry may issue at a port
    pub at_alike : (port : Port) → AsksAlike d x x2 b b2 e e2 → may_at d now port b e ≡ may_at d now2 port b2 e2
    at_alike port n =
        ap₂ (λ p w. if is_store e.item.kind then p else w && same_port (port_of e.item.kind) port) (part_alike port) (may_alike n)
        ∙ ap (λ (u : Entry). if is_store u.item.kind then part_may port d b2 e2 else may_issue d now2 b2 e2 && same_port (port_of u.item.kind) port) h

  -- two runs see alike how many older entries ask for a port
  asking_alike : (port : Port) (b b2 : List Entry) → SeenEntries d.stt_model b b2 → EachAsks d x x2 b b2 → asking d now port b ≡ asking d now2 port b2
  asking_alike port [] [] s n = refl
  asking_alike port (e ∷ b) (e2 ∷ b2) s n = ap₂ (λ a c. one_if a + c) (at_alike b b2 s.1 e e2 s.0.but_outcome port n.0) (asking_alike port b b2 s.1 n.1)
  asking_alike port _ _ s n = absurd s

  -- two runs see alike whether an entry is granted a port
  pub granted_alike : (b b2 : List Entry) → SeenEntries d.stt_model b b2 → EachAsks d x x2 b b2 → (e e2 : Entry) → without_outcome e ≡ without_outcome e2 →
      (port : Port) → AsksAlike d x x2 b b2 e e2 → is_granted d now port b e ≡ is_granted d now2 port b2 e2
  granted_alike b b2 s q e e2 h port n = ap₂ (λ a c. a && nat_lt c (ports d port)) (at_alike b b2 s e e2 h port n) (asking_alike port b b2 s q)
