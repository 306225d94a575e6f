-- What two runs see alike when they look back.
use Rattle.std.proofs.Common.{Option, ◌≡◌, ℕ, true, false, List, [], ◌∷◌, refl, ap, ◌∙◌, arith}
use Rattle.rv_types.specs.declared.Kind.{Kind}
use Rattle.rv_types.specs.declared.Kind.TheVariants.{Load, Store}
use Rattle.machine_desc.specs.declared.SttModel.{SttModel}
use Rattle.window_model.specs.declared.Entry.{Entry}
use Rattle.window_model.specs.declared.Outcome.{Outcome}
use Rattle.window_model.specs.Order.{writes, sources, base_of, fault_of, is_store}
use Rattle.window_model.specs.Retire.{addr_of}
use Rattle.window_model.specs.Taint.{address_tainted, any_tainted, permits, tainted, visible}
use Rattle.window_model.proofs.Booleans.{both}
use Rattle.window_model.proofs.Taints.{tainted_cons, none_any}
use Rattle.two_runs.specs.Seen.{SeenEntries}
use Rattle.two_runs.proofs.Seeing.{covers_alike, permits_alike}
use Rattle.noninterference.specs.Outcomes.{SameOutcome, SameOutcomes}
use Rattle.noninterference.specs.Alike.{without_outcome}

-- ---- entries that are equal but for their outcomes

-- two entries that are equal but for their outcomes are of one kind
pub same_kind : (e e2 : Entry) → without_outcome e ≡ without_outcome e2 → e.item.kind ≡ e2.item.kind
same_kind e e2 h = ap (λ (t : Entry). t.item.kind) h

-- two entries that are equal but for their outcomes write the same register
pub same_writes : (r : ℕ) (e e2 : Entry) → without_outcome e ≡ without_outcome e2 → writes r e ≡ writes r e2
same_writes r e e2 h = ap (writes r) h

-- two entries that are equal but for their outcomes have the same sources
pub same_sources : (e e2 : Entry) → without_outcome e ≡ without_outcome e2 → sources e ≡ sources e2
same_sources e e2 h = ap sources h

with_outcome : Entry → Option Outcome → Entry
with_outcome e o = record e { outcome = o }

-- two entries that are equal but for their outcomes are one where these are equal too
pub same_entry : (e e2 : Entry) → without_outcome e ≡ without_outcome e2 → e.outcome ≡ e2.outcome → e ≡ e2
unfolding with_outcome
same_entry e e2 h o = ap (λ (t : Entry). with_outcome t e.outcome) h ∙ ap (with_outcome (without_outcome e2)) o

-- ---- what is visible is not tainted

-- behind visible entries alone no register is tainted, no base and no operand
pub untainted_where_visible : (model : SttModel) (before : List Entry) (r : ℕ) → visible model before ≡ true → tainted model before r ≡ false
untainted_where_visible model [] r h = refl
untainted_where_visible model (e ∷ before) r h =
    let older = (both (permits model e) (visible model before) h).1 in
    let by = none_any (tainted model before) (sources e) (λ s. untainted_where_visible model before s older) in
    let rest = untainted_where_visible model before r older in
    tainted_cons model e before r ∙ grind (arith, by, rest, older)

-- the base of an entry is untainted, where all older entries let it be visible
pub untainted_base : (model : SttModel) (before : List Entry) (e : Entry) → visible model before ≡ true → address_tainted model before e ≡ false
untainted_base model before e h = none_any (tainted model before) (base_of (sources e)) (λ r. untainted_where_visible model before r h)

-- the sources of an entry are untainted, where all older entries let it be visible
pub untainted_sources : (model : SttModel) (before : List Entry) (e : Entry) → visible model before ≡ true → any_tainted model before e ≡ false
untainted_sources model before e h = none_any (tainted model before) (sources e) (λ r. untainted_where_visible model before r h)

-- the faults of two entries are equal behind visible entries alone
faults_alike : (k : Kind) (model : SttModel) (before : List Entry) (e e2 : Entry) → SameOutcome k model before e e2 → visible model before ≡ true → fault_of e.outcome ≡ fault_of e2.outcome
faults_alike Load model before e e2 o h = ap fault_of (o.1 h)
faults_alike Store model before e e2 o h = (o.0 (untainted_base model before e h)).1
faults_alike _ model before e e2 o h = ap fault_of (o (untainted_sources model before e h))

-- a store with an untainted base has one address and fault in both runs
store_alike : (k : Kind) (model : SttModel) (b : List Entry) (e e2 : Entry) → SameOutcome k model b e e2 → is_store k ≡ true → address_tainted model b e ≡ false →
    (addr_of e.outcome ≡ addr_of e2.outcome) × (fault_of e.outcome ≡ fault_of e2.outcome)
store_alike Store model b e e2 o k t = o.0 t
store_alike _ model b e e2 o k t = absurd (cc)

-- entries whose outcomes are equal, where they may be looked at, are seen alike
pub seen_by_outcomes : (model : SttModel) (b b2 : List Entry) → SameOutcomes model b b2 → SeenEntries model b b2
seen_by_outcomes model [] [] s = tt
seen_by_outcomes model (e ∷ b) (e2 ∷ b2) s =
    let h = s.0.but_outcome in (
      record {
        but_outcome = h;
        permits_alike = λ v. permits_alike e e2 h model (λ z. faults_alike e.item.kind model b e e2 s.0.outcomes v);
        covers_alike = λ a t. covers_alike e e2 h a (λ k. let r = store_alike e.item.kind model b e e2 s.0.outcomes k (t k) in (s.0.issued, r.0, r.1));
      },
      seen_by_outcomes model b b2 s.1,
    )
seen_by_outcomes model _ _ s = absurd s
