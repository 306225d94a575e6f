-- Stations that are able, and a walk past those that aren't.
use Rattle.std.proofs.Common.{◌≡◌, ℕ, zero, suc, ◌+◌, ◌-◌, ◌<◌, ◌≤◌, Bool, true, false, List, length, Some, ap, sym, subst, ◌∙◌, arith, slice_get}
use Rattle.std.specs.Option.{option_map}
use Rattle.machine_desc.specs.declared.Desc.{Desc}
use Rattle.window_model.specs.declared.Entry.{Entry}
use Rattle.window_model.specs.Order.{before_at, is_waiting}
use Rattle.stations.specs.Stations.{NoneAble, Station, is_able}
use Rattle.refinement.specs.InFlight.{InFlight}
use Rattle.refinement.specs.Refines.{Refines}
use Rattle.refinement.specs.Stations.{station_of}
use Rattle.refinement.specs.Telling.{MovedBy, has_sources}
use Rattle.refinement.specs.Waiters.{wants_of}
use Rattle.refinement.proofs.Ready.{tells_able}
use Rattle.issue.specs.declared.candidate.Candidate.{Candidate}
use Rattle.issue.specs.Candidates.{IsCandidate}
use Rattle.issue.proofs.Waiting.{Keeps, Reaches, goes_on, waits_at}

-- what holds at a station and is kept past one that isn't able
abbrev pub PassesUnable : List Station → (ℕ → Type 0) → Type 0
PassesUnable held P = (k : ℕ) → k < length held → option_map is_able (slice_get held k) ≡ Some false → P k → P (k + 1)

module _ (held : List Station) (P : ℕ → Type 0) (passes : PassesUnable held P) where
  past_some : (n k to : ℕ) → k + n ≡ to → to ≤ length held → NoneAble held k to → P k → P to
  past_some zero k to end le none t = subst P (omega (arith, end)) t
  past_some (suc n) k to end le none t =
      past_some n (k + 1) to (omega (arith, end)) le (λ i low lt. none i (omega (arith, low)) lt)
      (passes k (omega (arith, end, le)) (none k (omega arith) (omega (arith, end))) t)

  -- what is kept past stations that aren't able holds at a station, where none before it is able from another on
  pub past_all : (k to : ℕ) → k ≤ to → to ≤ length held → NoneAble held k to → P k → P to
  past_all k to low le none t = past_some (to - k) k to (omega (arith, low)) le none t

-- ---- of parts that refine a window, where the point has just moved

module _ (d : Desc) (f : InFlight) (version : f.version ≡ d.version) (refines : Refines f) (moved : MovedBy d f) where
  -- the station of an entry tells whether what it wants is there
  able_is : (i n : ℕ) (e : Entry) (b : Bool) → slice_get f.window i ≡ Some e → is_waiting e.state ≡ true → n ≡ station_of i f.window → option_map is_able (slice_get f.held n) ≡ Some b →
      has_sources (wants_of d.version e) d (before_at f.window i) e ≡ b
  able_is i n e b h w q k =
      let told = ap (λ n. option_map is_able (slice_get f.held n)) q ∙ tells_able d f i e refines moved h w in
      let both : Some b ≡ Some (has_sources (wants_of f.version e) d (before_at f.window i) e) = sym k ∙ told in
      let same : has_sources (wants_of f.version e) d (before_at f.window i) e ≡ b = cc in
      subst (λ v. has_sources (wants_of v e) d (before_at f.window i) e ≡ b) version same

  -- the entry that waits at a station that is able is a candidate
  pub is_candidate : (p : Candidate) (station : ℕ) → slice_get f.window p.position ≡ Some p.entry.now → is_waiting p.entry.now.state ≡ true → p.station ≡ station → station ≡ station_of p.position f.window →
      option_map is_able (slice_get f.held station) ≡ Some true → IsCandidate d f.window p
  is_candidate p station h w q at k = record {
    at = h;
    waits = w;
    able = able_is p.position station p.entry.now true h w at k;
    station = q ∙ at;
  }

  -- a walk goes past a station that isn't able, where it goes past an entry that lacks what it wants
  pub passes_unable : (P : ℕ → Type 0) → Keeps P f.window →
      ((i : ℕ) (e : Entry) → slice_get f.window i ≡ Some e → is_waiting e.state ≡ true → has_sources (wants_of d.version e) d (before_at f.window i) e ≡ false → P i → P (i + 1)) →
      PassesUnable f.held (Reaches P f.window)
  passes_unable P keeps past k lt unable t =
      let w = waits_at f refines k lt in
      let at = w.1 in
      goes_on P P f.window k w.0 at.entry keeps t at.is at.waits at.station (past w.0 at.entry at.is at.waits (able_is w.0 k at.entry false at.is at.waits (sym at.station) unable))
