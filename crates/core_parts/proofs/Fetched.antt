-- Phase Fetch leaves parts that hold what the machine then holds, and stand for it.
use Rattle.std.proofs.Common.{◌≡◌, ap, ap₂, sym, ◌∙◌, subst}
use Rattle.std.specs.Prelude.{◌++◌, length}
use Rattle.rv_types.specs.Memory.{Code}
use Rattle.elf_loader.specs.inner.Code.{word_at}
use Rattle.machine_desc.proofs.EveryDesc.{every_desc}
use Rattle.window_model.specs.Fetch.{fetch}
use Rattle.window_model.specs.Row.{Row}
use Rattle.window_model.specs.State.{Machine}
use Rattle.machine_facts.specs.Sized.{Sized}
use Rattle.machine_facts.proofs.SizedPhases.{sized_fetch}
use Rattle.fetch_unit.specs.Unit as fetching
use Rattle.fetch_unit.specs.Unit.{FetchUnit, HasSizes}
use Rattle.history_pred.specs.Past.{Past}
use Rattle.core_parts.specs.Described.{Described}
use Rattle.core_parts.specs.Held.{Held, Sizes, Whole, described_of, machine_of, sizes}
use Rattle.core_parts.proofs.Whole.{shown_by}

-- the description asks for parts of their sizes
sizes_here : (h : Held) → Whole h → HasSizes h.fetch_unit h.tables h.past h.desc
sizes_here h w = record {
  width = ap (λ (s : Sizes). s.width) w.made;
  room = ap (λ (s : Sizes). s.items) w.made;
  predicts = record {
    counters = ap (λ (s : Sizes). s.counters) w.made;
    directions = ap (λ (s : Sizes). s.directions) w.made;
    returns = ap (λ (s : Sizes). s.returns) w.made;
    targets = w.sized.targets;
  };
}

-- the history has as many counters as the predictor
pub same_counters : (h : Held) → Whole h → h.past.counters ≡ length h.tables.counters
same_counters h w = ap (λ (s : Sizes). s.counters) w.made ∙ sym w.sized.counters

-- what the fetch unit leaves of each machine with these parts
abbrev pub Leaves : Code → Held → FetchUnit → Past → Type 0
Leaves code h fetch_unit past =
    fetching.InEach h.fetch_unit h.tables h.past
    (λ d. (x : Machine) → fetching.with_unit fetch_unit h.tables past x ≡ (fetching.fetches d code h.fetch_unit h.tables h.past x).machine)

pub fetch_whole : (code : Code) (h : Held) (fetch_unit : FetchUnit) (past : Past) → Whole h → Leaves code h fetch_unit past →
    fetch_unit ≡ record (h.fetch_unit) { queue = fetch_unit.queue; fetch_pc = fetch_unit.fetch_pc } → past ≡ record (h.past) { checkpoint = past.checkpoint } →
    Whole (record h { fetch_unit = fetch_unit; past = past })
fetch_whole code h fetch_unit past w f t p = record {
  sized = subst (Sized h.desc) (sym (f h.desc (sizes_here h w) (machine_of h))) (sized_fetch h.desc code (machine_of h) (every_desc h.desc) w.sized);
  refines = w.refines;
  made = ap₂ (λ t p. sizes (record h { fetch_unit = t; past = p })) t p ∙ w.made;
}

pub fetch_shown : (h : Held) (fetch_unit : FetchUnit) (past : Past) (v : Described) → Whole h → Leaves (word_at h.code) h fetch_unit past → described_of h ≡ v →
    described_of (record h { fetch_unit = fetch_unit; past = past }) ≡ record v { machine = (fetch v.desc (word_at v.code) v.machine).machine }
fetch_shown h fetch_unit past v w f s =
    shown_by (λ d x. (fetch d (word_at h.code) x).machine) h (machine_of (record h { fetch_unit = fetch_unit; past = past })) v (f h.desc (sizes_here h w) (machine_of h)) s
    ∙ ap (λ (t : Described). record v { machine = (fetch v.desc (word_at t.code) v.machine).machine }) s

pub fetch_row : (h : Held) (v : Described) (old new : Row) → Whole h →
    fetching.InEach h.fetch_unit h.tables h.past
    (λ d. (x : Machine) → new ≡ record old { events = old.events ++ (fetching.fetches d (word_at h.code) h.fetch_unit h.tables h.past x).events }) → described_of h ≡ v →
    new ≡ record old { events = old.events ++ (fetch v.desc (word_at v.code) v.machine).events }
fetch_row h v old new w f s =
    let by_state : Described → Row = λ v. record old { events = old.events ++ (fetch v.desc (word_at v.code) v.machine).events } in
    f h.desc (sizes_here h w) (machine_of h) ∙ ap by_state s
