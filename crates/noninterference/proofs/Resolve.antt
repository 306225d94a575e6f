-- Resolve looks at untainted operands alone.
use Rattle.std.proofs.Common.{◌≡◌, false, List, true, ap, sym, ◌∙◌, length, take, []}
use Rattle.rv_types.specs.declared.Kind.{Kind}
use Rattle.rv_types.specs.declared.Kind.TheVariants.{Load, Store}
use Rattle.machine_desc.specs.declared.SttModel.{SttModel}
use Rattle.window_model.specs.declared.Entry.{Entry}
use Rattle.window_model.specs.State.{Machine}
use Rattle.window_model.specs.Order.{fault_of, is_control, value_of}
use Rattle.window_model.specs.Taint.{any_tainted}
use Rattle.window_model.specs.Resolve.{may_resolve, next_of, resolve}
use Rattle.window_model.proofs.Places.{found}
use Rattle.window_model.proofs.Resolving.{resolve_parts, resolved_one}
use Rattle.two_runs.specs.Masks.{without_contents}
use Rattle.two_runs.proofs.Masks.{along, lengths}
use Rattle.two_runs.proofs.May.{may_resolve_alike}
use Rattle.two_runs.proofs.Resolve.{resolve_alike, resolve_data}
use Rattle.noninterference.specs.Outcomes.{SameOutcome, SameOutcomes}
use Rattle.noninterference.specs.Laws.{ResolveTellsNothing}
use Rattle.noninterference.proofs.Looking.{seen_by_outcomes}
use Rattle.noninterference.proofs.Masks.{all_hidden, hides, tells}

-- what may be resolved has an outcome that both runs share
same_outcome : (k : Kind) (model : SttModel) (b : List Entry) (e e2 : Entry) → SameOutcome k model b e e2 → is_control k ≡ true → any_tainted model b e ≡ false → e.outcome ≡ e2.outcome
same_outcome Load model b e e2 o k t = absurd (cc)
same_outcome Store model b e e2 o k t = o.1 t
same_outcome _ model b e e2 o k t = o t

-- Resolve tells nothing of two machines that show the same, where outcomes that may be looked at are equal
pub resolve_tells_nothing : ResolveTellsNothing
resolve_tells_nothing d x x2 r o =
    let S = SameOutcomes d.stt_model in
    let s = all_hidden x.window x2.window (ap (λ (m : Machine). m.window) r) in
    let answers = along S (λ e e2 b b2 s. s.1) (may_resolve d) (may_resolve d) (λ b b2 e e2 s. may_resolve_alike d b b2 (seen_by_outcomes d.stt_model b b2 s.1) e e2 s.0.but_outcome)
    [] [] x.window x2.window (lengths hides x.window x.window x2.window s).1 o in
    tells hides (take (length (resolve d x).machine.window) x.window) (resolve d x) (resolve d x2) ((resolve_data d x).0 ∙ ap (λ (m : Machine). m.regs) r ∙ sym (resolve_data d x2).0)
    (resolve_alike hides S d x.window x x2 (ap without_contents r) s answers
    (λ p p2 f t.
    let parts = resolve_parts d p.before p.entry (found (may_resolve d) [] x.window p f).has in
    let same = same_outcome p.entry.item.kind d.stt_model p.before p.entry p2.entry t.known.0.outcomes parts.control parts.clean in
    (record { value = ap value_of same; next = ap next_of same; fault = ap fault_of same }, ap resolved_one t.here)))
