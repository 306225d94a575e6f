-- Which entry is picked, by the roots of its sources: the one that the definition takes.
use Rattle.std.proofs.Common.{◌≡◌, ℕ, ◌+◌, ◌<◌, ◌≤◌, Bool, true, false, not, ◌&&◌, List, [], ◌∷◌, length, Option, Some, refl, ap, ap₂, ◌∙◌, arith}
use Rattle.std.specs.Prelude.{if◌then◌else◌, map}
use Rattle.std.specs.List.{list_any}
use Rattle.std.specs.Option.{option_map}
use Rattle.machine_desc.specs.declared.Desc.{Desc}
use Rattle.window_model.specs.declared.Entry.{Entry}
use Rattle.window_model.specs.Along.{Along, Behind}
use Rattle.window_model.specs.Order.{Place, each_from, first_from, is_control, is_done}
use Rattle.window_model.specs.Resolve.{may_resolve}
use Rattle.window_model.specs.Serials.{Rise}
use Rattle.window_model.specs.Taint.{any_tainted}
use Rattle.window_model.proofs.Serials.{Falls}
use Rattle.rob_ring.specs.Beside.{each_roots}
use Rattle.visibility.specs.Pick.{can_resolve, pick_from}
use Rattle.visibility.specs.Point.{HasAdvanced, Point, is_hidden}
use Rattle.visibility.proofs.Moving.{Tells}
use Rattle.visibility.proofs.Showing.{shown_by_point}
use Rattle.refinement.proofs.Sources.{roots_are}
use Rattle.refinement.proofs.Visible.{operands_told, told}
use Rattle.refinement.specs.Roots.{source_roots, root_in_flight}
use Rattle.refinement.specs.Waiters.{oldest_of}
use Rattle.resolve.specs.Taken.{PicksFirst}

pick_by : (d : Desc) (point : Point) (f : ℕ) (before es : List Entry) (roots : List (List (Option ℕ))) → point.model ≡ d.stt_model → ((s : ℕ) → s < f → s ≤ point.serial) →
    Behind (Tells point) before → Behind Falls before → Along (Tells point) before es → Along Falls before es → map (map (root_in_flight f)) roots ≡ each_from source_roots before es →
    pick_from d point.serial (length before) es roots ≡ option_map (λ (p : Place). length p.before) (first_from (may_resolve d) before es)
pick_by d point f before [] roots q old t u a b s = refl
pick_by d point f before (e ∷ es) [] q old t u a b s = absurd (cc)
pick_by d point f before (e ∷ es) (rs ∷ roots) q old t u a b s =
    let own : map (root_in_flight f) rs ≡ source_roots before e = cc in
    let rest : map (map (root_in_flight f)) roots ≡ each_from source_roots (e ∷ before) es = cc in
    let o = operands_told point f before e rs t u old own in
    let clean : list_any (is_hidden point.serial) rs ≡ any_tainted d.stt_model before e = o.any ∙ ap (λ m. any_tainted m before e) q in
    let same : can_resolve d point.serial e rs ≡ may_resolve d before e =
    ap₂ (λ t s. is_control e.item.kind && is_done e.state && not e.resolved && (not t && s)) clean (shown_by_point d point before e q a.0) in
    let k : length before + 1 ≡ length (e ∷ before) = omega arith in
    ap (λ b. if b then Some (length before) else pick_from d point.serial (length before + 1) es roots) same
    ∙ by_test (may_resolve d before e) (ap (λ i. pick_from d point.serial i es roots) k ∙ pick_by d point f (e ∷ before) es roots q old (a.0, t) (b.0, u) a.1 b.1 rest)
  where
    by_test : (b : Bool) → pick_from d point.serial (length before + 1) es roots ≡ option_map (λ (p : Place). length p.before) (first_from (may_resolve d) (e ∷ before) es) →
        (if b then Some (length before) else pick_from d point.serial (length before + 1) es roots)
        ≡ option_map (λ (p : Place). length p.before) (if b then Some (record { before = before; entry = e; younger = es }) else first_from (may_resolve d) (e ∷ before) es)
    by_test true h = refl
    by_test false h = h

pub picks_first : PicksFirst
picks_first d p s m q = by_window p.window s.rise m (roots_are p s)
  where
    by_window : (es : List Entry) → Rise es → HasAdvanced p.point es → map (map (root_in_flight (oldest_of p.next es))) (each_roots p.sources) ≡ each_from source_roots [] es →
        pick_from d p.point.serial 0 es (each_roots p.sources) ≡ option_map (λ (q : Place). length q.before) (first_from (may_resolve d) [] es)
    by_window [] r m s = refl
    by_window (e ∷ es) r m s = let t = told p.point p.next e es r m in pick_by d p.point e.serial [] (e ∷ es) (each_roots p.sources) q t.retired tt tt t.tells t.falls s
