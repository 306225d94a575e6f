-- The point can move on, whatever changes in the window.
use Rattle.std.proofs.Common.{Bool, List, Some, [], ap, ap₂, arith, cond, false, not, refl, slice_get, subst, suc, sym, true, zero, ℕ, ◌&&◌, ◌++◌, ◌+◌, ◌-◌, ◌<◌, ◌^◌, ◌∙◌, ◌∷◌, ◌≡◌, ◌≤◌}
use Rattle.std.proofs.lemmas.Bool.Decides.{nat_tests}
use Rattle.std.proofs.lemmas.List.Elements.{All-head, All-nil, All-push, All-set, All-tail, All-weaker}
use Rattle.std.specs.List.{All}
use Rattle.std.specs.Prelude.{drop, if◌then◌else◌, nat_le, nat_lt, slice_set}
use Rattle.machine_desc.specs.declared.SttModel.{SttModel}
use Rattle.machine_desc.specs.declared.SttModel.TheVariants.{Futuristic, Off, Spectre}
use Rattle.rob_ring.specs.Ring.{below}
use Rattle.rv_types.specs.declared.Kind.{Kind}
use Rattle.rv_types.specs.declared.Kind.TheVariants.{Branch, Call, Jalr, Load, Stop, Store}
use Rattle.visibility.proofs.Moving.{permits_unprotected, by_model, can_again, moves_on}
use Rattle.visibility.specs.Point.{NotPast, Point, first_point, moved_over, next_after, permits}
use Rattle.window_model.proofs.Booleans.{waiting_done}
use Rattle.window_model.proofs.Permitting.{permits_cleared, permits_done, permits_resolved}
use Rattle.window_model.proofs.Serials.{all_at, all_left, rise_head, rise_left, rise_tail, splits}
use Rattle.window_model.specs.Clear.{cleared_one}
use Rattle.window_model.specs.Order.{is_done, is_faulty, is_waiting}
use Rattle.window_model.specs.Serials.{Rise}
use Rattle.window_model.specs.Taint.{protects, safe_as, settled, settled_as}
use Rattle.window_model.specs.declared.Entry.{Entry}
use Rattle.window_model.specs.declared.Item.{Item}
use Rattle.window_model.specs.declared.Progress.TheVariants.{Done}
use Rattle.refinement.specs.Points.{Below, PointStands}
use Rattle.refinement.specs.Stations.{Issues}

-- an entry below the point permits younger ones to be visible
abbrev Permits : Point → Entry → Type 0
Permits p e = e.serial < p.serial → permits p.model e ≡ true

-- an entry that waits is not resolved
abbrev Unresolved : Entry → Type 0
Unresolved e = is_waiting e.state ≡ true → e.resolved ≡ false

-- the first point stands for the empty window
pub point_opens : (model : SttModel) (next : ℕ) → PointStands (first_point model) next []
point_opens model next = record {
  can = record { permit = All-nil (Permits (first_point model)); near = λ _. omega arith };
  past = low (protects model);
  unresolved = All-nil Unresolved;
}
  where
    low : (b : Bool) → b ≡ true → (if b then 0 else 2 ^ 64 - 1) ≤ next
    low true g = omega arith
    low false g = absurd (cc)

-- ---- the serial after the youngest

next_least : (next s : ℕ) (e : Entry) (es : List Entry) → Below next (e ∷ es) → next_after s (e ∷ es) ≤ next
next_least next s e [] b = let lt = All-head (λ e. e.serial < next) e [] b in omega (arith, lt)
next_least next s e (d ∷ es) b = next_least next (e.serial + 1) d es (All-tail (λ e. e.serial < next) e (d ∷ es) b)

next_push : (s : ℕ) (es : List Entry) (e : Entry) → next_after s (es ++ e ∷ []) ≡ e.serial + 1
next_push s [] e = refl
next_push s (x ∷ es) e = next_push (x.serial + 1) es e

next_set : (s : ℕ) (es : List Entry) (i : ℕ) (e e2 : Entry) → slice_get es i ≡ Some e → e2.serial ≡ e.serial → next_after s (slice_set es i e2) ≡ next_after s es
next_set s [] i e e2 h q = absurd (cc)
next_set s (x ∷ es) zero e e2 h q = let a : x ≡ e = cc in ap (λ n. next_after (n + 1) es) (q ∙ sym (ap (λ (e : Entry). e.serial) a))
next_set s (x ∷ es) (suc i) e e2 h q = next_set (x.serial + 1) es i e e2 h q

next_rises : (n : ℕ) (es : List Entry) → All (λ e. n ≤ e.serial) es → Rise es → n ≤ next_after n es
next_rises n [] a r = omega arith
next_rises n (e ∷ es) a r =
    let l = All-head (λ e. n ≤ e.serial) e es a in
    let k = next_rises (e.serial + 1) es (All-weaker (λ d. e.serial < d.serial) (λ d. e.serial + 1 ≤ d.serial) (λ d lt. omega (arith, lt)) es (rise_head e es r)) (rise_tail e es r) in
    omega (arith, l, k)

-- among entries below a serial that is above an entry's the next one is behind that entry
next_over : (s first : ℕ) (es : List Entry) (i : ℕ) (e : Entry) → Rise es → slice_get es i ≡ Some e → e.serial < first → e.serial + 1 ≤ next_after s (below first es)
next_over s first [] i e r h lt = absurd (cc)
next_over s first (x ∷ es) zero e r h lt =
    let a : x ≡ e = cc in
    let n : x.serial ≡ e.serial = ap (λ (e : Entry). e.serial) a in
    let t : nat_lt x.serial first ≡ true = grind (arith, nat_tests) in
    let rest = splits first es (rise_tail x es r) in
    let young = All-weaker (λ d. x.serial < d.serial) (λ d. e.serial + 1 ≤ d.serial) (λ d l. omega (arith, n, l)) es (rise_head x es r) in
    let k = next_rises (e.serial + 1) (below first es) (all_left (λ d. e.serial + 1 ≤ d.serial) (below first es) rest.gone (subst (All (λ d. e.serial + 1 ≤ d.serial)) rest.whole young))
    (rise_left (below first es) rest.gone (subst Rise rest.whole (rise_tail x es r))) in
    subst (λ b. e.serial + 1 ≤ next_after s (cond b (x ∷ below first es) (below first es))) (sym t) (subst (λ m. e.serial + 1 ≤ next_after (m + 1) (below first es)) (sym n) k)
next_over s first (x ∷ es) (suc i) e r h lt =
    let l : x.serial < e.serial = all_at (λ d. x.serial < d.serial) es i e (rise_head x es r) h in
    let t : nat_lt x.serial first ≡ true = grind (arith, nat_tests) in
    subst (λ b. e.serial + 1 ≤ next_after s (cond b (x ∷ below first es) (below first es))) (sym t) (next_over (x.serial + 1) first es i e (rise_tail x es r) h lt)

-- ---- the point moves, and entries come and go

-- the point only moves on
pub point_moves_on : (point : Point) (next : ℕ) (window : List Entry) → PointStands point next window → Rise window → point.serial ≤ (moved_over window point).serial
point_moves_on point next window s r = moves_on point window r s.can

-- the point moves over the window
pub point_advances : (point : Point) (next : ℕ) (window : List Entry) → PointStands point next window → Rise window → Below next window →
    PointStands (moved_over window point) next window
point_advances point next [] s r b = record {
  can = can_again point [] r s.can;
  past = by_model point (λ q. NotPast q next) [] (λ _. s.past) (λ _. s.past);
  unresolved = s.unresolved;
}
point_advances point next (e ∷ es) s r b =
    let can = can_again point (e ∷ es) r s.can in
    let least = next_least next (moved_over (e ∷ es) point).serial e es b in
    record { can = can; past = λ g. let near = can.near g in omega (arith, near, least); unresolved = s.unresolved }

-- an entry with the next serial is renamed
pub point_renames : (point : Point) (next : ℕ) (window : List Entry) (e : Entry) → PointStands point next window → e.serial ≡ next → e.resolved ≡ false →
    PointStands point (next + 1) (window ++ e ∷ [])
point_renames point next window e s is u =
    let after = next_push point.serial window e in
    record {
      can = record {
        permit = All-push (Permits point) window e s.can.permit (new_permits (protects point.model) refl);
        near = λ g. let past = s.past g in omega (arith, past, is, after);
      };
      past = λ g. let past = s.past g in omega (arith, past);
      unresolved = All-push Unresolved window e s.unresolved (λ w. u);
    }
  where
    new_permits : (b : Bool) → protects point.model ≡ b → Permits point e
    new_permits true g lt = let past = s.past g in absurd (omega (arith, past, is, lt))
    new_permits false g lt = permits_unprotected point.model e g

-- the point stands for the window without its oldest entry
pub point_retires : (point : Point) (next : ℕ) (window : List Entry) → PointStands point next window → PointStands point next (drop 1 window)
point_retires point next [] s = s
point_retires point next (e ∷ es) s = record {
  can = record { permit = All-tail (Permits point) e es s.can.permit; near = λ g. by_rest es (s.can.near g) };
  past = s.past;
  unresolved = All-tail Unresolved e es s.unresolved;
}
  where
    by_rest : (es : List Entry) → point.serial ≤ next_after point.serial (e ∷ es) → point.serial ≤ next_after point.serial es
    by_rest [] h = omega arith
    by_rest (d ∷ es) h = h

-- ---- an entry goes on

sets : (point : Point) (next : ℕ) (window : List Entry) (i : ℕ) (e e2 : Entry) → PointStands point next window → slice_get window i ≡ Some e → e2.serial ≡ e.serial →
    (permits point.model e ≡ true → permits point.model e2 ≡ true) → Unresolved e2 → PointStands point next (slice_set window i e2)
sets point next window i e e2 s h q p u =
    let after = next_set point.serial window i e e2 h q in
    record {
      can = record {
        permit = All-set (Permits point) window i e2 (λ lt. p (all_at (Permits point) window i e s.can.permit h (omega (arith, q, lt)))) s.can.permit;
        near = λ g. let near = s.can.near g in omega (arith, after, near);
      };
      past = s.past;
      unresolved = All-set Unresolved window i e2 u s.unresolved;
    }

-- what isn't Done is safe by its kind and whether it is resolved alone
undone_as : (k : Kind) (e e2 : Entry) → is_done e.state ≡ false → is_done e2.state ≡ false → e.resolved ≡ false → e2.resolved ≡ false → safe_as k e2 ≡ safe_as k e
undone_as Load e e2 u u2 r r2 = ap (λ d. d && not (is_faulty e2)) u2 ∙ sym (ap (λ d. d && not (is_faulty e)) u)
undone_as Store e e2 u u2 r r2 = ap (λ d. d && not (is_faulty e2) && e2.cleared) u2 ∙ sym (ap (λ d. d && not (is_faulty e) && e.cleared) u)
undone_as Branch e e2 u u2 r r2 = ap (λ b. b && not (is_faulty e2)) r2 ∙ sym (ap (λ b. b && not (is_faulty e)) r)
undone_as Jalr e e2 u u2 r r2 = ap (λ b. b && not (is_faulty e2)) r2 ∙ sym (ap (λ b. b && not (is_faulty e)) r)
undone_as Call e e2 u u2 r r2 = refl
undone_as (Stop cause) e e2 u u2 r r2 = refl
undone_as _ e e2 u u2 r r2 = refl

-- an entry that waits permits younger ones to be visible, once it or a part of it has issued, as it did before
pub permits_issued : (m : SttModel) (e e2 : Entry) → is_waiting e.state ≡ true → e.resolved ≡ false → Issues e e2 → permits m e2 ≡ permits m e
permits_issued Spectre e e2 w u issued =
    ap₂ (λ (i : Item) r. settled_as i.kind r e2.cleared) issued.on.item issued.resolved ∙ ap (settled_as e.item.kind e.resolved) issued.cleared
permits_issued Futuristic e e2 w u issued =
    ap (λ (i : Item). safe_as i.kind e2) issued.on.item
    ∙ undone_as e.item.kind e e2 (waiting_done e.state w) issued.undone u (issued.resolved ∙ u)
permits_issued Off e e2 w u issued = refl

-- an entry issues, or a part of it
pub point_issues : (point : Point) (next : ℕ) (window : List Entry) (i : ℕ) (e e2 : Entry) → PointStands point next window →
    slice_get window i ≡ Some e → is_waiting e.state ≡ true → Issues e e2 → PointStands point next (slice_set window i e2)
point_issues point next window i e e2 s h w issued =
    let u = all_at Unresolved window i e s.unresolved h w in
    sets point next window i e e2 s h issued.on.serial (λ p. permits_issued point.model e e2 w u issued ∙ p) (λ w. issued.resolved ∙ u)

-- the point stands for the window once an entry is Done
pub point_completes : (point : Point) (next : ℕ) (window : List Entry) (i : ℕ) (e : Entry) → PointStands point next window →
    slice_get window i ≡ Some e → PointStands point next (slice_set window i (record e { state = Done }))
point_completes point next window i e s h = sets point next window i e (record e { state = Done }) s h refl (permits_done point.model e) (λ w. absurd (cc))

-- the point stands for the window once an entry is resolved
pub point_resolves : (point : Point) (next : ℕ) (window : List Entry) (i : ℕ) (e : Entry) → PointStands point next window →
    slice_get window i ≡ Some e → is_waiting e.state ≡ false → PointStands point next (slice_set window i (record e { resolved = true }))
point_resolves point next window i e s h w = sets point next window i e (record e { resolved = true }) s h refl (permits_resolved point.model e) (λ v. absurd (cc))

-- the point stands for the window once an entry is cleared
pub point_clears : (point : Point) (next : ℕ) (window : List Entry) (i : ℕ) (e : Entry) → PointStands point next window →
    slice_get window i ≡ Some e → PointStands point next (slice_set window i (cleared_one e))
point_clears point next window i e s h =
    sets point next window i e (cleared_one e) s h refl (permits_cleared point.model e) (all_at Unresolved window i e s.unresolved h)

-- ---- a branch or JALR that isn't resolved, and a store that isn't cleared

-- an entry that isn't settled isn't safe
unsettled_as : (k : Kind) (e : Entry) → settled_as k e.resolved e.cleared ≡ false → safe_as k e ≡ false
unsettled_as Branch e u = ap (λ r. r && not (is_faulty e)) u
unsettled_as Jalr e u = ap (λ r. r && not (is_faulty e)) u
unsettled_as Store e u = ap (λ c. is_done e.state && not (is_faulty e) && c) u ∙ and_false (is_done e.state && not (is_faulty e))
  where
    and_false : (b : Bool) → (b && false) ≡ false
    and_false true = refl
    and_false false = refl
unsettled_as _ e u = absurd (cc)

-- an entry that isn't settled doesn't permit younger ones to be visible, under each model that protects
unsettled_fails : (m : SttModel) (e : Entry) → protects m ≡ true → settled e ≡ false → permits m e ≡ false
unsettled_fails Spectre e p u = u
unsettled_fails Futuristic e p u = unsettled_as e.item.kind e u
unsettled_fails Off e p u = absurd (cc)

-- the point isn't past one
pub point_stops : (point : Point) (next : ℕ) (window : List Entry) (i : ℕ) (e : Entry) → PointStands point next window →
    slice_get window i ≡ Some e → settled e ≡ false → NotPast point e.serial
point_stops point next window i e s h u g = by_test (nat_le point.serial e.serial) refl
  where
    by_test : (b : Bool) → nat_le point.serial e.serial ≡ b → point.serial ≤ e.serial
    by_test true q = grind (arith, nat_tests)
    by_test false q =
        let lt : e.serial < point.serial = grind (arith, nat_tests) in
        let p = all_at (Permits point) window i e s.can.permit h lt in
        let f = unsettled_fails point.model e g u in
        absurd (cc)

-- the entries from a serial on that is above such an entry's can be dropped
pub point_squashes : (point : Point) (next first : ℕ) (window : List Entry) (i : ℕ) (e : Entry) → PointStands point next window → Rise window →
    slice_get window i ≡ Some e → e.serial < first → NotPast point e.serial → PointStands point next (below first window)
point_squashes point next first window i e s r h lt le =
    let t = splits first window r in
    let after = next_over point.serial first window i e r h lt in
    record {
      can = record {
        permit = all_left (Permits point) (below first window) t.gone (subst (All (Permits point)) t.whole s.can.permit);
        near = λ g. let l = le g in omega (arith, after, l);
      };
      past = s.past;
      unresolved = all_left Unresolved (below first window) t.gone (subst (All Unresolved) t.whole s.unresolved);
    }
