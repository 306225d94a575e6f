-- What a point that has moved over the window tells: who is visible, and by roots what is tainted.
use mathlib.Core.List.{reverse_aux}
use Rattle.std.proofs.Common.{List, Option, Some, [], ap, ap₂, arith, false, length, refl, slice_get, subst, suc, sym, take, zero, ℕ, ◌<◌, ◌||◌, ◌∙◌, ◌∷◌, ◌≡◌, ◌≤◌, not, ◌&&◌}
use Rattle.std.proofs.lemmas.List.Elements.{All-cons, All-weaker}
use Rattle.std.specs.List.{list_any}
use Rattle.std.specs.Prelude.{map, reverse}
use Rattle.rob_ring.specs.declared.beside.Sources.{Sources}
use Rattle.rv_types.specs.Regs.{two}
use Rattle.visibility.specs.Point.{HasAdvanced, HasMoved, Point, is_hidden}
use Rattle.visibility.proofs.Moving.{Tells}
use Rattle.window_model.proofs.Serials.{Falls, behind_at, falls, rise_head, behind}
use Rattle.window_model.specs.Along.{Along, Behind, Fact}
use Rattle.window_model.specs.Order.{base_of, before_at, sources, is_done, is_load}
use Rattle.window_model.specs.Serials.{Rise}
use Rattle.window_model.specs.Taint.{tainted, visible}
use Rattle.window_model.specs.declared.Entry.{Entry}
use Rattle.refinement.proofs.Sources.{sources_are}
use Rattle.refinement.proofs.Youngest.{few_reads, retired_shown, root_tells}
use Rattle.refinement.specs.Roots.{root_of_source, source_roots, root_in_flight, youngest_root}
use Rattle.refinement.specs.Telling.{OperandsTold, TellsVisible, TellsOperands, TellsGiven, TellsTaint}
use Rattle.refinement.specs.Waiters.{oldest_of, gives_at}
use Rattle.window_model.specs.Ready.{holds}
use Rattle.refinement.proofs.Room.{counts_writes}
use Rattle.refinement.proofs.Table.{names_root}
use Rattle.rename_taint.specs.declared.Write.{Write}
use Rattle.rename_taint.specs.Writes.{root_of}

-- what is known where the point has moved: what it tells of each entry, and that all that have retired are visible
pub record Told (point : Point) (oldest : ℕ) (window : List Entry) : Type 0 where
  pub tells : Along (Tells point) [] window
  pub falls : Along Falls [] window
  pub retired : (s : ℕ) → s < oldest → s ≤ point.serial

-- a point that has moved over a window with an entry tells that
pub told : (point : Point) (next : ℕ) (e : Entry) (es : List Entry) → Rise (e ∷ es) → HasMoved point (e ∷ es) → Told point (oldest_of next (e ∷ es)) (e ∷ es)
told point next e es r m = record {
  tells = m.each;
  falls = falls (e ∷ es) r;
  retired = λ s lt. m.smaller s (All-cons (λ d. s < d.serial) e es lt (All-weaker (λ d. e.serial < d.serial) (λ d. s < d.serial) (λ d l. omega (arith, lt, l)) es (rise_head e es r)));
}

along_at : (P : Fact) (before es : List Entry) (i : ℕ) (e : Entry) → Along P before es → slice_get es i ≡ Some e → P (reverse_aux (take i es) before) e
along_at P before [] i e k h = absurd (cc)
along_at P before (x ∷ es) zero e k h = let a : x ≡ e = cc in subst (P before) a k.0
along_at P before (x ∷ es) (suc i) e k h = along_at P (x ∷ before) es i e k.1 h

-- a point that has moved over a window tells which of its entries are visible
pub tells_visible : TellsVisible
tells_visible point [] i e m h = absurd (cc)
tells_visible point (x ∷ es) i e m h = along_at (Tells point) [] (x ∷ es) i e m.each h

-- each entry gives its value where it does by the machine's definition
pub tells_given : TellsGiven
tells_given d p i e b h =
    ap (λ holds. gives_at (record { holds = holds; point = p.point.serial }) e) b.holds
    ∙ ap (λ v. not (holds d.stt_defence && is_load e.item.kind && not v) && is_done e.state) (tells_visible p.point p.window i e b.advanced h ∙ ap (λ m. visible m (before_at p.window i)) b.model)

-- of an entry's roots, where the older entries are known
any_shown : (point f : ℕ) (os : List (Option ℕ)) → ((s : ℕ) → s < f → s ≤ point) → list_any (is_hidden point) os ≡ list_any (is_hidden point) (map (root_in_flight f) os)
any_shown point f [] h = refl
any_shown point f (o ∷ os) h = ap₂ (λ a b. a || b) (retired_shown point f o h) (any_shown point f os h)

any_two : (p : Point) (before : List Entry) (rs : List ℕ) → length rs ≤ 2 → ((r : ℕ) → is_hidden p.serial (youngest_root before r) ≡ tainted p.model before r) →
    (list_any (is_hidden p.serial) (map (root_of_source before) (two rs)) ≡ list_any (tainted p.model before) rs)
    × (list_any (is_hidden p.serial) (take 1 (map (root_of_source before) (two rs))) ≡ list_any (tainted p.model before) (base_of rs))
any_two p before [] le h = (refl, refl)
any_two p before (a ∷ []) le h = (ap (λ b. b || false) (h a), ap (λ b. b || false) (h a))
any_two p before (a ∷ b ∷ []) le h = (ap₂ (λ p q. p || (q || false)) (h a) (h b), ap (λ b. b || false) (h a))
any_two p before (a ∷ b ∷ c ∷ rs) le h = absurd (omega (arith, le))

take_shown : (f : ℕ) (os : List (Option ℕ)) → take 1 (map (root_in_flight f) os) ≡ map (root_in_flight f) (take 1 os)
take_shown f [] = refl
take_shown f (o ∷ os) = refl

-- an entry's roots tell which of its operands are tainted, where the older entries are known
pub operands_told : (p : Point) (f : ℕ) (before : List Entry) (e : Entry) (roots : List (Option ℕ)) → Behind (Tells p) before → Behind Falls before → ((s : ℕ) → s < f → s ≤ p.serial) →
    map (root_in_flight f) roots ≡ source_roots before e → OperandsTold p before e roots
operands_told p f before e roots t u old k =
    let a = any_two p before (sources e) (few_reads e.item.instr) (root_tells p before t u) in
    record {
      any = any_shown p.serial f roots old ∙ ap (list_any (is_hidden p.serial)) k ∙ a.0;
      base = any_shown p.serial f (take 1 roots) old ∙ ap (list_any (is_hidden p.serial)) (sym (take_shown f roots) ∙ ap (take 1) k) ∙ a.1;
    }

-- by an entry's roots it is told whether an operand is tainted
pub tells_operands : TellsOperands
tells_operands p i e x s m h k = by_window p.window s.rise m h (ap (λ (x : Sources). x.roots) (sources_are p i e x s h k))
  where
    by_window : (es : List Entry) → Rise es → HasAdvanced p.point es → slice_get es i ≡ Some e → map (root_in_flight (oldest_of p.next es)) x.roots ≡ source_roots (before_at es i) e → OperandsTold p.point (before_at es i) e x.roots
    by_window [] r m h k = absurd (cc)
    by_window (d ∷ es) r m h k =
        let t = told p.point p.next d es r m in
        operands_told p.point d.serial (before_at (d ∷ es) i) e x.roots (behind_at (Tells p.point) [] (d ∷ es) i tt t.tells) (behind_at Falls [] (d ∷ es) i tt t.falls) t.retired k

-- what is tainted is told by the root that the table names
pub tells_taint : TellsTaint
tells_taint p r s m = by_window p.window s.rise m (counts_writes p s) (names_root p r s)
  where
    none : (ws : List Write) → length ws ≤ 0 → is_hidden p.point.serial (root_of ws r) ≡ false
    none [] le = refl
    none (w ∷ ws) le = absurd (omega (arith, le))

    by_window : (es : List Entry) → Rise es → HasAdvanced p.point es → length p.writes ≤ length es → root_in_flight (oldest_of p.next es) (root_of p.writes r) ≡ youngest_root (reverse es) r →
        is_hidden p.point.serial (root_of p.writes r) ≡ tainted p.point.model (reverse es) r
    by_window [] ri m le k = none p.writes le
    by_window (e ∷ es) ri m le k =
        let t = told p.point p.next e es ri m in
        retired_shown p.point.serial e.serial (root_of p.writes r) t.retired ∙ ap (is_hidden p.point.serial) k
        ∙ root_tells p.point (reverse (e ∷ es)) (behind (Tells p.point) [] (e ∷ es) tt t.tells) (behind Falls [] (e ∷ es) tt t.falls) r
