-- What the rename table names, where its writes are those of the footprints.
use mathlib.Core.List.{reverse_aux}
use Rattle.std.proofs.Common.{Bool, List, None, Option, Some, [], ap, cond, false, refl, sym, true, ℕ, ◌∙◌, ◌∷◌, ◌≡◌}
use Rattle.std.specs.List.{cons_option, find}
use Rattle.std.specs.Option.{option_map}
use Rattle.std.specs.Prelude.{if◌then◌else◌, map, reverse, ◌==◌}
use Rattle.rename_taint.specs.Writes.{last_write, root_from, root_of, root_written, source_from, source_of}
use Rattle.rename_taint.specs.declared.Write.{Write}
use Rattle.rv_types.specs.Regs.{writes_of}
use Rattle.window_model.specs.Order.{each_from, is_register, sources, writer}
use Rattle.window_model.specs.declared.Entry.{Entry}
use Rattle.refinement.proofs.Lists.{map_back}
use Rattle.refinement.proofs.Writers.{found, within}
use Rattle.refinement.proofs.Youngest.{written_by}
use Rattle.refinement.specs.Footprint.{Terms, column, footprint_of, unretired_write}
use Rattle.refinement.specs.InFlight.{hold_in}
use Rattle.refinement.specs.Roots.{source_roots, root_in_flight, youngest_root}
use Rattle.refinement.specs.Telling.{entry_of, source_by, NamesWriter, NamesRoot, FindsWriter, FindsAwaited, NamesEntry}
use Rattle.refinement.specs.Waiters.{awaited_of, oldest_of, write_of}

-- the writes of entries that are looked back on
abbrev writes_behind : List Entry → List Write
writes_behind [] = []
writes_behind (e ∷ b) = cons_option (write_of e (source_roots b e)) (writes_behind b)

-- the writes in the footprints, youngest first
turned : (t : Terms) (b es : List Entry) → reverse_aux (column (λ k. k.write) (each_from (footprint_of t) b es)) (writes_behind b) ≡ writes_behind (reverse_aux es b)
turned t b [] = refl
turned t b (e ∷ es) = over (write_of e (source_roots b e)) (column (λ k. k.write) (each_from (footprint_of t) (e ∷ b) es)) (writes_behind b) ∙ turned t (e ∷ b) es
  where
    over : (o : Option Write) (ws vs : List Write) → reverse_aux (cons_option o ws) vs ≡ reverse_aux ws (cons_option o vs)
    over None ws vs = refl
    over (Some w) ws vs = refl

abbrev own_write : Entry → List (Option ℕ) → ℕ → Write
own_write e rs q = record { serial = e.serial; register = q; root = root_written e.item.kind e.serial rs }

root_behind : (b : List Entry) (r : ℕ) → root_from (find (λ w. w.register == r) (writes_behind b)) ≡ youngest_root b r
root_behind [] r = refl
root_behind (e ∷ b) r = by_write (writes_of e.item.instr) (root_behind b r)
  where
    by_write : (o : Option ℕ) → root_from (find (λ w. w.register == r) (writes_behind b)) ≡ youngest_root b r →
        root_from (find (λ w. w.register == r) (cons_option (option_map (own_write e (source_roots b e)) o) (writes_behind b)))
        ≡ (if is_register r o then root_written e.item.kind e.serial (map (youngest_root b) (sources e)) else youngest_root b r)
    by_write None h = h
    by_write (Some q) h = by_register (q == r)
      where
        by_register : (t : Bool) → root_from (cond t (Some (own_write e (source_roots b e) q)) (find (λ w. w.register == r) (writes_behind b)))
            ≡ (if t then root_written e.item.kind e.serial (map (youngest_root b) (sources e)) else youngest_root b r)
        by_register true = written_by b e
        by_register false = h

source_behind : (b : List Entry) (r : ℕ) → source_from (find (λ w. w.register == r) (writes_behind b)) ≡ source_by (writer b r)
source_behind [] r = refl
source_behind (e ∷ b) r = by_write (writes_of e.item.instr) (source_behind b r)
  where
    by_write : (o : Option ℕ) → source_from (find (λ w. w.register == r) (writes_behind b)) ≡ source_by (writer b r) →
        source_from (find (λ w. w.register == r) (cons_option (option_map (own_write e (source_roots b e)) o) (writes_behind b))) ≡ source_by (cond (is_register r o) (Some e) (writer b r))
    by_write None h = h
    by_write (Some q) h = by_register (q == r)
      where
        by_register : (t : Bool) → source_from (cond t (Some (own_write e (source_roots b e) q)) (find (λ w. w.register == r) (writes_behind b))) ≡ source_by (cond t (Some e) (writer b r))
        by_register true = refl
        by_register false = h

-- ---- the table's own writes, of which roots may have retired

found_aged : (f r : ℕ) (ws : List Write) → find (λ w. w.register == r) (map (unretired_write f) ws) ≡ option_map (unretired_write f) (find (λ w. w.register == r) ws)
found_aged f r [] = refl
found_aged f r (w ∷ ws) = by_test (w.register == r) (found_aged f r ws)
  where
    by_test : (b : Bool) → find (λ w. w.register == r) (map (unretired_write f) ws) ≡ option_map (unretired_write f) (find (λ w. w.register == r) ws) →
        cond b (Some (unretired_write f w)) (find (λ w. w.register == r) (map (unretired_write f) ws)) ≡ option_map (unretired_write f) (cond b (Some w) (find (λ w. w.register == r) ws))
    by_test true h = refl
    by_test false h = h

last_aged : (f r : ℕ) (ws : List Write) → last_write (map (unretired_write f) ws) r ≡ option_map (unretired_write f) (last_write ws r)
last_aged f r ws = ap (find (λ w. w.register == r)) (sym (map_back (unretired_write f) ws [])) ∙ found_aged f r (reverse ws)

root_aged : (f r : ℕ) (ws : List Write) → root_in_flight f (root_of ws r) ≡ root_of (map (unretired_write f) ws) r
root_aged f r ws = of (last_write ws r) ∙ ap root_from (sym (last_aged f r ws))
  where
    of : (o : Option Write) → root_in_flight f (root_from o) ≡ root_from (option_map (unretired_write f) o)
    of None = refl
    of (Some w) = refl

source_aged : (f r : ℕ) (ws : List Write) → source_of ws r ≡ source_of (map (unretired_write f) ws) r
source_aged f r ws = of (last_write ws r) ∙ ap source_from (sym (last_aged f r ws))
  where
    of : (o : Option Write) → source_from o ≡ source_from (option_map (unretired_write f) o)
    of None = refl
    of (Some w) = refl

-- ---- what it names

-- the table names each register's writer
pub names_writer : NamesWriter
names_writer p r s =
    let f = oldest_of p.next p.window in
    source_aged f r p.writes ∙ ap (λ ws. source_of ws r) s.columns.writes
    ∙ ap (λ ws. source_from (find (λ w. w.register == r) ws)) (turned _ [] p.window) ∙ source_behind (reverse p.window) r

-- a serial that it names is that of an entry in the window
pub names_entry : NamesEntry
names_entry p r n s q = within r n p.window s.rise (writer (reverse p.window) r) refl (sym (names_writer p r s) ∙ q)

-- the writer is found by the serial that is named
pub finds_writer : FindsWriter
finds_writer p r s = ap (entry_of p.window) (names_writer p r s) ∙ found r p.window s.rise (writer (reverse p.window) r) refl

-- what a source of the next entry awaits is found
pub finds_awaited : FindsAwaited
finds_awaited p r s = ap (awaited_of (hold_in p)) (finds_writer p r s)

-- the table names each register's youngest root, or one that has retired where it has none
pub names_root : NamesRoot
names_root p r s =
    let f = oldest_of p.next p.window in
    root_aged f r p.writes ∙ ap (λ ws. root_of ws r) s.columns.writes
    ∙ ap (λ ws. root_from (find (λ w. w.register == r) ws)) (turned _ [] p.window) ∙ root_behind (reverse p.window) r
