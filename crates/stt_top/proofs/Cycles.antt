-- A run of a core cycle by cycle: what of its text is written.
use Rattle.std.proofs.Common.{◌≡◌, ◌<◌, ◌≤◌, ℕ, zero, suc, ◌+◌, ◌-◌, List, [], ◌++◌, true, None, refl, ap, ap₂, sym, ◌∙◌, subst}
use Rattle.std.specs.Option.{is_some}
use Rattle.rv_types.specs.Memory.{Code}
use Rattle.rv_types.specs.Isa.{with_piece}
use Rattle.machine_desc.specs.declared.Desc.{Desc}
use Rattle.window_model.specs.State.{Machine}
use Rattle.window_model.specs.Row.{Row}
use Rattle.window_model.specs.Cycle.{Cycled, cycle, rows, pieces, after_cycles}
use Rattle.core_cycle.proofs.Going.{goes_on, one_more, stops}
use Rattle.pair_run.proofs.Cycles.{Left, left_next, left_ended, left_done, none_left, row_goes, no_rows}
use Rattle.report_text.specs.Report.{piece_text, piece_lines}
use Rattle.report_text.proofs.Pieces.{piece_lines_more, piece_lines_none}
use Rattle.trace_text.specs.TraceText.{row_text, rows_text}
use Rattle.trace_text.proofs.Growing.{rows_text_more, rows_text_none}
use Rattle.tool_io.specs.Outside.{Told, Wrote, WrotePrefix}
use Rattle.tool_io.proofs.Writing.{WroteUpTo, up_to_more, up_to_part, up_to_end}
use Rattle.stt_top.specs.inner.Clocking.{CameTo}

-- ---- Any text of a run

-- i of the n cycles from x are done and led to y, and the lines of a text of the n cycles are written up to those of
-- the cycles left
pub record LinesLeft (text : ℕ → Machine → List ℕ) (d : Desc) (code : Code) (n i : ℕ) (x y : Machine) (old new : Told) : Type 0 where
  pub left : Left d code n i x y
  pub lines : WroteUpTo (text n x) (text (n - i) y) old new

module _ (text : ℕ → Machine → List ℕ) (d : Desc) (code : Code) (n : ℕ) (x : Machine) where
  lines_next : (i : ℕ) (y y' : Machine) (line : List ℕ) (told t u : Told) → Left d code n (i + 1) x y' → text (n - i) y ≡ line ++ text (n - (i + 1)) y'
      → LinesLeft text d code n i x y told t → Wrote line t u → LinesLeft text d code n (i + 1) x y' told u
  lines_next i y y' line told t u k e l w = record { left = k; lines = up_to_more _ line _ _ _ _ (rw e at l.lines) w }

  lines_part : (i : ℕ) (y y' : Machine) (line : List ℕ) (told t u : Told) → text (n - i) y ≡ line ++ text (n - (i + 1)) y'
      → LinesLeft text d code n i x y told t → WrotePrefix line t u → WrotePrefix (text n x) told u
  lines_part i y y' line told t u e l w = up_to_part _ line _ _ _ _ (rw e at l.lines) w

  lines_done : (i : ℕ) (y : Machine) (told t : Told) → text (n - i) y ≡ [] → y ≡ after_cycles d code n x → LinesLeft text d code n i x y told t → CameTo (text n x) d code n x y told t
  lines_done i y told t none last l =
      let P : List ℕ → Type 0 = λ rest. WroteUpTo (text n x) rest told t in
      record { lines = up_to_end _ _ _ (subst P none l.lines); last = last }

-- ---- The rows of a run

abbrev pub row_lines : Desc → Code → ℕ → Machine → List ℕ
row_lines d code k y = rows_text (rows d code k y)

abbrev pub RowsLeft : Desc → Code → ℕ → ℕ → Machine → Machine → Told → Told → Type 0
RowsLeft d code n i x y old new = LinesLeft (row_lines d code) d code n i x y old new

next_row : (d : Desc) (code : Code) (n i : ℕ) (y y' : Machine) (row : Row) (piece : List ℕ) → i < n → y.end ≡ None
    → record { machine = y'; row = row; piece = piece } ≡ cycle d code y → row_lines d code (n - i) y ≡ row_text row ++ row_lines d code (n - (i + 1)) y'
next_row d code n i y y' row piece h e c =
    ap rows_text (row_goes d code n i y y' row piece h e c) ∙ rows_text_more row (rows d code (n - (i + 1)) y')

pub rows_next : (d : Desc) (code : Code) (n i : ℕ) (x y y' : Machine) (row : Row) (piece : List ℕ) (told t u : Told) → i < n → y.end ≡ None
    → record { machine = y'; row = row; piece = piece } ≡ cycle d code y → RowsLeft d code n i x y told t → Wrote (row_text row) t u → RowsLeft d code n (i + 1) x y' told u
rows_next d code n i x y y' row piece told t u h e c l w =
    lines_next (row_lines d code) d code n x i y y' (row_text row) told t u (left_next d code n i x y y' row piece h e c l.left) (next_row d code n i y y' row piece h e c) l w

pub rows_part : (d : Desc) (code : Code) (n i : ℕ) (x y y' : Machine) (row : Row) (piece : List ℕ) (told t u : Told) → i < n → y.end ≡ None
    → record { machine = y'; row = row; piece = piece } ≡ cycle d code y → RowsLeft d code n i x y told t → WrotePrefix (row_text row) t u → WrotePrefix (rows_text (rows d code n x)) told u
rows_part d code n i x y y' row piece told t u h e c l w =
    lines_part (row_lines d code) d code n x i y y' (row_text row) told t u (next_row d code n i y y' row piece h e c) l w

pub rows_ended : (d : Desc) (code : Code) (n i : ℕ) (x y : Machine) (told t : Told) → is_some y.end ≡ true → RowsLeft d code n i x y told t
    → CameTo (rows_text (rows d code n x)) d code n x y told t
rows_ended d code n i x y told t e l =
    lines_done (row_lines d code) d code n x i y told t (ap rows_text (no_rows d code (n - i) y e) ∙ rows_text_none) (left_ended d code n i x y e l.left) l

pub rows_done : (d : Desc) (code : Code) (n i : ℕ) (x y : Machine) (told t : Told) → n ≤ i → RowsLeft d code n i x y told t
    → CameTo (rows_text (rows d code n x)) d code n x y told t
rows_done d code n i x y told t h l =
    lines_done (row_lines d code) d code n x i y told t (ap (λ k. row_lines d code k y) (none_left n i h) ∙ rows_text_none) (left_done d code n i x y h l.left) l

-- ---- The output of a run

abbrev pub output_lines : Desc → Code → ℕ → Machine → List ℕ
output_lines d code k y = piece_lines (pieces d code k y)

abbrev pub PiecesLeft : Desc → Code → ℕ → ℕ → Machine → Machine → Told → Told → Type 0
PiecesLeft d code n i x y old new = LinesLeft (output_lines d code) d code n i x y old new

next_piece : (d : Desc) (code : Code) (n i : ℕ) (y y' : Machine) (row : Row) (piece : List ℕ) → i < n → y.end ≡ None
    → record { machine = y'; row = row; piece = piece } ≡ cycle d code y → output_lines d code (n - i) y ≡ piece_text piece ++ output_lines d code (n - (i + 1)) y'
next_piece d code n i y y' row piece h e c =
    let z = cycle d code y in
    let m : z.machine ≡ y' = sym (ap (λ (r : Cycled). r.machine) c) in
    let p : z.piece ≡ piece = sym (ap (λ (r : Cycled). r.piece) c) in
    ap (λ k. piece_lines (pieces d code k y)) (one_more n i h)
    ∙ (ap piece_lines (goes_on y.end [] (with_piece z.piece (pieces d code (n - (i + 1)) z.machine)) e)
    ∙ (piece_lines_more z.piece (pieces d code (n - (i + 1)) z.machine)
    ∙ ap₂ (λ a b. piece_text a ++ piece_lines (pieces d code (n - (i + 1)) b)) p m))

no_pieces : (d : Desc) (code : Code) (k : ℕ) (y : Machine) → is_some y.end ≡ true → pieces d code k y ≡ []
no_pieces d code zero y e = refl
no_pieces d code (suc k) y e = stops y.end [] _ e

pub pieces_next : (d : Desc) (code : Code) (n i : ℕ) (x y y' : Machine) (row : Row) (piece : List ℕ) (told t u : Told) → i < n → y.end ≡ None
    → record { machine = y'; row = row; piece = piece } ≡ cycle d code y → PiecesLeft d code n i x y told t → Wrote (piece_text piece) t u → PiecesLeft d code n (i + 1) x y' told u
pieces_next d code n i x y y' row piece told t u h e c l w =
    lines_next (output_lines d code) d code n x i y y' (piece_text piece) told t u (left_next d code n i x y y' row piece h e c l.left) (next_piece d code n i y y' row piece h e c) l w

pub pieces_part : (d : Desc) (code : Code) (n i : ℕ) (x y y' : Machine) (row : Row) (piece : List ℕ) (told t u : Told) → i < n → y.end ≡ None
    → record { machine = y'; row = row; piece = piece } ≡ cycle d code y → PiecesLeft d code n i x y told t → WrotePrefix (piece_text piece) t u
    → WrotePrefix (piece_lines (pieces d code n x)) told u
pieces_part d code n i x y y' row piece told t u h e c l w =
    lines_part (output_lines d code) d code n x i y y' (piece_text piece) told t u (next_piece d code n i y y' row piece h e c) l w

pub pieces_ended : (d : Desc) (code : Code) (n i : ℕ) (x y : Machine) (told t : Told) → is_some y.end ≡ true → PiecesLeft d code n i x y told t
    → CameTo (piece_lines (pieces d code n x)) d code n x y told t
pieces_ended d code n i x y told t e l =
    lines_done (output_lines d code) d code n x i y told t (ap piece_lines (no_pieces d code (n - i) y e) ∙ piece_lines_none) (left_ended d code n i x y e l.left) l

pub pieces_done : (d : Desc) (code : Code) (n i : ℕ) (x y : Machine) (told t : Told) → n ≤ i → PiecesLeft d code n i x y told t
    → CameTo (piece_lines (pieces d code n x)) d code n x y told t
pieces_done d code n i x y told t h l =
    lines_done (output_lines d code) d code n x i y told t (ap (λ k. output_lines d code k y) (none_left n i h) ∙ piece_lines_none) (left_done d code n i x y h l.left) l
