-- What is copied of the oldest entries before Retire (docs/theorems.md, "Secrets that are loaded").
use Rattle.std.specs.Prelude.{◌≡◌, ℕ, suc, ◌+◌, ◌-◌, ◌<◌, ◌≤◌, min, List, [], ◌∷◌, length, slice_get, Some, if◌then◌else◌}
use Rattle.rv_types.specs.Value.{bytes_in}
use Rattle.rv_types.specs.declared.Kind.TheVariants.{Store}
use Rattle.window_model.specs.declared.Entry.{Entry}
use Rattle.window_model.specs.Order.{is_done}
use Rattle.window_model.specs.Retire.{addr_of, byte_count}
use Rattle.secret_marks.specs.declared.EntryMarks.{EntryMarks}
use Rattle.entry_marks.specs.declared.oldest.LeavingEntry.{LeavingEntry}

-- the copy has what of an entry with these marks moves marks
pub record IsCopied (e : Entry) (mark : EntryMarks) (copy : LeavingEntry) : Type 0 where
  pub kind : copy.kind ≡ e.item.kind
  pub instr : copy.instr ≡ e.item.instr
  pub addr : copy.addr ≡ addr_of e.outcome
  pub width : bytes_in copy.width ≡ byte_count e
  pub marks : copy.marks ≡ mark

-- how many of the oldest entries are Done, up to the first that isn't
abbrev pub done_heads : List Entry → ℕ
done_heads [] = 0
done_heads (e ∷ window) = if is_done e.state then suc (done_heads window) else 0

-- the copies are those of the at most four oldest entries of a window with these marks, up to the first that isn't Done
pub record IsCopiedFrom (window : List Entry) (marks : List EntryMarks) (copies : List LeavingEntry) : Type 0 where
  pub step : length marks ≡ length window
  pub count : length copies ≡ min (done_heads window) 4
  pub each : (i : ℕ) (e : Entry) (mark : EntryMarks) (copy : LeavingEntry) →
      slice_get window i ≡ Some e → slice_get marks i ≡ Some mark → slice_get copies i ≡ Some copy → IsCopied e mark copy

-- the bytes of a copied entry, if it is a store, lie within this many, from the base on
abbrev pub Inside : ℕ → ℕ → LeavingEntry → Type 0
Inside base bytes copy = copy.kind ≡ Store → (copy.addr - base) + bytes_in copy.width ≤ bytes

-- the bytes of the first n copies, where they are stores, lie within this many, from the base on
abbrev pub InsideEach : ℕ → ℕ → ℕ → List LeavingEntry → Type 0
InsideEach base bytes n copies = (i : ℕ) (copy : LeavingEntry) → i < n → slice_get copies i ≡ Some copy → Inside base bytes copy
