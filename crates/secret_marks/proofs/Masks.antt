-- Marks as masks: what is left of an entry without what is marked.
use Rattle.std.proofs.Common.{◌≡◌, Bool, true, false, not, ◌&&◌, List, [], ◌∷◌, refl, sym, subst}
use Rattle.std.specs.Option.{option_map}
use Rattle.rv_types.specs.Memory.{Ram}
use Rattle.rv_types.specs.declared.Kind.{Kind}
use Rattle.rv_types.specs.declared.Kind.TheVariants.{Load}
use Rattle.window_model.specs.declared.Entry.{Entry}
use Rattle.window_model.specs.State.{After, Machine}
use Rattle.window_model.specs.Order.{fault_of, is_control, is_load}
use Rattle.two_runs.specs.Masks.{LeavesAccess, LeftAlike, Mask, MaskedAlike}
use Rattle.secret_marks.specs.declared.EntryMarks.{EntryMarks}
use Rattle.secret_marks.specs.Marks.{Marks}
use Rattle.secret_marks.specs.Alike.{AlikeBut, Beside, SameByte, SameEntry, SameRegisters, StaysAlike, but_marked}
use Rattle.secret_marks.proofs.Kept.{addr_kept, fault_kept}

-- the mask that leaves what isn't marked
abbrev pub unmarked_of : EntryMarks → Mask
unmarked_of m i r o = option_map (but_marked m (is_control i.kind && not r)) o

-- a load isn't a branch or JALR that isn't resolved
pub load_closed : (k : Kind) (b : Bool) → is_load k ≡ true → (is_control k && not b) ≡ false
load_closed Load b h = refl
load_closed _ b h = absurd (cc)

-- marks leave address and fault of a load
pub access_unmarked : LeavesAccess unmarked_of
access_unmarked m i r o h = (addr_kept m (is_control i.kind && not r) o, subst (λ g. fault_of (option_map (but_marked m g) o) ≡ fault_of o) (sym (load_closed i.kind r h)) (fault_kept m o))

-- windows that are equal but for marks are alike under them
pub under : (ms : List EntryMarks) (es es2 : List Entry) → Beside SameEntry ms es es2 → MaskedAlike unmarked_of ms es es2
under [] [] [] s = tt
under (m ∷ ms) (e ∷ es) (e2 ∷ es2) s = (s.0, under ms es es2 s.1)
under _ _ _ s = absurd s

-- windows that are alike under marks are equal but for them
pub beside : (ms : List EntryMarks) (es es2 : List Entry) → MaskedAlike unmarked_of ms es es2 → Beside SameEntry ms es es2
beside [] [] [] s = tt
beside (m ∷ ms) (e ∷ es) (e2 ∷ es2) s = (s.0, beside ms es es2 s.1)
beside _ _ _ s = absurd s

-- a machine has the registers and the memory of another
abbrev pub HasData : Machine → Machine → Type 0
HasData y x = (y.regs ≡ x.regs) × (y.ram ≡ x.ram)

-- a phase that leaves registers and memory, and two machines alike under marks of their windows, keeps them alike
pub stays : (m : Marks) (ms : List EntryMarks) (x x2 : Machine) (a a2 : After) → AlikeBut m x x2 → HasData a.machine x → HasData a2.machine x2 →
    LeftAlike unmarked_of ms a a2 → StaysAlike (record m { window = ms }) a a2
stays m ms x x2 a a2 h k k2 l = record {
  events = l.events;
  alike = record {
    others = l.others;
    regs = subst (λ v. SameRegisters m.regs v a2.machine.regs) (sym k.0) (subst (SameRegisters m.regs x.regs) (sym k2.0) h.regs);
    bytes = subst (λ (v : Ram). Beside SameByte m.bytes v.bytes a2.machine.ram.bytes) (sym k.1) (subst (λ (v : Ram). Beside SameByte m.bytes x.ram.bytes v.bytes) (sym k2.1) h.bytes);
    window = beside ms a.machine.window a2.machine.window l.window;
  };
}
