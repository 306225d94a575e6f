-- What the parts of a core tell, where they are lent to be looked at.
use Rattle.std.proofs.Common.{◌≡◌, Bool, true, false, ◌&&◌, List, [], length, Option, Some, None, slice_get, ap, ap₂, sym, subst, ◌∙◌}
use Rattle.std.proofs.Math.Bool.{and-false}
use Rattle.window_model.specs.declared.Entry.{Entry}
use Rattle.window_model.specs.Rename.{is_call}
use Rattle.window_model.specs.State.{Machine}
use Rattle.visibility.specs.Point.{HasAdvanced}
use Rattle.refinement.specs.InFlight.{InFlight}
use Rattle.core_parts.specs.Described.{Described}
use Rattle.core_parts.specs.Held.{Held, Whole, described_of, in_flight, machine_of}
use Rattle.secret_marks.specs.declared.EntryMarks.{EntryMarks}
use Rattle.secret_marks.specs.declared.Shown.{Shown}
use Rattle.secret_marks.specs.Marks.{Marks}
use Rattle.secret_marks.specs.Shows.{call_shows}
use Rattle.secret_marks.specs.Shown.{head_shown, operands_shown, shown_by}
use Rattle.entry_marks.proofs.Exposed.{head_silent, head_tells, no_head}

module _ (h : Held) (v : Described) (w : Whole h) (s : described_of h ≡ v) where
  -- what is in flight in the parts that are lent
  abbrev pub lent_flight : InFlight
  lent_flight = in_flight h

  -- the point that is lent said which entries are visible, where the held one did
  pub lent_advanced : HasAdvanced v.point v.machine.window → HasAdvanced h.point h.rob.entries
  lent_advanced a = subst (λ (v : Described). HasAdvanced v.point v.machine.window) (sym s) a

  -- the parts that are lent have marks for each entry, where the machine that they hold has
  pub lent_step : (owns : List EntryMarks) → length owns ≡ length v.machine.window → length owns ≡ length h.rob.entries
  lent_step owns e = e ∙ sym (ap (λ (v : Described). length v.machine.window) s)

  -- what shows of the operands shows of the machine that they hold
  pub operands_lent : (m : Marks) (owns : List EntryMarks) (shown : Option Shown) → shown ≡ operands_shown h.desc m [] [] h.rob.entries owns → shown ≡ operands_shown v.desc m [] [] v.machine.window owns
  operands_lent m owns shown e = e ∙ ap (λ (v : Described). operands_shown v.desc m [] [] v.machine.window owns) s

  -- ---- a call at the head

  module _ (m : Marks) where
    head_lent : (shown : Option Shown) → shown ≡ head_shown h.rob.entries (machine_of h) m → shown ≡ head_shown v.machine.window v.machine m
    head_lent shown e = e ∙ ap (λ (v : Described). head_shown v.machine.window v.machine m) s

    pub headless : length h.rob.entries ≡ 0 → None ≡ head_shown v.machine.window v.machine m
    headless n = head_lent None (no_head (machine_of h) m h.rob.entries n)

    module _ (e : Entry) (here : slice_get h.rob.entries 0 ≡ Some e) where
      pub no_call : is_call e.item.kind ≡ false → None ≡ head_shown v.machine.window v.machine m
      no_call n = head_lent None (head_silent (machine_of h) m h.rob.entries e here (ap (λ b. b && call_shows (machine_of h) m) n))

      module _ (b : Bool) (told : (x : Machine) (n : Marks) → b ≡ call_shows (record x { regs = h.regs }) (record n { regs = m.regs })) where
        pub call_hides : b ≡ false → None ≡ head_shown v.machine.window v.machine m
        call_hides n =
            let hides : call_shows (machine_of h) m ≡ false = sym (told (machine_of h) m) ∙ n in
            head_lent None (head_silent (machine_of h) m h.rob.entries e here (ap (λ b. is_call e.item.kind && b) hides ∙ and-false (is_call e.item.kind)))

        pub call_tells : (shown : Shown) → is_call e.item.kind ≡ true → b ≡ true → shown ≡ shown_by e → Some shown ≡ head_shown v.machine.window v.machine m
        call_tells shown a n is =
            let shows : call_shows (machine_of h) m ≡ true = sym (told (machine_of h) m) ∙ n in
            head_lent (Some shown) (head_tells (machine_of h) m h.rob.entries e here shown (ap₂ (λ a b. a && b) a shows) is)
