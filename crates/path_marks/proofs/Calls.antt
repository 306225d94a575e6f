-- What a call shows doesn't depend on the machine that it is asked of.
use Rattle.std.proofs.Common.{◌≡◌, ℕ, Bool, List, [], false}
use Rattle.machine_desc.specs.Example.{example}
use Rattle.window_model.specs.State.{Machine, opening}
use Rattle.secret_marks.specs.declared.WordMarks.{WordMarks}
use Rattle.secret_marks.specs.Marks.{Marks}
use Rattle.secret_marks.specs.Shows.{call_shows}
use Rattle.constant_time.specs.PathMarks.{asks_marked}

pub call_asks : (b : Bool) (regs : List ℕ) (marks : List WordMarks) → ((x : Machine) (m : Marks) → b ≡ call_shows (record x { regs = regs }) (record m { regs = marks })) → b ≡ asks_marked regs marks
call_asks b regs marks h = h (opening example 0 (record { base = 0; bytes = []; misaligned = false })) (record { regs = []; bytes = []; window = [] })
