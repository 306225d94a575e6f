-- What the files and the sink tell, and a refusal before anything is read.
use Rattle.std.specs.Prelude.{◌≡◌, ℕ}
use Rattle.tool_io.specs.Outside.{Told, Shelf, SameCounts}
use Rattle.run_inputs.specs.declared.refusal.Refusal.{Refusal}
use Rattle.run_inputs.specs.Refused.{status_of}

-- what the files and the sink tell at one time
pub record World : Type 0 where
  pub files : Shelf
  pub out : Told

-- files and a sink as they tell at one time
abbrev pub world : Shelf → Told → World
world files out = record { files = files; out = out }

-- a refusal before anything is read or written, and its status
pub record RefusedAtOnce (refusal : Refusal) (old new : World) (status : ℕ) : Type 0 where
  pub status_is : status ≡ status_of refusal
  pub counts : SameCounts old.files new.files
  pub out : new.out ≡ old.out
