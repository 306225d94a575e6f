-- Each byte is below 2^8 by its type.
use Rattle.std.proofs.Common.{◌<◌, ◌^◌}
use Rattle.std.proofs.Math.Facts.{Fits-lt-pow}
use Rattle.std.proofs.lemmas.List.Elements.{All-from_get_or}
use Rattle.run_inputs.proofs.sources.are_bytes.Goals as goal

pub returns : goal.returns
returns c = All-from_get_or (λ b. b < 2 ^ 8) c.args.bytes.now 0 (λ i l. Fits-lt-pow (c.type_inv.bytes i))
