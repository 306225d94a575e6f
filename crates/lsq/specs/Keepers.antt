-- Which store kept a load when it last asked: a guess (docs/DECISIONS.md, "The machine").
use Rattle.std.specs.Prelude.{◌%◌, List, Option, None, Some, slice_set}
use Rattle.lsq.specs.declared.keepers.Keeper.{Keeper}
use Rattle.lsq.specs.declared.keepers.Kept.{Kept}

-- the guesses, with the store that keeps a load as that of the load's group
abbrev pub with_keeper : Option Kept → List (Option Keeper) → List (Option Keeper)
with_keeper None stores = stores
with_keeper (Some k) stores = slice_set stores (k.load % 64) (Some k.keeper)
