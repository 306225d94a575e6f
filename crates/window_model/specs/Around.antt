-- What an entry that issues looks at besides the older ones (docs/machine.md, "Issue").
use Rattle.std.specs.Prelude.{ℕ, Bool, nat_le, List}
use Rattle.rv_types.specs.Memory.{Ram}
use Rattle.window_model.specs.State.{Machine, Miss}

-- the cycle, registers and memory as retired, the bits of dependence, both levels of the cache, the miss registers, and
-- from which cycle on the divider is free
pub record Around : Type 0 where
  pub cycle : ℕ
  pub regs : List ℕ
  pub ram : Ram
  pub dependence : List Bool
  pub cache : List (List ℕ)
  pub second : List (List ℕ)
  pub misses : List Miss
  pub free_from : ℕ

-- what an entry that issues sees of this machine besides the older entries
abbrev pub around : Machine → Around
around x = record {
  cycle = x.cycle;
  regs = x.regs;
  ram = x.ram;
  dependence = x.dependence;
  cache = x.cache;
  second = x.second;
  misses = x.misses;
  free_from = x.divider.free_from;
}

-- the divider is free in this cycle
abbrev pub is_free : Around → Bool
is_free now = nat_le now.free_from now.cycle
