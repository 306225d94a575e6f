-- What a description asks of the machine, as questions (docs/formats.md, "Machine descriptions").
use Rattle.std.specs.Prelude.{Bool, ◌==◌, nat_lt}
use Rattle.machine_desc.specs.declared.Desc.{Desc}

-- a store's address and its data issue together: in version 1 alone
abbrev pub stores_in_one : Desc → Bool
stores_in_one d = d.version == 1

-- loads may pass stores of unknown address: there are bits of dependence, which tell those that wait
abbrev pub loads_pass : Desc → Bool
loads_pass d = nat_lt 0 d.predictor_depend

-- a load or store may have any address, and so lie in two lines
abbrev pub takes_any_address : Desc → Bool
takes_any_address d = d.ram_misaligned == 1

-- the line behind a load's is fetched with it, where the load takes a miss register and another one is left
abbrev pub has_prefetch : Desc → Bool
has_prefetch d = d.cache_prefetch == 1
