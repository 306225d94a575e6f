-- What a core holds: the machine, its description, and what it may fetch.
use Rattle.std.specs.Prelude.{refl}
use Rattle.std.specs.Coded.{Coded, code_by, coded×}
use Rattle.elf_loader.specs.inner.Code.{CodeText}
use Rattle.elf_loader.specs.contracts.fetchable.Code as code
use Rattle.machine_desc.specs.contracts.Desc as desc
use Rattle.machine_desc.specs.declared.Desc.{Desc}
use Rattle.window_model.specs.State.{Machine}
use Rattle.core_parts.specs.Described.{machine_code}

-- a machine, the description that it runs under, and the words that it may fetch
pub record Programmed : Type 0 where
  pub desc : Desc
  pub code : CodeText
  pub machine : Machine

-- a machine with its program is stored as the description, the code and the machine
abbrev pub programmed_code : Coded Programmed
programmed_code =
    code_by (Desc × (CodeText × Machine)) (coded× desc.the_row.coded (coded× code.the_row.coded machine_code))
    (λ x. (x.desc, (x.code, x.machine)))
    (λ p. record { desc = p.0; code = p.1.0; machine = p.1.1 })
    (λ _. refl)
