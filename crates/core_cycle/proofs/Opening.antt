-- A core before its first cycle has what is to hold between two cycles.
use Rattle.std.proofs.Common.{ℕ, arith}
use Rattle.rv_types.specs.Memory.{Ram}
use Rattle.elf_loader.specs.inner.Code.{CodeText, word_at}
use Rattle.machine_desc.specs.declared.Desc.{Desc}
use Rattle.machine_desc.proofs.EveryDesc.{every_desc}
use Rattle.machine_facts.proofs.FewEvents.{counts_opening}
use Rattle.machine_facts.proofs.SizedPhases.{sized_opening}
use Rattle.machine_facts.proofs.TimelyPhases.{timely_opening}
use Rattle.committed_state.proofs.Run.{consistent_opening}
use Rattle.core_parts.specs.Described.{described_opening}
use Rattle.core_cycle.specs.Kept.{Kept, KeptUntil}

module _ (d : Desc) (code : CodeText) (entry : ℕ) (ram : Ram) where
  -- nothing is in flight in it, and its point is the first
  pub opening_kept : Kept (word_at code) (described_opening d code entry ram)
  opening_kept = record {
    counted = counts_opening d entry ram;
    consistent = consistent_opening (word_at code) d entry ram;
    advanced = tt;
    sized = sized_opening d entry ram (every_desc d);
    timely = timely_opening d entry ram (every_desc d);
  }

  -- no cycle is known in which nothing happens
  pub opening_kept_until : KeptUntil 0 (word_at code) (described_opening d code entry ram)
  opening_kept_until = record { kept = opening_kept; still = λ c le lt. absurd (omega (arith, lt)) }
