use Rattle.std.proofs.Common.{ap, ◌∙◌, arith}
use Rattle.circular_buffer.specs.Buffer.{buffer, keep_last}
use Rattle.core_parts.specs.Described.{Described}
use Rattle.core_parts.specs.Held.{Sizes}
use Rattle.core_cycle.proofs.Moving.{retire_goes_on}
use Rattle.core_cycle.proofs.Retiring.{each_takes, retire_whole, retire_shown, retire_row, retire_piece}
use Rattle.core_cycle.proofs.phases.retire.Goals as goal

pub retire-parts-inside-requires-clause-stores_fit : goal.retire-parts-inside-requires-clause-stores_fit
retire-parts-inside-requires-clause-stores_fit g c = each_takes _ _ c.parts.invariant.sized.memory c.parts.invariant.sized.outcomes c.parts.invariant.sized.parts

pub retire-parts-inside-requires-clause-sets : goal.retire-parts-inside-requires-clause-sets
retire-parts-inside-requires-clause-sets g c = ap (λ (s : Sizes). s.tags.cache_sets) c.parts.invariant.made

pub retire-parts-inside-requires-clause-line : goal.retire-parts-inside-requires-clause-line
retire-parts-inside-requires-clause-line g c = ap (λ (s : Sizes). s.tags.cache_line) c.parts.invariant.made

pub invariant_of-parts : goal.invariant_of-parts
invariant_of-parts g c =
    retire_whole _ _ _ _ _ _ _ _ _ _ _ _ c.parts.invariant _ c.parts.view_is c.requires.advanced (ap (λ (s : Described). s.machine.end) c.parts.view_is ∙ c.requires.running) c.retire-parts-inside.ensures.state
    (record {
      entries = c.retire-parts-inside.ensures.left;
      may_retire = c.retire-parts-inside.ensures.may_retire;
      same_room = c.retire-parts-inside.ensures.same_room;
      beside = c.truncate_front.ensures ∙ ap (λ n. buffer (keep_last n c.parts.inside.sources.items) c.parts.inside.sources.capacity) c.len-left.ensures.len;
      table = c.retire-parts-inside.ensures.table;
      same_table_room = c.retire-parts-inside.ensures.same_table_room;
      lsq = c.retire-parts-inside.ensures.lsq;
      cache = c.retire-parts-inside.ensures.desc;
      count = omega (arith, c.saturating_sub.ensures, c.len-left.ensures.len, c.len-before.ensures.len);
    })

pub returns-clause-machine : goal.returns-clause-machine
returns-clause-machine g c =
    retire_shown _ c.retire-parts-inside.new.rob c.retire-parts-inside.new.tags _ _ _ _ _ _ c.parts.invariant (ap (λ (s : Described). s.machine.end) c.parts.view_is ∙ c.requires.running)
    c.retire-parts-inside.ensures.state (omega (arith, c.saturating_sub.ensures, c.len-left.ensures.len, c.len-before.ensures.len)) c.parts.view_is

pub returns-clause-row : goal.returns-clause-row
returns-clause-row g c = retire_row _ _ _ _ c.parts.invariant (ap (λ (s : Described). s.machine.end) c.parts.view_is ∙ c.requires.running) c.retire-parts-inside.ensures.row c.parts.view_is

pub returns-clause-piece : goal.returns-clause-piece
returns-clause-piece g c = retire_piece _ _ _ c.parts.invariant (ap (λ (s : Described). s.machine.end) c.parts.view_is ∙ c.requires.running) c.retire-parts-inside.ensures.piece c.parts.view_is

pub returns-clause-advanced : goal.returns-clause-advanced
returns-clause-advanced g c = retire_goes_on _ c.retire-parts-inside.new.rob _ c.parts.invariant c.retire-parts-inside.ensures.left c.retire-parts-inside.ensures.may_retire c.parts.view_is c.requires.advanced
