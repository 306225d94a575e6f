use Rattle.std.proofs.Common.{ap, take, ◌∙◌}
use Rattle.circular_buffer.specs.Buffer.{buffer}
use Rattle.core_parts.proofs.Younger.{drop_whole, stops_here}
use Rattle.core_parts.proofs.parts.Parts.drop_from.Goals as goal

pub invariant_of-self : goal.invariant_of-self
invariant_of-self g c =
    drop_whole _ _ _ _ _ _ _ _ _ _ _ c.self.invariant
    (record {
      window = c.squash_after-entries.ensures.rob;
      beside = c.truncate_back.ensures ∙ ap (λ n. buffer (take n c.self.inside.sources.items) c.self.inside.sources.capacity) c.len.ensures.len;
      table = c.squash_after-entries.ensures.names;
      same_room = c.squash_after-entries.ensures.same_room;
      places = c.squash_after-entries.ensures.stations;
      loads_and_stores = c.squash_after-entries.ensures.lsq;
      divider = c.squash_after-entries.ensures.ports;
      fetches = c.redirect-items.ensures.redirected;
    })
    (stops_here _ _ _ c.self.invariant c.self.view_is c.requires.stops)
