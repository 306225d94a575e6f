-- What one walk over the stores gathers for a load, and what it then comes to.
use Rattle.std.specs.Prelude.{ℕ, ◌+◌, Bool, ◌&&◌, nat_lt, List, [], ◌∷◌, None, is_some}
use Rattle.std.specs.Option.{option_or}
use Rattle.rv_types.specs.Word.{from_le}
use Rattle.rv_types.specs.Memory.{Ram}
use Rattle.rv_types.specs.declared.Width.{Width}
use Rattle.rv_types.specs.declared.Width.TheVariants.{B, H, W}
use Rattle.rename_taint.specs.Writes.{later}
use Rattle.lsq.specs.declared.store.Span.{Span}
use Rattle.lsq.specs.declared.store.Store.{Store}
use Rattle.lsq.specs.declared.merging.Gathered.{Gathered}
use Rattle.lsq.specs.Queues.{youngest_root}
use Rattle.lsq.specs.Merging.{byte_by, byte_or_memory, forwarded_byte}

-- what a store writes may reach one of the four bytes from an address on: it begins less than four bytes away
abbrev pub is_near : ℕ → Span → Bool
is_near a k = nat_lt k.addr (a + 4) && nat_lt a (k.addr + 4)

-- what stores, youngest first, give to a load of the bytes from an address on
abbrev pub bytes_from_stores : List Store → ℕ → Gathered
bytes_from_stores stores a = record {
  first = forwarded_byte stores a;
  second = forwarded_byte stores (a + 1);
  third = forwarded_byte stores (a + 1 + 1);
  fourth = forwarded_byte stores (a + 1 + 1 + 1);
  root = youngest_root stores;
}

-- what is gathered where there is no store
abbrev pub nothing : Gathered
nothing = record { first = None; second = None; third = None; fourth = None; root = None }

-- what is gathered once a younger store is passed
abbrev pub with_younger_store : ℕ → Store → Gathered → Gathered
with_younger_store a s g = record {
  first = option_or (byte_by a s) g.first;
  second = option_or (byte_by (a + 1) s) g.second;
  third = option_or (byte_by (a + 1 + 1) s) g.third;
  fourth = option_or (byte_by (a + 1 + 1 + 1) s) g.fourth;
  root = later s.root g.root;
}

-- the number of so many bytes from an address on, those that memory holds where none was gathered
abbrev pub number_in : Ram → ℕ → Width → Gathered → ℕ
number_in ram a B g = from_le (byte_or_memory ram a g.first ∷ [])
number_in ram a H g = from_le (byte_or_memory ram a g.first ∷ byte_or_memory ram (a + 1) g.second ∷ [])
number_in ram a W g =
    from_le (byte_or_memory ram a g.first ∷ byte_or_memory ram (a + 1) g.second ∷ byte_or_memory ram (a + 1 + 1) g.third ∷ byte_or_memory ram (a + 1 + 1 + 1) g.fourth ∷ [])

-- stores gave every byte of this width
abbrev pub covered_in : Width → Gathered → Bool
covered_in B g = is_some g.first
covered_in H g = is_some g.first && is_some g.second
covered_in W g = is_some g.first && is_some g.second && is_some g.third && is_some g.fourth
