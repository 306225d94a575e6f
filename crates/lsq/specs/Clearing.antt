-- Which load is violated as a store is cleared (docs/machine.md, "Clear").
use Rattle.std.specs.Prelude.{ℕ, Bool, false, not, ◌&&◌, ◌==◌, nat_lt, List, Option, Some, is_some}
use Rattle.std.specs.List.{find, list_any}
use Rattle.std.specs.Option.{option_and_then, option_map}
use Rattle.rv_types.specs.Memory.{range}
use Rattle.rv_types.specs.Value.{bytes_in}
use Rattle.lsq.specs.declared.clearing.StoreInfo.{StoreInfo}
use Rattle.lsq.specs.declared.load.IssuedLoad.{IssuedLoad}
use Rattle.lsq.specs.declared.load.Load.{Load}
use Rattle.lsq.specs.declared.load.LoadRequest.{LoadRequest}
use Rattle.lsq.specs.declared.store.Span.{Span}
use Rattle.lsq.specs.declared.store.Store.{Store}
use Rattle.lsq.specs.Merging.{reaches}

-- what is told of a store in its place: whether it is known where it writes, and whether it is cleared
abbrev pub info_of : Store → StoreInfo
info_of s = record { serial = s.serial; root = s.root; known = is_some s.span; cleared = s.cleared }

-- what a load asked for that has made this access
abbrev pub request_of : IssuedLoad → LoadRequest
request_of a = record { addr = a.addr; width = a.width; fault = a.fault }

-- the access was made before the store's address was known, and shares a byte with what the store writes; neither has a
-- fault
abbrev pub is_wrong : Span → IssuedLoad → Bool
is_wrong k a = nat_lt a.cycle k.known_from && not (is_some a.fault) && list_any (λ b. reaches b k) (range a.addr (bytes_in a.width))

-- the load passed the store wrongly, where it is known what the load reads and where the store writes
abbrev pub passed_wrongly : Option Span → Option IssuedLoad → Bool
passed_wrongly (Some k) (Some a) = is_wrong k a
passed_wrongly _ _ = false

-- a load that is younger than the store and passed it wrongly
abbrev pub is_violated : Store → Load → Bool
is_violated s l = nat_lt s.serial l.serial && passed_wrongly s.span l.access

-- the serial of the oldest load that the store violates
abbrev pub violated_serial : Store → List Load → Option ℕ
violated_serial s loads = option_map (λ l. l.serial) (find (is_violated s) loads)

-- the store of this serial
abbrev pub store_of : ℕ → List Store → Option Store
store_of serial stores = find (λ s. s.serial == serial) stores

-- the oldest load that is violated by the store of this serial
abbrev pub violated_by : ℕ → List Store → List Load → Option ℕ
violated_by serial stores loads = option_and_then (λ s. violated_serial s loads) (store_of serial stores)
