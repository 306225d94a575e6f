-- The table of the keys (docs/formats.md, "Machine descriptions").
use Rattle.std.specs.Prelude.{Bool, true, nat_le, ℕ, if◌then◌else◌, List, [], ◌∷◌, ◌++◌, ◌&&◌, ◌||◌, codes}
use Rattle.std.specs.List.{list_any}
use Rattle.std.specs.Str.{bytes_eq}
use Rattle.machine_desc.specs.declared.keys.Section.{Section}
use Rattle.machine_desc.specs.declared.keys.Section.TheVariants.{Core, Units, Predictor, Cache, Ram, Stt}
use Rattle.machine_desc.specs.declared.keys.Key.{Key}
use Rattle.machine_desc.specs.declared.keys.Key.TheVariants.{CoreFetchWidth, CoreRetireWidth, CoreRob, CoreStations, CoreLoads, CoreStores, CoreQueue, UnitsAlus, UnitsMulLatency, PredictorCounters, PredictorBtb, CacheSets, CacheWays, CacheLine, CacheHitLatency, CacheMissLatency, CacheMshrs, RamBase, RamSize, SttModel, RamMisaligned, PredictorDepend, PredictorHistory, PredictorReturns, CacheSecondSets, CacheSecondWays, CacheSecondLatency, CachePrefetch, SttDefence}
use Rattle.machine_desc.specs.declared.keys.Shape.{Shape}
use Rattle.machine_desc.specs.declared.keys.Shape.TheVariants.{Any, PowerOfTwo, ZeroOrPowerOfTwo, MultipleOf16}
use Rattle.machine_desc.specs.declared.keys.Values.{Values}
use Rattle.machine_desc.specs.declared.keys.Values.TheVariants.{Numbers, Optional, Models, Defences}
use Rattle.machine_desc.specs.declared.fault.Subject.{Subject}
use Rattle.machine_desc.specs.declared.fault.Subject.TheVariants.{Version as OfVersion, Table as OfTable, Key as OfKey}
use Rattle.machine_desc.specs.Version.{most, knows_off}

-- since which version a key is there, where it stands, and which values it may have
pub record KeyRow : Type 0 where
  pub since : ℕ
  pub section : Section
  pub name : List ℕ
  pub values : Values

-- the row of a key whose values are the whole numbers from least to most that have a shape
abbrev pub whole : ℕ → Section → List ℕ → ℕ → ℕ → Shape → KeyRow
whole since section name least most shape = record { since = since; section = section; name = name; values = Numbers least most shape }

-- a row of a key that may be left out: it then has the least of its numbers
abbrev pub optional : ℕ → Section → List ℕ → ℕ → ℕ → Shape → KeyRow
optional since section name least most shape = record { since = since; section = section; name = name; values = Optional least most shape }

-- the rows of a version: since which version the key is there, its table, name, least, most and shape
abbrev pub row : ℕ → Key → KeyRow
row v CoreFetchWidth = whole 1 Core (codes "fetch_width") 1 4 Any
row v CoreRetireWidth = whole 1 Core (codes "retire_width") 1 4 Any
row v CoreRob = whole 1 Core (codes "rob") 4 (most 64 192 v) Any
row v CoreStations = whole 1 Core (codes "stations") 2 (most 32 96 v) Any
row v CoreLoads = whole 1 Core (codes "loads") 1 (most 16 64 v) Any
row v CoreStores = whole 1 Core (codes "stores") 1 (most 16 48 v) Any
row v CoreQueue = whole 1 Core (codes "queue") 1 (most 16 32 v) Any
row v UnitsAlus = whole 1 Units (codes "alus") 1 4 Any
row v UnitsMulLatency = whole 1 Units (codes "mul_latency") 1 8 Any
row v PredictorCounters = whole 1 Predictor (codes "counters") 2 4096 PowerOfTwo
row v PredictorBtb = whole 1 Predictor (codes "btb") 1 256 PowerOfTwo
row v CacheSets = whole 1 Cache (codes "sets") 1 256 PowerOfTwo
row v CacheWays = whole 1 Cache (codes "ways") 1 8 Any
row v CacheLine = whole 1 Cache (codes "line") 4 64 PowerOfTwo
row v CacheHitLatency = whole 1 Cache (codes "hit_latency") 1 8 Any
row v CacheMissLatency = whole 1 Cache (codes "miss_latency") 2 200 Any
row v CacheMshrs = whole 1 Cache (codes "mshrs") 1 8 Any
row v RamBase = whole 1 Ram (codes "base") 0 4294963200 MultipleOf16
row v RamSize = whole 1 Ram (codes "size") 4096 16777216 MultipleOf16
row v SttModel = record { since = 1; section = Stt; name = codes "model"; values = Models (knows_off v) }
row v RamMisaligned = optional 2 Ram (codes "misaligned") 0 1 Any
row v PredictorDepend = optional 2 Predictor (codes "depend") 0 1024 ZeroOrPowerOfTwo
row v PredictorHistory = optional 2 Predictor (codes "history") 0 12 Any
row v PredictorReturns = optional 2 Predictor (codes "returns") 0 16 Any
row v CacheSecondSets = optional 2 Cache (codes "second_sets") 0 1024 ZeroOrPowerOfTwo
row v CacheSecondWays = optional 2 Cache (codes "second_ways") 1 8 Any
row v CacheSecondLatency = optional 2 Cache (codes "second_latency") 2 100 Any
row v CachePrefetch = optional 2 Cache (codes "prefetch") 0 1 Any
row v SttDefence = record { since = 2; section = Stt; name = codes "defence"; values = Defences true }

-- where a key stands, which is the same in every version
abbrev pub section_of : Key → Section
section_of key = (row 1 key).section

-- the name of a key in its table
abbrev pub name_of : Key → List ℕ
name_of key = (row 1 key).name

-- the keys of numbers that have to be there, in order
abbrev pub required_numbers : List Key
required_numbers =
    CoreFetchWidth ∷ CoreRetireWidth ∷ CoreRob ∷ CoreStations ∷ CoreLoads ∷ CoreStores ∷ CoreQueue ∷
    UnitsAlus ∷ UnitsMulLatency ∷
    PredictorCounters ∷ PredictorBtb ∷
    CacheSets ∷ CacheWays ∷ CacheLine ∷ CacheHitLatency ∷ CacheMissLatency ∷ CacheMshrs ∷
    RamBase ∷ RamSize ∷ []

-- the keys of numbers that may be left out, in order
abbrev pub optional_numbers : List Key
optional_numbers =
    RamMisaligned ∷
    PredictorDepend ∷ PredictorHistory ∷ PredictorReturns ∷
    CacheSecondSets ∷ CacheSecondWays ∷ CacheSecondLatency ∷ CachePrefetch ∷ []

-- the keys of a description, in order
abbrev pub keys : List Key
keys = required_numbers ++ SttModel ∷ optional_numbers ++ SttDefence ∷ []

-- since which version a key is there
abbrev pub since_of : Key → ℕ
since_of key = (row 1 key).since

-- a version knows the keys that are there since it, or since an earlier one
abbrev pub is_known : ℕ → Key → Bool
is_known version key = nat_le (since_of key) version

-- a key that isn't known has the value alone that it has where it is left out: its least, or the first defence
abbrev pub where_known : Bool → Values → Values
where_known known (Optional least most shape) = Optional least (if known then most else least) shape
where_known known (Defences every) = Defences (every && known)
where_known known values = values

-- the values that a key may have in a version
abbrev pub values_of : ℕ → Key → Values
values_of version key = where_known (is_known version key) (row version key).values

-- the tables, in the order of their keys
abbrev pub sections : List Section
sections = Core ∷ Units ∷ Predictor ∷ Cache ∷ Ram ∷ Stt ∷ []

-- the names of the tables
abbrev pub section_name : Section → List ℕ
section_name Core = codes "core"
section_name Units = codes "units"
section_name Predictor = codes "predictor"
section_name Cache = codes "cache"
section_name Ram = codes "ram"
section_name Stt = codes "stt"

-- the name of the version, which stands in no table
abbrev pub version_name : List ℕ
version_name = codes "version"

-- the name of a key with its table's
abbrev pub key_text : Key → List ℕ
key_text key = section_name (section_of key) ++ codes "." ++ name_of key

-- the name of what has the wrong kind
abbrev pub subject_text : Subject → List ℕ
subject_text OfVersion = version_name
subject_text (OfTable section) = section_name section
subject_text (OfKey key) = key_text key

-- one of the tables has this name
abbrev pub some_section : List Section → List ℕ → Bool
some_section tables name = list_any (λ s. bytes_eq (section_name s) name) tables

-- the name is the version's, or that of one of these tables
abbrev pub some_top : List Section → List ℕ → Bool
some_top tables name = bytes_eq version_name name || some_section tables name

-- a key that the version knows stands in this table under this name
abbrev pub stands_at : ℕ → Section → List ℕ → Key → Bool
stands_at version section name key =
    is_known version key && bytes_eq (section_name (section_of key)) (section_name section) && bytes_eq (name_of key) name

-- one of the keys stands in this table under this name
abbrev pub some_key : ℕ → List Key → Section → List ℕ → Bool
some_key version ks section name = list_any (stands_at version section name) ks
