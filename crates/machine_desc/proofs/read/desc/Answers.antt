-- The facts of a description are what its keys' numbers have, or what the document has.
use Rattle.std.proofs.Common.{ap}
use Rattle.toml.specs.View.{table_view}
use Rattle.machine_desc.specs.declared.keys.Key.TheVariants.{CoreFetchWidth, CoreRetireWidth, CoreRob, CoreStations, CoreLoads, CoreStores, CoreQueue, UnitsAlus, UnitsMulLatency, PredictorCounters, PredictorBtb, CacheSets, CacheWays, CacheLine, CacheHitLatency, CacheMissLatency, CacheMshrs, RamBase, RamSize, SttModel as ModelKey, RamMisaligned, PredictorDepend, PredictorHistory, PredictorReturns, CacheSecondSets, CacheSecondWays, CacheSecondLatency, CachePrefetch, SttDefence as DefenceKey}
use Rattle.machine_desc.specs.Description.{OneModel, OneDefence, set_to}
use Rattle.machine_desc.proofs.Faultless.{latencies, ends, registers, second}
use Rattle.machine_desc.proofs.Named.{model_known, defence_known}
use Rattle.machine_desc.proofs.read.desc.Goals as goal

pub invariant_of-result : goal.invariant_of-result
invariant_of-result c = record {
  stands = record {
    version = c.requires.known;
    fetch_width = c.clean_number.ensures.fits;
    retire_width = c.clean_number-2.ensures.fits;
    rob = c.clean_number-3.ensures.fits;
    stations = c.clean_number-4.ensures.fits;
    loads = c.clean_number-5.ensures.fits;
    stores = c.clean_number-6.ensures.fits;
    queue = c.clean_number-7.ensures.fits;
    alus = c.clean_number-8.ensures.fits;
    mul_latency = c.clean_number-9.ensures.fits;
    counters = c.clean_number-10.ensures.fits;
    btb = c.clean_number-11.ensures.fits;
    sets = c.clean_number-12.ensures.fits;
    ways = c.clean_number-13.ensures.fits;
    line = c.clean_number-14.ensures.fits;
    hit_latency = c.clean_number-15.ensures.fits;
    miss_latency = (c.clean_number-16.ensures.fits, latencies c.args.version (table_view c.args.document.now) _ _ c.requires.clean.latencies c.clean_number-15.ensures.number c.clean_number-16.ensures.number);
    mshrs = c.clean_number-17.ensures.fits;
    ram_base = c.clean_number-18.ensures.fits;
    ram_size = (c.clean_number-19.ensures.fits, ends c.args.version (table_view c.args.document.now) _ _ c.requires.clean.ends c.clean_number-18.ensures.number c.clean_number-19.ensures.number);
    misaligned = (c.clean_number-20.ensures.fits, registers c.args.version (table_view c.args.document.now) _ _ c.requires.clean.registers c.clean_number-20.ensures.number c.clean_number-17.ensures.number);
    depend = c.clean_number-21.ensures.fits;
    history = c.clean_number-22.ensures.fits;
    returns = c.clean_number-23.ensures.fits;
    second_sets = c.clean_number-24.ensures.fits;
    second_ways = c.clean_number-25.ensures.fits;
    second_latency = (c.clean_number-26.ensures.fits, second c.args.version (table_view c.args.document.now) _ _ _ _ c.requires.clean.second c.clean_number-24.ensures.number c.clean_number-15.ensures.number c.clean_number-26.ensures.number c.clean_number-16.ensures.number);
    prefetch = c.clean_number-27.ensures.fits;
    model = model_known c.args.version (table_view c.args.document.now) c.args.stt_model c.requires.model;
    defence = defence_known c.args.version c.requires.known (table_view c.args.document.now) c.args.stt_defence c.requires.defence;
  };
}

pub returns-clause-keys : goal.returns-clause-keys
returns-clause-keys c CoreFetchWidth = c.clean_number.ensures.set
returns-clause-keys c CoreRetireWidth = c.clean_number-2.ensures.set
returns-clause-keys c CoreRob = c.clean_number-3.ensures.set
returns-clause-keys c CoreStations = c.clean_number-4.ensures.set
returns-clause-keys c CoreLoads = c.clean_number-5.ensures.set
returns-clause-keys c CoreStores = c.clean_number-6.ensures.set
returns-clause-keys c CoreQueue = c.clean_number-7.ensures.set
returns-clause-keys c UnitsAlus = c.clean_number-8.ensures.set
returns-clause-keys c UnitsMulLatency = c.clean_number-9.ensures.set
returns-clause-keys c PredictorCounters = c.clean_number-10.ensures.set
returns-clause-keys c PredictorBtb = c.clean_number-11.ensures.set
returns-clause-keys c CacheSets = c.clean_number-12.ensures.set
returns-clause-keys c CacheWays = c.clean_number-13.ensures.set
returns-clause-keys c CacheLine = c.clean_number-14.ensures.set
returns-clause-keys c CacheHitLatency = c.clean_number-15.ensures.set
returns-clause-keys c CacheMissLatency = c.clean_number-16.ensures.set
returns-clause-keys c CacheMshrs = c.clean_number-17.ensures.set
returns-clause-keys c RamBase = c.clean_number-18.ensures.set
returns-clause-keys c RamSize = c.clean_number-19.ensures.set
returns-clause-keys c ModelKey = ap (set_to OneModel) c.requires.model
returns-clause-keys c RamMisaligned = c.clean_number-20.ensures.set
returns-clause-keys c PredictorDepend = c.clean_number-21.ensures.set
returns-clause-keys c PredictorHistory = c.clean_number-22.ensures.set
returns-clause-keys c PredictorReturns = c.clean_number-23.ensures.set
returns-clause-keys c CacheSecondSets = c.clean_number-24.ensures.set
returns-clause-keys c CacheSecondWays = c.clean_number-25.ensures.set
returns-clause-keys c CacheSecondLatency = c.clean_number-26.ensures.set
returns-clause-keys c CachePrefetch = c.clean_number-27.ensures.set
returns-clause-keys c DefenceKey = ap (set_to OneDefence) c.requires.defence
