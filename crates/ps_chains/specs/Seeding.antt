-- How hashing begins: SipHash-1-3 that is fed a seed.
use Rattle.std.specs.Prelude.{ℕ, fold}
use Rattle.std.specs.Hash as fed
use Rattle.std.specs.Hash.DefaultHasher as sip
use Rattle.std.specs.declared.hash.DefaultHasher.{DefaultHasher}

unfoldable pub begun : ℕ → DefaultHasher
begun seed = fold sip.write sip.initial (fed.u64 seed)
