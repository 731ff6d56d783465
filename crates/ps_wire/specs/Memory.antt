-- What contracts see of a source and a sink in memory.
use Rattle.std.specs.Prelude.{◌≡◌, ℕ, List}
use Rattle.ps_base.specs.Causes.{next_count}

-- the bytes still to come, the numbers of the calls that fail, and how many calls, faults and wants of memory there were
pub record SourceView : Type 0 where
  pub left : List ℕ
  pub failing : List ℕ
  pub calls : ℕ
  pub faults : ℕ
  pub refused : ℕ

-- the bytes written, the numbers of the calls that fail, and how many calls, faults and wants of memory there were
pub record SinkView : Type 0 where
  pub written : List ℕ
  pub failing : List ℕ
  pub calls : ℕ
  pub faults : ℕ
  pub refused : ℕ

-- a call is counted, the list of failing calls stays, and no memory was wanted
pub record SourceCalled (old new : SourceView) : Type 0 where
  pub counted : new.calls ≡ next_count old.calls
  pub failing : new.failing ≡ old.failing
  pub refused : new.refused ≡ old.refused

-- a call is counted, and the list of failing calls stays
pub record SinkCalled (old new : SinkView) : Type 0 where
  pub counted : new.calls ≡ next_count old.calls
  pub failing : new.failing ≡ old.failing
