-- How a disk in memory counts its calls, and which of them fail.
use Rattle.std.specs.Prelude.{◌≡◌, ◌⊎◌, ◌<◌, ◌↔◌, Contains, IsErr, Result}
use Rattle.ps_base.specs.Causes.{next_count, Rose}
use Rattle.ps_disk.specs.Calls.{Recorded}

-- The call has the next number. It fails where that number is one of those that fail, and where it gave up because memory ran out, and only there.
pub record IsCall {T E : Type 0} (old new : Recorded) (result : Result T E) : Type 0 where
  pub calls : new.calls ≡ next_count old.calls
  pub start : new.start ≡ old.start
  pub failing : new.failing ≡ old.failing
  pub told : Contains old.failing (next_count old.calls) → IsErr result
  pub gave_up : old.refused < new.refused → IsErr result
  pub only : IsErr result → Contains old.failing (next_count old.calls) ⊎ Rose old.refused new.refused

-- The call changes nothing but its counts, and fails exactly where its number is one of those that fail.
pub record IsReading {T E : Type 0} (old new : Recorded) (result : Result T E) : Type 0 where
  pub calls : new.calls ≡ next_count old.calls
  pub start : new.start ≡ old.start
  pub kept : new.kept ≡ old.kept
  pub failing : new.failing ≡ old.failing
  pub refused : new.refused ≡ old.refused
  pub fails : IsErr result ↔ Contains old.failing (next_count old.calls)
