-- What a crash leaves, as a replay of the calls makes it.
use Rattle.std.specs.Prelude.{ℕ, ◌≡◌}
use Rattle.ps_disk.specs.Calls.{State, filled}
use Rattle.ps_disk.specs.declared.replay.Outcomes.{Outcomes}

-- the three outcomes of a crash at this state
pub record AreOutcomes (byte : ℕ) (s : State) (o : Outcomes) : Type 0 where
  pub lost : o.lost.items ≡ s.synced
  pub whole : o.whole.items ≡ s.seen
  pub filled_in : o.filled.items ≡ filled byte s.written s.synced
