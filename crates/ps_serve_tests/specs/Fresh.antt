-- Worlds whose objects all lie there.
use Rattle.std.specs.Prelude.{◌≢◌, ℕ, List, Some, None}
use Rattle.ps_io.specs.MemWorld.{source_at, sink_at, disk_at, clock_at}
use Rattle.ps_io.specs.declared.mem_world.MemWorld.{MemWorld}

-- no object of the world is open
pub record NoneOpen (w : MemWorld) : Type 0 where
  pub sources : (n : List ℕ) → source_at w n ≢ Some None
  pub sinks : (n : List ℕ) → sink_at w n ≢ Some None
  pub disks : (n : List ℕ) → disk_at w n ≢ Some None
  pub clocks : (n : List ℕ) → clock_at w n ≢ Some None
