-- What a mirror does to the world.
use Rattle.std.specs.Prelude.{◌≡◌, ◌⊎◌, ℕ, List, [], ◌∷◌, Result, Ok, Err}
use Rattle.ps_wire.specs.declared.lines.NextLineRefusal.{NextLineRefusal}
use Rattle.ps_wire.specs.declared.lines.NextLineRefusal.TheVariants as lines
use Rattle.ps_io.specs.declared.world.Kind.TheVariants.{Source}
use Rattle.ps_io.specs.declared.world.OpenCall.{OpenCall}
use Rattle.ps_commands.specs.declared.command.MirrorWords.{MirrorWords}
use Rattle.ps_mirror.specs.Report.{RanMirror}
use Rattle.ps_status.specs.Leaving.{Touched}
use Rattle.ps_status.specs.Outside.{Outside, WasRefused}
use Rattle.ps_status.specs.declared.status.Status.{Status}
use Rattle.ps_status.specs.declared.status.Status.TheVariants.{StreamFault, StreamLong, Memory}

-- the source alone is opened and touched
abbrev pub mirror_openings : MirrorWords → List OpenCall
mirror_openings w = record { kind = Source; name = w.source } ∷ []

abbrev pub mirror_touches : MirrorWords → Touched
mirror_touches w = record { sources = w.source ∷ []; sinks = []; stores = [] }

abbrev pub status_by : NextLineRefusal → Status
status_by lines.ReadFault = StreamFault
status_by lines.Long = StreamLong
status_by lines.Memory = Memory

abbrev pub came_by : Result (List (List ℕ)) NextLineRefusal → Result (List (List ℕ)) Status
came_by (Ok told) = Ok told
came_by (Err why) = Err (status_by why)

-- the lines of the source were taken
pub record RanMirroring (w : MirrorWords) (old new : Outside) (came : Result (List (List ℕ)) Status) : Type 0 where
  pub outcome : Result (List (List ℕ)) NextLineRefusal
  pub is : came ≡ came_by outcome
  pub ran : RanMirror w.node w.who w.most (old.sources w.source).bytes (new.sources w.source).bytes
      (old.sources w.source).faults (new.sources w.source).faults outcome

-- or it was not opened
abbrev pub Mirrors : MirrorWords → Outside → Outside → (List ℕ → ℕ → List ℕ → Type 0) → (List ℕ → ℕ → List ℕ → Type 0)
    → Result (List (List ℕ)) Status → Type 0
Mirrors w old new lefts lefts_now came = WasRefused old new lefts lefts_now came ⊎ RanMirroring w old new came
