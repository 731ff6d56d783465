-- What is reported of a command.
use Rattle.std.specs.Prelude.{◌≡◌, ◌⊎◌, ℕ, List, [], ◌∷◌, ◌++◌, Option, Result, Ok, Err}
use Rattle.std.specs.Io.KnownBytes.{Appends}
use Rattle.ps_base.specs.Causes.{Rose}
use Rattle.ps_io.specs.Held.{Same, SameLefts}
use Rattle.ps_io.specs.World.{ReportsFront}
use Rattle.ps_io.specs.declared.world.World.{Ghosts}
use Rattle.ps_status.specs.Statuses.{report_of}
use Rattle.ps_status.specs.declared.status.Status.{Status}
use Rattle.ps_status.specs.declared.status.Status.TheVariants.{Done, Usage, OpenFault, FeedBad, StoreDamaged, StoreFault, StoreFull, Occupied, StreamFault, StreamLong, Memory}

-- the world's count of faults before the report, as far as a status tells it: once an opening was done, the count after the last one
abbrev pub reported_from : Status → ℕ → ℕ × ℕ → ℕ
reported_from OpenFault before last = last.1
reported_from (FeedBad at) before last = last.1
reported_from (StoreDamaged at) before last = last.1
reported_from StoreFault before last = last.1
reported_from StoreFull before last = last.1
reported_from Occupied before last = last.1
reported_from StreamFault before last = last.1
reported_from StreamLong before last = last.1
reported_from Done before last = before
reported_from Usage before last = before
reported_from Memory before last = before

-- the line is reported, or a front of it where the count has risen since
abbrev pub IsReported : Option (List ℕ) → Option (List ℕ) → List ℕ → ℕ → ℕ → Type 0
IsReported old new line before now = Appends old new line ⊎ (ReportsFront old new line × Rose before now)

-- the bytes of lines, one after another
abbrev pub text_of : List (List ℕ) → List ℕ
text_of [] = []
text_of (line ∷ lines) = line ++ text_of lines

-- a text is told, or a front of it where a report failed, which ends the run by that
abbrev pub TellsText : List ℕ → Option (List ℕ) → Option (List ℕ) → ℕ → ℕ → Status → Type 0
TellsText text old new before now Done = Appends old new text
TellsText text old new before now StreamFault = ReportsFront old new text × Rose before now
TellsText text old new before now Usage = ⊥
TellsText text old new before now OpenFault = ⊥
TellsText text old new before now (FeedBad at) = ⊥
TellsText text old new before now (StoreDamaged at) = ⊥
TellsText text old new before now StoreFault = ⊥
TellsText text old new before now StoreFull = ⊥
TellsText text old new before now Occupied = ⊥
TellsText text old new before now StreamLong = ⊥
TellsText text old new before now Memory = ⊥

-- ---- a command that tells lines

-- the count of faults before what came of it was told: lines are told after an opening
abbrev pub told_from : Result (List (List ℕ)) Status → ℕ → ℕ × ℕ → ℕ
told_from (Ok lines) before last = last.1
told_from (Err st) before last = reported_from st before last

-- its lines are told, or how it ended
abbrev pub Tells : Result (List (List ℕ)) Status → Option (List ℕ) → Option (List ℕ) → ℕ → ℕ × ℕ → ℕ → Status → Type 0
Tells (Ok lines) old new before last now st = TellsText (text_of lines) old new last.1 now st
Tells (Err why) old new before last now st =
    (st ≡ why) × IsReported old new (report_of why) (reported_from why before last) now

-- this came of it, and was told
abbrev pub ComesTo : (Result (List (List ℕ)) Status → Type 0) → Option (List ℕ) → Option (List ℕ) → ℕ → ℕ × ℕ → ℕ
    → Status → Type 0
ComesTo Comes old new before last now st =
    (came : Result (List (List ℕ)) Status) × Comes came × Tells came old new before last now st

-- ---- a report

-- nothing of the world has changed but what was reported, and its count of faults, which doesn't fall
module _ {S R K D C : Type 0} (w : Ghosts S R K D C) where
  pub record OnlyTells (old new : S) : Type 0 where
    pub same_sources : Same (w.sources old) (w.sources new)
    pub same_sinks : Same (w.sinks old) (w.sinks new)
    pub same_stores : Same (w.stores old) (w.stores new)
    pub same_lefts : SameLefts (w.lefts old) (w.lefts new)
    pub same_clocks : Same (w.clocks old) (w.clocks new)
    pub asked : w.asked new ≡ w.asked old
    pub last : w.last_opening new ≡ w.last_opening old
