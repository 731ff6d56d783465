-- What came of a command, and what is told of it.
use Rattle.std.specs.Prelude.{◌≡◌, ◌⊎◌, ℕ, List, Option, Some, Result, Ok, Err}
use Rattle.ps_commands.specs.declared.command.Command.{Command}
use Rattle.ps_commands.specs.declared.command.Command.TheVariants.{Rehearse}
use Rattle.ps_rehearse.specs.Laws.{AreNumbers}
use Rattle.ps_rehearse.specs.Rehearsed.{Rehearsed}
use Rattle.ps_rehearse.specs.declared.numbers.Numbers.{Numbers}
use Rattle.ps_rehearse_laws.specs.Rehearsal.{rehearsal}
use Rattle.ps_status.specs.Outside.{Outside}
use Rattle.ps_status.specs.Telling.{ComesTo}
use Rattle.ps_status.specs.declared.status.Status.{Status}
use Rattle.ps_status.specs.declared.status.Status.TheVariants.{Done, Memory}
use Rattle.ps_serve.specs.Did.{Did}
use Rattle.ps_serve.specs.Numbers.{TellsNumbers}
use Rattle.ps_serve.specs.declared.whole.Came.{Came}
use Rattle.ps_serve.specs.declared.whole.Came.TheVariants as came

-- lines to tell, or how it ended
abbrev pub came_by : Result (List (List ℕ)) Status → Came
came_by (Ok lines) = came.Lines lines
came_by (Err status) = came.Ended status

-- the other way; a rehearsal's numbers are no lines yet
abbrev pub outcome_in : Came → Result (List (List ℕ)) Status
outcome_in (came.Ended status) = Err status
outcome_in (came.Lines lines) = Ok lines
outcome_in (came.Rehearsed n) = Err Done

-- how it ended, before it is told
abbrev pub status_in : Came → Status
status_in (came.Ended status) = status
status_in (came.Lines lines) = Done
status_in (came.Rehearsed n) = Done

-- there was a run with these numbers, and they are those of the seed's stanzas one after the other at an empty service
pub record IsRehearsal (seed count : ℕ) (n : Numbers) : Type 0 where
  pub ran : Rehearsed seed count n
  pub are : AreNumbers n (rehearsal seed count)

-- the numbers are those of a rehearsal
pub record HasNumbers (command : Option Command) (n : Numbers) : Type 0 where
  pub seed : ℕ
  pub count : ℕ
  pub is : command ≡ Some (Rehearse seed count)
  pub rehearsed : IsRehearsal seed count n

-- what comes of a rehearsal, before it is told
abbrev pub MayRehearse : ℕ → ℕ → Came → Type 0
MayRehearse seed count (came.Rehearsed n) = IsRehearsal seed count n
MayRehearse seed count (came.Lines lines) = ⊥
MayRehearse seed count (came.Ended status) = status ≡ Memory

-- what came of a command, before it is told
abbrev pub IsCame : Type 0 → Option Command → Outside → Outside → (List ℕ → ℕ → List ℕ → Type 0) → (List ℕ → ℕ → List ℕ → Type 0) → Came
    → Type 0
IsCame tells command old new lefts lefts_now (came.Rehearsed n) = HasNumbers command n
IsCame tells command old new lefts lefts_now (came.Lines lines) = Did tells command old new lefts lefts_now (Ok lines)
IsCame tells command old new lefts lefts_now (came.Ended status) = Did tells command old new lefts lefts_now (Err status)

-- the numbers of a rehearsal are told
abbrev pub TellsRehearsal : Option Command → Option (List ℕ) → Option (List ℕ) → ℕ → ℕ → Status → Type 0
TellsRehearsal command old new before now status =
    (n : Numbers) × HasNumbers command n × TellsNumbers n old new before now status

-- what came of the command is told: the world's count of faults stood at `start` when it began, and at `last` before and after the last opening
abbrev pub IsTold : (Result (List (List ℕ)) Status → Type 0) → Option Command → Option (List ℕ) → Option (List ℕ) → ℕ → ℕ × ℕ → ℕ → Status
    → Type 0
IsTold DidSo command old new start last now status =
    TellsRehearsal command old new start now status ⊎ ComesTo DidSo old new start last now status
