-- How the program ends.
use Rattle.std.specs.Prelude.{◌≡◌, ◌⊎◌, ℕ, List, None, IfSome}
use Rattle.ps_io.specs.declared.world.World.{Ghosts}
use Rattle.ps_commands.specs.Words.{command_of}
use Rattle.ps_endpoints.specs.Ports.{FailedToOpen}
use Rattle.ps_serve.specs.Came.{IsTold}
use Rattle.ps_serve.specs.Compacting.{Compacts, compacted_by}
use Rattle.ps_serve.specs.Did.{Did}
use Rattle.ps_serve.specs.Runs.{Leaves, Runs, openings_of, served_by}
use Rattle.ps_status.specs.Asking.{AsksInOrder}
use Rattle.ps_status.specs.Outside.{outside}
use Rattle.ps_status.specs.Statuses.{code_of, report_of}
use Rattle.ps_status.specs.Telling.{IsReported}
use Rattle.ps_status.specs.declared.status.Status.{Status}
use Rattle.ps_status.specs.declared.status.Status.TheVariants.{Usage, OpenFault, Memory}

module _ {S R K D C : Type 0} (tells : Type 0) (w : Ghosts S R K D C) where
  -- The command that these words are was run: of its status all is true that `run` of ps_serve says, and the code is that status's.
  pub record RanWords (words : List (List ℕ)) (old new : S) (code : ℕ) : Type 0 where
    pub status : Status
    pub code_is : code ≡ code_of status
    pub usage_only : status ≡ Usage → command_of words ≡ None
    pub usage : command_of words ≡ None → (status ≡ Usage) ⊎ (status ≡ Memory)
    pub runs : IfSome (served_by (command_of words))
        (Runs tells (outside w old) (outside w new) (w.lefts old) (w.lefts new) status)
    pub compacts : IfSome (compacted_by (command_of words))
        (Compacts tells (outside w old) (outside w new) (w.lefts old) (w.lefts new) status)
    pub opening : status ≡ OpenFault → FailedToOpen w old new
    pub asked : AsksInOrder (openings_of (command_of words)) (w.asked old) (w.asked new)
    pub others : Leaves (command_of words) (outside w old) (outside w new) (w.lefts old) (w.lefts new)
    pub reported : IsTold (Did tells (command_of words) (outside w old) (outside w new) (w.lefts old) (w.lefts new))
        (command_of words) (w.reported old) (w.reported new) (w.faults old) (w.last_opening new) (w.faults new) status

-- there was no memory for the words, and that is reported
pub record HadNoWords {S R K D C : Type 0} (w : Ghosts S R K D C) (old new : S) (code : ℕ) : Type 0 where
  pub code_is : code ≡ code_of Memory
  pub reported : IsReported (w.reported old) (w.reported new) (report_of Memory) (w.faults old) (w.faults new)
