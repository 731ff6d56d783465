-- What an audit does to the world.
use Rattle.std.specs.Prelude.{◌≡◌, ◌⊎◌, ℕ, List, [], ◌∷◌, Result, Ok, Err}
use Rattle.ps_types.specs.declared.entry.Entry.{Entry}
use Rattle.ps_io.specs.declared.world.Kind.TheVariants.{Store}
use Rattle.ps_io.specs.declared.world.OpenCall.{OpenCall}
use Rattle.ps_commands.specs.declared.command.ExplainWords.{ExplainWords}
use Rattle.ps_commands.specs.declared.command.ReadersWords.{ReadersWords}
use Rattle.ps_hall_open.specs.declared.opened.ReadWhy.{ReadWhy}
use Rattle.ps_hall_open.specs.declared.opened.ReadWhy.TheVariants as why
use Rattle.ps_audit_run.specs.Audited.{Audited}
use Rattle.ps_audit_run.specs.Report.{explain_report, readers_report}
use Rattle.ps_status.specs.Leaving.{Touched}
use Rattle.ps_status.specs.Outside.{Outside, WasRefused}
use Rattle.ps_status.specs.declared.status.Status.{Status}
use Rattle.ps_status.specs.declared.status.Status.TheVariants.{StoreDamaged, StoreFault, Memory}

-- the store alone is opened and touched
abbrev pub store_openings : List ℕ → List OpenCall
store_openings name = record { kind = Store; name = name } ∷ []

abbrev pub store_touches : List ℕ → Touched
store_touches name = record { sources = []; sinks = []; stores = name ∷ [] }

abbrev pub status_by : ReadWhy → Status
status_by (why.Damaged at) = StoreDamaged at
status_by why.Store = StoreFault
status_by why.Memory = Memory

abbrev pub came_by : Result (List (List ℕ)) ReadWhy → Result (List (List ℕ)) Status
came_by (Ok told) = Ok told
came_by (Err why) = Err (status_by why)

-- the store of the name was audited
pub record RanAudit (tells : Type 0) (report : List Entry → List (List ℕ)) (name : List ℕ) (old new : Outside)
    (lefts_now : List ℕ → ℕ → List ℕ → Type 0) (came : Result (List (List ℕ)) Status) : Type 0 where
  pub outcome : Result (List (List ℕ)) ReadWhy
  pub is : came ≡ came_by outcome
  pub audited : Audited tells report (old.stores name) (new.stores name) (lefts_now name) outcome

-- or it was not opened
abbrev pub Audits : Type 0 → (List Entry → List (List ℕ)) → List ℕ → Outside → Outside
    → (List ℕ → ℕ → List ℕ → Type 0) → (List ℕ → ℕ → List ℕ → Type 0) → Result (List (List ℕ)) Status → Type 0
Audits tells report name old new lefts lefts_now came =
    WasRefused old new lefts lefts_now came ⊎ RanAudit tells report name old new lefts_now came

-- by these words
abbrev pub Explains : Type 0 → ExplainWords → Outside → Outside → (List ℕ → ℕ → List ℕ → Type 0)
    → (List ℕ → ℕ → List ℕ → Type 0) → Result (List (List ℕ)) Status → Type 0
Explains tells w old new lefts lefts_now came =
    Audits tells (explain_report w.who w.node) w.store old new lefts lefts_now came

abbrev pub Lists : Type 0 → ReadersWords → Outside → Outside → (List ℕ → ℕ → List ℕ → Type 0)
    → (List ℕ → ℕ → List ℕ → Type 0) → Result (List (List ℕ)) Status → Type 0
Lists tells w old new lefts lefts_now came = Audits tells (readers_report w.node) w.store old new lefts lefts_now came
