-- What a reader of a part of a request answers. Where memory ran out it says nothing.
use Rattle.std.specs.Prelude.{◌≡◌, ℕ, List, Option, Some, None, Result, Ok, Err}
use Rattle.ps_types.specs.declared.denial.Condition.{Condition}
use Rattle.ps_types.specs.declared.denial.Condition.TheVariants.{C13}
use Rattle.ps_types.specs.declared.plan.PlanRefusal.{PlanRefusal}
use Rattle.ps_types.specs.declared.plan.PlanRefusal.TheVariants.{Denied, Memory}
use Rattle.ps_types.specs.declared.request.AskRow.{AskRow}

-- exactly what is given
abbrev pub Gives : {X : Type 0} → Result X PlanRefusal → Result X Condition → Type 0
Gives (Ok x) given = given ≡ Ok x
Gives (Err (Denied why)) given = given ≡ Err why
Gives (Err Memory) given = Unit {0}

-- that name where the step passes, and else what the step denies
abbrev pub Names : Option Condition → List ℕ → Result (List ℕ) PlanRefusal → Type 0
Names step name (Ok text) = (text ≡ name) × (step ≡ None)
Names step name (Err (Denied why)) = step ≡ Some why
Names step name (Err Memory) = Unit {0}

-- exactly those rows, and 13 where there are none
abbrev pub AreRows : Result (List AskRow) PlanRefusal → Option (List AskRow) → Type 0
AreRows (Ok rows) given = given ≡ Some rows
AreRows (Err (Denied why)) given = (why ≡ C13) × (given ≡ None)
AreRows (Err Memory) given = Unit {0}
