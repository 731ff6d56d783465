-- What a rehearsal reports.
use Rattle.std.specs.Prelude.{ℕ, List, [], ◌∷◌, ◌++◌, Option, codes, decimal}
use Rattle.ps_rehearse.specs.declared.numbers.Numbers.{Numbers}
use Rattle.ps_status.specs.declared.status.Status.{Status}
use Rattle.ps_status.specs.Telling.{TellsText}

-- a name, a number, and a newline
abbrev pub number_line : List ℕ → ℕ → List ℕ
number_line name n = name ++ (decimal n ++ 10 ∷ [])

-- the five lines
abbrev pub numbers_report : Numbers → List ℕ
numbers_report n =
    number_line (codes "stanzas ") n.stanzas
    ++ (number_line (codes "commits ") n.commits
    ++ (number_line (codes "results ") n.results
    ++ (number_line (codes "errors ") n.errors ++ number_line (codes "notices ") n.notices)))

-- all of them are told, or a front where a report failed, which ends the run by that
abbrev pub TellsNumbers : Numbers → Option (List ℕ) → Option (List ℕ) → ℕ → ℕ → Status → Type 0
TellsNumbers n old new before now st = TellsText (numbers_report n) old new before now st
