-- What a run reports, where all lines were taken.
use Rattle.std.proofs.Common.{◌≡◌, ℕ, List, Option, Some, None, ap, subst, ◌∙◌}
use Rattle.ps_types.specs.declared.jid.Jid.{Jid}
use Rattle.ps_wire.specs.Reading.{Gave}
use Rattle.ps_mirror.specs.Filled.{HasTaken}
use Rattle.ps_mirror.specs.Mirrored.{Mirrored, empty_mirror}
use Rattle.ps_mirror.specs.Report.{IsReport, reported_lines}

-- it is that of the copy of all lines
pub report-is : (service : Jid) (name : List ℕ) (who : Jid) (max : ℕ) (before rest : Option (List ℕ)) (m now : Mirrored) (lines : List (List ℕ)) → rest ≡ before → m ≡ empty_mirror service name who max
    → HasTaken rest m now → lines ≡ reported_lines now.copy.items → IsReport (record { service = service; name = name }) who max before lines
report-is service name who max before rest m now lines same empty taken is =
    by before (subst (λ (o : Option (List ℕ)). HasTaken o (empty_mirror service name who max) now) same (subst (λ (n : Mirrored). HasTaken rest n now) empty taken))
  where
    by : (o : Option (List ℕ)) → HasTaken o (empty_mirror service name who max) now → IsReport (record { service = service; name = name }) who max o lines
    by None all = tt
    by (Some bytes) all = is ∙ ap (λ (n : Mirrored). reported_lines n.copy.items) all

-- a fresh reader gave none before
pub gave-all : (before left : Option (List ℕ)) (given given_now : ℕ) → given ≡ 0 → Gave before left given given_now → Gave before left 0 given_now
gave-all before left given given_now none gave = subst (λ (n : ℕ). Gave before left n given_now) none gave
