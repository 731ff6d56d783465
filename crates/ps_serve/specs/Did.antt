-- What each command did: of those that serve and compact `Runs` and `Compacts` tell.
use Rattle.std.specs.Prelude.{◌≡◌, ℕ, List, Option, Some, Result, Ok, Err}
use Rattle.ps_commands.specs.declared.command.Command.{Command}
use Rattle.ps_commands.specs.declared.command.Command.TheVariants.{Rehearse, Explain, Readers, Feed, Follow, Mirror}
use Rattle.ps_audit_command.specs.Auditing.{Explains, Lists}
use Rattle.ps_follow_command.specs.Feeding.{Feeds}
use Rattle.ps_follow_command.specs.Following.{FollowsIn}
use Rattle.ps_mirror_command.specs.Mirroring.{Mirrors}
use Rattle.ps_status.specs.Outside.{Outside}
use Rattle.ps_status.specs.declared.status.Status.{Status}
use Rattle.ps_status.specs.declared.status.Status.TheVariants.{Memory}

-- it has no lines to tell, and ended so
abbrev pub EndedBy : (Status → Type 0) → Result (List (List ℕ)) Status → Type 0
EndedBy Ends (Ok lines) = ⊥
EndedBy Ends (Err status) = Ends status

-- what came of the command: lines to tell, or how it ended; of a rehearsal that has no numbers, that memory ran out
abbrev pub Did : Type 0 → Option Command → Outside → Outside → (List ℕ → ℕ → List ℕ → Type 0) → (List ℕ → ℕ → List ℕ → Type 0)
    → Result (List (List ℕ)) Status → Type 0
Did tells (Some (Rehearse seed count)) old new lefts lefts_now came = came ≡ Err Memory
Did tells (Some (Explain words)) old new lefts lefts_now came = Explains tells words old new lefts lefts_now came
Did tells (Some (Readers words)) old new lefts lefts_now came = Lists tells words old new lefts lefts_now came
Did tells (Some (Feed words)) old new lefts lefts_now came = EndedBy (λ st. Feeds tells words old new lefts lefts_now st) came
Did tells (Some (Follow words)) old new lefts lefts_now came = EndedBy (λ st. FollowsIn words old new lefts lefts_now st) came
Did tells (Some (Mirror words)) old new lefts lefts_now came = Mirrors words old new lefts lefts_now came
Did tells command old new lefts lefts_now came = EndedBy (λ st. Unit {0}) came
