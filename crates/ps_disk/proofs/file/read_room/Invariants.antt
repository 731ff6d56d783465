use Rattle.std.proofs.Common.{◌≤◌, ◌-◌, length}
use Rattle.ps_disk.proofs.file.read_room.Given as goal

abbrev pub invariant-pieces : goal.invariant-pieces
invariant-pieces g l = l.done ≤ length l.room

abbrev pub decreases-pieces : goal.decreases-pieces
decreases-pieces g l = length l.initial.room - l.done
