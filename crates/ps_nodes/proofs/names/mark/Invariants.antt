use Rattle.std.proofs.Common.{◌≡◌, ◌+◌, ◌≤◌, length, take}
use Rattle.ps_rows.specs.Standing.{marks_of}
use Rattle.ps_nodes.specs.Kept.{name_digest}
use Rattle.ps_nodes.proofs.names.mark.Given as goal

abbrev pub invariant-loop-slot : goal.invariant-loop-slot
invariant-loop-slot l = record {
  marks : l.named.rows ≡ marks_of (name_digest l.seed) (take l.slot-index l.slots);
  room : length l.fn.named.rows + l.fn.named.spare ≤ l.named.spare + l.slot-index;
}
