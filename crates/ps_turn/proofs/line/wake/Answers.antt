use Rattle.std.proofs.Common.{◌+◌, ◌-◌, ◌%◌, ◌^◌}
use Rattle.ps_turn.proofs.line.wake.Goals as goal

pub fetch_add-asleep-requires : goal.fetch_add-asleep-requires
fetch_add-asleep-requires g c = (c.requires.table, c.requires.words.1, c.requires.rings.ring (λ n. (n + (4 - c.peek-told.result % 4)) % 2 ^ 64))
