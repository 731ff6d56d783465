use Rattle.std.proofs.Common.{◌≡◌, ◌<◌, ◌≤◌, ◌+◌, length}
use Rattle.std.specs.Prelude.{◌^◌}
use Rattle.ps_types.specs.declared.jid.Jid.{Jid}
use Rattle.ps_model.specs.Tallies.{made_for}
use Rattle.ps_notices.specs.Due.{tallied_by}
use Rattle.ps_core.proofs.numbers.make_each.Given as goal

abbrev pub invariant-loop-who : goal.invariant-loop-who
invariant-loop-who l =
    (tallied_by l.tallies.rows l.who-iterator.rest.items ≡ tallied_by l.fn.tallies.rows l.fn.whos.items) × (length l.who-iterator.rest.items ≤ l.tallies.spare)
    × ((who : Jid) → made_for who l.tallies.rows + length l.who-iterator.rest.items < 2 ^ 128)
