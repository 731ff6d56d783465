use Rattle.std.proofs.Common.{refl}
use Rattle.std.proofs.lemmas.Result.{IfErr-weaker, on_ok_weaker}
use Rattle.ps_journal.specs.Places.{entries_in}
use Rattle.ps_hall_open.proofs.Refusals.{not_restored}
use Rattle.ps_hall_open.proofs.Replays.{boot-accepted, all_few, restored_is}
use Rattle.ps_hall_open.proofs.restoring.restore.Goals as goal

pub begin-requires-clause-accepted : goal.begin-requires-clause-accepted
begin-requires-clause-accepted g c κs within = boot-accepted (entries_in c.args._placed.now.items) c.args.rebuilt.now.service.state c.args.boot.now c.requires.taken.replayed.state c.requires.boot

pub begin-requires-clause-few : goal.begin-requires-clause-few
begin-requires-clause-few g c κs within = all_few c.args._placed.now.items c.args.rebuilt.now c.requires.taken.replayed c.requires.taken.few

pub returns-clause-restored : goal.returns-clause-restored
returns-clause-restored g c =
    on_ok_weaker c.begin.result
    (restored_is c.args._placed.now.items c.args.rebuilt.now (record { service = c.begin.new.service; queues = c.args.rebuilt.now.queues }) c.args.boot.now c.requires.taken.replayed
    c.requires.taken.few c.requires.boot refl) c.begin.ensures.state

pub returns-clause-err : goal.returns-clause-err
returns-clause-err g c =
    IfErr-weaker c.begin.result _ _ (λ why not. not_restored c.args.journal.now c.begin.new.journal c.args._placed.now.items c.args.boot.now c.args.whole why c.requires.taken.replayed.each not)
    c.begin.ensures.err
