use Rattle.std.proofs.Common.{◌∙◌, sym, subst}
use Rattle.ps_serve.specs.Compacting.{CompactsOver}
use Rattle.ps_status.specs.Outside.{outside}
use Rattle.ps_status.specs.declared.status.Status.{Status}
use Rattle.ps_status.proofs.Asking.{asked-first}
use Rattle.ps_serve.proofs.Pairs.{over-disk}
use Rattle.ps_serve.proofs.compacting.compact_into.Goals as goal

pub returns-in-Err-clause-asked : goal.returns-in-Err-clause-asked
returns-in-Err-clause-asked g c = asked-first _ _ _ _ c.in-Err.why c.in-Err.ensures.asked

pub returns-in-Ok-clause-compacts : goal.returns-in-Ok-clause-compacts
returns-in-Ok-clause-compacts g c =
    let w = g.W.World in
    let d = g.W.Store.Disk in
    let old = c.args.world.now in
    let new = c.give_back_disk.new.self in
    let made = c.compact-disk.ensures in
    subst (λ (st : Status). CompactsOver d c.args.new.now (outside w old) (outside w new) (w.lefts old) (w.lefts new) c.args.disk c.compact-disk.result.store st) (sym c.status_of.ensures)
    (over-disk w d c.args.new.now old new c.args.disk c.compact-disk.result.store c.in-Ok.other c.compact-disk.result.new
    c.in-Ok.ensures.object c.give_back_disk.ensures.held c.give_back_disk.ensures.left c.compact-disk.result.outcome
    (record {
      cause = record {
        done = λ told is. made.done told is;
        durable = λ told is. made.durable told is;
        damaged = λ told. made.damaged told;
        store = λ is. made.store is;
        occupied = λ told is. made.occupied told is;
        full = λ told is. made.full told is;
      };
      still = record {
        kept = λ told. made.kept told;
        left_old = λ told c l. (made.left told).each c l;
        left_of_new = λ told short c l. (made.any_moment told short).each c l;
      };
      new_stays = λ told short. made.new_stays told short;
    }))

pub returns-in-Ok-clause-asked : goal.returns-in-Ok-clause-asked
returns-in-Ok-clause-asked g c = (1, c.give_back_disk.ensures.asked ∙ c.in-Ok.ensures.asked)
