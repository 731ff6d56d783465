use Rattle.std.proofs.Common.{[], Err, ap, arith, sym, subst}
use Rattle.std.proofs.lemmas.List.{length-map}
use Rattle.ps_journal.specs.declared.judging.Placed.{Placed}
use Rattle.ps_hall_open.specs.Reads.{ReadNot}
use Rattle.ps_hall_open.specs.Replayed.{HasTaken}
use Rattle.ps_hall_open.proofs.Refusals.{read_refused}
use Rattle.ps_hall_open.proofs.Replays.{opened_store, taken_nothing}
use Rattle.ps_hall_open.proofs.Timely.{placed_entries}
use Rattle.ps_hall_open.proofs.reading.kept_on.Goals as goal

pub look_giving-requires : goal.look_giving-requires
look_giving-requires g c = record { stands = (record { shared = c.type_bounds.sync-R.shared }, taken_nothing c.in_ok-rebuilt.rebuilt c.in_ok-rebuilt.ensures) }

pub returns-in-Err-clause-refused : goal.returns-in-Err-clause-refused
returns-in-Err-clause-refused g c =
    let D = g.D.Disk in
    let e = c.in-Err.ensures in
    subst (ReadNot D.tells (D.seen c.args.disk.now) (D.faults c.args.disk.now) (D.faults c.look_giving.new.disk)) (sym c.why_not.ensures)
    (read_refused D.tells (D.seen c.args.disk.now) [] (D.faults c.args.disk.now) (D.faults c.look_giving.new.disk) 0 (λ ps. _ × HasTaken ps c.look_giving.new.taker.rebuilt)
    (λ ps t. t.1.replayed.each) c.in-Err.why (λ tells. e.stopped tells) (λ is. e.store (ap Err is)))

pub returns-in-Ok-clause-kept : goal.returns-in-Ok-clause-kept
returns-in-Ok-clause-kept g c =
    let taken = c.in-Ok.ensures.taken.1 in
    record {
      each = placed_entries c.in-Ok.entries.items c.in-Ok.ensures.each;
      few = (let size = length-map c.in-Ok.entries.items (λ (p : Placed). p.entry) in let few = taken.few in omega (arith, size, few));
      replayed = taken.replayed;
    }

pub returns-in-Ok-clause-store : goal.returns-in-Ok-clause-store
returns-in-Ok-clause-store g c tells = opened_store (g.D.Disk.seen c.args.disk.now) c.in-Ok.entries.items (c.in-Ok.ensures.entries tells) c.in-Ok.ensures.taken.1.replayed.each
