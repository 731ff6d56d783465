use Rattle.std.proofs.Common.{refl}
use Rattle.std.specs.Prelude.{Ok, Err}
use Rattle.ps_journal.specs.Places.{entries_in}
use Rattle.ps_follow_command.proofs.Fed.{read-entries, read-refused}
use Rattle.ps_follow_command.proofs.feeding.feed_disk.Goals as goal

pub observe-requires-clause-saw : goal.observe-requires-clause-saw
observe-requires-clause-saw g c = λ row lives from are. are

pub returns-in-Err : goal.returns-in-Err
returns-in-Err g c =
    let refusal = c.in-Err.refusal in
    let e = c.in-Err.ensures in
    record {
      outcome = Err refusal.why;
      read = read-refused g.D.Disk c.args.disk refusal.disk e.later e.any_moment refusal.why e.refused e.untouched;
      wrote = (c.not_read.ensures, refl);
    }

pub returns-in-Ok : goal.returns-in-Ok
returns-in-Ok g c =
    let store = c.in-Ok.observed in
    let E = entries_in store.entries.items in
    let e = c.in-Ok.ensures in
    let end = c.run_feed-end.result in
    record {
      outcome = Ok E;
      read = read-entries g.D.Disk c.args.disk store.disk e.later e.any_moment E e.store e.stands e.durable e.upgraded;
      wrote = (end, c.fed.ensures, c.run_feed-end.ensures c.args.from E (e.saw c.args.from c.new.ensures));
    }
