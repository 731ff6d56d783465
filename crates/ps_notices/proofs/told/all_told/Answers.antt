use Rattle.std.proofs.Common.{◌≡◌, ◌<◌, length, true, arith}
use Rattle.ps_access.specs.Tables.{book_of}
use Rattle.ps_model.specs.Addressed.{is_early_event}
use Rattle.ps_notices.proofs.Due.{each-here, told-more}
use Rattle.ps_notices.proofs.told.all_told.Goals as goal

pub told_of-requires-clause-early : goal.told_of-requires-clause-early
told_of-requires-clause-early g c κs within =
    let less : c.loop-event.event-index < length c.args.events.now = omega arith in
    each-here (λ ev. is_early_event ev ≡ true) c.args.events.now c.loop-event.event-index c.event-item.result c.requires.early less c.event-item.is

pub loop-event-preserved : goal.loop-event-preserved
loop-event-preserved g c =
    let less : c.loop-event.event-index < length c.args.events.now = omega arith in
    told-more (book_of c.args.before.now) (book_of c.args.after.now) c.args.events.now c.loop-event.event-index c.event-item.result less c.event-item.is c.loop-event.all.items c.in_ok-told.told.items
    c.append.new.self.items c.in_ok-append.ensures.items c.loop-event.invariant c.in_ok-told.ensures
