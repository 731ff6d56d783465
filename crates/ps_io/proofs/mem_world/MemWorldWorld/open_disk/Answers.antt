use Rattle.std.proofs.Common.{ap, sym, ◌∙◌}
use Rattle.std.specs.Prelude.{Some}
use Rattle.ps_io.specs.Shelf.{at}
use Rattle.ps_io.specs.MemWorld.{held_left}
use Rattle.ps_io.proofs.Openings.{failing_cause, same_left}
use Rattle.ps_io.proofs.mem_world.MemWorldWorld.open_disk.Goals as goal

pub returns-in-None-clause-cause : goal.returns-in-None-clause-cause
returns-in-None-clause-cause c =
    failing_cause _ c.start_opening.new.self.faults _ _ c.in_ok-start_opening.ensures.none.1 c.fail_opening.ensures.later (ap (λ (w : _). w.faults) c.fail_opening.ensures.counts)
    c.fail_opening.ensures.failed

pub returns-in-Some-clause-left : goal.returns-in-Some-clause-left
returns-in-Some-clause-left c =
    same_left (at c.args.self.now.disks.slots.items c.args.name.now) (Some (Some c.in-Some.disk))
    (sym (ap (λ (l : _). at l c.args.name.now) (sym c.start_opening.ensures.disks) ∙ c.in-Some.ensures.taken))

pub returns-in-Some-clause-lefts : goal.returns-in-Some-clause-lefts
returns-in-Some-clause-lefts c = λ n other. same_left (at c.args.self.now.disks.slots.items n) (at c.take.new.self.slots.items n)
    (c.take.ensures.others n other ∙ ap (λ (l : _). at l n) c.start_opening.ensures.disks)
