use Rattle.std.proofs.Common.{Some, None}
use Rattle.ps_base.specs.declared.refusals.Failed.{Failed}
use Rattle.ps_streams.proofs.Lines.{gives-ok, kept-moment, lost-moment}
use Rattle.ps_streams.proofs.read.moment.Goals as goal

pub returns-then-at-lt253370764800-clause-gives : goal.returns-then-at-lt253370764800-clause-gives
returns-then-at-lt253370764800-clause-gives g c =
    gives-ok Failed (g.C.Clock.told c.args.clock.now) (g.C.Clock.told c.now.new.self) c.in-Ok.at (Some c.in-Ok.at) (kept-moment c.in-Ok.at c.if-at-lt253370764800.true) c.in-Ok.ensures.told

pub returns-else-at-lt253370764800-clause-gives : goal.returns-else-at-lt253370764800-clause-gives
returns-else-at-lt253370764800-clause-gives g c =
    gives-ok Failed (g.C.Clock.told c.args.clock.now) (g.C.Clock.told c.now.new.self) c.in-Ok.at None (lost-moment c.in-Ok.at c.if-at-lt253370764800.false) c.in-Ok.ensures.told
