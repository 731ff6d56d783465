use Rattle.std.proofs.Common.{◌≡◌, List, sym, subst}
use Rattle.ps_journal.specs.Opened.{ArePlaced, IsOpened}
use Rattle.ps_journal.specs.declared.judging.Placed.{Placed}
use Rattle.ps_journal.proofs.Opens.{why_damaged}
use Rattle.ps_journal.proofs.opening.look.Goals as goal

pub returns-in-Ok-clause-entries : goal.returns-in-Ok-clause-entries
returns-in-Ok-clause-entries g c tells = subst (λ (l : List Placed). IsOpened (g.D.Disk.seen c.args.disk.now) l) (sym c.in-Ok.ensures.taken) (c.in-Ok.ensures.entries tells)

pub returns-in-Ok-clause-each : goal.returns-in-Ok-clause-each
returns-in-Ok-clause-each g c = subst ArePlaced (sym c.in-Ok.ensures.taken) c.in-Ok.ensures.each

pub returns-in-Err-clause-damaged : goal.returns-in-Err-clause-damaged
returns-in-Err-clause-damaged g c tells = why_damaged (λ ps. c.look_giving.new.taker.items ≡ ps) (g.D.Disk.seen c.args.disk.now) c.in-Err.why (c.in-Err.ensures.stopped tells)
