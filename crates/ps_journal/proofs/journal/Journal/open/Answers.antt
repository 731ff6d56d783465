use Rattle.std.proofs.Common.{◌≡◌, List, sym, subst}
use Rattle.ps_journal.specs.Journal.{Has, IsBegunIn, Keeps}
use Rattle.ps_journal.specs.Opened.{ArePlaced, IsOpened}
use Rattle.ps_journal.specs.Places.{entries_in}
use Rattle.ps_journal.specs.declared.judging.Placed.{Placed}
use Rattle.ps_journal.proofs.Opens.{why_damaged}
use Rattle.ps_journal.proofs.journal.Journal.open.Goals as goal

pub returns-in-Ok-clause-entries : goal.returns-in-Ok-clause-entries
returns-in-Ok-clause-entries g c tells = subst (λ (l : List Placed). IsOpened (g.D.Disk.seen c.args.disk) l) (sym c.in-Ok.ensures.taken) (c.in-Ok.ensures.entries tells)

pub returns-in-Ok-clause-same : goal.returns-in-Ok-clause-same
returns-in-Ok-clause-same g c tells = subst (λ (l : List Placed). Has c.in-Ok.journal (entries_in l)) (sym c.in-Ok.ensures.taken) (c.in-Ok.ensures.same tells)

pub returns-in-Ok-clause-begun : goal.returns-in-Ok-clause-begun
returns-in-Ok-clause-begun g c tells none = subst (λ (l : List Placed). IsBegunIn (g.D.Disk.seen c.args.disk) l c.in-Ok.journal) (sym c.in-Ok.ensures.taken) (c.in-Ok.ensures.begun tells none)

pub returns-in-Ok-clause-each : goal.returns-in-Ok-clause-each
returns-in-Ok-clause-each g c = subst ArePlaced (sym c.in-Ok.ensures.taken) c.in-Ok.ensures.each

pub returns-in-Ok-clause-durable : goal.returns-in-Ok-clause-durable
returns-in-Ok-clause-durable g c tells = subst (λ (l : List Placed). Keeps c.in-Ok.journal (entries_in l)) (sym c.in-Ok.ensures.taken) (c.in-Ok.ensures.durable tells)

pub returns-in-Err-clause-damaged : goal.returns-in-Err-clause-damaged
returns-in-Err-clause-damaged g c tells = why_damaged (λ ps. c.open_giving.new.taker.items ≡ ps) (g.D.Disk.seen c.args.disk) c.in-Err.refusal.why (c.in-Err.ensures.stopped tells)
