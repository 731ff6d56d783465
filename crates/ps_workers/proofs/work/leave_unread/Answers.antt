use Rattle.std.proofs.Common.{inr, sym, ap, ◌∙◌}
use Rattle.ps_twin.specs.Seats.{number_of, seen_of}
use Rattle.ps_hall_state.specs.declared.answers.HandedRefusal.{HandedRefusal}
use Rattle.ps_streams.specs.declared.read.ReadEnd.TheVariants.{Memory}
use Rattle.ps_streams.proofs.Causes.{stream-broken}
use Rattle.ps_streams.proofs.Looping.{err-same, the_err}
use Rattle.ps_workers.proofs.Unread.{stream-unread}
use Rattle.ps_workers.proofs.work.leave_unread.Goals as goal

pub returns-in-Ok-clause-read : goal.returns-in-Ok-clause-read
returns-in-Ok-clause-read g c = λ before source told. (
    let p = c.args.pass.now in
    stream-unread g.B.Opening.origin p.host (number_of p.seat) (seen_of p.seat) (seen_of c.gone.new.pass.seat) before source told Memory c.gone.result c.requires.fresh c.requires.reader.pass.owned
    (λ e. cc e) (λ e. absurd (cc (sym c.in-Ok.is ∙ e))) c.gone.ensures.gone)

pub returns-in-Err-clause-read : goal.returns-in-Err-clause-read
returns-in-Err-clause-read g c = λ before source told. (
    let p = c.args.pass.now in
    stream-unread g.B.Opening.origin p.host (number_of p.seat) (seen_of p.seat) (seen_of c.gone.new.pass.seat) before source told c.end_unread.result c.gone.result c.requires.fresh
    c.requires.reader.pass.owned c.end_unread.ensures.never (λ e. c.end_unread.ensures.from_store (err-same c.in-Err.refusal _ (sym c.in-Err.is ∙ e))) c.gone.ensures.gone)

pub returns-in-Err-clause-store : goal.returns-in-Err-clause-store
returns-in-Err-clause-store g c = λ e. (
    let p = c.args.pass.now in
    stream-broken g.B.Opening.origin (number_of p.seat) p.host (seen_of p.seat) (seen_of c.gone.new.pass.seat) c.gone.result c.gone.ensures.gone
    (inr (c.in-Err.is ∙ ap (λ (x : HandedRefusal). the_err (Unit {0}) x) (c.end_unread.ensures.store e))))

pub returns-in-Err-clause-full : goal.returns-in-Err-clause-full
returns-in-Err-clause-full g c = λ e. c.in-Err.ensures.over (ap (λ (x : HandedRefusal). the_err (Unit {0}) x) (c.end_unread.ensures.full e))
