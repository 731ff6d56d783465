use Rattle.std.proofs.Common.{subst}
use Rattle.std.specs.Prelude.{MatchResult}
use Rattle.ps_types.specs.declared.entry.Entry.{Entry}
use Rattle.ps_hall_store.specs.Stand.{disk_in}
use Rattle.ps_hall_open.specs.Left.{OpenLeaves}
use Rattle.ps_hall_open.proofs.Fronts.{fronts_same, quiet_lasts}
use Rattle.ps_hall_open.proofs.opening.open.Goals as goal

pub open_ready-requires-clause-ready : goal.open_ready-requires-clause-ready
open_ready-requires-clause-ready g c κs within =
    let made = c.in-Ok.ensures in
    (c.args.service.now, c.args.hosts.now, record { name = c.requires.service; boot = made.boot; hosts_are = c.requires.hosts; rows = made.rows; fresh = made.fresh })

pub returns-in-Ok-clause-opened : goal.returns-in-Ok-clause-opened
returns-in-Ok-clause-opened g c =
    let made = c.in-Ok.ensures in
    c.open_ready.ensures.opened c.args.service.now c.args.hosts.now (record { name = c.requires.service; boot = made.boot; hosts_are = c.requires.hosts; rows = made.rows; fresh = made.fresh })

pub returns-in-Ok-clause-refused : goal.returns-in-Ok-clause-refused
returns-in-Ok-clause-refused g c =
    let made = c.in-Ok.ensures in
    c.open_ready.ensures.refused c.args.service.now c.args.hosts.now (record { name = c.requires.service; boot = made.boot; hosts_are = c.requires.hosts; rows = made.rows; fresh = made.fresh })

pub returns-in-Ok-clause-any_moment : goal.returns-in-Ok-clause-any_moment
returns-in-Ok-clause-any_moment g c tells E spells short =
    let D = g.D.Disk in
    let old = c.args.disk in
    subst
    (λ (b : Entry). MatchResult c.open_ready.result (λ r. OpenLeaves D.moment D.left_since D.synced D.written E b old (disk_in r.store))
    (λ e. OpenLeaves D.moment D.left_since D.synced D.written E b old e.disk))
    c.in-Ok.ensures.boot (c.open_ready.ensures.any_moment tells E spells short)

pub returns-in-Err-clause-fronts : goal.returns-in-Err-clause-fronts
returns-in-Err-clause-fronts g c tells none E spells short = fronts_same g.D.Disk g.met.D.Disk.only_now c.args.disk
    (λ f may. (E, quiet_lasts g.D.Disk g.met.D.Disk.seen_left c.args.disk E none spells f may))

pub returns-in-Err-clause-still : goal.returns-in-Err-clause-still
returns-in-Err-clause-still g c tells none E spells short not = record { spells = spells; lasts = quiet_lasts g.D.Disk g.met.D.Disk.seen_left c.args.disk E none spells }
