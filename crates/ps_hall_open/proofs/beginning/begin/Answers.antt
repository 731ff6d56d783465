use Rattle.std.proofs.Common.{inl, [], ◌∷◌}
use Rattle.ps_disk.proofs.Moments.{started}
use Rattle.ps_journal.specs.Journal.{disk_of}
use Rattle.ps_journal.specs.Left.{IsWithOrWithout}
use Rattle.ps_book_laws.proofs.Timely.{entry-timely}
use Rattle.ps_hall_open.proofs.Timely.{boot-entry}
use Rattle.ps_hall_open.proofs.Fronts.{fronts_same}
use Rattle.ps_hall_open.proofs.beginning.begin.Goals as goal

pub returns-in-Err-clause-any_moment : goal.returns-in-Err-clause-any_moment
returns-in-Err-clause-any_moment g c tells E spells leaves =
    let D = g.D.Disk in
    let d = disk_of c.args.journal.now in
    started D.moment D.left_since d (IsWithOrWithout E (c.args.boot.now ∷ [])) (λ f left. inl (leaves f (g.met.D.Disk.only_now d f left)))

pub returns-in-Err-prepare-clause-any_moment : goal.returns-in-Err-prepare-clause-any_moment
returns-in-Err-prepare-clause-any_moment g c tells E spells leaves =
    let D = g.D.Disk in
    let d = disk_of c.args.journal.now in
    started D.moment D.left_since d (IsWithOrWithout E (c.args.boot.now ∷ [])) (λ f left. inl (leaves f (g.met.D.Disk.only_now d f left)))

pub returns-clause-any_moment : goal.returns-clause-any_moment
returns-clause-any_moment g c tells E spells leaves = c.append_boot.ensures.any_moment tells E spells

pub returns-in-Err-clause-fronts : goal.returns-in-Err-clause-fronts
returns-in-Err-clause-fronts g c tells E spells lasts = fronts_same g.D.Disk g.met.D.Disk.only_now (disk_of c.args.journal.now) (λ f may. (E, lasts f may))

pub returns-in-Err-prepare-clause-fronts : goal.returns-in-Err-prepare-clause-fronts
returns-in-Err-prepare-clause-fronts g c tells E spells lasts = fronts_same g.D.Disk g.met.D.Disk.only_now (disk_of c.args.journal.now) (λ f may. (E, lasts f may))

pub returns-clause-fronts : goal.returns-clause-fronts
returns-clause-fronts g c tells E spells lasts = c.append_boot.ensures.fronts tells E spells lasts

pub prepare-requires-clause-timely : goal.prepare-requires-clause-timely
prepare-requires-clause-timely g c κs within = entry-timely c.args.boot.now (boot-entry c.args.boot.now c.requires.boot)
