use Rattle.std.proofs.Common.{List, subst}
use Rattle.ps_types.specs.declared.entry.Entry.{Entry}
use Rattle.ps_disk.specs.Disk.{LeavesOnly}
use Rattle.ps_journal.specs.Journal.{disk_of}
use Rattle.ps_journal.specs.Left.{IsWithOrWithout}
use Rattle.ps_hall_open.proofs.Fronts.{fronts_appended}
use Rattle.ps_hall_open.proofs.beginning.append_boot.Goals as goal

pub returns-in-Ok-clause-any_moment : goal.returns-in-Ok-clause-any_moment
returns-in-Ok-clause-any_moment g c tells E spells =
    let D = g.D.Disk in
    subst (λ (l : List Entry). LeavesOnly D.moment D.left_since (disk_of c.args.journal.now) (disk_of c.append.new.self) (IsWithOrWithout E l)) c.requires.batch
    (c.append.ensures.any_moment tells c.requires.unbroken E spells)

pub returns-in-Err-Full-clause-any_moment : goal.returns-in-Err-Full-clause-any_moment
returns-in-Err-Full-clause-any_moment g c tells E spells =
    let D = g.D.Disk in
    subst (λ (l : List Entry). LeavesOnly D.moment D.left_since (disk_of c.args.journal.now) (disk_of c.append.new.self) (IsWithOrWithout E l)) c.requires.batch
    (c.append.ensures.any_moment tells c.requires.unbroken E spells)

pub returns-in-Err-Store-clause-any_moment : goal.returns-in-Err-Store-clause-any_moment
returns-in-Err-Store-clause-any_moment g c tells E spells =
    let D = g.D.Disk in
    subst (λ (l : List Entry). LeavesOnly D.moment D.left_since (disk_of c.args.journal.now) (disk_of c.append.new.self) (IsWithOrWithout E l)) c.requires.batch
    (c.append.ensures.any_moment tells c.requires.unbroken E spells)

pub returns-in-Ok-clause-fronts : goal.returns-in-Ok-clause-fronts
returns-in-Ok-clause-fronts g c tells E spells lasts =
    let old = disk_of c.args.journal.now in
    fronts_appended g.D.Disk g.met.D.Disk.seen_left g.met.D.Disk.counts_now old (disk_of c.append.new.self) E c.args.batch.now lasts (c.append.ensures.any_moment tells c.requires.unbroken E spells)
    (c.append.ensures.front tells c.requires.unbroken E spells)

pub returns-in-Err-Full-clause-fronts : goal.returns-in-Err-Full-clause-fronts
returns-in-Err-Full-clause-fronts g c tells E spells lasts =
    let old = disk_of c.args.journal.now in
    fronts_appended g.D.Disk g.met.D.Disk.seen_left g.met.D.Disk.counts_now old (disk_of c.append.new.self) E c.args.batch.now lasts (c.append.ensures.any_moment tells c.requires.unbroken E spells)
    (c.append.ensures.front tells c.requires.unbroken E spells)

pub returns-in-Err-Store-clause-fronts : goal.returns-in-Err-Store-clause-fronts
returns-in-Err-Store-clause-fronts g c tells E spells lasts =
    let old = disk_of c.args.journal.now in
    fronts_appended g.D.Disk g.met.D.Disk.seen_left g.met.D.Disk.counts_now old (disk_of c.append.new.self) E c.args.batch.now lasts (c.append.ensures.any_moment tells c.requires.unbroken E spells)
    (c.append.ensures.front tells c.requires.unbroken E spells)
