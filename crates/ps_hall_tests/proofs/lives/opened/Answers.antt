use Rattle.std.proofs.Common.{subst}
use Rattle.ps_disk.specs.declared.memory.MemDisk.{MemDisk}
use Rattle.ps_journal.specs.Places.{entries_in}
use Rattle.ps_hall.specs.Start.{MayStart}
use Rattle.ps_hall_tests.specs.Begun.{origin_of}
use Rattle.ps_hall_tests.proofs.lives.opened.Goals as goal

pub live-requires-clause-start : goal.live-requires-clause-start
live-requires-clause-start g c κs within =
    let r = c.in_ok-opened.opened in
    let hosts = c.args.hosts.now in
    let start = λ (disk : MemDisk). MayStart (origin_of disk hosts c.args.service.now (entries_in r.entries.items) r.state r.store) r.state r.store hosts in
    subst start c.requires.1.1.0 c.in_ok-opened.ensures
