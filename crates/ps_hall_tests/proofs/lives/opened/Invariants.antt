use Rattle.ps_journal.specs.Places.{entries_in}
use Rattle.ps_hall_tests.specs.Begun.{origin_of}
use Rattle.ps_hall_tests.proofs.lives.opened.Given as goal

abbrev pub ghosts-live : goal.ghosts-live
ghosts-live g a = record { origin = origin_of g.from a.hosts.now a._service.now (entries_in a.entries.items) a.state a.store }
