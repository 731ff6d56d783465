use Rattle.ps_journal.specs.Places.{entries_in}
use Rattle.ps_rehearse.specs.Running.{at_of}
use Rattle.ps_rehearse.proofs.running.serve_empty.Given as goal

abbrev pub ghosts-live : goal.ghosts-live
ghosts-live g a = record {
  origin = record { hosts = a.hosts.now; list = entries_in a.entries.items; boot = a._service.now; limits = a.state.limits; at = at_of a.store };
}
