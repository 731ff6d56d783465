use Rattle.std.proofs.Common.{◌≡◌, take}
use Rattle.ps_record.proofs.batch.add_all.Given as goal

abbrev pub invariant-entries : goal.invariant-entries
invariant-entries l = l.batch ≡ take l.entry-index l.entries.items
