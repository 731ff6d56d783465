use Rattle.ps_notice_numbers.proofs.Keys.{tally_of}
use Rattle.ps_notice_numbers.proofs.tallies.Tallies.row_of.Goals as goal

pub find-requires : goal.find-requires
find-requires c = record { asks = tally_of c.args.who.now }
