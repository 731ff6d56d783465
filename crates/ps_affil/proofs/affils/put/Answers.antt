use Rattle.ps_affil.proofs.Keys.{affil_of, alike, kin}
use Rattle.ps_affil.proofs.affils.put.Goals as goal

pub put-requires : goal.put-requires
put-requires c = record { asks = affil_of c.args.row.node c.args.row.who; alike = λ seed index old h. alike seed c.args.row old index h; kin = λ old h. kin c.args.row old h; room = c.requires.room }
