use Rattle.ps_subs.proofs.Keys.{sub_of, alike, kin}
use Rattle.ps_subs.proofs.subs.put.Goals as goal

pub put-requires : goal.put-requires
put-requires c = record { asks = sub_of c.args.row.node c.args.row.who; alike = λ seed index old h. alike seed c.args.row old index h; kin = λ old h. kin c.args.row old h; room = c.requires.room }
