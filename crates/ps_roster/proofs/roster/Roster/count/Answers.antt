use Rattle.ps_roster.proofs.Keys.{of_account, kin_of_account}
use Rattle.ps_roster.proofs.roster.Roster.count.Goals as goal

pub count_node-requires : goal.count_node-requires
count_node-requires c = record { asks = of_account c.args.account.now; kin = kin_of_account c.args.account.now }
