use Rattle.std.proofs.Common.{subst, sym}
use Rattle.ps_rehearse_lines.specs.Dealing.{HasDealt}
use Rattle.ps_rehearse_lines.proofs.Places.{dealt-none}
use Rattle.ps_rehearse_lines.proofs.dealing.deal.Goals as goal

pub loop-k-init : goal.loop-k-init
loop-k-init c = record {
  first = subst (HasDealt 0 c.args.seed 0) (sym c.new.ensures.items) (dealt-none 0 c.args.seed);
  second = subst (HasDealt 1 c.args.seed 0) (sym c.new-2.ensures.items) (dealt-none 1 c.args.seed);
}
