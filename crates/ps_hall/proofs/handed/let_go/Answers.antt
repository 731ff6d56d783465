use Rattle.std.proofs.Common.{◌≡◌, ◌-◌, length, arith}
use Rattle.ps_hall.proofs.Running.{rest_left}
use Rattle.ps_hall.proofs.handed.let_go.Goals as goal

pub returns : goal.returns
returns c =
    let most = c.requires.most in
    let size = c.len.ensures in
    rest_left c.args.hand.now.items c.args.count (c.len.result - c.args.count) c.rotate_left.new.self.items c.truncate.new.self.items most (omega (arith, most, size)) c.rotate_left.ensures.items
    c.truncate.ensures.items
