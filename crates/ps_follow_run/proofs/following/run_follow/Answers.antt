use Rattle.std.proofs.Common.{refl}
use Rattle.ps_follow_run.specs.Following.{worked}
use Rattle.ps_follow_run.proofs.Finishing.{nothing-done}
use Rattle.ps_follow_run.proofs.following.run_follow.Goals as goal

pub returns-in-Err : goal.returns-in-Err
returns-in-Err g c = nothing-done c.args.host.now (worked g.F.Source g.S.Source g.K.Sink c.args.feed.now c.args.feed.now c.args.input c.args.input c.args.sink.now c.args.sink.now) refl refl refl
