use Rattle.std.specs.Prelude.{cond, None}
use Rattle.ps_secrecy_step.specs.Outsider.{course}
use Rattle.ps_secrecy_step.proofs.DeedLaws.{by-rules, deed-secret}
use Rattle.ps_secrecy_step.proofs.stepping.step.Goals as goal

pub returns-clause-secret : goal.returns-clause-secret
returns-clause-secret g c =
    let here = c.in_ok-here in
    let there = c.in_ok-there in
    let left = c.args.left.now.state in
    let right = c.args.right.now.state in
    let one = c.args.one.now in
    let other = c.args.other.now in
    let last = c.settle.new.service.state in
    let last_there = c.settle-2.new.service.state in
    deed-secret c.args.outsider.now (course left one last here.here.said) (course right other last_there there.there.said)
    (by-rules left c.prepare.new.service.state last one here.here.said (cond here.here.is_prepared c.prepare.new.service.prepared None) here.ensures.state here.ensures.entry c.settle.ensures
    here.ensures.said)
    (by-rules right c.prepare-2.new.service.state last_there other there.there.said (cond there.there.is_prepared c.prepare-2.new.service.prepared None) there.ensures.state there.ensures.entry
    c.settle-2.ensures there.ensures.said)
