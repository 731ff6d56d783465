use Rattle.ps_args.proofs.Cut.{further}
use Rattle.ps_args.proofs.words.read_streams.Goals as goal

pub loop-rest-preserved : goal.loop-rest-preserved
loop-rest-preserved c =
    further c.args.words.now c.loop-rest.rest.now c.loop-rest.streams c.push.new.self c.host-item.result c.source-item.result c.sink-item.result c.in-Ok.stream
    c.in-len3-up.len_at_least c.host-item.is c.source-item.is c.sink-item.is c.loop-rest.invariant c.in-Ok.ensures.ok c.in_ok-push.ensures.ok
