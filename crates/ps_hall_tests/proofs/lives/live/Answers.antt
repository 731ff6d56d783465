use Rattle.std.proofs.Common.{ap, arith, length, sym, ◌∙◌, subst}
use Rattle.ps_trace.specs.Own.{AllDiffer}
use Rattle.ps_hall_tests.proofs.Starting.{one_is}
use Rattle.ps_hall_tests.proofs.lives.live.Goals as goal

pub lives-came-requires-clause-some : goal.lives-came-requires-clause-some
lives-came-requires-clause-some g c κs within =
    let size = c.in-Ok.ensures.passes.all.size in
    let hosts = ap length c.requires.start.hosts_are in
    let here = c.requires.start.some_host in
    omega (arith, size, hosts, here)

pub lives-came-requires-clause-differ : goal.lives-came-requires-clause-differ
lives-came-requires-clause-differ g c κs within = subst AllDiffer (sym (c.requires.start.hosts_are ∙ c.requires.hosts)) one_is.apart
