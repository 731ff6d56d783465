use Rattle.std.proofs.Common.{◌≡◌, ◌-◌, ◌≤◌, false, arith, subst}
use Rattle.ps_nodes.specs.Gaps.{IsCut}
use Rattle.ps_nodes.proofs.Cuts.{cut-few}
use Rattle.ps_nodes.proofs.gaps.rank_of.Goals as goal

pub overflow_sub-result : goal.overflow_sub-result
overflow_sub-result c = cut-few c.args.gaps.now c.args.place c.cut_of-cut.result c.requires.rising c.cut_of-cut.ensures.cut

pub returns-clause-cut : goal.returns-clause-cut
returns-clause-cut c =
    let few : c.cut_of-cut.result ≤ c.args.place = cut-few c.args.gaps.now c.args.place c.cut_of-cut.result c.requires.rising c.cut_of-cut.ensures.cut in
    let same : c.cut_of-cut.result ≡ c.args.place - (c.args.place - c.cut_of-cut.result) = omega (arith, few) in
    subst (λ n. IsCut false c.args.gaps.now c.args.place n) same c.cut_of-cut.ensures.cut
