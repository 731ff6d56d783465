use Rattle.std.proofs.Common.{subst, arith}
use Rattle.std.proofs.lemmas.List.{take_all}
use Rattle.ps_compact.proofs.Counted.{FewIn, all-few, whos-more}
use Rattle.ps_compact.proofs.counters.addresses.Goals as goal

pub rows-preserved : goal.rows-preserved
rows-preserved c =
    let done = c.in_ok-add_address.ensures in
    whos-more c.args.tallies.now.rows c.rows.at c.rows.whos.items c.add_address.new.whos.items c.rows.invariant done.who done.few

pub returns-clause-few : goal.returns-clause-few
returns-clause-few c =
    let rows = c.args.tallies.now.rows in
    all-few rows (subst FewIn (take_all c.rows.at rows (omega (arith, c.len-at-end.ensures.len))) c.rows.invariant.few)
