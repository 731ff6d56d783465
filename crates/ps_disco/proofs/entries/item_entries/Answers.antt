use Rattle.std.proofs.Common.{arith, ◌≡◌, map, ap, ◌∙◌}
use Rattle.std.proofs.lemmas.Grind.{common_steps}
use Rattle.ps_types.specs.Elem.{nodes}
use Rattle.ps_types.specs.declared.tree.Child.TheVariants as child
use Rattle.ps_disco.specs.Entries.{published_at}
use Rattle.ps_disco.proofs.Trees.{nodes-made}
use Rattle.ps_disco.proofs.entries.item_entries.Goals as goal

pub returns : goal.returns
returns c =
    let all : c.loop-row.kids ≡ map (λ row. child.Tree (published_at c.args.jid.now row)) c.args.rows.now = grind (arith, common_steps, c.loop-row.invariant) in
    ap nodes all ∙ nodes-made (published_at c.args.jid.now) c.args.rows.now
