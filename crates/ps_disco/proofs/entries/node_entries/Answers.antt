use Rattle.std.proofs.Common.{arith, ◌≡◌, map, ap, ◌∙◌}
use Rattle.std.proofs.lemmas.Grind.{common_steps}
use Rattle.ps_types.specs.Elem.{nodes}
use Rattle.ps_types.specs.declared.tree.Child.TheVariants as child
use Rattle.ps_disco.specs.Entries.{named_at}
use Rattle.ps_disco.proofs.Trees.{nodes-made}
use Rattle.ps_disco.proofs.entries.node_entries.Goals as goal

pub returns : goal.returns
returns c =
    let all : c.loop-key.kids ≡ map (λ key. child.Tree (named_at c.args.jid.now key)) c.args.keys.now = grind (arith, common_steps, c.loop-key.invariant) in
    ap nodes all ∙ nodes-made (named_at c.args.jid.now) c.args.keys.now
