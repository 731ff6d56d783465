use Rattle.std.proofs.Common.{◌≡◌, map, take}
use Rattle.ps_types.specs.declared.tree.Child.TheVariants as child
use Rattle.ps_disco.specs.Entries.{named_at}
use Rattle.ps_disco.proofs.entries.node_entries.Given as goal

abbrev pub invariant-loop-key : goal.invariant-loop-key
invariant-loop-key l = l.kids ≡ map (λ key. child.Tree (named_at l.jid key)) (take l.key-index l.keys)
