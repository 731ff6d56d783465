use Rattle.std.proofs.Common.{◌≡◌, map, take}
use Rattle.ps_types.specs.declared.tree.Child.TheVariants as child
use Rattle.ps_disco.specs.Entries.{published_at}
use Rattle.ps_disco.proofs.entries.item_entries.Given as goal

abbrev pub invariant-loop-row : goal.invariant-loop-row
invariant-loop-row l = l.kids ≡ map (λ row. child.Tree (published_at l.jid row)) (take l.row-index l.rows)
