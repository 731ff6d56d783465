-- How deep trees are.
use Rattle.std.proofs.Common.{◌<◌, arith}
use Rattle.ps_types.specs.Tree.{Tree, tree, levels}

-- a tree has a level
pub levels-some : (t : Tree) → 0 < levels t
levels-some (tree name ns attrs kids) = omega arith
