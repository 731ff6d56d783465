-- The next child among children.
use Rattle.std.specs.Prelude.{ℕ, List, Option, Some, None, if◌then◌else◌}
use Rattle.ps_types.specs.Tree.{Tree, Nodes, none, branch, words, is_named}

-- the first child tree of that name and namespace, and the children after it
abbrev pub next_named : List ℕ → List ℕ → Nodes → Option (Tree × Nodes)
next_named name ns none = None
next_named name ns (branch t kids) = if is_named name ns t then Some (t, kids) else next_named name ns kids
next_named name ns (words s kids) = next_named name ns kids
