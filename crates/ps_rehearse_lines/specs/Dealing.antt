-- What the streams of a rehearsal read.
use Rattle.std.specs.Prelude.{◌≡◌, ℕ, zero, suc, ◌≤◌, ◌==◌, List, [], ◌∷◌, ◌++◌, length, map, if◌then◌else◌}
use Rattle.std.specs.List.{AllByRecursion}
use Rattle.ps_types.specs.Form.{IsTree}
use Rattle.ps_types.specs.Lines.{joined}
use Rattle.ps_types.specs.Print.{print}
use Rattle.ps_types.specs.Tree.{Tree}
use Rattle.ps_gen.specs.Dealt.{generated}
use Rattle.ps_rehearse_lines.specs.declared.dealing.Dealt.{Dealt}

-- the stanza of a place, where it is of the host of that number
unfoldable pub dealt_at : ℕ → ℕ → ℕ → List Tree
dealt_at host seed k = if (generated seed k).host == host then (generated seed k).tree ∷ [] else []

-- the stanzas of a host among those of so many places, in their order
unfoldable pub dealt : ℕ → ℕ → ℕ → List Tree
dealt host seed zero = []
dealt host seed (suc k) = dealt host seed k ++ dealt_at host seed k

-- each on a line
abbrev pub lines_of : List Tree → List ℕ
lines_of trees = joined (map print trees)

-- no stanza has a longer line
abbrev pub longest : ℕ
longest = 4096

pub record IsShort (t : Tree) : Type 0 where
  pub tree : IsTree t
  pub short : length (print t) ≤ longest

-- the bytes are the lines of the host's stanzas of so many places
pub record HasDealt (host seed count : ℕ) (bytes : List ℕ) : Type 0 where
  pub is : bytes ≡ lines_of (dealt host seed count)
  pub short : AllByRecursion IsShort (dealt host seed count)

-- for both hosts
pub record AreDealt (seed count : ℕ) (d : Dealt) : Type 0 where
  pub first : HasDealt 0 seed count d.first.items
  pub second : HasDealt 1 seed count d.second.items
