-- The chains of each index are those of the rows' digests.
use Rattle.std.specs.Prelude.{◌≡◌, ℕ, Bool, ◌-◌, min, length, List, Option, vec_len, vec_capacity}
use Rattle.std.specs.Global.{Vec}
use Rattle.ps_base.specs.Rows.{Table}
use Rattle.ps_rows.specs.declared.index.Index.{Index}
use Rattle.ps_rows.specs.declared.index.Index.TheVariants.{Key, Node, Bare}
use Rattle.ps_rows.specs.Kin.{IsPure}
use Rattle.ps_rows.specs.Standing.{marked_by, standing}

-- what contracts see of rows in places: the places, how many more rows are taken without memory, and the seed of the digests
pub record Places (R : Type 0) : Type 0 where
  pub rows : List (Option R)
  pub spare : ℕ
  pub seed : ℕ

pub record IsMarked {R : Type 0} (by : Index → R → ℕ) (slots : List (Option R)) (keys nodes bares : List (Option ℕ)) (count : ℕ) (kin : R → R → Bool) (pure : Bool) : Type 0 where
  pub key : keys ≡ marked_by (by Key) slots
  pub node : nodes ≡ marked_by (by Node) slots
  pub bare : bares ≡ marked_by (by Bare) slots
  pub stand : count ≡ length (standing slots)
  pub kept : IsPure kin (by Node) slots pure

-- of three the one for an index
abbrev pub pick : {X : Type 0} → Index → X → X → X → X
pick Key key node bare = key
pick Node key node bare = node
pick Bare key node bare = bare

-- how many more rows are taken without memory
abbrev pub room_of : {R : Type 0} → Vec (Option R) → Table (Option ℕ) → Table (Option ℕ) → Table (Option ℕ) → ℕ
room_of slots key node bare = min (min (vec_capacity slots - vec_len slots) key.spare) (min node.spare bare.spare)
