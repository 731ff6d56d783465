-- The name of the nodes that a feature asks for.
use Rattle.std.specs.Prelude.{◌≡◌, ◌≢◌, ℕ, List, Option, Some, None}
use Rattle.std.specs.Borrow.{Bor}
use Rattle.ps_types.specs.Resources.{notify_feature}

-- the feature asks for nodes of the name, or for none
abbrev pub IsNameOf : List ℕ → Option (Bor (List ℕ)) → Type 0
IsNameOf feature None = (name : List ℕ) → feature ≢ notify_feature name
IsNameOf feature (Some name) = feature ≡ notify_feature name.now
