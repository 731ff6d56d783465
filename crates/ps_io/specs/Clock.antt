-- What a clock has told.
use Rattle.std.specs.Prelude.{ℕ, ◌≡◌, ◌-◌, ◌^◌, nat_lt, List, [], ◌∷◌, ◌++◌, length, Result, Ok, Err, Some, None, if◌then◌else◌}
use Rattle.std.specs.declared.option.Option.{Option}

-- the answer of one call, none where it failed
abbrev pub answer : {E : Type 0} → Result ℕ E → Option ℕ
answer (Ok n) = Some n
answer (Err e) = None

-- one answer more; the list stands still at the length at which a count does
abbrev pub noted : List (Option ℕ) → Option ℕ → List (Option ℕ)
noted told one = if nat_lt (length told) (2 ^ 64 - 1) then told ++ one ∷ [] else told

-- a call adds its answer, where the clock tells its answers
abbrev pub Tells : {E : Type 0} → Option (List (Option ℕ)) → Option (List (Option ℕ)) → Result ℕ E → Type 0
Tells None new result = Unit {0}
Tells (Some told) new result = new ≡ Some (noted told (answer result))
