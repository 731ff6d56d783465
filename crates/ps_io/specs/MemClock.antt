-- A clock in memory: the answers that it was given, and how often it was asked.
use Rattle.std.specs.Prelude.{ℕ, zero, suc, List, [], ◌∷◌, ◌++◌, slice_get}
use Rattle.std.specs.declared.option.Option.{Option}

pub record ClockView : Type 0 where
  pub answers : List ℕ
  pub calls : ℕ
  pub faults : ℕ

-- the answers of so many calls: those that it was given, and then none
abbrev pub told_by : List ℕ → ℕ → List (Option ℕ)
told_by answers zero = []
told_by answers (suc calls) = told_by answers calls ++ slice_get answers calls ∷ []
