-- What is kept beside the marks: the links of each place and the ends of each digest.
use Rattle.std.specs.Prelude.{◌≡◌, ℕ, ◌+◌, ◌-◌, ◌≤◌, ◌^◌, min, List, Option, Some, length, vec_len, vec_capacity}
use Rattle.std.specs.Global.{Vec}
use Rattle.indexmap.specs.IndexMap.{IndexMap}
use Rattle.ps_chains.specs.declared.ends.Ends.{Ends}
use Rattle.ps_chains.specs.AtEnds.{ends_at}
use Rattle.ps_chains.specs.Marks.{mark_at, count_of, FirstFrom, LastBelow, capacity}

-- each place that is marked leads to the next and to the last before it, and each digest to its first and its last
pub record IsLinked (m next prior : ℕ → Option ℕ) (ends : ℕ → Ends) (n : ℕ) : Type 0 where
  pub after : (p d : ℕ) → m p ≡ Some d → FirstFrom m d (p + 1) (next p)
  pub before : (p d : ℕ) → m p ≡ Some d → LastBelow m d p (prior p)
  pub first : (d : ℕ) → FirstFrom m d 0 (ends d).first
  pub last : (d : ℕ) → LastBelow m d n (ends d).last

-- how many places there are at most, since a link is kept in four bytes
abbrev pub most_places : ℕ
most_places = 2 ^ 32 - 2

pub record IsChained {S : Type 0} (rows nexts priors : List (Option ℕ)) (ends : IndexMap ℕ Ends S) : Type 0 where
  pub linked : IsLinked (mark_at rows) (mark_at nexts) (mark_at priors) (λ d. ends_at d ends.entries) (length rows)
  pub counted : (d : ℕ) → (ends_at d ends.entries).count ≡ count_of d rows
  pub afters : length nexts ≡ length rows
  pub befores : length priors ≡ length rows
  pub few : length ends.entries ≤ length rows
  pub held : length rows ≤ capacity ends
  pub fits : length rows ≤ most_places

-- how many more places are marked without memory
abbrev pub room_of : {T : Type 0} → Vec (Option ℕ) → Vec (Option ℕ) → Vec (Option ℕ) → IndexMap ℕ Ends T → ℕ
room_of rows nexts priors ends = min (min (min (vec_capacity rows - vec_len rows) (most_places - vec_len rows)) (vec_capacity nexts - vec_len nexts)) (min (vec_capacity priors - vec_len priors) (capacity ends - vec_len rows))
