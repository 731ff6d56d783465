-- What a seat needs so that it may wait in a line: its steps on the words of the line keep the rule of the table, whatever the table is.
use Rattle.std.specs.Prelude.{◌≡◌, ◌≢◌, ℕ, ◌+◌, ◌%◌, ◌^◌}
use mathlib.Core.Option.{none}
use Rattle.atomic_table.specs.Table.{State, Me, Step, step, Allows}

-- the next ticket is drawn where it is the one that was read, and else nothing happens
abbrev pub Tries : {S V : Type 0} → (Step S → Me S V → ℕ → Me S V → Type 0) → Step S → Me S V → ℕ → Me S V → Type 0
Tries draws s m n w = (n ≡ s.first → draws (step s.slots s.word 1 0 none) m n w) × (n ≢ s.first → w ≡ m)

module _ {S V : Type 0} (holds : State S V → Type 0) (slots id : ℕ) (me : Me S V) where
  -- the seat may change the bell as it likes, and knows the same after that
  pub record MayRing (bell : ℕ) : Type 0 where
    pub ring : (f : ℕ → ℕ) → Allows holds slots id me bell f (λ _ w. w ≡ me)

  -- the seat may draw a ticket, or look at the next one
  pub record MayDraw (draws : Step S → Me S V → ℕ → Me S V → Type 0) (ticket : ℕ) : Type 0 where
    pub draw : Allows holds slots id me ticket (λ m. (m + 1) % 2 ^ 64) (draws (step slots ticket 1 0 none) me)
    pub look : Allows holds slots id me ticket (λ m. m) (λ _ w. w ≡ me)

  -- the seat may look which ticket is served, and knows the same where it is another than its own
  pub record MayLook (looks : Step S → Me S V → ℕ → Me S V → Type 0) (serving own : ℕ) : Type 0 where
    pub look : Allows holds slots id me serving (λ m. m) (looks (step slots serving 0 0 none) me)
    pub miss : (m : ℕ) (w : Me S V) → m ≢ own → looks (step slots serving 0 0 none) me m w → w ≡ me
