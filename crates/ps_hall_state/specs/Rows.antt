-- How a row changes.
use Rattle.std.specs.Prelude.{◌≡◌, ℕ, ◌+◌, ◌<◌, ◌^◌, Bool, true, List, [], ◌∷◌, ◌++◌, Option, Some, None, map, slice_get, slice_set, vec_len, vec_capacity}
use Rattle.ps_types.specs.declared.jid.Jid.{Jid}
use Rattle.ps_model.specs.declared.steps.Role.{Role}
use Rattle.ps_model.specs.declared.steps.Role.TheVariants.{Reader, Writer}
use Rattle.ps_hall_state.specs.declared.state.Landing.{Landing}
use Rattle.ps_hall_state.specs.declared.state.Waiting.{Waiting}
use Rattle.ps_hall_state.specs.declared.state.HostRow.{HostRow}
use Rattle.ps_hall_state.specs.declared.state.State.{State}

abbrev pub names : List HostRow → List (List ℕ)
names rows = map (λ row. row.host) rows

-- what is said of the row at a place
abbrev pub OfRow : List HostRow → ℕ → (HostRow → Type 0) → Type 0
OfRow rows at says = (row : HostRow) → slice_get rows at ≡ Some row → says row

abbrev pub AtRow : State → ℕ → (HostRow → Type 0) → Type 0
AtRow v at says = OfRow v.rows.items at says

-- the row at this place became another, and no other row changed
pub record RowChanged (old new : List HostRow) (at : ℕ) (before now : HostRow) : Type 0 where
  pub was : slice_get old at ≡ Some before
  pub is : new ≡ slice_set old at now

-- the same, where this is said of the two
abbrev pub Turns : List HostRow → List HostRow → ℕ → (HostRow → HostRow → Type 0) → Type 0
Turns old new at says = (row : HostRow) × (now : HostRow) × RowChanged old new at row now × says row now

abbrev pub TurnsIn : State → State → ℕ → (HostRow → HostRow → Type 0) → Type 0
TurnsIn old new at says = Turns old.rows.items new.rows.items at says

-- the row can be given a line more, and its reply without memory
abbrev pub HasPlace : HostRow → Type 0
HasPlace row = (row.line < 2 ^ 63) × (vec_len row.waiting < vec_capacity row.waiting)

abbrev pub said_now : ℕ → Option (List ℕ) → List Waiting
said_now step None = []
said_now step (Some reply) = record { step = step; reply = reply } ∷ []

-- a row after a line, which may have got a reply
pub record RowSays (old new : HostRow) (step : ℕ) (reply : Option (List ℕ)) : Type 0 where
  pub host : new.host ≡ old.host
  pub line : new.line ≡ old.line + 1
  pub waiting : new.waiting.items ≡ old.waiting.items ++ said_now step reply
  pub landing : new.landing ≡ old.landing
  pub reader : new.reader_ended ≡ old.reader_ended
  pub writer : new.writer_ended ≡ old.writer_ended
  pub room : vec_capacity new.waiting ≡ vec_capacity old.waiting

abbrev pub reader_if : Role → Bool → Bool
reader_if Reader ended = true
reader_if Writer ended = ended

abbrev pub writer_if : Role → Bool → Bool
writer_if Reader ended = ended
writer_if Writer ended = true

-- a row whose caller of this role has ended
pub record RowEnds (role : Role) (old new : HostRow) : Type 0 where
  pub host : new.host ≡ old.host
  pub line : new.line ≡ old.line
  pub waiting : new.waiting.items ≡ old.waiting.items
  pub landing : new.landing ≡ old.landing
  pub reader : new.reader_ended ≡ reader_if role old.reader_ended
  pub writer : new.writer_ended ≡ writer_if role old.writer_ended
  pub room : vec_capacity new.waiting ≡ vec_capacity old.waiting

-- a row of which the first reply was taken
pub record RowTakes (old new : HostRow) (rest : List Waiting) : Type 0 where
  pub host : new.host ≡ old.host
  pub line : new.line ≡ old.line
  pub waiting : new.waiting.items ≡ rest
  pub landing : new.landing ≡ old.landing
  pub reader : new.reader_ended ≡ old.reader_ended
  pub writer : new.writer_ended ≡ old.writer_ended
  pub room : vec_capacity new.waiting ≡ vec_capacity old.waiting

-- the first reply that waits has this text
abbrev pub HasFirst : HostRow → List ℕ → Type 0
HasFirst row text = (x : Waiting) × (rest : List Waiting) × (row.waiting.items ≡ x ∷ rest) × (x.reply ≡ text)

-- and it is taken
abbrev pub TakesFirst : List ℕ → HostRow → HostRow → Type 0
TakesFirst text old new =
    (x : Waiting) × (rest : List Waiting) × (old.waiting.items ≡ x ∷ rest) × (x.reply ≡ text) × RowTakes old new rest

-- a row whose writer recorded a notice
pub record RowLands (old new : HostRow) (last : Landing) : Type 0 where
  pub host : new.host ≡ old.host
  pub line : new.line ≡ old.line
  pub waiting : new.waiting.items ≡ old.waiting.items
  pub landing : new.landing ≡ Some last
  pub reader : new.reader_ended ≡ old.reader_ended
  pub writer : new.writer_ended ≡ old.writer_ended
  pub room : vec_capacity new.waiting ≡ vec_capacity old.waiting

abbrev pub RowLandsBy : Jid → ℕ → HostRow → HostRow → Type 0
RowLandsBy to step old new = RowLands old new (record { to = to; step = step })
