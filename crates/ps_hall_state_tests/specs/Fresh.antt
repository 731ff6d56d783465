-- The rows of a state before its first step.
use Rattle.std.specs.Prelude.{◌≡◌, ◌≤◌, false, List, [], ◌∷◌, None, codes, vec_capacity}
use Rattle.ps_hall_state.specs.declared.state.HostRow.{HostRow}

-- the row of the one host, with no line yet
pub record IsFresh (row : HostRow) : Type 0 where
  pub host : row.host ≡ codes "a.example"
  pub line : row.line ≡ 0
  pub waiting : row.waiting.items ≡ []
  pub landing : row.landing ≡ None
  pub reader : row.reader_ended ≡ false
  pub writer : row.writer_ended ≡ false
  pub room : 64 ≤ vec_capacity row.waiting

abbrev pub AreFresh : List HostRow → Type 0
AreFresh rows = (row : HostRow) × (rows ≡ row ∷ []) × IsFresh row
