-- A notice without its place.
use Rattle.std.specs.Prelude.{ℕ, List}
use Rattle.ps_types.specs.declared.entry.Notice.{Notice}
use Rattle.ps_types.specs.declared.jid.Jid.{Jid}

pub record Told : Type 0 where
  pub to : Jid
  pub number : ℕ
  pub line : List ℕ

abbrev pub told_of : Notice → Told
told_of n = record { to = n.to; number = n.number; line = n.line }
