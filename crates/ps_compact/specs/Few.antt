-- Numbers such as a row may have.
use Rattle.std.specs.Prelude.{◌<◌, ◌^◌, List}
use Rattle.std.specs.List.{AllByRecursion}
use Rattle.ps_types.specs.declared.jid.Jid.{Jid}
use Rattle.ps_types.specs.declared.rows.CountRow.{CountRow}
use Rattle.ps_types.specs.declared.rows.TallyRow.{TallyRow}
use Rattle.ps_model.specs.Tallies.{handed_to}

-- fewer than 2^62 ids were made for an address on a node
abbrev pub AreMade : List CountRow → Type 0
AreMade rows = AllByRecursion (λ (r : CountRow). r.made < 2 ^ 62) rows

-- fewer than 2^62 notices were handed to an address
abbrev pub AreHanded : List TallyRow → Type 0
AreHanded rows = (a : Jid) → handed_to a rows < 2 ^ 62
