use Rattle.std.proofs.Common.{◌≡◌, Bool, Option, Some, None, subst}
use Rattle.std.specs.Prelude.{IfOk, option_map}
use Rattle.ps_compact_codec.specs.Held.{held_row_of}
use Rattle.ps_compact_codec.specs.Said.{row_said}
use Rattle.ps_compact_codec.specs.declared.row.StoredRow.{StoredRow}
use Rattle.ps_core.specs.States.{state_of}
use Rattle.ps_core.proofs.TakenRows.{none-accepted, read-accepted}
use Rattle.ps_core.proofs.accepting.is_accepted_row.Goals as goal

pub returns-in-Some : goal.returns-in-Some
returns-in-Some c =
    let t = c.args.tree.now in
    let is : Some (row_said c.in-Some.row) ≡ held_row_of t = subst (λ (o : Option StoredRow). option_map row_said o ≡ held_row_of t) c.in-Some.is c.in_ok-row.ensures.row in
    subst (λ (x : Bool). IfOk c.accepts_row-taken.result (λ b. b ≡ x)) (read-accepted t (state_of c.args.half.now c.args.tallies.now.rows) (row_said c.in-Some.row) is)
    c.accepts_row-taken.ensures.accepted

pub returns-in-None : goal.returns-in-None
returns-in-None c =
    let t = c.args.tree.now in
    let is : None ≡ held_row_of t = subst (λ (o : Option StoredRow). option_map row_said o ≡ held_row_of t) c.in-None.is c.in_ok-row.ensures.row in
    none-accepted t (state_of c.args.half.now c.args.tallies.now.rows) is
