use Rattle.std.proofs.Common.{refl, subst, Option, Some, true}
use Rattle.std.specs.Prelude.{IsSome}
use Rattle.ps_types.specs.declared.entry.Entry.{Entry}
use Rattle.ps_hall_state.proofs.Calling.{full_entry, laid_ok, lacks_is, lines_ok, no_memory, row_few, stays}
use Rattle.ps_hall_state.proofs.state.State.lay_full.Goals as goal

pub full_at-requires-clause-lines : goal.full_at-requires-clause-lines
full_at-requires-clause-lines c = λ row was. row_few c.args.self.now c.args.at row c.requires.standing was c.requires.few

pub full_at-requires-clause-some : goal.full_at-requires-clause-some
full_at-requires-clause-some c = λ row was. subst (λ (o : Option Entry). IsSome o) (c.requires.entry row was) refl

pub lay_plain-requires-clause-lines : goal.lay_plain-requires-clause-lines
lay_plain-requires-clause-lines c = lines_ok c.args.self.now c.args.at c.requires.standing c.requires.few c.requires.opened

pub lay_plain-requires-clause-entry : goal.lay_plain-requires-clause-entry
lay_plain-requires-clause-entry c = λ row was. full_entry c.args.self.now c.args.at row c.args.arrival.now c.requires.standing was

pub returns-in-Err-clause-err : goal.returns-in-Err-clause-err
returns-in-Err-clause-err c = λ row was. no_memory c.args.self.now c.args.self.now c.args.at row was (c.requires.opened row was) (stays c.args.self.now)

pub returns-in-Ok-clause-ok : goal.returns-in-Ok-clause-ok
returns-in-Ok-clause-ok c = λ row was.
    let v = c.args.self.now in
    laid_ok v c.lay_plain.new.self c.args.at row c.args.arrival.now _ true _ (Some c.args._entry.now) was (c.requires.opened row was) refl (c.requires.entry row was)
    (lacks_is v.limits.changes v.length v.batch c.args._entry.now c.requires.full) c.count-place.ensures.count refl (c.lay_plain.ensures.goes row was)
