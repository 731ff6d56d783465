use Rattle.std.proofs.Common.{rules, ◌≡◌, ◌≤◌, ◌+◌, ◌∷◌, length, List, refl, ap, sym, ◌∙◌, arith}
use Rattle.ps_types.specs.declared.rows.TallyRow.{TallyRow}
use Rattle.ps_types.specs.Same.{same_bare}
use Rattle.ps_model.specs.Tallies.{made_for, more_made}
use Rattle.ps_notices.specs.Due.{tallied_by}
use Rattle.ps_core.proofs.Tallied.{one-more}
use Rattle.ps_core.proofs.numbers.make_each.Goals as goal

pub make-requires-clause-fits : goal.make-requires-clause-fits
make-requires-clause-fits c =
    let split : c.loop-who.who-iterator.rest.items ≡ c.in-Some.who ∷ c.next.new.self.rest.items = search rules in
    let bound = c.loop-who.invariant.2 c.in-Some.who in
    let size : length c.loop-who.who-iterator.rest.items ≡ length (c.in-Some.who ∷ c.next.new.self.rest.items) = ap length split in
    omega (arith, bound, size)

pub loop-who-preserved : goal.loop-who-preserved
loop-who-preserved c =
    let who = c.in-Some.who in
    let rest = c.next.new.self.rest.items in
    let split : c.loop-who.who-iterator.rest.items ≡ who ∷ rest = search rules in
    let size : length c.loop-who.who-iterator.rest.items ≡ length (who ∷ rest) = ap length split in
    let room : length c.loop-who.who-iterator.rest.items ≤ c.loop-who.tallies.spare = c.loop-who.invariant.1 in
    let spare = c.make.ensures.room in
    let grown : c.make.new.self.rows ≡ more_made who 1 c.loop-who.tallies.rows = c.make.ensures.rows in (
      ap (λ (rows : List TallyRow). tallied_by rows rest) grown ∙ sym (ap (tallied_by c.loop-who.tallies.rows) split) ∙ c.loop-who.invariant.0,
      omega (arith, size, room, spare),
      λ x.
          let bound = c.loop-who.invariant.2 x in
          let one : made_for x (more_made who 1 c.loop-who.tallies.rows) ≤ made_for x c.loop-who.tallies.rows + 1 = one-more x who c.loop-who.tallies.rows (same_bare x who) refl in
          let now : made_for x c.make.new.self.rows ≡ made_for x (more_made who 1 c.loop-who.tallies.rows) = ap (made_for x) grown in
          omega (arith, bound, one, now, size),
    )
