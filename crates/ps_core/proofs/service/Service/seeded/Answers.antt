use Rattle.std.proofs.Common.{◌≡◌, ap, sym, subst, ◌∙◌}
use Rattle.ps_model.specs.Book.{State, empty_state}
use Rattle.ps_core.specs.Counted.{AreFewMade, Holds}
use Rattle.ps_core.specs.States.{Part, part_of}
use Rattle.ps_core.proofs.Holding.{holds-empty}
use Rattle.ps_core.proofs.Tallied.{few-none}
use Rattle.ps_core.proofs.service.Service.seeded.Goals as goal

-- what is kept twice of a State
abbrev part_in : State → Part
part_in s = record { book = s.book; count = s.count; lines = s.lines }

pub invariant_of-result : goal.invariant_of-result
invariant_of-result c =
    let tallies = c.in_ok-seeded-3.field-0 in
    let front : part_of c.in_ok-seeded.field-0 ≡ part_in empty_state = ap part_in c.in_ok-seeded.ensures.state in
    let back : part_of c.in_ok-seeded-2.field-0 ≡ part_in empty_state = ap part_in c.in_ok-seeded-2.ensures.state in (
      record {
        holds = subst Holds (sym front) holds-empty;
        few = subst (λ (p : Part). AreFewMade p.count tallies.rows) (sym front) (few-none tallies.rows c.in_ok-seeded-3.ensures.empty);
        staged = back ∙ sym front;
      },
      (c.in_ok-seeded.ensures.wants, c.in_ok-seeded-2.ensures.wants),
    )
