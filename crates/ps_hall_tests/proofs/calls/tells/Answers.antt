use Rattle.std.proofs.Common.{◌∙◌, List, ℕ, subst, sym}
use Rattle.ps_hall.specs.Calls.{HandAt}
use Rattle.ps_hall_tests.proofs.Passing.{none_of, some_of}
use Rattle.ps_hall_tests.proofs.calls.tells.Goals as goal

pub handed-requires-clause-some : goal.handed-requires-clause-some
handed-requires-clause-some g c κs within = some_of c.next.new.pass.in_hand.items c.in_hand-held.result c.in_hand-held.ensures c.if-held-ne1.false

pub returns-then-left-eq0-clause-free : goal.returns-then-left-eq0-clause-free
returns-then-left-eq0-clause-free g c =
    let none = none_of c.handed.new.pass.in_hand.items c.in_hand-left.result c.in_hand-left.ensures c.if-left-eq0.true in
    record {
      writes = record { writer = c.handed.ensures.writer; first = c.handed.ensures.same.0 ∙ (c.next.ensures.same.0 ∙ c.requires.writes.first) };
      none = none;
      hand = subst (λ (h : List ℕ). HandAt g.B.Opening.origin c.handed.new.pass.in_hand.items h c.handed.new.pass.seat) (sym c.handed.ensures.same.1) c.in-Ok.ensures.hand;
    }
