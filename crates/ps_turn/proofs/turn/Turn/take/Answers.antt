use Rattle.std.proofs.Common.{rules, sym, ap, ◌∙◌, ◌∷◌, Some}
use Rattle.atomic_table.specs.Table.{rest}
use Rattle.ps_turn.proofs.Steps.{may_look, rings_ok}
use Rattle.ps_turn.proofs.turn.Turn.take.Goals as goal

pub wait_for-requires-clause-looks : goal.wait_for-requires-clause-looks
wait_for-requires-clause-looks g c = may_look g.V.Annals.stands g.V.Annals.maker _ _ _ _ _ c.requires.turn.1 c.requires.waits.0 c.requires.waits.1

pub wait_for-requires-clause-rings : goal.wait_for-requires-clause-rings
wait_for-requires-clause-rings g c = rings_ok g.V.Annals.stands g.V.Annals.maker _ _ _ _ c.requires.turn.1

pub exchange-requires : goal.exchange-requires
exchange-requires g c =
    let did = c.wait_for.ensures.looked.0 c.requires.waits.1 in
    let has = ap (λ m. m.1) did.2 in
    (search rules, (Some did.0, has ∙ (λ k. (0, Some did.0) ∷ sym (ap rest has) k)))
