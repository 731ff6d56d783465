use Rattle.std.proofs.Common.{ap, ◌++◌, ◌∷◌, [], ◌∙◌}
use Rattle.ps_types.specs.declared.jid.Jid.{Jid}
use Rattle.ps_audit.specs.Listed.{affil_whos}
use Rattle.ps_audit.proofs.Adding.{all-told, one-more, affils-split}
use Rattle.ps_audit.proofs.knowing.add_affiliated.Goals as goal

pub rows-preserved : goal.rows-preserved
rows-preserved c =
    one-more affil_whos affils-split c.args.rows.now c.rows.row-index c.row-item.result c.args.whos.now.items c.rows.whos.items c.push.new.self.items c.rows-test.true c.row-item.is c.rows.invariant
    (c.in_ok-push.ensures.items ∙ ap (λ (j : Jid). c.rows.whos.items ++ j ∷ []) c.in_ok-to_bare.ensures)

pub returns : goal.returns
returns c = all-told affil_whos affils-split c.args.rows.now c.rows.row-index c.args.whos.now.items c.rows.whos.items c.rows-test.false c.rows.invariant
