use Rattle.std.proofs.Common.{[], ◌∷◌, ◌++◌, ap, sym, ◌∙◌, arith}
use Rattle.ps_rows.specs.Standing.{marks_of}
use Rattle.ps_rows.proofs.Packed.{marks-more}
use Rattle.ps_nodes.specs.Kept.{name_digest}
use Rattle.ps_nodes.proofs.names.mark.Goals as goal

pub loop-slot-preserved : goal.loop-slot-preserved
loop-slot-preserved c =
    let more = marks-more (name_digest c.args.seed) c.args.slots.now c.loop-slot.slot-index c.slot-item.result (omega arith) c.slot-item.is in
    record {
      marks = c.note.ensures.marks ∙ (ap (λ x. x ++ marks_of (name_digest c.args.seed) (c.slot-item.result ∷ [])) c.loop-slot.invariant.marks ∙ sym more);
      room = (let a = c.loop-slot.invariant.room in let b = c.note.ensures.room in omega (arith, a, b));
    }
