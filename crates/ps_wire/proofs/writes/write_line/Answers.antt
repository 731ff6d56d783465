use Rattle.std.proofs.Common.{[], ◌∷◌}
use Rattle.ps_wire.proofs.Written.{first_part, second_part, stays}
use Rattle.ps_wire.proofs.writes.write_line.Goals as goal

pub returns-in_err-write_whole-clause-part : goal.returns-in_err-write_whole-clause-part
returns-in_err-write_whole-clause-part g c = first_part _ _ c.args.line.now (10 ∷ []) c.write_whole.ensures.part

pub returns-in_err-write_whole-2-clause-part : goal.returns-in_err-write_whole-2-clause-part
returns-in_err-write_whole-2-clause-part g c = second_part _ _ _ c.args.line.now (10 ∷ []) c.in_ok-write_whole.ensures.whole c.write_whole-2.ensures.part

pub returns-in_err-flush-clause-part : goal.returns-in_err-flush-clause-part
returns-in_err-flush-clause-part g c =
    stays _ _ _ _ (second_part _ _ _ c.args.line.now (10 ∷ []) c.in_ok-write_whole.ensures.whole c.write_whole-2.ensures.part) c.flush.ensures.bytes

pub returns-clause-part : goal.returns-clause-part
returns-clause-part g c =
    stays _ _ _ _ (second_part _ _ _ c.args.line.now (10 ∷ []) c.in_ok-write_whole.ensures.whole c.write_whole-2.ensures.part) c.flush.ensures.bytes
