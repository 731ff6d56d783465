use Rattle.std.proofs.Common.{sym, subst, ◌∙◌}
use Rattle.ps_core.specs.Stages.{IsStage}
use Rattle.ps_core.specs.States.{part_of}
use Rattle.ps_core.specs.declared.service.Stage.{Stage}
use Rattle.ps_core.proofs.Followed.{prepared-wants}
use Rattle.ps_core.proofs.Staged.{committed-kept}
use Rattle.ps_core.proofs.service.Service.commit.Goals as goal

pub invariant_of-self : goal.invariant_of-self
invariant_of-self c =
    let inside = c.self.inside in
    let kept = c.in-Prepared.kept in
    let numbers = c.in-Prepared.numbers in
    let front = part_of inside.front in
    let back = part_of inside.back in
    let is = sym c.replace.ensures.value ∙ c.in-Prepared.is in
    let staged = subst (λ (s : Stage). IsStage s front back inside.tallies) is c.self.invariant.0.staged in
    let now = committed-kept front back kept numbers inside.tallies c.count_in.new.tallies staged.0 staged.1 c.count_in.ensures in
    rw (c.put_stage.ensures.stage, c.swap.ensures.x_after, c.swap.ensures.y_after) (now, (prepared-wants inside.stage kept numbers inside.back is c.self.invariant.1.1, c.self.invariant.1.0))
