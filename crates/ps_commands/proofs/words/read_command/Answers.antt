use Rattle.std.proofs.Common.{◌≡◌, Err, None, subst, sym, ap, ◌∙◌}
use Rattle.std.specs.Prelude.{Some}
use Rattle.std.proofs.lemmas.Result.{IfOk-weaker}
use Rattle.ps_args.specs.Words.{command_of as first_of}
use Rattle.ps_commands.specs.Well.{IsWell}
use Rattle.ps_commands.specs.declared.command.Command.{Command}
use Rattle.ps_commands.proofs.Well.{first-well, none-first, other-well, some-first}
use Rattle.ps_commands.proofs.words.read_command.Goals as goal

pub returns-in-Ok-clause-ok : goal.returns-in-Ok-clause-ok
returns-in-Ok-clause-ok c = some-first c.args.words.now c.in-Ok.command c.in-Ok.ensures.ok ∙ ap (λ (x : Command). Some x) (sym c.of_first.ensures)

pub returns-in-Ok-clause-well : goal.returns-in-Ok-clause-well
returns-in-Ok-clause-well c = subst IsWell (sym c.of_first.ensures) (first-well c.in-Ok.command c.in-Ok.ensures.well)

pub returns-in-Err-Usage-clause-ok : goal.returns-in-Err-Usage-clause-ok
returns-in-Err-Usage-clause-ok c =
    let none : first_of c.args.words.now ≡ None = c.in-Err-Usage.ensures.usage (λ i. Err (c.in-Err-Usage.field-0-is i)) in
    IfOk-weaker c.read_other.result _ _ (λ x e. none-first c.args.words.now none ∙ e) c.read_other.ensures.ok

pub returns-in-Err-Usage-clause-well : goal.returns-in-Err-Usage-clause-well
returns-in-Err-Usage-clause-well c = IfOk-weaker c.read_other.result _ _ (λ x e. other-well c.args.words.now x e) c.read_other.ensures.ok

pub returns-in-Err-Usage-clause-usage : goal.returns-in-Err-Usage-clause-usage
returns-in-Err-Usage-clause-usage c =
    let none : first_of c.args.words.now ≡ None = c.in-Err-Usage.ensures.usage (λ i. Err (c.in-Err-Usage.field-0-is i)) in
    λ e. none-first c.args.words.now none ∙ c.read_other.ensures.usage e
