use Rattle.std.proofs.Common.{sym, subst}
use Rattle.std.specs.Prelude.{codes}
use Rattle.ps_types.specs.Namespaces.{data_ns}
use Rattle.ps_types.specs.Shape.{children_of}
use Rattle.ps_forms.specs.Vars.{HaveVars}
use Rattle.ps_forms.proofs.Printed.{vars-kept}
use Rattle.ps_forms.proofs.read.read_form.Goals as goal

pub returns-in_ok-fields-in-Some-clause-vars : goal.returns-in_ok-fields-in-Some-clause-vars
returns-in_ok-fields-in-Some-clause-vars c =
    subst HaveVars (sym c.in_ok-fields-in-Some.ensures) (vars-kept (children_of (codes "field") data_ns c.args.tree.now))
