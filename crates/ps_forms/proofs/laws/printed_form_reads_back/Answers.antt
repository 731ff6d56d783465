use Rattle.ps_forms.proofs.Printed.{form-again}
use Rattle.ps_forms.proofs.laws.printed_form_reads_back.Goals as goal

pub returns : goal.returns
returns c = form-again
