-- A form that counts in the capability string, as the code keeps it (XEP-0115 §5.1, XEP-0068).
use Rattle.ps_types.specs.CapString as string
use Rattle.ps_caps.specs.declared.forms.TypedForm.{TypedForm}

abbrev pub seen : TypedForm → string.TypedForm
seen form = record { type = form.kind; more = form.more; others = form.others }
