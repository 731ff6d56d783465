use Rattle.std.proofs.Common.{◌≡◌, take}
use Rattle.ps_forms.proofs.Printed.{trees}
use Rattle.ps_request.proofs.rows.payload_kids.Given as goal

abbrev pub invariant-loop-payload : goal.invariant-loop-payload
invariant-loop-payload l = l.kids ≡ trees (take l.payload-index l.payloads)
