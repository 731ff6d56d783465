use Rattle.std.proofs.Common.{◌≡◌, ◌++◌, take}
use Rattle.ps_audit.proofs.Adding.{slot_whos}
use Rattle.ps_audit.proofs.knowing.add_contacts.Given as goal

abbrev pub invariant-rows : goal.invariant-rows
invariant-rows l = l.whos.items ≡ l.initial.whos.items ++ slot_whos l.account (take l.slot-index l.slot-items)
