use Rattle.std.proofs.Common.{[]}
use Rattle.ps_hall_flush.proofs.leaving.leave_as_was.Given as goal

abbrev pub ghost-leave : goal.ghost-leave
ghost-leave g a = []
