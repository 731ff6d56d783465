use Rattle.std.proofs.Common.{[], ◌∷◌}
use Rattle.ps_twin_tests.proofs.writing.write.Given as goal

abbrev pub ghost-leave_with : goal.ghost-leave_with
ghost-leave_with g a = a.entry ∷ []

abbrev pub ghost-leave : goal.ghost-leave
ghost-leave g a = []
