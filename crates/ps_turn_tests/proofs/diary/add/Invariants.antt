use Rattle.std.proofs.Common.{[], ◌∷◌}
use Rattle.ps_turn_tests.proofs.diary.add.Given as goal

abbrev pub ghost-leave_with : goal.ghost-leave_with
ghost-leave_with g a = a.entry ∷ []

abbrev pub ghost-leave : goal.ghost-leave
ghost-leave g a = []
