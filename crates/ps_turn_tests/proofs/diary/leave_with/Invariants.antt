use Rattle.ps_turn_tests.proofs.diary.leave_with.Given as goal

abbrev pub ghost-leave : goal.ghost-leave
ghost-leave g a = g.added
