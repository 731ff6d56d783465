use Rattle.ps_twin_tests.proofs.writing.leave_with.Given as goal

abbrev pub ghost-leave : goal.ghost-leave
ghost-leave g a = g.added
