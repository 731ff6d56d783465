use Rattle.ps_hall.proofs.leaving.leave_recorded.Given as goal

abbrev pub ghost-leave : goal.ghost-leave
ghost-leave g a = g.added
