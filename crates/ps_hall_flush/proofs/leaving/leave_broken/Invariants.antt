use Rattle.ps_hall_flush.proofs.leaving.leave_broken.Given as goal

abbrev pub ghost-leave : goal.ghost-leave
ghost-leave g a = g.added
