use Rattle.ps_hall_flush.proofs.leaving.leave_flushed.Given as goal

abbrev pub ghost-leave : goal.ghost-leave
ghost-leave g a = g.added
