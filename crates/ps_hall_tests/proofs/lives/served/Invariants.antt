use Rattle.ps_hall_tests.proofs.lives.served.Given as goal

abbrev pub ghost-opened : goal.ghost-opened
ghost-opened g a = a.disk
