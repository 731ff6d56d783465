use Rattle.std.proofs.Common.{[]}
use Rattle.ps_twin_tests.proofs.writing.settle.Given as goal

abbrev pub ghost-leave : goal.ghost-leave
ghost-leave g a = []
