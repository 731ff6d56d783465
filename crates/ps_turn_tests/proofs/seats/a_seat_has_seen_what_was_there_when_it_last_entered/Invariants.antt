use Rattle.std.proofs.Common.{[]}
use Rattle.ps_turn_tests.proofs.seats.a_seat_has_seen_what_was_there_when_it_last_entered.Given as goal

abbrev pub ghost-leave : goal.ghost-leave
ghost-leave g a = []
