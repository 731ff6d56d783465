use Rattle.std.proofs.Common.{arith}
use Rattle.ps_hall_state.proofs.Calling.{no_memory, sketch_ok, stays}
use Rattle.ps_hall_state.proofs.state.State.lay_entry.Goals as goal

pub has_room-requires-clause-sketch : goal.has_room-requires-clause-sketch
has_room-requires-clause-sketch g c = sketch_ok c.args.self.now c.args.at c.args.arrival.now c.args.making.entry c.requires.here c.requires.standing c.requires.arrival c.requires.entry

pub has_room-requires-clause-limit : goal.has_room-requires-clause-limit
has_room-requires-clause-limit g c = c.requires.standing.1.within.changes

pub has_room-requires-clause-length : goal.has_room-requires-clause-length
has_room-requires-clause-length g c = let f = c.requires.standing.1.within.fits in omega (arith, f)

pub returns-in-Err-clause-err : goal.returns-in-Err-clause-err
returns-in-Err-clause-err g c = λ row was. no_memory c.args.self.now c.args.self.now c.args.at row was (c.requires.opened row was) (stays c.args.self.now)

pub lay_full-requires-clause-full : goal.lay_full-requires-clause-full
lay_full-requires-clause-full g c = c.in-Ok-false.ensures.no c.in-Ok-false.field-0-test

pub lay_fitting-requires-clause-room : goal.lay_fitting-requires-clause-room
lay_fitting-requires-clause-room g c κs within = c.in-Ok-true.ensures.yes c.in-Ok-true.field-0-test
