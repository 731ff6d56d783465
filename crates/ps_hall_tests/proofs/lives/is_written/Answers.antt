use Rattle.ps_hall_tests.proofs.lives.is_written.Goals as goal

pub write_stream-why-requires-clause-ready : goal.write_stream-why-requires-clause-ready
write_stream-why-requires-clause-ready g c κs within = record { writer = c.requires.ready.writes.writer; free = c.requires.ready.none; hand = c.requires.ready.hand }
