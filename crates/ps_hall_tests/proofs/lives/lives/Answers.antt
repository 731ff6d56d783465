use Rattle.std.proofs.Common.{refl}
use Rattle.std.proofs.lemmas.Option.{slice_get_read}
use Rattle.ps_hall_tests.proofs.Passing.{first_free, first_reads, kept}
use Rattle.ps_hall_tests.proofs.lives.lives.Goals as goal

pub serves-requires-clause-reader : goal.serves-requires-clause-reader
serves-requires-clause-reader g c κs within = first_reads g.B.Opening.origin c.args.hall.now.twin c.args.passes.now.items c.index_mut-first.result.now
    (slice_get_read _ _ _ _ refl c.requires.some c.index_mut-first.ensures.value) c.requires.fresh

pub serves-requires-clause-writer : goal.serves-requires-clause-writer
serves-requires-clause-writer g c κs within = first_free g.B.Opening.origin c.args.hall.now.twin c.args.passes.now.items c.index_mut-first.result.now
    (slice_get_read _ _ _ _ refl c.requires.some c.index_mut-first.ensures.value) c.requires.fresh

pub fails-requires-clause-reader : goal.fails-requires-clause-reader
fails-requires-clause-reader g c κs within = first_reads g.B.Opening.origin c.args.hall.now.twin c.args.passes.now.items c.index_mut-first.result.now
    (slice_get_read _ _ _ _ refl c.requires.some c.index_mut-first.ensures.value) c.requires.fresh

pub fails-requires-clause-writer : goal.fails-requires-clause-writer
fails-requires-clause-writer g c κs within = first_free g.B.Opening.origin c.args.hall.now.twin c.args.passes.now.items c.index_mut-first.result.now
    (slice_get_read _ _ _ _ refl c.requires.some c.index_mut-first.ensures.value) c.requires.fresh

pub returns-in-Whole : goal.returns-in-Whole
returns-in-Whole g c = kept g.B.Opening.origin c.args.hall.now.twin c.args.passes.now.items c.serves.new.passes c.requires.some c.requires.fresh.all c.serves.ensures.reader c.serves.ensures.writer

pub returns-in-Failing : goal.returns-in-Failing
returns-in-Failing g c = kept g.B.Opening.origin c.args.hall.now.twin c.args.passes.now.items c.fails.new.passes c.requires.some c.requires.fresh.all c.fails.ensures.reader c.fails.ensures.writer

pub goes_on-requires-clause-reader : goal.goes_on-requires-clause-reader
goes_on-requires-clause-reader g c κs within = first_reads g.B.Opening.origin c.args.hall.now.twin c.args.passes.now.items c.index_mut-first.result.now
    (slice_get_read _ _ _ _ refl c.requires.some c.index_mut-first.ensures.value) c.requires.fresh

pub goes_on-requires-clause-writer : goal.goes_on-requires-clause-writer
goes_on-requires-clause-writer g c κs within = first_free g.B.Opening.origin c.args.hall.now.twin c.args.passes.now.items c.index_mut-first.result.now
    (slice_get_read _ _ _ _ refl c.requires.some c.index_mut-first.ensures.value) c.requires.fresh

pub returns-in-Second : goal.returns-in-Second
returns-in-Second g c = kept g.B.Opening.origin c.args.hall.now.twin c.args.passes.now.items c.goes_on.new.passes c.requires.some c.requires.fresh.all c.goes_on.ensures.reader c.goes_on.ensures.writer

pub writes-requires-clause-reader : goal.writes-requires-clause-reader
writes-requires-clause-reader g c κs within = first_reads g.B.Opening.origin c.args.hall.now.twin c.args.passes.now.items c.index_mut-first.result.now
    (slice_get_read _ _ _ _ refl c.requires.some c.index_mut-first.ensures.value) c.requires.fresh

pub writes-requires-clause-writer : goal.writes-requires-clause-writer
writes-requires-clause-writer g c κs within = first_free g.B.Opening.origin c.args.hall.now.twin c.args.passes.now.items c.index_mut-first.result.now
    (slice_get_read _ _ _ _ refl c.requires.some c.index_mut-first.ensures.value) c.requires.fresh

pub returns-in-Written : goal.returns-in-Written
returns-in-Written g c = kept g.B.Opening.origin c.args.hall.now.twin c.args.passes.now.items c.writes.new.passes c.requires.some c.requires.fresh.all c.writes.ensures.reader c.writes.ensures.writer

pub rings-requires-clause-reader : goal.rings-requires-clause-reader
rings-requires-clause-reader g c κs within = first_reads g.B.Opening.origin c.args.hall.now.twin c.args.passes.now.items c.index_mut-first.result.now
    (slice_get_read _ _ _ _ refl c.requires.some c.index_mut-first.ensures.value) c.requires.fresh

pub rings-requires-clause-writer : goal.rings-requires-clause-writer
rings-requires-clause-writer g c κs within = first_free g.B.Opening.origin c.args.hall.now.twin c.args.passes.now.items c.index_mut-first.result.now
    (slice_get_read _ _ _ _ refl c.requires.some c.index_mut-first.ensures.value) c.requires.fresh

pub returns-in-Ringing : goal.returns-in-Ringing
returns-in-Ringing g c = kept g.B.Opening.origin c.args.hall.now.twin c.args.passes.now.items c.rings.new.passes c.requires.some c.requires.fresh.all c.rings.ensures.reader c.rings.ensures.writer

pub is_full-requires-clause-reader : goal.is_full-requires-clause-reader
is_full-requires-clause-reader g c κs within = first_reads g.B.Opening.origin c.args.hall.now.twin c.args.passes.now.items c.index_mut-first.result.now
    (slice_get_read _ _ _ _ refl c.requires.some c.index_mut-first.ensures.value) c.requires.fresh

pub is_full-requires-clause-writer : goal.is_full-requires-clause-writer
is_full-requires-clause-writer g c κs within = first_free g.B.Opening.origin c.args.hall.now.twin c.args.passes.now.items c.index_mut-first.result.now
    (slice_get_read _ _ _ _ refl c.requires.some c.index_mut-first.ensures.value) c.requires.fresh

pub returns-in-Full : goal.returns-in-Full
returns-in-Full g c = kept g.B.Opening.origin c.args.hall.now.twin c.args.passes.now.items c.is_full.new.passes c.requires.some c.requires.fresh.all c.is_full.ensures.reader c.is_full.ensures.writer
