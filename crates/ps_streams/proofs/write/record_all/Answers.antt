use Rattle.std.proofs.Common.{◌≢◌, ℕ, ◌+◌, List, [], Bool, Err, length, refl, sym, ap, ◌∙◌, subst}
use Rattle.ps_twin.specs.Seats.{number_of, seen_of}
use Rattle.ps_hall_flush.specs.Homes.{world_at}
use Rattle.ps_hall_state.specs.declared.answers.HandedRefusal.{HandedRefusal}
use Rattle.ps_hall.specs.declared.answers.EndCause.{EndCause}
use Rattle.ps_streams.specs.Speaking.{HasLanded}
use Rattle.ps_streams.proofs.Causes.{hand-landed, handed-store, no-room}
use Rattle.ps_streams.proofs.Ending.{goes-handed, handed-ends}
use Rattle.ps_streams.proofs.Looping.{err-same, the_err}
use Rattle.ps_streams.proofs.Moving.{fewer-left, handed-not, handed-on, none-held, recorded-none, some-held}
use Rattle.ps_streams.proofs.write.record_all.Goals as goal

-- nothing is in hand

pub returns-then-held-eq0-clause-quiet : goal.returns-then-held-eq0-clause-quiet
returns-then-held-eq0-clause-quiet g c = recorded-none g.B.Opening.origin (number_of c.args.pass.now.seat) c.args.pass.now.in_hand.items (seen_of c.args.pass.now.seat)
    c.requires.ready.writer.pass.owned

pub returns-then-held-eq0-clause-fewer : goal.returns-then-held-eq0-clause-fewer
returns-then-held-eq0-clause-fewer g c = λ some. absurd (some (none-held c.args.pass.now.in_hand.items c.in_hand-held.result c.in_hand-held.ensures c.if-held-eq0.true))

pub returns-then-held-eq0-clause-landed : goal.returns-then-held-eq0-clause-landed
returns-then-held-eq0-clause-landed g c = λ no. hand-landed c.args.pass.now.in_hand.items c.args.pass.now.host (world_at g.B.Opening.origin (seen_of c.args.pass.now.seat)) c.requires.ready.hand

-- what is in hand is recorded

pub handed-requires-clause-some : goal.handed-requires-clause-some
handed-requires-clause-some g c κs within = some-held c.args.pass.now.in_hand.items c.in_hand-held.result c.in_hand-held.ensures c.if-held-eq0.false

pub returns-in-Ok-clause-quiet : goal.returns-in-Ok-clause-quiet
returns-in-Ok-clause-quiet g c =
    handed-on g.B.Opening.origin (number_of c.args.pass.now.seat) c.args.pass.now.host c.args.pass.now.in_hand.items c.handed.new.pass.in_hand.items (seen_of c.args.pass.now.seat)
    (seen_of c.handed.new.pass.seat) c.in-Ok.field-0 c.in-Ok.ensures.handed

pub returns-in-Ok-clause-fewer : goal.returns-in-Ok-clause-fewer
returns-in-Ok-clause-fewer g c =
    fewer-left g.B.Opening.origin (number_of c.args.pass.now.seat) c.args.pass.now.host c.args.pass.now.in_hand.items c.handed.new.pass.in_hand.items (seen_of c.args.pass.now.seat)
    (seen_of c.handed.new.pass.seat) c.in-Ok.field-0 c.in-Ok.ensures.handed

pub returns-in-Ok-clause-going : goal.returns-in-Ok-clause-going
returns-in-Ok-clause-going g c = λ no none.
    goes-handed g.B.Opening.origin (number_of c.args.pass.now.seat) c.args.pass.now.host c.args.pass.now.in_hand.items c.handed.new.pass.in_hand.items (seen_of c.args.pass.now.seat)
    (seen_of c.handed.new.pass.seat) c.handed.result
    (λ e. absurd (cc (sym c.in-Ok.is ∙ e))) c.handed.ensures.handed none

pub returns-in-Ok-clause-landed : goal.returns-in-Ok-clause-landed
returns-in-Ok-clause-landed g c = λ no. hand-landed c.handed.new.pass.in_hand.items c.args.pass.now.host (world_at g.B.Opening.origin (seen_of c.handed.new.pass.seat)) c.in-Ok.ensures.hand

-- or not

pub returns-in-Err-clause-refused : goal.returns-in-Err-clause-refused
returns-in-Err-clause-refused g c =
    handed-not g.B.Opening.origin (number_of c.args.pass.now.seat) (Unit {0}) c.args.pass.now.host c.args.pass.now.in_hand.items c.handed.new.pass.in_hand.items (seen_of c.args.pass.now.seat)
    (seen_of c.handed.new.pass.seat) c.in-Err.refusal c.in-Err.ensures.handed

pub returns-in-Err-clause-store : goal.returns-in-Err-clause-store
returns-in-Err-clause-store g c = λ e.
    handed-store g.B.Opening.origin (number_of c.args.pass.now.seat) (Unit {0}) c.args.pass.now.host c.args.pass.now.in_hand.items c.handed.new.pass.in_hand.items (seen_of c.args.pass.now.seat)
    (seen_of c.handed.new.pass.seat)
    (some-held c.args.pass.now.in_hand.items c.in_hand-held.result c.in_hand-held.ensures c.if-held-eq0.false) c.in-Err.refusal (c.end_of.ensures.store (err-same c.end_of.result _ e))
    c.in-Err.ensures.handed

pub returns-in-Err-clause-full : goal.returns-in-Err-clause-full
returns-in-Err-clause-full g c = λ e.
    (let full = c.end_of.ensures.full (err-same c.end_of.result _ e) in
    no-room g.B.Opening.origin c.args.pass.now.host c.args.pass.now.in_hand.items c.handed.new.pass.in_hand.items (seen_of c.handed.new.pass.seat) _
    (some-held c.args.pass.now.in_hand.items c.in_hand-held.result c.in_hand-held.ensures c.if-held-eq0.false) c.in-Err.ensures.still (c.in-Err.ensures.kept (λ s. absurd (cc (sym full ∙ s))))
    c.in-Err.ensures.over
    (ap (λ (x : HandedRefusal). the_err (Unit {0}) x) full))

pub returns-in-Err-clause-going : goal.returns-in-Err-clause-going
returns-in-Err-clause-going g c = λ no none.
    goes-handed g.B.Opening.origin (number_of c.args.pass.now.seat) c.args.pass.now.host c.args.pass.now.in_hand.items c.handed.new.pass.in_hand.items (seen_of c.args.pass.now.seat)
    (seen_of c.handed.new.pass.seat) (the_err (Unit {0}) c.in-Err.refusal)
    (λ e. no (ap (λ (w : EndCause). the_err (Unit {0}) w) (c.end_of.ensures.from_full (err-same c.in-Err.refusal _ e)))) c.in-Err.ensures.handed none

pub returns-in-Err-clause-ended : goal.returns-in-Err-clause-ended
returns-in-Err-clause-ended g c = λ e.
    handed-ends g.B.Opening.origin (number_of c.args.pass.now.seat) c.args.pass.now.host c.args.pass.now.in_hand.items c.handed.new.pass.in_hand.items (seen_of c.args.pass.now.seat)
    (seen_of c.handed.new.pass.seat) (Unit {0}) c.in-Err.refusal
    (c.end_of.ensures.full (err-same c.end_of.result _ e)) c.in-Err.ensures.handed

pub returns-in-Err-clause-landed : goal.returns-in-Err-clause-landed
returns-in-Err-clause-landed g c = λ no.
    hand-landed c.handed.new.pass.in_hand.items c.args.pass.now.host (world_at g.B.Opening.origin (seen_of c.handed.new.pass.seat))
    (c.in-Err.ensures.kept (c.end_of.ensures.other (λ e. no (ap (λ (w : EndCause). the_err (Unit {0}) w) e))))
