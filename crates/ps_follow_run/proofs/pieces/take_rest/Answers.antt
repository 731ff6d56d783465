use Rattle.std.proofs.Common.{◌++◌, arith}
use Rattle.ps_follow_run.proofs.Resting.{rests-done, rests-end, rests-more, rests-none}
use Rattle.ps_follow_run.proofs.Taking.{piece-falls}
use Rattle.ps_follow_run.proofs.pieces.take_rest.Goals as goal

pub rest-init : goal.rest-init
rest-init g c = record {
  begun = c.requires.begun;
  rests = λ bytes h. rests-none c.args.taking.now bytes (g.F.Source.left c.args.feed.now) h;
  later = omega arith;
}

pub rest-smaller : goal.rest-smaller
rest-smaller g c =
    let b = c.rest.invariant.begun in
    piece-falls c.rest.taking c.take_piece.new.self b.0 (g.F.Source.left c.rest.feed) (g.F.Source.left c.take_piece.new.feed) b.1 (c.in_default.ensures.piece b.0 b.1) c.rest-test.true

pub rest-preserved : goal.rest-preserved
rest-preserved g c =
    let i = c.rest.invariant in
    let b = i.begun in
    let p = c.in_default.ensures.piece b.0 b.1 in
    let before = g.F.Source.left c.args.feed.now in
    let between = g.F.Source.left c.rest.feed in
    let now = g.F.Source.left c.take_piece.new.feed in
    record {
      begun = (b.0 ++ p.piece, p.taken);
      rests = λ bytes h.
          let r = i.rests bytes h in
          rests-more c.args.taking.now c.rest.taking bytes before between r c.take_piece.new.self now (c.in_default.ensures.piece (bytes ++ r.piece) r.taken);
      later = (let x = i.later in let y = c.take_piece.ensures.later in omega (arith, x, y));
    }

pub returns-in-Err-clause-piece : goal.returns-in-Err-clause-piece
returns-in-Err-clause-piece g c = λ bytes h.
    let r = c.rest.invariant.rests bytes h in
    rests-end c.args.taking.now c.rest.taking bytes (g.F.Source.left c.args.feed.now) (g.F.Source.left c.rest.feed) r (g.F.Source.left c.take_piece.new.feed) c.in-Err.why
    (c.in-Err.ensures.piece (bytes ++ r.piece) r.taken)

pub returns-clause-piece : goal.returns-clause-piece
returns-clause-piece g c = λ bytes h.
    let r = c.rest.invariant.rests bytes h in
    rests-done c.args.taking.now c.rest.taking bytes (g.F.Source.left c.args.feed.now) (g.F.Source.left c.rest.feed) r c.rest-test.false
