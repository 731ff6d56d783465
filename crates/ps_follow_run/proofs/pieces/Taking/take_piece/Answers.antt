use Rattle.std.proofs.Common.{◌≡◌, List, ℕ, [], refl, sym, subst, arith, length, take, ◌+◌, ◌<◌, ◌≤◌, ◌^◌}
use Rattle.std.specs.Io.KnownBytes.{Consumes}
use Rattle.ps_follow_run.specs.Pieces.{PieceEnds}
use Rattle.ps_follow_run.specs.declared.ends.FollowEnd.{FollowEnd}
use Rattle.ps_follow_run.specs.declared.ends.FollowEnd.TheVariants as end
use Rattle.ps_follow_run.proofs.Taking.{all-given, consumed-kept, consumed-none, end-found, ends-still, good-of, not-ended, piece-refused, piece-taken, read-long, stood-still}
use Rattle.ps_follow_run.proofs.pieces.Taking.take_piece.Goals as goal

pub returns-then-self-clause-piece : goal.returns-then-self-clause-piece
returns-then-self-clause-piece g c = λ bytes h. stood-still c.args.self.now bytes (g.F.Source.left c.args.feed.now) c.if-self.true h

pub returns-then-self-ge-LIMIT-clause-piece : goal.returns-then-self-ge-LIMIT-clause-piece
returns-then-self-ge-LIMIT-clause-piece g c = λ bytes h.
    let t = c.args.self.now in
    let left = g.F.Source.left c.args.feed.now in
    ends-still t bytes left left end.Long (not-ended t.ended c.if-self.false) (consumed-none left) (λ e. cc e) (good-of t bytes left h) (λ _. all-given t bytes left h c.if-self-ge-LIMIT.true)

pub returns-in_default-clause-piece : goal.returns-in_default-clause-piece
returns-in_default-clause-piece g c = λ bytes h.
    let t = c.args.self.now in
    let before = g.F.Source.left c.args.feed.now in
    let now = g.F.Source.left c.read.new.feed in
    ends-still t bytes before now end.Fault (not-ended t.ended c.if-self.false) (consumed-kept before now c.in_default.ensures.bytes) (λ e. cc e) (good-of t bytes before h)
    (λ e. absurd (let no : end.Fault ≡ end.Long = e in cc no))

pub returns-then-count-eq0-clause-piece : goal.returns-then-count-eq0-clause-piece
returns-then-count-eq0-clause-piece g c = λ bytes h.
    let t = c.args.self.now in
    let before = g.F.Source.left c.args.feed.now in
    let now = g.F.Source.left c.read.new.feed in
    let gave : Consumes before now [] = subst (λ (n : ℕ). Consumes before now (take n c.read.new.self)) c.if-count-eq0.true c.in-Ok.ensures.bytes.0 in
    end-found t _ bytes before now refl refl refl (not-ended t.ended c.if-self.false) (let x = c.if-self-ge-LIMIT.false in omega (arith, x)) gave (c.in-Ok.ensures.bytes.1 c.if-count-eq0.true) h

pub returns-in-Ok-feed-clause-piece : goal.returns-in-Ok-feed-clause-piece
returns-in-Ok-feed-clause-piece g c = λ bytes h.
    let t = c.args.self.now in
    let before = g.F.Source.left c.args.feed.now in
    let now = g.F.Source.left c.read.new.feed in
    let piece = c.front.result.now in
    let long = read-long c.in-Ok.count c.read.new.self piece c.front.ensures c.in-Ok.ensures.count.0 in
    let went = c.in-Ok-feed.ensures.at [] h.entries bytes h.is in
    let gave : Consumes before now piece = subst (λ (x : List ℕ). Consumes before now x) (sym c.front.ensures) c.in-Ok.ensures.bytes.0 in
    let some : 0 < length piece = (let x = c.if-count-eq0.false in omega (arith, long, x)) in
    let few : length piece + t.given ≤ 2 ^ 40 = (let x = c.in-Ok.ensures.count.1 in let y = c.if-self-ge-LIMIT.false in omega (arith, long, x, y)) in
    piece-taken t _ bytes piece before now went.entries (omega (arith, long)) c.if-self.false (not-ended t.ended c.if-self.false) went.is gave some few h

pub returns-in-Err-clause-piece : goal.returns-in-Err-clause-piece
returns-in-Err-clause-piece g c = λ bytes h.
    let t = c.args.self.now in
    let before = g.F.Source.left c.args.feed.now in
    let now = g.F.Source.left c.read.new.feed in
    let piece = c.front.result.now in
    let gave : Consumes before now piece = subst (λ (x : List ℕ). Consumes before now x) (sym c.front.ensures) c.in-Ok.ensures.bytes.0 in
    subst (λ (why : FollowEnd). PieceEnds t bytes before now why) (sym c.end_of.ensures)
    (piece-refused t c.feed.new.self bytes piece before now c.in-Err.why (not-ended t.ended c.if-self.false) (c.in-Err.ensures.stuck [] h.entries bytes h.is) gave)
