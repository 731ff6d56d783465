use Rattle.std.proofs.Common.{ℕ, List, Option, refl, sym, ap, subst}
use Rattle.ps_wire.specs.Reading.{Gave, given_of, source_of}
use Rattle.ps_follow_run.specs.Following.{Follows, end_in, held_source, worked}
use Rattle.ps_follow_run.specs.Lines.{SoFar, told}
use Rattle.ps_follow_run.specs.declared.ends.FollowEnd.{FollowEnd}
use Rattle.ps_follow_run.proofs.Finishing.{finish, nothing-done, told_at}
use Rattle.ps_follow_run.proofs.Steps.{begun}
use Rattle.ps_follow_run.proofs.following.follow_input.Goals as goal

pub returns-in-Err : goal.returns-in-Err
returns-in-Err g c =
    nothing-done c.args.host.now (worked g.F.Source g.S.Source g.K.Sink c.args.feed.now c.args.feed.now c.args.input c.in-Err.field-0.source c.args.sink.now c.args.sink.now) refl
    (ap (λ x. held_source g.S.Source x) c.in-Err.ensures.err) refl

pub returns : goal.returns
returns g c =
    let f = g.F.Source in
    let s = g.S.Source in
    let k = g.K.Sink in
    let host = c.args.host.now in
    let n = c.follow_all.new in
    let first = source_of c.in-Ok.lines in
    let last = source_of n.lines in
    let fresh = c.in-Ok.ensures.ok.1 in
    let w = worked f s k c.args.feed.now n.feed first last c.args.sink.now n.sink in
    let start = told f s k c.args.feed.now c.in-Ok.lines c.args.sink.now in
    let so = subst (λ (x : Option (List ℕ)). SoFar host (record { feed = f.left c.args.feed.now; input = x; sink = k.written c.args.sink.now }) start c.args.taking.now 0) fresh.before
    (begun host start c.args.taking.now c.requires.taken) in
    let gave = subst (λ (m : ℕ). Gave (s.left first) (s.left last) m (given_of n.lines)) fresh.given_none c.follow_all.ensures.gave in
    let r = c.follow_all.result in
    let e = c.follow_all.ensures in
    let base = finish host w (told f s k n.feed n.lines n.sink) refl refl (given_of n.lines) gave r n.taking e.feed_later e.input_later e.sink_later e.fault e.taken e.ended e.early
    (e.so (told_at w) so) in
    let by-input = subst (λ x. Follows host (worked f s k c.args.feed.now n.feed x last c.args.sink.now n.sink) (end_in r)) c.in-Ok.ensures.ok.0 base in
    let by-close = subst (λ x. Follows host (worked f s k c.args.feed.now n.feed c.args.input x c.args.sink.now n.sink) (end_in r)) (sym c.close.ensures) by-input in
    subst (λ (x : FollowEnd). Follows host (worked f s k c.args.feed.now n.feed c.args.input c.close.result c.args.sink.now n.sink) x) (sym c.end_of-end.ensures) by-close
