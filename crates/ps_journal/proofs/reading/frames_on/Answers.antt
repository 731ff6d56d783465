use Rattle.std.proofs.Common.{◌≡◌, ◌+◌, ◌-◌, ℕ, None, List, [], ◌++◌, ◌∙◌, length, drop, ap, sym, subst, arith, length-drop}
use Rattle.ps_record.proofs.Pieces.{IsBytes}
use Rattle.ps_model.specs.Damage.{BadFrame}
use Rattle.ps_journal.specs.Judged.{stride_at}
use Rattle.ps_journal.specs.Pieces.{IsHeld, StrideStands, behind_in, onward}
use Rattle.ps_journal.specs.declared.judging.Placed.{Placed}
use Rattle.ps_journal.proofs.Verdicts.{bad_frame}
use Rattle.ps_journal.proofs.Readings.{PiecesSoFar, at_start, so_far, none_read, then_read, frame_fits, frame_size, behind_size, pieces_more}
use Rattle.ps_journal.proofs.reading.frames_on.Goals as goal

pub frames-init : goal.frames-init
frames-init g c =
    let D = g.D.Disk in
    let seen = D.seen c.args.disk.now in
    let empty = c.new.ensures.items in (
      subst (λ (l : List Placed). PiecesSoFar D.tells g.T.Taker.refused seen c.args.second l None 8) (sym c.new-trail.ensures) (at_start D.tells g.T.Taker.refused seen c.args.second),
      λ start s. subst (λ (l : List Placed). g.T.Taker.stands start c.args.taker.now l) (sym c.new-trail.ensures) s,
      record {
        from = omega arith;
        within = omega arith;
        ends = omega (arith, ap length empty, c.requires.long);
        stands = λ t. record { more = drop 8 seen; split = ap (λ (l : List ℕ). l ++ drop 8 seen) (sym empty) };
      },
      none_read D.tells D.seen D.synced D.written D.moment D.left_since D.faults (λ d f left. g.met.D.Disk.only_now d f left) c.args.disk.now,
    )

pub returns-in-Bad-clause-bad : goal.returns-in-Bad-clause-bad
returns-in-Bad-clause-bad g c t =
    let D = g.D.Disk in
    let refused = g.T.Taker.refused in
    let seen = D.seen c.args.disk.now in
    let inv = c.frames.invariant in
    let items = c.frames.trail.items in
    let s = so_far D.tells refused seen items c.frames.stop c.frames.at c.args.second t (c.requires.second t) inv.0 in
    let there = subst (λ (l : List ℕ). StrideStands l c.frames.at (behind_in c.in-Ok.piece c.frames.at)) inv.3.same_seen (c.in-Ok.ensures.tells t) in
    let is = there.same ∙ ap (λ (l : List ℕ). onward there.more (stride_at l)) (sym c.behind.ensures) ∙ ap (onward there.more) (sym c.in-Bad.ensures.value) in
    let here : length seen - length (drop c.frames.at seen) ≡ c.frames.at = omega (arith, length-drop c.frames.at seen, inv.2.within, inv.2.ends, c.requires.total t) in
    subst (BadFrame seen) here
    (bad_frame refused seen items c.frames.stop (drop c.frames.at seen) (c.requires.header t) s is)

pub more_entries-next-requires-clause-fits : goal.more_entries-next-requires-clause-fits
more_entries-next-requires-clause-fits g c =
    let fits : IsBytes c.behind.result.now = c.in-Frame.ensures.fits in
    frame_fits c.behind.result.now c.in-Frame.body.now c.in-Frame.field-1.now fits (sym c.in-Frame.ensures.value)

pub frames-preserved : goal.frames-preserved
frames-preserved g c =
    let D = g.D.Disk in
    let refused = g.T.Taker.refused in
    let seen = D.seen c.args.disk.now in
    let inv = c.frames.invariant in
    let at = c.frames.at in
    let rest = c.behind.result.now in
    let b = c.in-Frame.body.now in
    let held = c.in-Ok.ensures.held in
    let fits : IsBytes rest = c.in-Frame.ensures.fits in
    let size = frame_size rest b c.in-Frame.field-1.now fits (sym c.in-Frame.ensures.value) in
    let has = behind_size D.tells (D.seen c.frames.disk) c.args.total at c.in-Ok.piece held in
    let judged = c.in-Ok-next.ensures.judged inv.0.bodies inv.0.judged (ap (λ (n : ℕ). n + 5) inv.0.stands) in (
      pieces_more D.tells refused seen c.args.second c.frames.trail.items c.frames.stop at inv.0 rest b c.in-Frame.field-1.now c.more_entries-next.new.trail.items c.in-Ok-next.next fits (sym c.in-Frame.ensures.value) judged c.requires.header
          (λ t. let there = c.in-Ok.ensures.tells t in record { more = there.more; split = ap (λ (l : List ℕ). drop at l) (sym inv.3.same_seen) ∙ there.split ∙ ap (λ (l : List ℕ). l ++ there.more) (sym c.behind.ensures) }),
      λ start s. c.in-Ok-next.ensures.stands start (inv.1 start s),
      record {
        from = omega (arith, held.from);
        within = omega (arith, size, has, ap length c.behind.ensures, held.from, held.within);
        ends = held.ends;
        stands = λ t. let there = held.stands t in record { more = there.more; split = ap (λ (l : List ℕ). drop c.in-Ok.piece.from l) c.in-Ok.ensures.reads.same_seen ∙ there.split };
      },
      then_read D.tells D.seen D.synced D.written D.moment D.left_since D.faults c.args.disk.now c.frames.disk c.hold.new.disk inv.3 c.in-Ok.ensures.reads,
    )
