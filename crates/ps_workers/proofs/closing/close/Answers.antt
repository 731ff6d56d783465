use Rattle.ps_hall.specs.Passes.{seats_in}
use Rattle.ps_workers.proofs.LastFrame.{ended_broken, ended_last, may_write}
use Rattle.ps_workers.proofs.closing.close.Goals as goal

pub frame_of-frame-requires : goal.frame_of-frame-requires
frame_of-frame-requires g c = record { standing = (_, c.close-state.ensures.home.stands) }

pub append-requires : goal.append-requires
append-requires g c = record {
  some = may_write g.B.Opening.origin c.close-state.result.0 c.frame_of-frame.new.state c.close-state.result.1 c.frame_of-frame.result (seats_in c.args.passes.items)
      c.close-state.ensures c.frame_of-frame.ensures;
}

pub returns-then-state : goal.returns-then-state
returns-then-state g c = ended_broken g.B.Opening.origin c.close-state.result.0 c.frame_of-frame.new.state c.close-state.result.1 c.frame_of-frame.result (seats_in c.args.passes.items)
    c.close-state.ensures c.frame_of-frame.ensures c.if-state.true

pub returns : goal.returns
returns g c =
    let e = c.append.ensures in
    ended_last g.B.Opening.origin c.close-state.result.0 c.frame_of-frame.new.state c.close-state.result.1 c.frame_of-frame.result (seats_in c.args.passes.items) c.close-state.ensures
    c.frame_of-frame.ensures c.append.new.self c.append.result c.if-state.false e.ok e.err e.mark e.grows e.firm e.firm_same
