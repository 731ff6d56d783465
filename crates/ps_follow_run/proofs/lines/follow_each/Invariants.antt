use Rattle.std.proofs.Common.{◌≡◌, ◌≤◌, ◌+◌, ◌^◌, None}
use Rattle.ps_wire.specs.Reading.{Gave, budget_of, given_of, source_of, stopped_of}
use Rattle.ps_follow_run.specs.Lines.{SoFar, Told, told}
use Rattle.ps_follow_run.specs.Pieces.{HasBegun}
use Rattle.ps_follow_run.proofs.lines.follow_each.Given as goal

abbrev pub invariant-lines : goal.invariant-lines
invariant-lines g l = record {
  going : stopped_of l.lines ≡ None;
  begun : HasBegun l.taking (g.F.Source.left l.feed);
  so : (before : Told) → SoFar l.host before (told g.F.Source g.S.Source g.K.Sink l.initial.feed l.initial.lines l.initial.sink) l.initial.taking 0
      → SoFar l.host before (told g.F.Source g.S.Source g.K.Sink l.feed l.lines l.sink) l.taking l.line;
  gave : Gave (g.S.Source.left (source_of l.initial.lines)) (g.S.Source.left (source_of l.lines)) (given_of l.initial.lines) (given_of l.lines);
  feed_later : g.F.Source.faults l.initial.feed ≤ g.F.Source.faults l.feed;
  input_later : g.S.Source.faults (source_of l.initial.lines) ≤ g.S.Source.faults (source_of l.lines);
  sink_later : g.K.Sink.faults l.initial.sink ≤ g.K.Sink.faults l.sink;
  bound : l.line + budget_of l.lines ≤ 2 ^ 40;
}

abbrev pub decreases-lines : goal.decreases-lines
decreases-lines g l = budget_of l.lines
