use Rattle.std.proofs.Common.{inl, inr}
use Rattle.std.proofs.lemmas.Result.{on_ok_weaker}
use Rattle.ps_streams.proofs.read.flush_to_wait.Goals as goal

pub returns-then-holds_line-clause-waits : goal.returns-then-holds_line-clause-waits
returns-then-holds_line-clause-waits g c = inl (c.holds_line.ensures.some c.if-holds_line.true)

pub returns-clause-waits : goal.returns-clause-waits
returns-clause-waits g c = on_ok_weaker c.flush_all.result (λ kept. inr kept) c.flush_all.ensures.kept
