use Rattle.std.proofs.Common.{sym, subst}
use Rattle.ps_follow.specs.Followed.{Has}
use Rattle.ps_follow.specs.View.{Following}
use Rattle.ps_follow.proofs.follower.Follower.feed.Goals as goal

pub returns-in-Err-clause-stuck : goal.returns-in-Err-clause-stuck
returns-in-Err-clause-stuck g c = λ E F stream is.
    let s = c.in-Err.ensures.stuck E F stream is in
    record { entries = s.entries; stands = subst (λ (f : Following). Has f s.entries) (sym c.self-2.view_is) s.stands; refused = s.refused }
