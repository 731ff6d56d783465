use Rattle.std.proofs.Common.{[], refl}
use Rattle.ps_follow.proofs.follower.Follower.new.Goals as goal

pub invariant_of-result : goal.invariant_of-result
invariant_of-result c = ([], record { replayed = c.in_ok-new.ensures.empty; logged = c.new-2.ensures.items })

pub returns : goal.returns
returns c = record {
  going = refl;
  stands = record { replayed = c.in_ok-new.ensures.empty; logged = c.new-2.ensures.items };
  fed = record { sent = []; rest = []; taken = tt; split = refl; offset = refl; entries = refl; ends = record { short = refl; part = refl } };
  left = c.new-3.ensures.items;
}
