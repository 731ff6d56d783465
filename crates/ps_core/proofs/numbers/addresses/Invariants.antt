use Rattle.std.proofs.Common.{◌≡◌, map, take}
use Rattle.ps_core.proofs.numbers.addresses.Given as goal

abbrev pub invariant-loop-notice : goal.invariant-loop-notice
invariant-loop-notice l = l.whos.items ≡ map (λ n. n.to) (take l.notice-index l.notices)
