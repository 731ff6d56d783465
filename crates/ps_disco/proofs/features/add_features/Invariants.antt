use Rattle.std.proofs.Common.{◌≡◌, ◌++◌, filter, map, take}
use Rattle.ps_disco.specs.Features.{children_of, is_offered}
use Rattle.ps_disco.proofs.features.add_features.Given as goal

abbrev pub invariant-loop-var : goal.invariant-loop-var
invariant-loop-var l = l.kids ≡ l.fn.kids ++ children_of (filter (is_offered l.at_account) (map (λ var. var.now) (take l.var-index l.vars)))
