use Rattle.std.proofs.Common.{rules, ◌≡◌, ap, map, ◌∙◌}
use Rattle.std.specs.Map.{values_of}
use Rattle.ps_model.specs.Sorted.{sorted}
use Rattle.ps_filter.specs.Printed.{printed}
use Rattle.ps_filter.proofs.Places.{values-printed}
use Rattle.ps_filter.proofs.sorted.sorted.Goals as goal

pub returns : goal.returns
returns c =
    let whos = sorted (map (λ want. want.who) c.args.wants.now) in
    let all : c.in_ok-collect.field-0.items ≡ values_of c.in_ok-found.found.entries = search rules in
    let order : c.in_ok-found.found.entries ≡ printed whos = search rules in
    all ∙ (ap values_of order ∙ values-printed whos)
