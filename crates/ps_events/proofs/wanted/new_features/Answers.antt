use Rattle.std.proofs.Common.{◌<◌, ◌++◌, ℕ, List, length, arith, ap₂, sym, ◌∙◌}
use Rattle.std.proofs.lemmas.List.Elements.{filter_more}
use Rattle.ps_events.specs.Wanted.{is_new, news}
use Rattle.ps_events.proofs.wanted.new_features.Goals as goal

pub loop-feature-preserved : goal.loop-feature-preserved
loop-feature-preserved c =
    let old = c.args.old.now in
    let all = c.args.new.now in
    let i = c.loop-feature.feature-index in
    let x = c.feature-item.result in
    let less : i < length all = omega arith in
    c.in_ok-add_new.ensures ∙ ap₂ (λ (l : List (List ℕ)) (f : List ℕ). l ++ news old f) c.loop-feature.invariant c.feature-item.is ∙ sym (filter_more (is_new old) all i x less)
