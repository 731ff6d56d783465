use Rattle.std.proofs.Common.{rules, ◌≡◌, ◌++◌, ◌∷◌, [], ℕ, List, Some, None, ap, ap₂, subst, ◌∙◌}
use Rattle.std.specs.Prelude.{slice_get}
use Rattle.ps_types.specs.declared.jid.Jid.{Jid}
use Rattle.ps_filter.specs.declared.want.Want.{Want}
use Rattle.ps_filter.specs.Names.{IsNameOf}
use Rattle.ps_filter.specs.Wants.{is_wanted}
use Rattle.ps_filter.proofs.Features.{at_place, wanted_more, wanted_same}
use Rattle.ps_filter.proofs.names.asked.Goals as goal

abbrev want : Jid → List ℕ → Want
want who name = record { who = who; name = name }

pub loop-feature-preserved-in_default : goal.loop-feature-preserved-in_default
loop-feature-preserved-in_default c = λ other name.
    let at = at_place c.args.features.now c.loop-feature.feature-index c.feature-item.result c.loop-feature-test.true c.feature-item.is in
    let none = subst (λ o. IsNameOf c.feature-item.result o) c.in_default.is c.name_in.ensures in
    wanted_same c.args.who.now other name c.feature-item.result c.args.features.now c.loop-feature.rows.items c.loop-feature.feature-index at none (c.loop-feature.invariant other name)

pub loop-feature-preserved : goal.loop-feature-preserved
loop-feature-preserved c = λ other name.
    let at = at_place c.args.features.now c.loop-feature.feature-index c.feature-item.result c.loop-feature-test.true c.feature-item.is in
    let got = c.in-Some.name.now in
    let rows = c.loop-feature.rows.items in
    let who : c.in_ok-clone.field-0 ≡ c.args.who.now = search rules in
    let named : c.in_ok-of.field-0 ≡ got = search rules in
    let same : want c.in_ok-clone.field-0 c.in_ok-of.field-0 ≡ want c.args.who.now got = ap₂ want who named in
    let pushed : c.push.new.self.items ≡ rows ++ record { who = c.in_ok-clone.field-0; name = c.in_ok-of.field-0 } ∷ [] = search rules in
    ap (is_wanted other name) (pushed ∙ ap (λ r. rows ++ r ∷ []) same)
    ∙ wanted_more c.args.who.now other name got c.feature-item.result c.args.features.now rows c.loop-feature.feature-index at c.in-Some.ensures (c.loop-feature.invariant other name)
