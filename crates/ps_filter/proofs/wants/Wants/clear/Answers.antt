use Rattle.std.proofs.Common.{◌≡◌, sym, subst, ap, ◌∙◌}
use Rattle.ps_base.specs.Rows.{without}
use Rattle.ps_types.specs.Resources.{resources_without}
use Rattle.ps_types.specs.Same.{same_jid}
use Rattle.ps_filter.specs.Wants.{AreWants, is_want_of}
use Rattle.ps_filter.proofs.Following.{follow-without}
use Rattle.ps_filter.proofs.wants.Wants.clear.Goals as goal

pub returns-clause-follows : goal.returns-clause-follows
returns-clause-follows c = λ resources are.
    let who = c.args.resource.now in
    let gone : c.forget.new.rows.rows ≡ without (is_want_of who) c.args.self.now.rows = c.forget.ensures.rows ∙ ap (λ t. without (is_want_of who) t.rows) c.self.view_is in
    subst (λ rows. AreWants rows (resources_without who resources)) (sym gone) (follow-without (same_jid who) c.args.self.now.rows resources are)
