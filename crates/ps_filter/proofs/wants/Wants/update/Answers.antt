use Rattle.std.proofs.Common.{rules, ◌≡◌, ℕ, ◌&&◌, List, ap, ◌∙◌}
use Rattle.ps_base.specs.Rows.{without}
use Rattle.ps_types.specs.declared.jid.Jid.{Jid}
use Rattle.ps_types.specs.Same.{same_jid}
use Rattle.ps_filter.specs.Wants.{SetsWants, asks_for, is_want_of, is_wanted}
use Rattle.ps_filter.proofs.Following.{follow-set, set-wants}
use Rattle.ps_filter.proofs.wants.Wants.update.Goals as goal

pub returns-clause-ok : goal.returns-clause-ok
returns-clause-ok c =
    let who = c.args.resource.now in
    let kept : c.reserve.new.self.rows ≡ c.args.self.now.rows = c.reserve.ensures.rows ∙ ap (λ t. t.rows) c.self.view_is in
    let left : c.forget.new.rows.rows ≡ without (is_want_of who) c.args.self.now.rows = c.forget.ensures.rows ∙ ap (without (is_want_of who)) kept in
    let comes : (other : Jid) (name : List ℕ) → is_wanted other name c.in_ok-more.more.items ≡ (same_jid who other && asks_for name c.args.features.now) = search rules in
    set-wants who c.args.features.now c.args.self.now.rows c.forget.new.rows.rows c.in_ok-more.more.items c.add_all.new.rows.rows left comes c.add_all.ensures

pub returns-clause-follows : goal.returns-clause-follows
returns-clause-follows c = λ resources row are w f.
    let sets : SetsWants c.args.resource.now c.args.features.now c.args.self.now.rows c.add_all.new.rows.rows = returns-clause-ok c in
    follow-set c.args.resource.now c.args.features.now c.args.self.now.rows c.add_all.new.rows.rows resources row sets are w f
