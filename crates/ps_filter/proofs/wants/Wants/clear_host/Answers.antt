use Rattle.std.proofs.Common.{◌≡◌, sym, subst, ap, ◌∙◌}
use Rattle.std.specs.Prelude.{bytes_eq}
use Rattle.ps_base.specs.Rows.{without}
use Rattle.ps_types.specs.Resources.{resources_off}
use Rattle.ps_filter.specs.Wants.{AreWants, is_want_on}
use Rattle.ps_filter.proofs.Alike.{on_host}
use Rattle.ps_filter.proofs.Following.{follow-without}
use Rattle.ps_filter.proofs.wants.Wants.clear_host.Goals as goal

pub take_away-requires : goal.take_away-requires
take_away-requires c = record { asks = on_host c.args.host.now }

pub returns-clause-follows : goal.returns-clause-follows
returns-clause-follows c = λ resources are.
    let host = c.args.host.now in
    let gone : c.take_away.new.self.rows ≡ without (is_want_on host) c.args.self.now.rows = c.take_away.ensures.rows ∙ ap (λ t. without (is_want_on host) t.rows) c.self.view_is in
    subst (λ rows. AreWants rows (resources_off host resources)) (sym gone) (follow-without (λ who. bytes_eq host who.host) c.args.self.now.rows resources are)
