use Rattle.std.proofs.Common.{refl, [], Some, None}
use Rattle.ps_core.proofs.Followed.{row-followed, gone-sets, on_ok}
use Rattle.ps_core.proofs.wanting.follow_row.Goals as goal

pub returns-in-Some : goal.returns-in-Some
returns-in-Some c =
    let wants = c.args.wants.now.rows in
    on_ok c.update.result
    (λ sets. row-followed c.args.who.now (Some c.in-Some.row.now) c.as_slice.result.now wants c.update.new.self.rows c.args.presence.now.rows c.in-Some.ensures.row c.as_slice.ensures sets)
    c.update.ensures.ok

pub returns-in-None : goal.returns-in-None
returns-in-None c =
    let who = c.args.who.now in
    let sets = gone-sets who c.args.wants.now.rows c.clear.new.self.rows c.clear.ensures.rows in
    row-followed who None [] c.args.wants.now.rows c.clear.new.self.rows c.args.presence.now.rows c.in-None.ensures.row refl sets
