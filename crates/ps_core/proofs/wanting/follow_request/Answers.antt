use Rattle.std.proofs.Common.{refl, sym}
use Rattle.ps_core.proofs.Followed.{request-followed, request-stays, on_ok}
use Rattle.ps_core.proofs.wanting.follow_request.Goals as goal

pub returns-then-not-is_of_resource : goal.returns-then-not-is_of_resource
returns-then-not-is_of_resource c =
    request-stays c.args.request.now c.args.presence.now.rows c.args.wants.now.rows c.args.wants.now.rows (sym c.if-not-is_of_resource.ensures) refl

pub returns : goal.returns
returns c =
    on_ok c.follow_row.result (request-followed c.args.request.now c.args.presence.now.rows c.args.wants.now.rows c.follow_row.new.wants.rows (sym c.if-not-is_of_resource.ensures))
    c.follow_row.ensures
