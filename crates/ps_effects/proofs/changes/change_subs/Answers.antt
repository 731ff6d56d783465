use Rattle.std.proofs.Common.{◌≡◌, true, sym, subst}
use Rattle.ps_types.specs.declared.node.NodeKey.{NodeKey}
use Rattle.ps_types.specs.Nodes.{stands}
use Rattle.ps_access.specs.Tables.{book_of}
use Rattle.ps_effects.proofs.Accepted.{subscribe_there}
use Rattle.ps_effects.proofs.changes.change_subs.Goals as goal

pub subscribe-requires : goal.subscribe-requires
subscribe-requires c =
    let there = subscribe_there (book_of c.args.tables.now) c.args.request.now c.in-Subscribe.node c.in-Subscribe.who c.in-Subscribe.form c.in-Subscribe.is c.requires.accepted in
    record { stands = subst (λ (k : NodeKey). stands k c.args.tables.now.nodes.rows ≡ true) (sym c.in_ok-key-in-Subscribe.ensures.key) there }
