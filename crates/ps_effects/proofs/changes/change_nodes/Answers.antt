use Rattle.std.proofs.Common.{◌≡◌, false, sym, subst}
use Rattle.ps_types.specs.declared.node.NodeKey.{NodeKey}
use Rattle.ps_types.specs.Nodes.{stands}
use Rattle.ps_access.specs.Tables.{book_of}
use Rattle.ps_effects.proofs.Accepted.{create_new}
use Rattle.ps_effects.proofs.changes.change_nodes.Goals as goal

pub create_by-requires : goal.create_by-requires
create_by-requires c =
    let new = create_new (book_of c.args.tables.now) c.args.request.now c.in-Create.node c.in-Create.form c.in-Create.is c.requires.accepted in
    record { absent = subst (λ (k : NodeKey). stands k c.args.tables.now.nodes.rows ≡ false) (sym c.in_ok-key-in-Create.ensures.key) new }
