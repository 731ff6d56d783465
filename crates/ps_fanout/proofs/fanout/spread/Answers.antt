use Rattle.std.proofs.Common.{List, sym, subst}
use Rattle.std.specs.List.{AllByRecursion}
use Rattle.ps_types.specs.Address.{IsAddress}
use Rattle.ps_types.specs.declared.jid.Jid.{Jid}
use Rattle.ps_access.specs.Tables.{book_of}
use Rattle.ps_fanout.proofs.Spread.{candidates-are}
use Rattle.ps_fanout.proofs.fanout.spread.Goals as goal

pub in_order-requires : goal.in_order-requires
in_order-requires g c = record {
  addresses = subst (λ (xs : List Jid). AllByRecursion IsAddress xs) (sym c.in_ok-candidates-in-Some.ensures)
      (candidates-are (book_of c.args.tables.now) c.args.wants.now.rows c.in-Some.news c.requires.addresses c.requires.follows);
}
