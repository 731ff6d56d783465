use Rattle.std.proofs.Common.{◌≡◌, true, List, sym, subst, ◌∙◌}
use Rattle.std.specs.Prelude.{IfOk}
use Rattle.ps_types.specs.Tree.{Tree}
use Rattle.ps_types.specs.declared.jid.Jid.{Jid}
use Rattle.ps_access.specs.Tables.{book_of}
use Rattle.ps_fanout.specs.Told.{is_of_node}
use Rattle.ps_fanout.proofs.Spread.{spread-told}
use Rattle.ps_fanout.proofs.fanout.drafts.Goals as goal

pub returns : goal.returns
returns g c =
    let of_node : is_of_node c.args.event.now ≡ true = sym c.is_of_node.ensures ∙ c.if-not-is_of_node.false in
    record {
      told = subst (λ (xs : List (Jid × Tree)). IfOk c.spread.result (λ v. v.items ≡ xs))
          (spread-told (book_of c.args.tables.now) c.args.wants.now.rows c.args.event.now c.in_ok-news.news c.requires.addresses c.requires.follows of_node c.in_ok-news.ensures) c.spread.ensures;
    }
