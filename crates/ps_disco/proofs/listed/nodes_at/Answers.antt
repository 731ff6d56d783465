use Rattle.std.proofs.Common.{rules, ◌≡◌, ap, sym, filter, map, ◌∙◌}
use Rattle.ps_types.specs.Address.{jid_text}
use Rattle.ps_types.specs.Nodes.{is_node_of}
use Rattle.ps_types.specs.Shape.{holding}
use Rattle.ps_access.specs.Tables.{book_of}
use Rattle.ps_nodes.specs.Served.{key_in, keys_at}
use Rattle.ps_disco.specs.Entries.{Hold, is_shown, named_at}
use Rattle.ps_disco.proofs.Keyed.{by_keys}
use Rattle.ps_disco.proofs.listed.nodes_at.Goals as goal

pub returns : goal.returns
returns c =
    let r = c.args.request.now in
    let book = book_of c.args.tables.now in
    let rows = c.args.tables.now.nodes.rows in
    let kids : Hold c.in_ok-kids.kids (map (named_at c.args.jid.now) c.keep_shown.new.keys.items) = search rules in
    let shown : c.keep_shown.new.keys.items ≡ filter (is_shown book r) (keys_at r.target rows) = search rules in
    kids
    ∙ (ap (λ ks. holding (map (named_at c.args.jid.now) ks)) shown
    ∙ (ap (λ j. holding (map (named_at j) (filter (is_shown book r) (keys_at r.target rows)))) c.requires.jid
    ∙ ap holding (sym (by_keys key_in (is_node_of r.target) (is_shown book r) (named_at (jid_text r.target)) rows))))
