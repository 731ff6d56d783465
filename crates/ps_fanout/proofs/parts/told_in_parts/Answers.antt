use Rattle.std.proofs.Common.{rules, ◌≡◌, ◌<◌, ℕ, List, length, subst}
use Rattle.std.specs.Prelude.{IfOk, slice_index_or}
use Rattle.std.specs.Fork.{slice_chunk}
use Rattle.std.proofs.lemmas.Result.{IfOk-weaker}
use denote.Param.Send.{sendable}
use Rattle.std.proofs.Crossing as std
use Rattle.ps_types.specs.declared.jid.Jid.{Jid}
use Rattle.ps_types.proofs.config.NodeConfig.TheSendSync as config
use Rattle.ps_types.proofs.node.NodeKey.TheSendSync as key
use Rattle.ps_filter.proofs.wants.Wants.TheSendSync as wants
use Rattle.ps_access.specs.Tables.{book_of}
use Rattle.ps_fanout.specs.Hearing.{hears}
use Rattle.ps_fanout.specs.Parts.{Joins, Part}
use Rattle.ps_fanout.specs.Told.{given_to}
use Rattle.ps_fanout.proofs.Pieces.{joined-pieces}
use Rattle.ps_fanout.proofs.Shared.{elem, elem_send, form, form_send, tables}
use Rattle.ps_fanout.proofs.parts.told_in_parts.Goals as goal

pub map_chunks-requires-sync-F : goal.map_chunks-requires-sync-F
map_chunks-requires-sync-F g c κs within = search (tables, wants.the_sync, elem, elem_send, form, form_send, config.the_sync, key.the_sync, std.crosses, sendable) depth 60 fits 20000

each : (g : _) (c : goal.After-joined g) (n : ℕ) (d : Part) → n < length c.in_ok-parts.parts.items
    → IfOk (slice_index_or c.in_ok-parts.parts.items n d) (λ v. v.items ≡ given_to (hears (book_of c.args.tables.now) c.args.news.now) (slice_chunk c.args.whos.now c.part_of-size.result n))
each g c n d less =
    let one = (c.in_ok-parts.ensures.each n d less).1 in
    subst (λ (xs : List Jid). IfOk (slice_index_or c.in_ok-parts.parts.items n d) (λ v. v.items ≡ given_to (hears (book_of c.args.tables.now) c.args.news.now) xs)) one.argument_is.value
    (let call = one.call in search rules)

pub returns : goal.returns
returns g c =
    IfOk-weaker c.joined.result (λ told. Joins c.in_ok-parts.parts.items told.items) (λ told. told.items ≡ given_to (hears (book_of c.args.tables.now) c.args.news.now) c.args.whos.now)
    (λ told is. joined-pieces (hears (book_of c.args.tables.now) c.args.news.now) c.part_of-size.result c.in_ok-parts.parts.items c.args.whos.now told.items c.part_of-size.ensures (search rules)
    (each g c) is)
    c.joined.ensures
