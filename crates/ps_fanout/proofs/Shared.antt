-- What the parts read may be shared among threads. Said of each type that holds trees, so that no search goes far.
use denote.Param.Send.{IsSend, IsSync, sendable}
use denote.Param.SendFields.{declared_sync}
use Rattle.std.proofs.Crossing as std
use Rattle.ps_types.proofs.text.Text.TheSendSync as text
use Rattle.ps_types.proofs.tree.Elem.TheLaws.TheKnot as tree
use Rattle.ps_drafts.specs.contracts.form.EventForm as Form
use Rattle.ps_types.specs.contracts.tree.Elem as Elem
use Rattle.ps_types.specs.contracts.rows.ItemRow as ItemRow
use Rattle.ps_items.specs.contracts.items.Items as Items
use Rattle.ps_access.specs.contracts.tables.Tables as Tables
use Rattle.ps_rows.proofs.rows.Rows.TheSendSync as rows
use Rattle.ps_nodes.proofs.nodes.Nodes.TheSendSync as nodes
use Rattle.ps_affil.proofs.affils.Affils.TheSendSync as affils
use Rattle.ps_subs.proofs.subs.Subs.TheSendSync as subs
use Rattle.ps_coll.proofs.links.Links.TheSendSync as links
use Rattle.ps_roster.proofs.roster.Roster.TheSendSync as roster
use Rattle.ps_presence.proofs.presence.Presence.TheSendSync as presence
use Rattle.ps_presence.proofs.cache.Cache.TheSendSync as cache
use Rattle.ps_item_ids.proofs.counts.Counts.TheSendSync as counts

pub elem : IsSync Elem.the_row
elem = search (tree.crosses, std.crosses, text.the_sync, sendable) depth 60 fits 20000

pub elem_send : IsSend Elem.the_row
elem_send = search (tree.crosses, std.crosses, text.the_send, sendable) depth 60 fits 20000

pub form : IsSync Form.the_row
form = search (elem, elem_send, text.the_sync, std.crosses, sendable) depth 60 fits 20000

pub form_send : IsSend Form.the_row
form_send = search (elem, elem_send, text.the_send, std.crosses, sendable) depth 60 fits 20000

item : IsSync ItemRow.the_row
item = search (elem, text.the_sync, std.crosses, sendable) depth 60 fits 20000

items : IsSync Items.the_row
items = search (item, rows.the_sync, sendable) depth 60 fits 20000

pub tables : IsSync Tables.the_row
tables = declared_sync Tables.the_type
    (text.the_sync, (nodes.the_sync, (affils.the_sync, (subs.the_sync, (items, (links.the_sync, (roster.the_sync, (presence.the_sync, (cache.the_sync, (counts.the_sync, tt))))))))))
