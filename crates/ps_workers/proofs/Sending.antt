-- The hall may be shared among threads, and a pass may be sent. Said of each type that holds trees, so that no search goes far.
use denote.RattleType.{RattleType}
use denote.Param.Send.{IsSend, IsSync, sendable}
use denote.Param.SendFields.{declared_send, declared_sync, variants_send}
use Rattle.std.proofs.Crossing as std
use Rattle.ps_base.proofs.listed.Listed.TheSendSync as listed
use Rattle.ps_types.proofs.text.Text.TheSendSync as text
use Rattle.ps_types.proofs.jid.Jid.TheSendSync as jid
use Rattle.ps_types.proofs.request.AskRow.TheSendSync as ask_row
use Rattle.ps_types.proofs.rows.Caps.TheSendSync as caps
use Rattle.ps_types.specs.contracts.entry.Entry as Entry
use Rattle.ps_types.specs.contracts.request.Ask as Ask
use Rattle.ps_types.specs.contracts.request.AskItem as AskItem
use Rattle.ps_types.specs.contracts.request.Request as Request
use Rattle.ps_types.specs.contracts.rows.ItemRow as ItemRow
use Rattle.ps_rows.proofs.rows.Rows.TheSendSync as rows
use Rattle.ps_nodes.proofs.nodes.Nodes.TheSendSync as nodes
use Rattle.ps_affil.proofs.affils.Affils.TheSendSync as affils
use Rattle.ps_subs.proofs.subs.Subs.TheSendSync as subs
use Rattle.ps_coll.proofs.links.Links.TheSendSync as links
use Rattle.ps_roster.proofs.roster.Roster.TheSendSync as roster
use Rattle.ps_presence.proofs.presence.Presence.TheSendSync as presence
use Rattle.ps_presence.proofs.cache.Cache.TheSendSync as cache
use Rattle.ps_item_ids.proofs.counts.Counts.TheSendSync as counts
use Rattle.ps_filter.proofs.wants.Wants.TheSendSync as wants
use Rattle.ps_notice_numbers.proofs.tallies.Tallies.TheSendSync as tallies
use Rattle.ps_outbox.proofs.boxes.Outboxes.TheSendSync as outboxes
use Rattle.ps_items.specs.contracts.items.Items as Items
use Rattle.ps_access.specs.contracts.tables.Tables as Tables
use Rattle.ps_fanout.proofs.Shared.{elem_send}
use Rattle.ps_core.proofs.lines.LastLines.TheSendSync as lines
use Rattle.ps_core.proofs.numbers.NumberChange.TheSendSync as numbers
use Rattle.ps_core.specs.contracts.half.Half as Half
use Rattle.ps_core.specs.contracts.service.Kept as Kept
use Rattle.ps_core.specs.contracts.service.Service as Service
use Rattle.ps_core.specs.contracts.service.Service.TheInside as Inside
use Rattle.ps_core.specs.contracts.service.Stage as Stage
use Rattle.ps_record.specs.contracts.batch.Batch as Batch
use Rattle.ps_hall_state.proofs.state.HostRow.TheSendSync as row
use Rattle.ps_hall_state.specs.contracts.state.State as State
use Rattle.ps_disk.specs.declared.device.Disk as Disk
use Rattle.ps_twin.proofs.twin.Twin.TheSendSync as twin
use Rattle.ps_twin.proofs.twin.TwinSeat.TheSendSync as seat
use Rattle.ps_hall.proofs.bell.Bells.TheSendSync as bells
use Rattle.ps_hall_flush.proofs.home.Archive.TheSendSync as archive
use Rattle.ps_hall.specs.contracts.hall.Hall as Hall
use Rattle.ps_hall.specs.contracts.hall.Pass as Pass
use Rattle.ps_hall.specs.contracts.hall.SeatRoom as Room
use Rattle.ps_twin.specs.contracts.twin.TwinSeat as TwinSeat
use Rattle.ps_hall_flush.specs.contracts.home.Archive as Archive
use Rattle.ps_trace.specs.contracts.deed.Deed as Deed
use Rattle.ps_hall_flush.specs.contracts.home.Home as Home
use Rattle.ps_hall_flush.specs.declared.home.Opening as Opening

entry : IsSend Entry.the_row
entry = search (elem_send, text.the_send, std.crosses, sendable) depth 60 fits 20000

item : IsSend AskItem.the_row
item = search (elem_send, text.the_send, listed.the_send, std.crosses, sendable) depth 60 fits 20000

ask : IsSend Ask.the_row
ask = search (item, elem_send, text.the_send, listed.the_send, ask_row.the_send, caps.the_send, std.crosses, sendable) depth 60 fits 20000

request : IsSend Request.the_row
request = declared_send Request.the_type (jid.the_send, (jid.the_send, (text.the_send, (ask, tt))))

item_row : IsSend ItemRow.the_row
item_row = search (elem_send, text.the_send, std.crosses, sendable) depth 60 fits 20000

items : IsSend Items.the_row
items = search (item_row, rows.the_send, sendable) depth 60 fits 20000

tables : IsSend Tables.the_row
tables = declared_send Tables.the_type
    (text.the_send, (nodes.the_send, (affils.the_send, (subs.the_send, (items, (links.the_send, (roster.the_send, (presence.the_send, (cache.the_send, (counts.the_send, tt))))))))))

half : IsSend Half.the_row
half = declared_send Half.the_type (tables, (search (std.crosses, sendable), (lines.the_send, (wants.the_send, (search (std.crosses, sendable), tt)))))

kept : IsSend Kept.the_row
kept = declared_send Kept.the_type (entry, (search (request, std.crosses, sendable) depth 60 fits 20000, tt))

stage : IsSend Stage.the_row
stage = variants_send Stage.enum (tt, ((kept, (numbers.the_send, tt)), ((kept, tt), (tt, tt))))

inside : IsSend Inside.the_row
inside = declared_send Inside.the_type (half, (half, (tallies.the_send, (stage, (search (std.crosses, sendable), tt)))))

service : IsSend Service.the_row
service = search (inside, sendable) depth 60 fits 20000

batch : IsSend Batch.the_row
batch = search (entry, std.crosses, sendable) depth 60 fits 20000

pub state : IsSend State.the_row
state = search (service, batch, outboxes.the_send, row.the_send, std.crosses, sendable) depth 60 fits 20000

pub home : (B : RattleType) → IsSend B → IsSend (Home.the_row B)
home B b = declared_send (Home.the_type B) (state, (search (std.crosses, sendable) depth 20, tt))

module _ (B D : RattleType) (g : Disk.Ghosts D.Denot) (b : IsSend B) (d : IsSend D) where
  stored : IsSend (Archive.the_row B D g)
  stored = search (archive.the_send, d, sendable) depth 20

  seated : IsSend (TwinSeat.the_row (Home.the_row B) (Archive.the_row B D g) Deed.the_row)
  seated = seat.the_send (Home.the_row B) (Archive.the_row B D g) Deed.the_row (home B b) stored

  pub pass : IsSend (Pass.the_row B D g)
  pass = declared_send (Pass.the_type B D g) (
    seated,
    (
      search (std.crosses, sendable),
      (text.the_send, (search (jid.the_send, std.crosses, sendable) depth 20, (search (std.crosses, sendable) depth 20, tt))),
    ),
  )

  module _ (o : Opening.Ghosts B.Denot) where
    room : IsSend (Room.the_row B D o g)
    room = declared_send (Room.the_type B D o g) (search (seated, std.crosses, sendable) depth 20, tt)

    pub hall : IsSync (Hall.the_row B D o g)
    hall = declared_sync (Hall.the_type B D o g) (
      twin.the_sync (Home.the_row B) (Archive.the_row B D g) Deed.the_row _ (record { stands = _; maker = λ d. d.by; firm = _; mark = _ }) (home B b)
          stored,
      (search (room, std.crosses, sendable) depth 20, (bells.the_sync, tt)),
    )
