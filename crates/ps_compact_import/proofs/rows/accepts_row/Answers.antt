use Rattle.std.proofs.Common.{◌∙◌}
use Rattle.ps_access.specs.Tables.{book_of}
use Rattle.ps_compact_import.proofs.Said.{accepted-said, notice-said}
use Rattle.ps_compact_import.proofs.rows.accepts_row.Goals as goal

pub returns-in-Node : goal.returns-in-Node
returns-in-Node c =
    let tallies = c.args.tallies.now.rows in
    record { accepted = accepted-said tallies (book_of c.args.tables.now) c.args.row.now _ _ c.in-Node.is (c.accepts_node.ensures.accepted tallies) }

pub returns-in-Affiliation : goal.returns-in-Affiliation
returns-in-Affiliation c =
    let tallies = c.args.tallies.now.rows in
    record { accepted = accepted-said tallies (book_of c.args.tables.now) c.args.row.now _ _ c.in-Affiliation.is (c.accepts_affil.ensures.accepted tallies) }

pub returns-in-Subscription : goal.returns-in-Subscription
returns-in-Subscription c =
    let tallies = c.args.tallies.now.rows in
    record { accepted = accepted-said tallies (book_of c.args.tables.now) c.args.row.now _ _ c.in-Subscription.is (c.accepts_sub.ensures.accepted tallies) }

pub returns-in-Item : goal.returns-in-Item
returns-in-Item c =
    let tallies = c.args.tallies.now.rows in
    record { accepted = accepted-said tallies (book_of c.args.tables.now) c.args.row.now _ _ c.in-Item.is (c.accepts_item.ensures.accepted tallies) }

pub returns-in-Link : goal.returns-in-Link
returns-in-Link c =
    let tallies = c.args.tallies.now.rows in
    record { accepted = accepted-said tallies (book_of c.args.tables.now) c.args.row.now _ _ c.in-Link.is (c.accepts_link.ensures.accepted tallies) }

pub returns-in-Contact : goal.returns-in-Contact
returns-in-Contact c =
    let tallies = c.args.tallies.now.rows in
    record { accepted = accepted-said tallies (book_of c.args.tables.now) c.args.row.now _ _ c.in-Contact.is (c.accepts_contact.ensures.accepted tallies) }

pub returns-in-Ver : goal.returns-in-Ver
returns-in-Ver c =
    let tallies = c.args.tallies.now.rows in
    record { accepted = accepted-said tallies (book_of c.args.tables.now) c.args.row.now _ _ c.in-Ver.is (c.accepts_ver.ensures.accepted tallies) }

pub returns-in-Made : goal.returns-in-Made
returns-in-Made c =
    let tallies = c.args.tallies.now.rows in
    record { accepted = accepted-said tallies (book_of c.args.tables.now) c.args.row.now _ _ c.in-Made.is (c.accepts_count.ensures.accepted tallies) }

pub returns-in-Counter : goal.returns-in-Counter
returns-in-Counter c =
    let book = book_of c.args.tables.now in
    record { accepted = accepted-said c.args.tallies.now.rows book c.args.row.now _ _ c.in-Counter.is (c.accepts_counter.ensures.accepted book) }

pub returns-in-Notice : goal.returns-in-Notice
returns-in-Notice c =
    let same = c.as_bytes.ensures.value ∙ c.as_str.ensures.value in
    record {
      accepted = notice-said c.args.tallies.now.rows (book_of c.args.tables.now) c.args.row.now c.in-Notice.to c.in-Notice.line _ _ c.in-Notice.is same c.accepts_notice.ensures.accepted;
    }
