-- The tables as a Book.
use Rattle.ps_model.specs.Book.{Book}
use Rattle.ps_access.specs.declared.tables.Tables.{Tables}

abbrev pub book_of : Tables → Book
book_of t = record {
  service = t.service;
  nodes = t.nodes.rows;
  affils = t.affils.rows;
  subs = t.subs.rows;
  items = t.items.rows;
  links = t.links.rows;
  rosters = t.roster.rows;
  resources = t.presence.rows;
  vers = t.cache.rows;
  counts = t.counts.rows;
}
