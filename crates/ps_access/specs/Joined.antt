-- The Book of tables that are made in parts.
use Rattle.std.specs.Prelude.{ℕ, List}
use Rattle.ps_model.specs.Book.{Book}
use Rattle.ps_access.specs.declared.tables.Places.{Places}
use Rattle.ps_access.specs.declared.tables.Uses.{Uses}
use Rattle.ps_access.specs.declared.tables.People.{People}

abbrev pub joined_book : List ℕ → Places → Uses → People → Book
joined_book service places uses people = record {
  service = service;
  nodes = places.nodes.rows;
  affils = uses.affils.rows;
  subs = uses.subs.rows;
  items = uses.items.rows;
  links = places.links.rows;
  rosters = people.roster.rows;
  resources = people.presence.rows;
  vers = people.cache.rows;
  counts = places.counts.rows;
}
