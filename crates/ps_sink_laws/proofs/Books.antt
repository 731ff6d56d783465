-- A Book whose rows are of texts and addresses alone.
use Rattle.std.proofs.Common.{◌≡◌, true, List, [], ◌∷◌, Option, Some, None, IsUtf8, refl}
use Rattle.std.specs.Prelude.{is_some}
use Rattle.std.specs.List.{AllByRecursion as Each}
use Rattle.ps_types.specs.declared.config.NodeConfig.{NodeConfig}
use Rattle.ps_types.specs.declared.node.NodeKey.{NodeKey}
use Rattle.ps_types.specs.declared.rows.AffilRow.{AffilRow}
use Rattle.ps_types.specs.declared.rows.NodeRow.{NodeRow}
use Rattle.ps_types.specs.declared.rows.SubRow.{SubRow}
use Rattle.ps_types.specs.Address.{IsAddress}
use Rattle.ps_types.specs.Nodes.{node_at}
use Rattle.ps_model.specs.Book.{Book}
use Rattle.ps_book_laws.specs.Addressed.{NamesAddresses}
use Rattle.ps_book_laws.specs.Rows.{IsAffilRow, IsSubRow}
use Rattle.ps_book_laws.specs.Sound.{IsSound}
use Rattle.ps_book_laws.proofs.AddressedKinds as by_address
use Rattle.ps_book_laws.proofs.AddressedKinds.{rows-named}
use Rattle.ps_compact_laws.proofs.Drafts.{found-key}
use Rattle.ps_compact_laws.proofs.Printable.{IsPrintable, NodeIs}

pub record AffilIs (r : AffilRow) : Type 0 where
  pub who : IsAddress r.who
  pub name : IsUtf8 r.node.name

pub record SubIs (r : SubRow) : Type 0 where
  pub who : IsAddress r.who
  pub name : IsUtf8 r.node.name

-- the texts of a configuration
pub record IsConfigText (c : NodeConfig) : Type 0 where
  pub title : IsUtf8 c.title
  pub groups : Each IsUtf8 c.roster_groups_allowed
  pub collection : IsUtf8 c.collection

abbrev pub NodeText : NodeRow → Type 0
NodeText r = IsConfigText r.config

pub record BookIs (b : Book) : Type 0 where
  pub rows : IsPrintable b
  pub affils : Each AffilIs b.affils
  pub subs : Each SubIs b.subs
  pub configs : Each NodeText b.nodes

name-of : (k : NodeKey) (nodes : List NodeRow) (o : Option NodeRow) → node_at k nodes ≡ o → is_some o ≡ true → Each NodeIs nodes → IsUtf8 k.name
name-of k nodes None e h are = absurd (cc h)
name-of k nodes (Some row) e h are = (found-key k nodes row are e).name.text

affils-are : (nodes : List NodeRow) (rows : List AffilRow) → Each NodeIs nodes → Each (by_address.AffilIs) rows → Each (IsAffilRow nodes) rows → Each AffilIs rows
affils-are nodes [] are own stand = tt
affils-are nodes (r ∷ rows) are own stand = (record { who = own.0; name = name-of r.node nodes (node_at r.node nodes) refl stand.0.stands are }, affils-are nodes rows are own.1 stand.1)

subs-are : (nodes : List NodeRow) (rows : List SubRow) → Each NodeIs nodes → Each (by_address.SubIs) rows → Each (IsSubRow nodes) rows → Each SubIs rows
subs-are nodes [] are own stand = tt
subs-are nodes (r ∷ rows) are own stand = (record { who = own.0; name = name-of r.node nodes (node_at r.node nodes) refl stand.0.stands are }, subs-are nodes rows are own.1 stand.1)

pub book-is : (b : Book) → IsPrintable b → NamesAddresses b → IsSound b → Each NodeText b.nodes → BookIs b
book-is b rows names sound configs =
    let own = rows-named b names in
    record { rows = rows; affils = affils-are b.nodes b.affils rows.nodes own.affils sound.affils; subs = subs-are b.nodes b.subs rows.nodes own.subs sound.subs; configs = configs }
