-- Outcasts.
use Rattle.std.proofs.Common.{◌≡◌, true, refl, Option, Some, None}
use Rattle.std.specs.Prelude.{is_some}
use Rattle.ps_types.specs.declared.denial.Condition.TheVariants.{C11}
use Rattle.ps_types.specs.declared.denial.Verdict.TheVariants.{Denied}
use Rattle.ps_types.specs.declared.jid.Jid.{Jid}
use Rattle.ps_types.specs.declared.node.NodeKey.{NodeKey}
use Rattle.ps_types.specs.declared.rows.Affil.TheVariants.{Outcast}
use Rattle.ps_types.specs.declared.rows.NodeRow.{NodeRow}
use Rattle.ps_types.specs.Nodes.{node_at, stands}
use Rattle.ps_model.specs.Access.{affiliation, own, publish_at, read_at, subscribe_at}
use Rattle.ps_model.specs.Book.{Book}

module _ (book : Book) (node : NodeKey) (who : Jid) (out : affiliation book node who ≡ Outcast) where
  abbrev Forbidden : Option NodeRow → Type 0
  Forbidden found = (read_at found book node who ≡ Denied C11) × (subscribe_at found book node who ≡ Denied C11) × (publish_at found book node who ≡ Denied C11) × (own book node who ≡ Denied C11)

  forbidden : (found : Option NodeRow) → is_some found ≡ true → Forbidden found
  forbidden None h = absurd (cc)
  forbidden (Some row) h = (rw out refl, rw out refl, rw out refl, rw out refl)

  pub outcast : stands node book.nodes ≡ true → Forbidden (node_at node book.nodes)
  outcast h = forbidden (node_at node book.nodes) h
