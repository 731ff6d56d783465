-- When lists of rows are equal, by the rows' own equality.
use Rattle.std.specs.Prelude.{Bool, List}
use Rattle.std.specs.Cmp.Lexicographic.{pointwise}
use Rattle.ps_types.specs.declared.config.NodeConfig.{NodeConfig}
use Rattle.ps_types.specs.declared.rows.NodeRow.{NodeRow}
use Rattle.ps_types.specs.declared.rows.AffilRow.{AffilRow}
use Rattle.ps_types.specs.declared.rows.SubRow.{SubRow}
use Rattle.ps_types.specs.declared.rows.RosterRow.{RosterRow}
use Rattle.ps_types.specs.declared.rows.ResourceRow.{ResourceRow}
use Rattle.ps_types.specs.declared.rows.VerRow.{VerRow}
use Rattle.ps_types.specs.declared.rows.Caps.{Caps}
use Rattle.ps_types.specs.contracts.config.NodeConfigPartialEq.TheImpl as config
use Rattle.ps_types.specs.contracts.rows.NodeRowPartialEq.TheImpl as node
use Rattle.ps_types.specs.contracts.rows.AffilRowPartialEq.TheImpl as affil
use Rattle.ps_types.specs.contracts.rows.SubRowPartialEq.TheImpl as sub
use Rattle.ps_types.specs.contracts.rows.RosterRowPartialEq.TheImpl as contact
use Rattle.ps_types.specs.contracts.rows.ResourceRowPartialEq.TheImpl as resource
use Rattle.ps_types.specs.contracts.rows.VerRowPartialEq.TheImpl as ver
use Rattle.ps_types.specs.contracts.rows.CapsPartialEq.TheImpl as caps

abbrev pub same_config : NodeConfig → NodeConfig → Bool
same_config a b = config.eq-value.it a b

abbrev pub same_caps : Caps → Caps → Bool
same_caps a b = caps.eq-value.it a b

abbrev pub same_nodes : List NodeRow → List NodeRow → Bool
same_nodes xs ys = pointwise node.eq-value.it xs ys

abbrev pub same_affils : List AffilRow → List AffilRow → Bool
same_affils xs ys = pointwise affil.eq-value.it xs ys

abbrev pub same_subs : List SubRow → List SubRow → Bool
same_subs xs ys = pointwise sub.eq-value.it xs ys

abbrev pub same_rosters : List RosterRow → List RosterRow → Bool
same_rosters xs ys = pointwise contact.eq-value.it xs ys

abbrev pub same_resources : List ResourceRow → List ResourceRow → Bool
same_resources xs ys = pointwise resource.eq-value.it xs ys

abbrev pub same_vers : List VerRow → List VerRow → Bool
same_vers xs ys = pointwise ver.eq-value.it xs ys
