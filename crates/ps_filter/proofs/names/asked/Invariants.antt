use Rattle.std.proofs.Common.{◌≡◌, ℕ, ◌&&◌, List, take}
use Rattle.ps_types.specs.declared.jid.Jid.{Jid}
use Rattle.ps_types.specs.Same.{same_jid}
use Rattle.ps_filter.specs.Wants.{asks_for, is_wanted}
use Rattle.ps_filter.proofs.names.asked.Given as goal

abbrev pub invariant-loop-feature : goal.invariant-loop-feature
invariant-loop-feature l = (other : Jid) (name : List ℕ) → is_wanted other name l.rows.items ≡ (same_jid l.who other && asks_for name (take l.feature-index l.features))
