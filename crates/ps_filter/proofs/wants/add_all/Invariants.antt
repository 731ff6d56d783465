use Rattle.std.proofs.Common.{◌≡◌, ◌≤◌, ℕ, ◌||◌, List, length}
use Rattle.ps_types.specs.declared.jid.Jid.{Jid}
use Rattle.ps_filter.specs.Wants.{is_wanted}
use Rattle.ps_filter.proofs.wants.add_all.Given as goal

abbrev pub invariant-loop-row : goal.invariant-loop-row
invariant-loop-row l = record {
  all : (who : Jid) (name : List ℕ) → (is_wanted who name l.rows.rows || is_wanted who name l.more.items) ≡ (is_wanted who name l.fn.rows.rows || is_wanted who name l.fn.more.items);
  room : length l.more.items ≤ l.rows.spare;
}

abbrev pub decreases-loop-row : goal.decreases-loop-row
decreases-loop-row l = length l.more.items
