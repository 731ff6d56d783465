-- Entries of the rows at places.
use Rattle.std.proofs.Common.{◌≡◌, ◌+◌, ◌<◌, ℕ, suc, List, ◌++◌, ap, subst, ◌∙◌, take, length, get_or, arith}
use Rattle.std.specs.Prelude.{slice_get}
use Rattle.std.proofs.lemmas.List.{map-append}
use Rattle.ps_types.specs.declared.rows.NodeRow.{NodeRow}
use Rattle.ps_types.specs.declared.tree.Child.TheVariants as child
use Rattle.ps_nodes.proofs.Places.{number_at, rows_at-more}
use Rattle.ps_nodes.specs.Places.{option_list, rows_at}
use Rattle.ps_disco.specs.Entries.{row_at, row_children}
use Rattle.ps_disco.specs.Held.{children_at}

-- the entry of the row at one place more
pub entries-more : (jid : List ℕ) (places : List ℕ) (at : ℕ) (rows : List NodeRow) → at < length places
    → row_children jid (rows_at (take (at + 1) places) rows) ≡ row_children jid (rows_at (take at places) rows) ++ children_at jid (get_or places at 0) rows
entries-more jid places at rows l =
    let e : suc at ≡ at + 1 = omega arith in
    let place = get_or places at 0 in
    let before = rows_at (take at places) rows in
    subst (λ n. row_children jid (rows_at (take n places) rows) ≡ row_children jid before ++ children_at jid place rows) e
    (ap (row_children jid) (rows_at-more places at place rows (number_at places at l)) ∙ map-append (λ row. child.Tree (row_at jid row)) before (option_list (slice_get rows place)))
