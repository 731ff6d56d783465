use Rattle.std.proofs.Common.{rules, arith, append_assoc, ◌≡◌, ◌++◌, ◌∷◌, [], ◌-◌, ◌<◌, ◌∙◌, ℕ, zero, suc, List, Some}
use Rattle.ps_types.specs.declared.node.NodeKey.{NodeKey}
use Rattle.ps_types.specs.declared.rows.LinkRow.{LinkRow}
use Rattle.ps_types.specs.Links.{climb, collection_of, above}
use Rattle.std.specs.Prelude.{option_copied}
use Rattle.ps_coll.proofs.climb.ancestors_of.Goals as goal

-- one step up
step : (left : ℕ) (nodes : List NodeKey) (key : NodeKey) (rows : List LinkRow) → 0 < left → (nodes ++ key ∷ []) ++ climb (left - 1) (collection_of key rows) rows ≡ nodes ++ climb left (Some key) rows
step zero nodes key rows h = absurd (omega arith)
step (suc n) nodes key rows h = let e : suc n - 1 ≡ n = omega arith in rw e (append_assoc nodes (key ∷ []) (climb n (collection_of key rows) rows))

pub loop-left-preserved : goal.loop-left-preserved
loop-left-preserved c =
    let rows = c.args.rows.now.rows in
    let key = c.in-Some.key.now in
    let same : c.in_ok-clone-in-Some.field-0 ≡ key = search rules in
    let before : c.loop-left.nodes.items ++ climb c.loop-left.left (Some key) rows ≡ above c.args.node.now rows = rw c.in-Some.is at c.loop-left.invariant in
    let pushed : c.push.new.self.items ≡ c.loop-left.nodes.items ++ key ∷ [] = rw (← same) (search rules) in
    let next : option_copied c.collection_among-at-in-Some.result ≡ collection_of key rows = search rules in
    rw pushed (rw next (step c.loop-left.left c.loop-left.nodes.items key rows (omega arith) ∙ before))
