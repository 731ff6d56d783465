-- The nodes under a collection by the links to it.
use Rattle.std.proofs.Common.{◌≡◌, Bool, true, false, cond, ◌&&◌, ◌||◌, List, [], ◌∷◌, Option, Some, None, refl, ap, sym, ◌∙◌, map, filter}
use Rattle.std.specs.Prelude.{find, option_map}
use Rattle.std.specs.List.{list_any}
use Rattle.ps_types.specs.declared.node.NodeKey.{NodeKey}
use Rattle.ps_types.specs.declared.rows.LinkRow.{LinkRow}
use Rattle.ps_types.specs.declared.rows.NodeRow.{NodeRow}
use Rattle.ps_types.specs.Links.{climb, collection_of, is_link_of, is_link_to, is_under}
use Rattle.ps_types.specs.Same.{same_node}
use Rattle.ps_types.proofs.Same.{same_node-Decides}
use Rattle.ps_rows.specs.Standing.{passes_at}
use Rattle.ps_coll.specs.Children.{children_in}
use Rattle.ps_nodes.specs.NodeRows.{is_there}

same_back : (a b : NodeKey) → same_node a b ≡ true → same_node b a ≡ true
same_back a b h = (same_node-Decides b a).1 (sym ((same_node-Decides a b).0 h))

or_later : (b c : Bool) → c ≡ true → (b || c) ≡ true
or_later true c h = refl
or_later false c h = h

or_first : (b c : Bool) → b ≡ true → (b || c) ≡ true
or_first true c h = refl
or_first false c h = absurd (cc)

first_or : (b : Bool) → (b || false) ≡ true → b ≡ true
first_or true h = refl
first_or false h = h

module _ (node collection : NodeKey) where
  -- what is under a collection is named by a link to it
  abbrev under : Option NodeKey → Bool
  under None = false
  under (Some at) = same_node collection at

  under_climb : (o : Option NodeKey) (links : List LinkRow) → list_any (same_node collection) (climb 1 o links) ≡ true → under o ≡ true
  under_climb None links h = h
  under_climb (Some at) links h = first_or (same_node collection at) h

  kept : (x : LinkRow) (links : List LinkRow) (b : Bool) → list_any (λ child. same_node child node) (children_in collection links) ≡ true
      → list_any (λ child. same_node child node) (map (λ row. row.child) (cond b (x ∷ filter (is_link_to collection) links) (filter (is_link_to collection) links))) ≡ true
  kept x links true h = or_later (same_node x.child node) (list_any (λ child. same_node child node) (children_in collection links)) h
  kept x links false h = h

  here : (x : LinkRow) (links : List LinkRow) (b : Bool) → b ≡ true → same_node x.child node ≡ true
      → list_any (λ child. same_node child node) (map (λ row. row.child) (cond b (x ∷ filter (is_link_to collection) links) (filter (is_link_to collection) links))) ≡ true
  here x links true e h = or_first (same_node x.child node) (list_any (λ child. same_node child node) (children_in collection links)) h
  here x links false e h = absurd (cc)

  named_step : (x : LinkRow) (links : List LinkRow) (b : Bool) → is_link_of node x ≡ b
      → (under (collection_of node links) ≡ true → list_any (λ child. same_node child node) (children_in collection links) ≡ true)
      → under (option_map (λ (row : LinkRow). row.collection) (cond b (Some x) (find (is_link_of node) links))) ≡ true
      → list_any (λ child. same_node child node) (children_in collection (x ∷ links)) ≡ true
  named_step x links true e more h =
      let k : same_node collection x.collection ≡ true = h in
      here x links (is_link_to collection x) k (same_back node x.child e)
  named_step x links false e more h = kept x links (is_link_to collection x) (more h)

  -- what is under a collection is named by a link to it
  named : (links : List LinkRow) → under (collection_of node links) ≡ true → list_any (λ child. same_node child node) (children_in collection links) ≡ true
  named [] h = absurd (cc)
  named (x ∷ links) h = named_step x links (is_link_of node x) refl (named links) h

module _ (collection : NodeKey) (links : List LinkRow) where
  abbrev holds : NodeKey → Bool
  holds child = is_under child collection false links

  none_held : (node : NodeKey) → holds node ≡ false → (nodes : List NodeKey) → list_any (λ child. same_node child node && holds child) nodes ≡ false
  none_held node h [] = refl
  none_held node h (x ∷ nodes) = by (same_node x node) (holds x) (λ e. ap holds ((same_node-Decides x node).0 e) ∙ h) (none_held node h nodes)
    where
      by : (a b : Bool) {rest : Bool} → (a ≡ true → b ≡ false) → rest ≡ false → ((a && b) || rest) ≡ false
      by true true f k = let e : true ≡ false = f refl in absurd (cc)
      by true false f k = k
      by false b f k = k

  some_held : (node : NodeKey) → holds node ≡ true → (nodes : List NodeKey) → list_any (λ child. same_node child node) nodes ≡ true
      → list_any (λ child. same_node child node && holds child) nodes ≡ true
  some_held node h [] k = absurd (cc)
  some_held node h (x ∷ nodes) k = by (same_node x node) (holds x) (λ e. ap holds ((same_node-Decides x node).0 e) ∙ h) k (λ m. some_held node h nodes m)
    where
      by : (a b : Bool) {rest both : Bool} → (a ≡ true → b ≡ true) → (a || rest) ≡ true → (rest ≡ true → both ≡ true) → ((a && b) || both) ≡ true
      by true true f m g = refl
      by true false f m g = let e : false ≡ true = f refl in absurd (cc)
      by false b f m g = g m

  held_by : (node : NodeKey) (b : Bool) → holds node ≡ b → list_any (λ child. same_node child node && holds child) (children_in collection links) ≡ b
  held_by node true e = some_held node e (children_in collection links) (named node collection links (under_climb node collection (collection_of node links) links e))
  held_by node false e = none_held node e (children_in collection links)

  -- of the children those are at a place that the collection holds
  pub held-there : (o : Option NodeRow) → list_any (λ child. is_there child o && holds child) (children_in collection links) ≡ passes_at (λ row. is_under row.key collection false links) o
  held-there None = none (children_in collection links)
    where
      none : (nodes : List NodeKey) → list_any (λ child. is_there child None && holds child) nodes ≡ false
      none [] = refl
      none (x ∷ nodes) = none nodes
  held-there (Some row) = held_by row.key (holds row.key) refl
