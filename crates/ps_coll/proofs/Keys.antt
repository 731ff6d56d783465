-- The link of one child, and the links to one collection, have one digest; rows of either of two tests.
use Rattle.std.proofs.Common.{◌≡◌, Bool, true, false, cond, not, ◌||◌, List, [], ◌∷◌, refl, ap, sym, ◌∙◌}
use Rattle.std.specs.List.{list_any}
use Rattle.ps_base.specs.Rows.{without}
use Rattle.ps_types.specs.declared.node.NodeKey.{NodeKey}
use Rattle.ps_types.specs.Links.{is_link_of, is_link_to}
use Rattle.ps_rows.specs.declared.index.Index.TheVariants.{Key, Node}
use Rattle.ps_rows.specs.Digests.{node_digest}
use Rattle.ps_rows.specs.RowKeys.{link_by}
use Rattle.ps_rows.specs.Standing.{AsksBy}
use Rattle.ps_rows.proofs.Sought.{one_node}

pub child_of : (child : NodeKey) → AsksBy (λ row. is_link_of child row) (λ seed. link_by seed Key) (λ seed. node_digest seed child)
child_of child seed = record { alike = λ row h. one_node seed child row.child h }

pub under : (collection : NodeKey) → AsksBy (λ row. is_link_to collection row) (λ seed. link_by seed Node) (λ seed. node_digest seed collection)
under collection seed = record { alike = λ row h. one_node seed collection row.collection h }

module _ {R : Type 0} (f g : R → Bool) where
  either : (a b c d : Bool) → (a || b) || (c || d) ≡ (a || c) || (b || d)
  either true b c d = refl
  either false true true d = refl
  either false true false d = refl
  either false false c d = refl

  any_either : (rows : List R) → list_any f rows || list_any g rows ≡ list_any (λ x. f x || g x) rows
  any_either [] = refl
  any_either (x ∷ xs) = either (f x) (list_any f xs) (g x) (list_any g xs) ∙ ap (λ b. (f x || g x) || b) (any_either xs)

  gone : (x : R) (xs ys : List R) (a b : Bool) → g x ≡ b → without g xs ≡ ys → without g (cond (not a) (x ∷ xs) xs) ≡ cond (not (a || b)) (x ∷ ys) ys
  gone x xs ys true b e r = r
  gone x xs ys false true e r = rw e r
  gone x xs ys false false e r = rw e (ap (λ zs. x ∷ zs) r)

  pub without-either : (rows : List R) → without g (without f rows) ≡ without (λ x. f x || g x) rows
  without-either [] = refl
  without-either (x ∷ xs) = gone x (without f xs) (without (λ y. f y || g y) xs) (f x) (g x) refl (without-either xs)

  yes : (p q : Bool) → p ≡ true → p || q ≡ true
  yes true q h = refl
  yes false q h = cc

  skip : (p q : Bool) → p ≡ false → p || q ≡ q
  skip true q h = cc
  skip false q h = refl

  -- the first test is asked, and the second where no row passes the first
  pub either-then : (rows : List R) (a : Bool) → a ≡ list_any f rows → a ≡ true → a ≡ list_any (λ x. f x || g x) rows
  either-then rows a e t = t ∙ (sym (yes (list_any f rows) (list_any g rows) (sym e ∙ t)) ∙ any_either rows)

  pub either-else : (rows : List R) (a b : Bool) → a ≡ list_any f rows → a ≡ false → b ≡ list_any g rows → b ≡ list_any (λ x. f x || g x) rows
  either-else rows a b e t k = k ∙ (sym (skip (list_any f rows) (list_any g rows) (sym e ∙ t)) ∙ any_either rows)
