-- The same by an order of std.
use Rattle.std.proofs.Common.{◌≡◌, ℕ, Bool, not, ◌&&◌, List, refl, ap, sym, ◌∙◌}
use Rattle.std.specs.Ordering.{is_lt, is_eq, eq_by_cmp, ordering_reverse, on, nat_cmp}
use Rattle.std.specs.Cmp.{IsStrictWeakOrder, IsTotalOrder, on_total}
use Rattle.std.specs.Cmp.Lexicographic.{slice_cmp, nat_list_cmp_total}
use Rattle.std.specs.Fn.{ComparesAs, Called}
use Rattle.std.specs.declared.cmp.Ordering.{Ordering}
use Rattle.std.specs.declared.cmp.Ordering.TheVariants.{Less, Equal, Greater}
use Rattle.std.specs.List.Sorted.{IsSorted, IsSortedBy, IsStable, IsStableBy, ties}
use Rattle.std.proofs.lemmas.Fn.{always_returns_same}
use Rattle.std.proofs.lemmas.List.Sorted.{ranks_by}
use Rattle.ps_types.specs.Ordered.{is_at_most, sort_by, has_repeated, text_le}
use Rattle.ps_caps.specs.Repeated.{neighbours}
use Rattle.ps_caps.proofs.Repeats.{repeated_sorted}
use Rattle.ps_caps.proofs.StableSort.{sorted_is}
use denote.Param.Members.{Mut}
use denote.Ref.{Bor}

at_most_back : (r : Ordering) → not (is_lt r) ≡ is_at_most (ordering_reverse r)
at_most_back Less = refl
at_most_back Equal = refl
at_most_back Greater = refl

tied_back : (r : Ordering) → is_eq (ordering_reverse r) ≡ not (is_lt (ordering_reverse r)) && not (is_lt r)
tied_back Less = refl
tied_back Equal = refl
tied_back Greater = refl

module _ {X : Type 0} (cmp : X → X → Ordering) (o : IsTotalOrder cmp) where
  abbrev lt : X → X → Bool
  lt x y = is_lt (cmp x y)

  abbrev le : X → X → Bool
  le x y = is_at_most (cmp x y)

  weak : IsStrictWeakOrder lt
  weak = ranks_by o (λ x. x)

  le_is : (λ (x y : X). not (lt y x)) ≡ le
  le_is = λ i x y. (at_most_back (cmp y x) ∙ ap is_at_most (sym (o.antisymm x y))) i

  tied_is : eq_by_cmp cmp ≡ ties lt
  tied_is = λ i x y. (ap is_eq (o.antisymm x y) ∙ tied_back (cmp y x) ∙ ap (λ r. not (is_lt r) && not (lt y x)) (sym (o.antisymm x y))) i

  -- what a stable sort leaves
  pub sorted_cmp : (xs ys : List X) → IsSorted cmp ys → IsStable cmp xs ys → ys ≡ sort_by le xs
  sorted_cmp xs ys up stable = sorted_is lt weak xs ys up stable ∙ ap (λ by. sort_by by xs) le_is

  -- what stands side by side in what it leaves
  pub repeated_cmp : (same : X → X → Bool) → ((x y : X) → same x y ≡ eq_by_cmp cmp x y) → (xs : List X) → neighbours same (sort_by le xs) ≡ has_repeated same xs
  repeated_cmp same is xs =
      let e : same ≡ ties lt = (λ i x y. is x y i) ∙ tied_is in
      (λ i. neighbours (e i) (sort_by (sym le_is i) xs)) ∙ repeated_sorted lt weak xs ∙ ap (λ s. has_repeated s xs) (sym e)

-- the same of a sort by a closure that compares texts
pub sorted_by_text : {X F : Type 0} {g : Mut F (Bor X × (Bor X × Unit {0})) Ordering} {f : F} (key : X → List ℕ) (xs ys : List X)
    → ((lt : X → X → Bool) → IsStrictWeakOrder lt → ComparesAs g lt f → IsSortedBy lt ys)
    → ((lt : X → X → Bool) → IsStrictWeakOrder lt → ComparesAs g lt f → IsStableBy lt xs ys)
    → ((a : Bor X × (Bor X × Unit {0})) (r : Ordering) (f' : F) → Called g f a r f' → (r ≡ slice_cmp nat_cmp (key a.0.now) (key a.1.0.now)) × (f' ≡ f))
    → ys ≡ sort_by (λ x y. text_le (key x) (key y)) xs
sorted_by_text {g = g} {f = f} key xs ys up stable calls =
    let cmp = on key (slice_cmp nat_cmp) in
    let total : IsTotalOrder cmp = on_total key nat_list_cmp_total in
    let compares : ComparesAs g (lt cmp total) f =
    always_returns_same g (λ a r. is_lt r ≡ is_lt (cmp a.0.now a.1.0.now)) f (λ a r f' k. (ap is_lt (calls a r f' k).0, (calls a r f' k).1)) in
    sorted_cmp cmp total xs ys (up (lt cmp total) (weak cmp total) compares) (stable (lt cmp total) (weak cmp total) compares)
