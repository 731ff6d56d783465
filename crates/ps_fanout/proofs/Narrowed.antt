-- What is given depends on those alone that are given something.
use Rattle.std.proofs.Common.{◌≡◌, ◌⊎◌, inl, inr, Bool, true, false, cond, List, [], ◌∷◌, Option, Some, None, refl, sym, ap, ap₂, ◌∙◌}
use Rattle.std.specs.Prelude.{filter, is_some, option_map}
use Rattle.std.specs.List.{AllByRecursion as Each, cons_option}
use Rattle.std.specs.declared.cmp.Ordering.TheVariants.{Less}
use Rattle.ps_types.specs.Address.{IsAddress}
use Rattle.ps_types.specs.Tree.{Tree}
use Rattle.ps_types.specs.declared.jid.Jid.{Jid}
use Rattle.ps_model.specs.Sorted.{sorted}
use Rattle.ps_fanout.specs.Told.{given_to}
use Rattle.ps_model.proofs.Ordered.{Ascend, In, ascend-sorted, in-sorted, one-order, text_cmp}

module _ (p : Jid → Bool) where
  each-filter : (P : Jid → Type 0) (xs : List Jid) → Each P xs → Each P (filter p xs)
  each-filter P [] ps = tt
  each-filter P (x ∷ xs) ps = at (p x) (each-filter P xs ps.1)
    where
      at : (b : Bool) → Each P (filter p xs) → Each P (cond b (x ∷ filter p xs) (filter p xs))
      at true more = (ps.0, more)
      at false more = more

  ascend-filter : (xs : List Jid) → Ascend xs → Ascend (filter p xs)
  ascend-filter [] is = tt
  ascend-filter (x ∷ xs) is = at (p x) (ascend-filter xs is.1)
    where
      at : (b : Bool) → Ascend (filter p xs) → Ascend (cond b (x ∷ filter p xs) (filter p xs))
      at true more = (each-filter (λ y. text_cmp x y ≡ Less) xs is.0, more)
      at false more = more

  in-filter : (j : Jid) (xs : List Jid) → p j ≡ true → In j xs → In j (filter p xs)
  in-filter j [] h i = absurd i
  in-filter j (x ∷ xs) h i = at (p x) refl i (in-filter j xs h)
    where
      at : (b : Bool) → p x ≡ b → (j ≡ x) ⊎ In j xs → (In j xs → In j (filter p xs)) → In j (cond b (x ∷ filter p xs) (filter p xs))
      at true e (inl same) more = inl same
      at true e (inr k) more = inr (more k)
      at false e (inl same) more = absurd (let no : true ≡ false = sym h ∙ ap p same ∙ e in cc no)
      at false e (inr k) more = more k

  -- what passes, passes and is there
  filter-passes : (j : Jid) (xs : List Jid) → In j (filter p xs) → p j ≡ true
  filter-passes j [] i = absurd i
  filter-passes j (x ∷ xs) i = at (p x) refl i (filter-passes j xs)
    where
      at : (b : Bool) → p x ≡ b → In j (cond b (x ∷ filter p xs) (filter p xs)) → (In j (filter p xs) → p j ≡ true) → p j ≡ true
      at true e (inl same) more = ap p same ∙ e
      at true e (inr k) more = more k
      at false e k more = more k

  narrowed : (xs ys : List Jid) → Each IsAddress xs → Each IsAddress ys → ((j : Jid) → p j ≡ true → In j xs) → ((j : Jid) → p j ≡ true → In j ys) → filter p (sorted xs) ≡ filter p (sorted ys)
  narrowed xs ys are are' f g =
      one-order (filter p (sorted xs)) (filter p (sorted ys)) (ascend-filter (sorted xs) (ascend-sorted xs)) (ascend-filter (sorted ys) (ascend-sorted ys))
      (λ j i. let h = filter-passes j (sorted xs) i in in-filter j (sorted ys) h (in-sorted j ys are' (g j h)))
      (λ j i. let h = filter-passes j (sorted ys) i in in-filter j (sorted xs) h (in-sorted j xs are (f j h)))

module _ (gives : Jid → Option Tree) where
  abbrev gives_some : Jid → Bool
  gives_some who = is_some (gives who)

  only-those : (xs : List Jid) → given_to gives xs ≡ given_to gives (filter gives_some xs)
  only-those [] = refl
  only-those (x ∷ xs) = at (gives x) refl (only-those xs)
    where
      at : (o : Option Tree) → gives x ≡ o → given_to gives xs ≡ given_to gives (filter gives_some xs)
          → cons_option (option_map (λ t. (x, t)) o) (given_to gives xs) ≡ given_to gives (cond (is_some o) (x ∷ filter gives_some xs) (filter gives_some xs))
      at None e more = more
      at (Some t) e more =
          ap (λ (l : List (Jid × Tree)). (x, t) ∷ l) more
          ∙ sym (ap (λ (o : Option Tree). cons_option (option_map (λ (u : Tree). (x, u)) o) (given_to gives (filter gives_some xs))) e)

  -- the same is given to these addresses as to those, where whoever is given something is among both
  pub same-given : (xs ys : List Jid) → Each IsAddress xs → Each IsAddress ys → ((j : Jid) → is_some (gives j) ≡ true → In j xs) → ((j : Jid) → is_some (gives j) ≡ true → In j ys)
      → given_to gives (sorted xs) ≡ given_to gives (sorted ys)
  same-given xs ys are are' f g = only-those (sorted xs) ∙ ap (given_to gives) (narrowed gives_some xs ys are are' f g) ∙ sym (only-those (sorted ys))

-- equal gifts
pub given-alike : (f g : Jid → Option Tree) → ((who : Jid) → f who ≡ g who) → (xs : List Jid) → given_to f xs ≡ given_to g xs
given-alike f g same [] = refl
given-alike f g same (x ∷ xs) =
    ap₂ (λ (o : Option Tree) (l : List (Jid × Tree)). cons_option (option_map (λ (t : Tree). (x, t)) o) l) (same x) (given-alike f g same xs)

pub none-given : (f : Jid → Option Tree) → ((who : Jid) → f who ≡ None) → (xs : List Jid) → given_to f xs ≡ []
none-given f none [] = refl
none-given f none (x ∷ xs) = ap (λ (o : Option Tree). cons_option (option_map (λ (t : Tree). (x, t)) o) (given_to f xs)) (none x) ∙ none-given f none xs
