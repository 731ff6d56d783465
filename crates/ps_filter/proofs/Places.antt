-- Addresses that are put in order one by one, in a map by their printed form.
use Rattle.std.proofs.Common.{◌≡◌, ◌<◌, ℕ, true, false, cond, List, [], ◌∷◌, Option, Some, None, refl, ap, sym, ◌∙◌, map, arith}
use Rattle.std.specs.Prelude.{is_some, slice_get}
use Rattle.std.specs.BTreeMap.{insert_entry, is_at}
use Rattle.std.specs.Map.{keys_of, values_of, lookup}
use Rattle.std.specs.Ordering.{nat_cmp, match_ordering, is_eq}
use Rattle.std.specs.Cmp.Lexicographic.{slice_cmp, nat_list_cmp_total}
use Rattle.std.specs.List.Sorted.{IsStrictlySortedBy}
use Rattle.std.specs.declared.cmp.Ordering.{Ordering}
use Rattle.std.specs.declared.cmp.Ordering.TheVariants.{Less, Equal, Greater}
use Rattle.std.proofs.lemmas.Map.Entries.{lookup_at_gap}
use Rattle.std.proofs.lemmas.Map.Keys.{sorted_tail}
use Rattle.ps_model.specs.Sorted.{put_sorted}
use Rattle.ps_types.specs.Address.{jid_text}
use Rattle.ps_types.specs.declared.jid.Jid.{Jid}
use Rattle.ps_filter.specs.Printed.{printed}

abbrev pub by_text : List ℕ → List ℕ → Ordering
by_text a b = slice_cmp nat_cmp a b

pub values-printed : (whos : List Jid) → values_of (printed whos) ≡ whos
values-printed [] = refl
values-printed (x ∷ whos) = ap (λ r. x ∷ r) (values-printed whos)

absent_step : (who x : Jid) (whos : List Jid) (o : Ordering)
    → (is_some (lookup (is_at (by_text (jid_text who))) (printed whos)) ≡ false → insert_entry by_text (printed whos) (jid_text who) who ≡ printed (put_sorted who whos))
    → is_some (cond (is_eq o) (Some x) (lookup (is_at (by_text (jid_text who))) (printed whos))) ≡ false
    → match_ordering o ((jid_text who, who) ∷ (jid_text x, x) ∷ printed whos) ((jid_text x, who) ∷ printed whos) ((jid_text x, x) ∷ insert_entry by_text (printed whos) (jid_text who) who)
    ≡ printed (match_ordering o (who ∷ x ∷ whos) (x ∷ whos) (x ∷ put_sorted who whos))
absent_step who x whos Less more h = refl
absent_step who x whos Equal more h = absurd (cc)
absent_step who x whos Greater more h = ap (λ r. (jid_text x, x) ∷ r) (more h)

-- one that isn't there
pub put-absent : (who : Jid) (whos : List Jid) → is_some (lookup (is_at (by_text (jid_text who))) (printed whos)) ≡ false
    → insert_entry by_text (printed whos) (jid_text who) who ≡ printed (put_sorted who whos)
put-absent who [] h = refl
put-absent who (x ∷ whos) h = absent_step who x whos (by_text (jid_text who) (jid_text x)) (put-absent who whos) h

present_step : (who x : Jid) (whos : List Jid) (o : Ordering) → by_text (jid_text who) (jid_text x) ≡ o → IsStrictlySortedBy by_text (jid_text x ∷ keys_of (printed whos))
    → (is_some (lookup (is_at (by_text (jid_text who))) (printed whos)) ≡ true → put_sorted who whos ≡ whos)
    → is_some (cond (is_eq o) (Some x) (lookup (is_at (by_text (jid_text who))) (printed whos))) ≡ true → match_ordering o (who ∷ x ∷ whos) (x ∷ whos) (x ∷ put_sorted who whos) ≡ x ∷ whos
present_step who x whos Less e s more h = absurd (cc (none, here))
  where
    first : (entry : List ℕ × Jid) → slice_get (printed (x ∷ whos)) 0 ≡ Some entry → by_text (jid_text who) entry.0 ≡ Less
    first entry k = let n : (jid_text x, x) ≡ entry = cc in ap (λ y. by_text (jid_text who) y.0) (sym n) ∙ e

    none : lookup (is_at (by_text (jid_text who))) (printed (x ∷ whos)) ≡ None
    none = lookup_at_gap nat_list_cmp_total (jid_text who) (printed (x ∷ whos)) 0 s (λ j entry k. absurd (omega (arith, k))) first

    here : is_some (lookup (is_at (by_text (jid_text who))) (printed (x ∷ whos))) ≡ true
    here = ap (λ o. is_some (cond (is_eq o) (Some x) (lookup (is_at (by_text (jid_text who))) (printed whos)))) e ∙ h
present_step who x whos Equal e s more h = refl
present_step who x whos Greater e s more h = ap (λ r. x ∷ r) (more h)

-- one that is there
pub put-present : (who : Jid) (whos : List Jid) → IsStrictlySortedBy by_text (keys_of (printed whos)) → is_some (lookup (is_at (by_text (jid_text who))) (printed whos)) ≡ true
    → put_sorted who whos ≡ whos
put-present who [] s h = absurd (cc)
put-present who (x ∷ whos) s h =
    present_step who x whos (by_text (jid_text who) (jid_text x)) refl s (put-present who whos (sorted_tail by_text (jid_text x) (keys_of (printed whos)) s)) h
