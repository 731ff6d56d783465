-- An answer's sorted parts show whether it is ill-formed, and make its capability string.
use Rattle.std.proofs.Common.{◌≡◌, ℕ, Bool, true, false, not, ◌||◌, List, [], ◌∷◌, ◌++◌, Option, Some, None, refl, ap, sym, ◌∙◌, map}
use Rattle.std.specs.List.{list_all, flat_map}
use Rattle.std.specs.Str.{bytes_eq}
use Rattle.std.specs.Ordering.{eq_by_cmp, nat_cmp, on}
use Rattle.std.specs.Cmp.{IsTotalOrder, then_total, both_tied}
use Rattle.std.specs.Cmp.Lexicographic.{slice_cmp, nat_list_cmp_total, on_texts, texts_ties}
use Rattle.std.proofs.lemmas.List.Folds.{list_all-map, flat_map-map}
use Rattle.ps_types.specs.declared.form.Identity.{Identity}
use Rattle.ps_types.specs.declared.form.Info.{Info}
use Rattle.ps_types.specs.CapString as string
use Rattle.ps_types.specs.CapString.{identity_cmp, identity_le, same_identity, same_type, has_one_type, form_le, is_ill_formed, cap_string}
use Rattle.ps_types.specs.CapVer as caps
use Rattle.ps_types.specs.Ordered.{sort_by, sorted_texts, has_repeated, text_cmp}
use Rattle.ps_caps.specs.declared.forms.TypedForm.{TypedForm}
use Rattle.ps_caps.specs.Repeated.{neighbours, shows_ill}
use Rattle.ps_caps.specs.Typed.{seen}
use Rattle.ps_caps.proofs.Kept.{all_sort}
use Rattle.ps_caps.proofs.Orders.{repeated_cmp}

pub identity_total : IsTotalOrder identity_cmp
identity_total = then_total (on_texts (λ (i : Identity). i.category))
    (then_total (on_texts (λ (i : Identity). i.kind)) (then_total (on_texts (λ (i : Identity). i.lang)) (on_texts (λ (i : Identity). i.name))))

identity_tied : (x y : Identity) → same_identity x y ≡ eq_by_cmp identity_cmp x y
identity_tied x y =
    both_tied _ _ _ _ (texts_ties x.category y.category)
    (both_tied _ _ _ _ (texts_ties x.kind y.kind) (both_tied _ _ _ _ (texts_ties x.lang y.lang) (texts_ties x.name y.name)))

neighbours_map : {X Y : Type 0} (f : X → Y) (same : Y → Y → Bool) (xs : List X) → neighbours (λ a b. same (f a) (f b)) xs ≡ neighbours same (map f xs)
neighbours_map f same [] = refl
neighbours_map f same (x ∷ []) = refl
neighbours_map f same (x ∷ y ∷ ys) = ap (λ b. same (f x) (f y) || b) (neighbours_map f same (y ∷ ys))

identities_ill : (info : Info) → neighbours same_identity (sort_by identity_le info.identities) ≡ has_repeated same_identity info.identities
identities_ill info = repeated_cmp identity_cmp identity_total same_identity identity_tied info.identities

features_ill : (info : Info) → neighbours bytes_eq (sorted_texts info.features) ≡ has_repeated bytes_eq info.features
features_ill info = repeated_cmp (slice_cmp nat_cmp) nat_list_cmp_total bytes_eq texts_ties info.features

forms_ill : (info : Info) → neighbours same_type (sort_by form_le (string.typed_forms info)) ≡ has_repeated same_type (string.typed_forms info)
forms_ill info =
    repeated_cmp (on (λ (t : string.TypedForm). t.type) (slice_cmp nat_cmp)) (on_texts (λ (t : string.TypedForm). t.type)) same_type (λ x y. texts_ties x.type y.type) (string.typed_forms info)

module _ (info : Info) (ids : List Identity) (feats : List (List ℕ)) (forms : List TypedForm) (i : ids ≡ sort_by identity_le info.identities) (f : feats ≡ sorted_texts info.features)
    (t : map seen forms ≡ sort_by form_le (string.typed_forms info)) where
  pub shown : shows_ill ids feats forms ≡ is_ill_formed info
  shown =
      let a = ap (neighbours same_identity) i ∙ identities_ill info in
      let b = ap (neighbours bytes_eq) f ∙ features_ill info in
      let c = neighbours_map seen same_type forms ∙ ap (neighbours same_type) t ∙ forms_ill info in
      let d = sym (list_all-map has_one_type seen forms) ∙ ap (list_all has_one_type) t ∙ all_sort form_le has_one_type (string.typed_forms info) in
      λ k. a k || b k || c k || not (d k)

  pub made : flat_map string.identity_text ids ++ flat_map string.ended feats ++ flat_map (λ form. string.form_text (seen form)) forms ≡ cap_string info
  made =
      let c = sym (flat_map-map string.form_text seen forms) ∙ ap (flat_map string.form_text) t in
      λ k. flat_map string.identity_text (i k) ++ flat_map string.ended (f k) ++ c k

  pub ill : shows_ill ids feats forms ≡ true → caps.ver_of info ≡ None
  ill h = rw (sym shown ∙ h) refl

  pub well : (text : List ℕ) → shows_ill ids feats forms ≡ false → text ≡ flat_map string.identity_text ids ++ flat_map string.ended feats ++ flat_map (λ form. string.form_text (seen form)) forms
      → caps.ver_of info ≡ Some (caps.string_ver text)
  well text h e = rw (sym shown ∙ h) (ap (λ s. Some (caps.string_ver s)) (sym (e ∙ made)))
