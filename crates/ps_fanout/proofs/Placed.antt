-- Addresses in a map by their texts stand as they do when each is put in order.
use Rattle.std.proofs.Common.{◌≡◌, List, [], ◌∷◌, ◌++◌, ℕ, refl, sym, ap, subst, ◌∙◌}
use Rattle.std.specs.Ordering.{nat_cmp, match_ordering}
use Rattle.std.specs.Cmp.Lexicographic.{slice_cmp}
use Rattle.std.specs.List.{AllByRecursion as Each}
use Rattle.std.specs.BTreeMap.{insert_entry}
use Rattle.std.specs.Map.{values_of}
use Rattle.std.specs.declared.cmp.Ordering.{Ordering}
use Rattle.std.specs.declared.cmp.Ordering.TheVariants.{Less, Equal, Greater}
use Rattle.ps_types.specs.Address.{IsAddress, jid_text}
use Rattle.ps_types.specs.declared.jid.Jid.{Jid}
use Rattle.ps_model.specs.Sorted.{put_sorted, sorted}
use Rattle.ps_model.proofs.Ordered.{jid-one, text_cmp}

-- each address stands at its text
abbrev pub AtTexts : List (List ℕ × Jid) → Type 0
AtTexts es = Each (λ e. (e.0 ≡ jid_text e.1) × IsAddress e.1) es

abbrev cmp : List ℕ → List ℕ → Ordering
cmp a b = slice_cmp nat_cmp a b

insert-values : (who : Jid) (es : List (List ℕ × Jid)) → IsAddress who → AtTexts es → values_of (insert_entry cmp es (jid_text who) who) ≡ put_sorted who (values_of es)
insert-values who [] is at = refl
insert-values who (e ∷ es) is at = by (cmp (jid_text who) e.0) refl (insert-values who es is at.1)
  where
    texts : (o : Ordering) → cmp (jid_text who) e.0 ≡ o → text_cmp who e.1 ≡ o
    texts o h = sym (ap (λ (t : List ℕ). slice_cmp nat_cmp (jid_text who) t) at.0.0) ∙ h

    by : (o : Ordering) → cmp (jid_text who) e.0 ≡ o → values_of (insert_entry cmp es (jid_text who) who) ≡ put_sorted who (values_of es)
        → values_of (match_ordering o ((jid_text who, who) ∷ e ∷ es) ((e.0, who) ∷ es) (e ∷ insert_entry cmp es (jid_text who) who)) ≡ put_sorted who (values_of (e ∷ es))
    by Less h more = rw (texts Less h) refl
    by Equal h more = rw (texts Equal h) (ap (λ (x : Jid). x ∷ values_of es) (jid-one who e.1 is at.0.1 (texts Equal h)))
    by Greater h more = rw (texts Greater h) (ap (λ (xs : List Jid). e.1 ∷ xs) more)

insert-texts : (who : Jid) (es : List (List ℕ × Jid)) → IsAddress who → AtTexts es → AtTexts (insert_entry cmp es (jid_text who) who)
insert-texts who [] is at = ((refl, is), tt)
insert-texts who (e ∷ es) is at = by (cmp (jid_text who) e.0) refl (insert-texts who es is at.1)
  where
    by : (o : Ordering) → cmp (jid_text who) e.0 ≡ o → AtTexts (insert_entry cmp es (jid_text who) who)
        → AtTexts (match_ordering o ((jid_text who, who) ∷ e ∷ es) ((e.0, who) ∷ es) (e ∷ insert_entry cmp es (jid_text who) who))
    by Less h more = ((refl, is), at)
    by Equal h more = ((at.0.0 ∙ sym (ap jid_text (jid-one who e.1 is at.0.1 (sym (ap (λ (t : List ℕ). slice_cmp nat_cmp (jid_text who) t) at.0.0) ∙ h))), is), at.1)
    by Greater h more = (at.0, more)

-- those that are left are put before those that are placed
abbrev pub onto : List Jid → List Jid → List Jid
onto [] ys = ys
onto (x ∷ xs) ys = put_sorted x (onto xs ys)

onto-none : (xs : List Jid) → onto xs [] ≡ sorted xs
onto-none [] = refl
onto-none (x ∷ xs) = ap (put_sorted x) (onto-none xs)

onto-last : (xs ys : List Jid) (who : Jid) → onto (xs ++ who ∷ []) ys ≡ onto xs (put_sorted who ys)
onto-last [] ys who = refl
onto-last (x ∷ xs) ys who = ap (put_sorted x) (onto-last xs ys who)

each-front : (P : Jid → Type 0) (xs : List Jid) (who : Jid) → Each P (xs ++ who ∷ []) → Each P xs
each-front P [] who ps = tt
each-front P (x ∷ xs) who ps = (ps.0, each-front P xs who ps.1)

each-last : (P : Jid → Type 0) (xs : List Jid) (who : Jid) → Each P (xs ++ who ∷ []) → P who
each-last P [] who ps = ps.0
each-last P (x ∷ xs) who ps = each-last P xs who ps.1

-- where the placing stands
pub record Placing (all left : List Jid) (es : List (List ℕ × Jid)) : Type 0 where
  pub order : onto left (values_of es) ≡ sorted all
  pub addresses : Each IsAddress left
  pub texts : AtTexts es

pub placing-begins : (all : List Jid) → Each IsAddress all → Placing all all []
placing-begins all are = record { order = onto-none all; addresses = are; texts = tt }

-- the last that is left is placed
pub placing-on : (all left rest : List Jid) (es more : List (List ℕ × Jid)) (who : Jid) (text : List ℕ) → Placing all left es → left ≡ rest ++ who ∷ [] → text ≡ jid_text who
    → more ≡ insert_entry cmp es text who → Placing all rest more
placing-on all left rest es more who text is split texts inserted =
    let are : Each IsAddress (rest ++ who ∷ []) = subst (λ (xs : List Jid). Each IsAddress xs) split is.addresses in
    let address : IsAddress who = each-last IsAddress rest who are in
    let made : more ≡ insert_entry cmp es (jid_text who) who = inserted ∙ ap (λ (t : List ℕ). insert_entry cmp es t who) texts in
    record {
      order = ap (λ (xs : List (List ℕ × Jid)). onto rest (values_of xs)) made ∙ ap (onto rest) (insert-values who es address is.texts) ∙ sym (onto-last rest (values_of es) who)
          ∙ sym (ap (λ (xs : List Jid). onto xs (values_of es)) split) ∙ is.order;
      addresses = each-front IsAddress rest who are;
      texts = subst (λ (xs : List (List ℕ × Jid)). AtTexts xs) (sym made) (insert-texts who es address is.texts);
    }
