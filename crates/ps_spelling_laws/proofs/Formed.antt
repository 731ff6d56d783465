-- Whether a tree has its form.
use Rattle.std.proofs.Common.{◌≡◌, ◌≢◌, inl, inr, ℕ, ◌<◌, List, [], ◌∷◌, IsUtf8, refl, arith}
use Rattle.std.specs.Ordering.{nat_cmp}
use Rattle.std.specs.Cmp.Lexicographic.{slice_cmp}
use Rattle.std.specs.Str.{is_utf8}
use Rattle.std.specs.declared.cmp.Ordering.{Ordering}
use Rattle.std.specs.declared.cmp.Ordering.TheVariants.{Less, Equal, Greater}
use Rattle.std.proofs.lemmas.Str.{IsUtf8-from_is_utf8, is_utf8-from_IsUtf8}
use Rattle.ps_types.specs.declared.attrs.Attr.{Attr}
use Rattle.ps_types.specs.Attrs.{IsBelow, IsSorted}
use Rattle.ps_types.specs.Form.{AreTexts, HasForm, HaveForm, IsHead, IsTree}
use Rattle.ps_types.specs.Tree.{Tree, tree, levels, Nodes, none, branch, words}
use Rattle.ps_spelling_laws.proofs.Decided.{Decided, both, by-test, either-way, is-below, some-bytes}

text-decided : (s : List ℕ) → Decided (IsUtf8 s)
text-decided s = by-test (IsUtf8 s) (is_utf8 s) (IsUtf8-from_is_utf8 s, is_utf8-from_IsUtf8 s)

texts-decided : (attrs : List Attr) → Decided (AreTexts attrs)
texts-decided [] = inl tt
texts-decided (a ∷ rest) =
    either-way (λ (h : IsUtf8 a.name × (IsUtf8 a.value × AreTexts rest)). (h.0, h.1.0, h.1.1)) (λ h. (h.0, (h.1, h.2))) (both (text-decided a.name) (both (text-decided a.value) (texts-decided rest)))

less-decided : (o : Ordering) → Decided (o ≡ Less)
less-decided Less = inl refl
less-decided Equal = inr (λ e. absurd (cc e))
less-decided Greater = inr (λ e. absurd (cc e))

below-decided : (name : List ℕ) (attrs : List Attr) → Decided (IsBelow name attrs)
below-decided name [] = inl tt
below-decided name (a ∷ rest) = both (less-decided (slice_cmp nat_cmp name a.name)) (below-decided name rest)

sorted-decided : (attrs : List Attr) → Decided (IsSorted attrs)
sorted-decided [] = inl tt
sorted-decided (a ∷ rest) = both (below-decided a.name rest) (sorted-decided rest)

abbrev Head : List ℕ → List ℕ → List Attr → Type 0
Head name ns attrs = IsUtf8 name × ((name ≢ []) × (IsUtf8 ns × (AreTexts attrs × IsSorted attrs)))

head-decided : (name ns : List ℕ) (attrs : List Attr) → Decided (IsHead name ns attrs)
head-decided name ns attrs =
    either-way (λ (h : Head name ns attrs). record { name_is_text = h.0; named = h.1.0; ns_is_text = h.1.1.0; texts = h.1.1.1.0; sorted = h.1.1.1.1 })
    (λ (h : IsHead name ns attrs). (h.name_is_text, (h.named, (h.ns_is_text, (h.texts, h.sorted)))))
    (both (text-decided name) (both (some-bytes name) (both (text-decided ns) (both (texts-decided attrs) (sorted-decided attrs)))))

mutual
  form-decided : (t : Tree) → Decided (HasForm t)
  form-decided (tree name ns attrs kids) = both (head-decided name ns attrs) (forms-decided kids)

  forms-decided : (kids : Nodes) → Decided (HaveForm kids)
  forms-decided none = inl tt
  forms-decided (branch t kids) = both (form-decided t) (forms-decided kids)
  forms-decided (words s kids) = both (text-decided s) (forms-decided kids)

-- a tree has its form and no more levels than it may have, or not
pub tree-decided : (t : Tree) → Decided (IsTree t)
tree-decided t =
    either-way (λ (h : HasForm t × (levels t < 33)). record { form = h.0; shallow = omega (arith, h.1) }) (λ (is : IsTree t). (is.form, omega (arith, is.shallow)))
    (both (form-decided t) (is-below (levels t) 33))
