-- Trees as replies are made of them are of texts, and of so many levels.
use Rattle.std.proofs.Common.{◌≡◌, ℕ, suc, ◌≤◌, true, List, [], ◌∷◌, map, IsUtf8, refl}
use Rattle.std.specs.Prelude.{codes}
use Rattle.std.specs.List.{AllByRecursion as Each}
use Rattle.json.proofs.Printed.Utf8.{are_ascii}
use Rattle.ps_types.specs.declared.attrs.Attr.{Attr}
use Rattle.ps_types.specs.declared.form.Field.{Field}
use Rattle.ps_types.specs.declared.form.Form.{Form}
use Rattle.ps_types.specs.declared.form.FormKind.{FormKind}
use Rattle.ps_types.specs.declared.form.FormKind.TheVariants as kind
use Rattle.ps_types.specs.Attrs.{IsSorted, with_attr}
use Rattle.ps_types.specs.Form.{AreTexts}
use Rattle.ps_types.specs.Forms.{field_tree, form_tree, kind_text, value_tree}
use Rattle.ps_types.specs.Namespaces.{data_ns}
use Rattle.ps_types.specs.Shape.{attr_pair, attrs_with, element, holding}
use Rattle.ps_types.specs.Tree.{Tree, none}
use Rattle.ps_types.proofs.Forms.{texts-with}
use Rattle.ps_types.proofs.Sorted.{sorted-with}
use Rattle.ps_book_laws.proofs.Keys.{each-by, each-map}
use Rattle.ps_compact_laws.proofs.Fitting.{FitIn, Fits, fit-branch, fit-more, fit-none, fit-tree, fit-words}
use Rattle.ps_compact_laws.proofs.Texts.{is_word}
use Rattle.ps_compact_laws.proofs.Drafts.{word}

-- ---- attributes

pub record AreFine (attrs : List Attr) : Type 0 where
  pub texts : AreTexts attrs
  pub sorted : IsSorted attrs

pub fine-none : AreFine []
fine-none = record { texts = tt; sorted = tt }

pub fine-with : (name value : List ℕ) (attrs : List Attr) → IsUtf8 name → IsUtf8 value → AreFine attrs → AreFine (with_attr name value attrs)
fine-with name value attrs u v is = record { texts = texts-with name value attrs u v is.texts; sorted = sorted-with name value attrs is.sorted }

pub fine-pair : (name value : List ℕ) (attrs : List Attr) → IsUtf8 name → IsUtf8 value → AreFine attrs → AreFine (attr_pair (name, value) attrs)
fine-pair name [] attrs u v is = is
fine-pair name (x ∷ value) attrs u v is = fine-with name (x ∷ value) attrs u v is

abbrev pub PairIs : List ℕ × List ℕ → Type 0
PairIs p = IsUtf8 p.0 × IsUtf8 p.1

pub one-pair : (k v : List ℕ) → is_word k ≡ true → IsUtf8 v → Each PairIs ((k, v) ∷ [])
one-pair k v e u = ((word k e, u), tt)

pub two-pairs : (k v l w : List ℕ) → is_word k ≡ true → IsUtf8 v → is_word l ≡ true → IsUtf8 w → Each PairIs ((k, v) ∷ (l, w) ∷ [])
two-pairs k v l w e u f x = ((word k e, u), ((word l f, x), tt))

fine-pairs : (pairs : List (List ℕ × List ℕ)) → Each PairIs pairs → AreFine (attrs_with pairs)
fine-pairs [] are = fine-none
fine-pairs ((name, value) ∷ pairs) are = fine-pair name value (attrs_with pairs) are.0.0 are.0.1 (fine-pairs pairs are.1)

-- ---- trees

pub fit-holding : (n : ℕ) (kids : List Tree) → Each (Fits n) kids → FitIn n (holding kids)
fit-holding n [] fit = fit-none n
fit-holding n (t ∷ kids) fit = fit-branch n t (holding kids) fit.0 (fit-holding n kids fit.1)

pub fit-element : (n : ℕ) (name ns : List ℕ) (pairs : List (List ℕ × List ℕ)) (kids : List Tree) → is_word name ≡ true → are_ascii ns ≡ true → Each PairIs pairs → Each (Fits n) kids
    → Fits (suc n) (element name ns pairs kids)
fit-element n name ns pairs kids named ascii texts fit = let a = fine-pairs pairs texts in fit-tree n name ns (attrs_with pairs) (holding kids) named ascii a.texts a.sorted (fit-holding n kids fit)

pub fit-leaf : (name ns : List ℕ) (pairs : List (List ℕ × List ℕ)) → is_word name ≡ true → are_ascii ns ≡ true → Each PairIs pairs → Fits 1 (element name ns pairs [])
fit-leaf name ns pairs named ascii texts = fit-element 0 name ns pairs [] named ascii texts tt

pub leaf-two : (n : ℕ) (name ns k v l w : List ℕ) → 1 ≤ n → is_word name ≡ true → are_ascii ns ≡ true → is_word k ≡ true → IsUtf8 v → is_word l ≡ true → IsUtf8 w
    → Fits n (element name ns ((k, v) ∷ (l, w) ∷ []) [])
leaf-two n name ns k v l w le named ascii e u f x = fit-more 1 n (element name ns ((k, v) ∷ (l, w) ∷ []) []) le (fit-leaf name ns ((k, v) ∷ (l, w) ∷ []) named ascii (two-pairs k v l w e u f x))

-- ---- forms

pub record FieldIs (f : Field) : Type 0 where
  pub var : IsUtf8 f.var
  pub kind : IsUtf8 f.kind
  pub values : Each IsUtf8 f.values

value-fits : (v : List ℕ) → IsUtf8 v → Fits 1 (value_tree v)
value-fits [] text = fit-tree 0 (codes "value") data_ns [] none refl refl tt tt (fit-none 0)
value-fits (x ∷ v) text = fit-tree 0 (codes "value") data_ns [] _ refl refl tt tt (fit-words 0 (x ∷ v) none text (fit-none 0))

field-fits : (f : Field) → FieldIs f → Fits 2 (field_tree f)
field-fits f is =
    fit-element 1 (codes "field") data_ns ((codes "type", f.kind) ∷ (codes "var", f.var) ∷ []) (map value_tree f.values) refl refl
    (two-pairs (codes "type") f.kind (codes "var") f.var refl is.kind refl is.var)
    (each-map (Fits 1) value_tree f.values (each-by (λ v. Fits 1 (value_tree v)) IsUtf8 f.values value-fits is.values))

kind-utf8 : (k : FormKind) → IsUtf8 (kind_text k)
kind-utf8 kind.Form = word (codes "form") refl
kind-utf8 kind.Submit = word (codes "submit") refl
kind-utf8 kind.Cancel = word (codes "cancel") refl
kind-utf8 kind.Result = word (codes "result") refl

pub form-fits : (f : Form) → Each FieldIs f.fields → Fits 3 (form_tree f)
form-fits f are =
    fit-element 2 (codes "x") data_ns ((codes "type", kind_text f.kind) ∷ []) (map field_tree f.fields) refl refl (one-pair (codes "type") (kind_text f.kind) refl (kind-utf8 f.kind))
    (each-map (Fits 2) field_tree f.fields (each-by (λ g. Fits 2 (field_tree g)) FieldIs f.fields field-fits are))

pub form-in : (n : ℕ) (f : Form) → 3 ≤ n → Each FieldIs f.fields → Fits n (form_tree f)
form-in n f le are = fit-more 3 n (form_tree f) le (form-fits f are)
