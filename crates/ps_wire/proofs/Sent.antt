-- What is sent of a tree, member by member.
use Rattle.std.proofs.Common.{◌≡◌, ℕ, suc, ◌+◌, List, [], ◌∷◌, Bool, true, false, cond, not, ◌==◌, length, codes, refl, ap, ap₂, arith, ◌∙◌}
use Rattle.std.specs.Str.{bytes_eq}
use mir.Val.{bool_byte}
use Rattle.serde.specs.Event.{Log, Logs, field_key}
use Rattle.serde.specs.declared.name.Case.TheVariants.{AsIs}
use Rattle.serde_json.specs.Data.{array, object, string, no_members, member}
use Rattle.serde_json.specs.Events.{items_len, members_len, SendsValue}
use Rattle.ps_types.specs.declared.attrs.Attr.{Attr}
use Rattle.ps_types.specs.declared.tree.Child.{Child}
use Rattle.ps_types.specs.declared.tree.Child.TheVariants as child
use Rattle.ps_types.specs.Elem.{nodes}
use Rattle.ps_types.specs.Print.{attr_members, items_of, with_attrs, with_kids}
use Rattle.ps_types.specs.Tree.{tree}
use Rattle.ps_wire.specs.Sending.{Precede, members_of}

pub attrs_len : (attrs : List Attr) → members_len (attr_members attrs) ≡ length attrs
attrs_len [] = refl
attrs_len (a ∷ attrs) = ap suc (attrs_len attrs)

pub kids_len : (ns : List ℕ) (kids : List Child) → items_len (items_of ns (nodes kids)) ≡ length kids
kids_len ns [] = refl
kids_len ns (child.Tree t ∷ kids) = ap suc (kids_len ns kids)
kids_len ns (child.Words s ∷ kids) = ap suc (kids_len ns kids)

abbrev filled : {X : Type 0} → List X → Bool
filled [] = false
filled (x ∷ xs) = true

filled-length : {X : Type 0} (xs : List X) → not (length xs == 0) ≡ filled xs
filled-length [] = refl
filled-length (x ∷ xs) =
    let some : (length (x ∷ xs) == 0) ≡ false = grind arith in
    ap not some

-- the name, and each list that isn't empty, and a namespace of its own
count_by : (name ns : List ℕ) (attrs : List Attr) (kids : List Child) (b : Bool)
    → 1 + bool_byte (filled attrs) + bool_byte (filled kids) + bool_byte (not b)
    ≡ members_len (with_attrs (attr_members attrs) (with_kids (items_of ns (nodes kids)) (member (codes "n") (string name) (cond b no_members (member (codes "ns") (string ns) no_members)))))
count_by name ns [] [] true = refl
count_by name ns [] [] false = refl
count_by name ns [] (child.Tree t ∷ kids) true = refl
count_by name ns [] (child.Tree t ∷ kids) false = refl
count_by name ns [] (child.Words s ∷ kids) true = refl
count_by name ns [] (child.Words s ∷ kids) false = refl
count_by name ns (a ∷ attrs) [] true = refl
count_by name ns (a ∷ attrs) [] false = refl
count_by name ns (a ∷ attrs) (child.Tree t ∷ kids) true = refl
count_by name ns (a ∷ attrs) (child.Tree t ∷ kids) false = refl
count_by name ns (a ∷ attrs) (child.Words s ∷ kids) true = refl
count_by name ns (a ∷ attrs) (child.Words s ∷ kids) false = refl

pub members_count : (parent name ns : List ℕ) (attrs : List Attr) (kids : List Child)
    → 1 + bool_byte (not (length attrs == 0)) + bool_byte (not (length kids == 0)) + bool_byte (not (bytes_eq ns parent))
    ≡ members_len (members_of parent (tree name ns attrs (nodes kids)))
members_count parent name ns attrs kids =
    ap₂ (λ a k. 1 + bool_byte a + bool_byte k + bool_byte (not (bytes_eq ns parent))) (filled-length attrs) (filled-length kids)
    ∙ count_by name ns attrs kids (bytes_eq ns parent)

-- what stands in front of a list whose value begins with `a`
pub precede_attrs : (attrs : List Attr) (old named new : Log) → (length attrs ≡ 0 → ⊥) → Logs old named (field_key (codes "a") AsIs)
    → SendsValue (object (attr_members attrs)) named new → Precede (with_attrs (attr_members attrs)) old new
precede_attrs [] old named new some key sent rest end h = absurd (some refl)
precede_attrs (a ∷ attrs) old named new some key sent rest end h = (named, new, key, sent, h)

pub precede_kids : (ns : List ℕ) (kids : List Child) (old named new : Log) → (length kids ≡ 0 → ⊥) → Logs old named (field_key (codes "c") AsIs)
    → SendsValue (array (items_of ns (nodes kids))) named new → Precede (with_kids (items_of ns (nodes kids))) old new
precede_kids ns [] old named new some key sent rest end h = absurd (some refl)
precede_kids ns (child.Tree t ∷ kids) old named new some key sent rest end h = (named, new, key, sent, h)
precede_kids ns (child.Words s ∷ kids) old named new some key sent rest end h = (named, new, key, sent, h)
