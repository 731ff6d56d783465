-- What a tree sends to a serializer: the members of its object, one after another.
use Rattle.std.specs.Prelude.{ℕ, List, codes}
use Rattle.serde.specs.Event.{Log}
use Rattle.serde_json.specs.Data.{Data, string, Members, member}
use Rattle.serde_json.specs.Events.{SendsMembers}
use Rattle.ps_types.specs.Print.{data_of, items_of, attr_members, ns_member, with_attrs, with_kids}
use Rattle.ps_types.specs.Tree.{Tree, tree}
use Rattle.ps_types.specs.declared.tree.Child.{Child}
use Rattle.ps_types.specs.declared.tree.Child.TheVariants as child

-- the value of a child of an element of that namespace
abbrev pub kid_data : List ℕ → Child → Data
kid_data ns (child.Tree t) = data_of ns t
kid_data ns (child.Words s) = string s

-- the members of the object of a tree below a parent of that namespace
abbrev pub members_of : List ℕ → Tree → Members
members_of parent (tree name ns attrs kids) =
    with_attrs (attr_members attrs) (with_kids (items_of ns kids) (member (codes "n") (string name) (ns_member parent ns)))

-- what is sent between these moments stands in front of whatever members follow
abbrev pub Precede : (Members → Members) → Log → Log → Type 0
Precede front old new = (rest : Members) (end : Log) → SendsMembers rest new end → SendsMembers (front rest) old end
