-- Which resources want the nodes of which names.
use Rattle.std.specs.Prelude.{◌≡◌, ℕ, Bool, ◌&&◌, ◌||◌, cond, filter, map, List, bytes_eq}
use Rattle.std.specs.List.{list_any}
use Rattle.ps_types.specs.declared.jid.Jid.{Jid}
use Rattle.ps_types.specs.declared.rows.ResourceRow.{ResourceRow}
use Rattle.ps_types.specs.Resources.{notify_feature, resources_with, wants}
use Rattle.ps_types.specs.Same.{same_jid}
use Rattle.ps_filter.specs.declared.want.Want.{Want}

-- the row is of the resource
abbrev pub is_want_of : Jid → Want → Bool
is_want_of who want = same_jid who want.who

-- the row is of the name
abbrev pub is_want_for : List ℕ → Want → Bool
is_want_for name want = bytes_eq name want.name

-- the row is of a resource of the host
abbrev pub is_want_on : List ℕ → Want → Bool
is_want_on host want = bytes_eq host want.who.host

abbrev pub is_want : Jid → List ℕ → Want → Bool
is_want who name want = is_want_of who want && is_want_for name want

-- the resource wants the nodes of the name
abbrev pub is_wanted : Jid → List ℕ → List Want → Bool
is_wanted who name rows = list_any (is_want who name) rows

-- the features ask for the nodes of the name
abbrev pub asks_for : List ℕ → List (List ℕ) → Bool
asks_for name features = list_any (bytes_eq (notify_feature name)) features

-- the resource wants what the features ask for, and the others what they wanted
abbrev pub SetsWants : Jid → List (List ℕ) → List Want → List Want → Type 0
SetsWants who features old new = (other : Jid) (name : List ℕ) → is_wanted other name new ≡ cond (same_jid who other) (asks_for name features) (is_wanted other name old)

-- each resource wants what it wants by the features of its row
abbrev pub AreWants : List Want → List ResourceRow → Type 0
AreWants rows resources = (who : Jid) (name : List ℕ) → is_wanted who name rows ≡ wants who name resources

-- each call keeps it so: a resource is present with these features,
abbrev pub FollowsSet : Jid → List (List ℕ) → List Want → List Want → Type 0
FollowsSet who features old new =
    (resources : List ResourceRow) (row : ResourceRow) → AreWants old resources → row.who ≡ who → row.features ≡ features → AreWants new (resources_with row resources)

-- or resources are gone
abbrev pub FollowsGone : (List ResourceRow → List ResourceRow) → List Want → List Want → Type 0
FollowsGone gone old new = (resources : List ResourceRow) → AreWants old resources → AreWants new (gone resources)

-- a resource wants the nodes of the name by its features, where the wants are those of the features
abbrev pub IsByFeatures : Jid → List ℕ → List Want → Bool → Type 0
IsByFeatures who name rows answer = (resources : List ResourceRow) → AreWants rows resources → answer ≡ wants who name resources

-- the wants of a resource of these features alone
abbrev pub AreAsked : Jid → List (List ℕ) → List Want → Type 0
AreAsked who features rows = (other : Jid) (name : List ℕ) → is_wanted other name rows ≡ (same_jid who other && asks_for name features)

-- all wants of two lists
abbrev pub AreBoth : List Want → List Want → List Want → Type 0
AreBoth old more new = (who : Jid) (name : List ℕ) → is_wanted who name new ≡ (is_wanted who name old || is_wanted who name more)

-- who wants the nodes of the name
abbrev pub who_want : List ℕ → List Want → List Jid
who_want name rows = map (λ want. want.who) (filter (is_want_for name) rows)
