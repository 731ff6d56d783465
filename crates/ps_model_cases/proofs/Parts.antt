-- Each bare address is handed its part of what the entries hand out.
use Rattle.std.proofs.Common.{◌≡◌, refl, ap, List, [], ◌∷◌, ◌++◌, ℕ}
use Rattle.std.specs.Prelude.{filter}
use Rattle.std.proofs.lemmas.List.Elements.{filter-append}
use Rattle.ps_types.specs.Same.{same_bare}
use Rattle.ps_types.specs.declared.entry.Entry.{Entry}
use Rattle.ps_types.specs.declared.entry.Notice.{Notice}
use Rattle.ps_types.specs.declared.jid.Jid.{Jid}
use Rattle.ps_model.specs.After.{after, notices_at}
use Rattle.ps_model.specs.Book.{State, empty_state}
use Rattle.ps_model.specs.Replay.{notices, notices_from, of_bare, to_address}
use Rattle.ps_model_cases.specs.Case.{Exchange, list_of}

-- all that the entries hand out, in order
abbrev pub all_from : State → List Entry → List Notice
all_from s [] = []
all_from s (e ∷ E) = notices_at s e ++ all_from (after s e) E

of-bare-append : (resource : List ℕ) (xs ys : List Notice) → of_bare resource xs ++ of_bare resource ys ≡ of_bare resource (xs ++ ys)
of-bare-append [] xs ys = refl
of-bare-append (x ∷ resource) xs ys = refl

part-append : (a : Jid) (xs ys : List Notice) → to_address a xs ++ to_address a ys ≡ to_address a (xs ++ ys)
part-append a xs ys =
    rw (filter-append (λ n. same_bare n.to a) xs ys) (of-bare-append a.resource (filter (λ n. same_bare n.to a) xs) (filter (λ n. same_bare n.to a) ys))

nothing : (resource : List ℕ) → [] ≡ of_bare resource []
nothing [] = refl
nothing (x ∷ resource) = refl

pub part-of : (s : State) (E : List Entry) (a : Jid) → notices_from s E a ≡ to_address a (all_from s E)
part-of s [] a = nothing a.resource
part-of s (e ∷ E) a = rw (part-of (after s e) E a) (part-append a (notices_at s e) (all_from (after s e) E))

pub each-part : (given : List Exchange) (told : List Notice) → all_from empty_state (list_of given) ≡ told → (a : Jid) → notices (list_of given) a ≡ to_address a told
each-part given told e a = rw (part-of empty_state (list_of given) a) (ap (λ all. to_address a all) e)
