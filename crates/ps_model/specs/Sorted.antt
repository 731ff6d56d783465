-- Addresses in the order of the octets of their printed form, each once.
use Rattle.std.specs.Prelude.{List, [], ◌∷◌}
use Rattle.std.specs.Cmp.Lexicographic.{slice_cmp}
use Rattle.std.specs.Ordering.{nat_cmp, match_ordering}
use Rattle.ps_types.specs.Address.{jid_text}
use Rattle.ps_types.specs.declared.jid.Jid.{Jid}

-- the address is put where it belongs, unless it is there
abbrev pub put_sorted : Jid → List Jid → List Jid
put_sorted who [] = who ∷ []
put_sorted who (x ∷ xs) = match_ordering (slice_cmp nat_cmp (jid_text who) (jid_text x)) (who ∷ x ∷ xs) (x ∷ xs) (x ∷ put_sorted who xs)

abbrev pub sorted : List Jid → List Jid
sorted [] = []
sorted (who ∷ more) = put_sorted who (sorted more)
