-- What the opening of a store and of the streams behind it ask for.
use Rattle.std.proofs.Common.{◌≡◌, suc, List, [], ◌∷◌, ◌++◌, ◌∙◌, sym, ap, append_assoc}
use Rattle.std.specs.Prelude.{take}
use Rattle.std.proofs.lemmas.List.{append-nil}
use Rattle.ps_io.specs.World.{AskedAt}
use Rattle.ps_io.specs.declared.world.OpenCall.{OpenCall}
use Rattle.ps_io.specs.declared.world.WorldRefusal.{WorldRefusal}
use Rattle.ps_io.specs.declared.world.WorldRefusal.TheVariants.{Failed, Memory}
use Rattle.ps_status.specs.Asking.{AsksInOrder}

-- nothing yet
pub asked-none : (openings old : List OpenCall) → AsksInOrder openings old old
asked-none openings old = (0, sym (append-nil old))

-- one more before the others
pub asked-before : (first : OpenCall) (rest : List OpenCall) (old one two new : List OpenCall) → one ≡ old ++ first ∷ [] → AsksInOrder rest one two → new ≡ two → AsksInOrder (first ∷ rest) old new
asked-before first rest old one two new asked more kept =
    (suc more.0, kept ∙ (more.1 ∙ (ap (λ (l : List OpenCall). l ++ take more.0 rest) asked ∙ append_assoc old (first ∷ []) (take more.0 rest))))

-- the first alone, or none
pub asked-first : (first : OpenCall) (rest : List OpenCall) (old new : List OpenCall) (why : WorldRefusal) → AskedAt why old first new → AsksInOrder (first ∷ rest) old new
asked-first first rest old new Failed asked = (1, asked)
asked-first first rest old new Memory asked = (0, asked ∙ sym (append-nil old))

-- and then nothing
pub asked-then : (openings old mid new : List OpenCall) → AsksInOrder openings old mid → new ≡ mid → AsksInOrder openings old new
asked-then openings old mid new asked kept = (asked.0, kept ∙ asked.1)
