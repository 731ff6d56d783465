-- The stanzas of a host, forward from a place, and the lines that they came on.
use Rattle.std.proofs.Common.{◌≡◌, ◌≢◌, ℕ, zero, suc, ◌+◌, ◌%◌, true, false, List, [], ◌∷◌, ◌++◌, Some, map, refl, sym, ap, subst, ◌∙◌, arith, add-one, append_assoc, append-nil}
use Rattle.std.specs.Prelude.{◌==◌}
use Rattle.std.specs.List.{AllByRecursion as Each}
use Rattle.std.proofs.lemmas.Bool.Decides.{nat_tests}
use Rattle.ps_types.specs.Tree.{Tree}
use Rattle.ps_trace.specs.Lines.{Came}
use Rattle.ps_gen.specs.Dealt.{generated}
use Rattle.ps_rehearse_lines.specs.Dealing.{dealt, dealt_at}
use Rattle.ps_rehearse_laws.specs.Runs.{AreDealt}
use Rattle.ps_rehearse.specs.Rehearsed.{arrival_of}

-- of so many places from this one on, those of every second place
abbrev pub ahead : ℕ → ℕ → ℕ → List Tree
ahead seed k zero = []
ahead seed k (suc zero) = (generated seed k).tree ∷ []
ahead seed k (suc (suc r)) = (generated seed k).tree ∷ ahead seed (k + 2) r

-- ---- what is dealt to a host

dealt-more : (host seed k : ℕ) → dealt host seed (k + 1) ≡ dealt host seed k ++ dealt_at host seed k
unfolding dealt
dealt-more host seed k = rw add-one refl

at-host : (host seed k : ℕ) → (generated seed k).host ≡ host → dealt_at host seed k ≡ (generated seed k).tree ∷ []
unfolding dealt_at
at-host host seed k is = let yes : ((generated seed k).host == host) ≡ true = grind (arith, nat_tests) in rw yes refl

at-other : (host seed k : ℕ) → (generated seed k).host ≢ host → dealt_at host seed k ≡ []
unfolding dealt_at
at-other host seed k not = let no : ((generated seed k).host == host) ≡ false = grind (arith, nat_tests) in rw no refl

with-own : (host seed k : ℕ) → k % 2 ≡ host → dealt host seed (k + 1) ≡ dealt host seed k ++ (generated seed k).tree ∷ []
with-own host seed k turn = dealt-more host seed k ∙ ap (λ (ts : List Tree). dealt host seed k ++ ts) (at-host host seed k turn)

with-other : (host seed k : ℕ) → k % 2 ≢ host → dealt host seed (k + 1) ≡ dealt host seed k
with-other host seed k other = dealt-more host seed k ∙ (ap (λ (ts : List Tree). dealt host seed k ++ ts) (at-other host seed k other) ∙ append-nil (dealt host seed k))

goes-on : (host seed r k : ℕ) → k % 2 ≡ host → dealt host seed (k + r) ≡ dealt host seed k ++ ahead seed k r
goes-on host seed zero k turn = let e : k + 0 ≡ k = omega arith in rw e (sym (append-nil (dealt host seed k)))
goes-on host seed (suc zero) k turn = with-own host seed k turn
goes-on host seed (suc (suc r)) k turn =
    let next : k + suc (suc r) ≡ (k + 2) + r = omega arith in
    let twice : k + 2 ≡ (k + 1) + 1 = omega arith in
    let later : (k + 2) % 2 ≡ host = omega (arith, turn) in
    let other : (k + 1) % 2 ≢ host = (λ e. absurd (omega (arith, turn, e))) in
    let two : dealt host seed (k + 2) ≡ dealt host seed k ++ (generated seed k).tree ∷ [] =
    ap (dealt host seed) twice ∙ (with-other host seed (k + 1) other ∙ with-own host seed k turn) in
    ap (dealt host seed) next
    ∙ (goes-on host seed r (k + 2) later
    ∙ (ap (λ (ts : List Tree). ts ++ ahead seed (k + 2) r) two ∙ append_assoc (dealt host seed k) ((generated seed k).tree ∷ []) (ahead seed (k + 2) r)))

dealt-none : (host seed : ℕ) → dealt host seed 0 ≡ []
unfolding dealt
dealt-none host seed = refl

-- the first host's from place 0 on
first-ahead : (seed count : ℕ) → dealt 0 seed count ≡ ahead seed 0 count
first-ahead seed count =
    let e : count ≡ 0 + count = omega arith in
    ap (dealt 0 seed) e ∙ (goes-on 0 seed count 0 (omega arith) ∙ ap (λ (ts : List Tree). ts ++ ahead seed 0 count) (dealt-none 0 seed))

-- the second's from place 1 on
second-ahead : (seed r : ℕ) → dealt 1 seed (1 + r) ≡ ahead seed 1 r
second-ahead seed r =
    let none : dealt 1 seed 1 ≡ [] = with-other 1 seed 0 (λ e. absurd (omega (arith, e))) ∙ dealt-none 1 seed in
    goes-on 1 seed r 1 (omega arith) ∙ ap (λ (ts : List Tree). ts ++ ahead seed 1 r) none

-- ---- the lines

came-ahead : (seed r k : ℕ) (cs : List Came) → map (λ (c : Came). c.arrival) cs ≡ map arrival_of (ahead seed k r) → Each (λ (c : Came). c.full ≡ false) cs → AreDealt seed (k + r) k cs
came-ahead seed zero k [] came room = omega arith
came-ahead seed zero k (c ∷ cs) came room = absurd (cc came)
came-ahead seed (suc zero) k [] came room = absurd (cc came)
came-ahead seed (suc zero) k (c ∷ []) came room = (omega arith, (Some 0, cc came), room.0, omega arith)
came-ahead seed (suc zero) k (c ∷ d ∷ cs) came room = absurd (cc came)
came-ahead seed (suc (suc r)) k [] came room = absurd (cc came)
came-ahead seed (suc (suc r)) k (c ∷ cs) came room =
    let next : (k + 2) + r ≡ k + suc (suc r) = omega arith in
    (omega arith, (Some 0, cc came), room.0, subst (λ (n : ℕ). AreDealt seed n (k + 2) cs) next (came-ahead seed r (k + 2) cs (cc came) room.1))

pub first-dealt : (seed count : ℕ) (cs : List Came) → map (λ (c : Came). c.arrival) cs ≡ map arrival_of (dealt 0 seed count) → Each (λ (c : Came). c.full ≡ false) cs → AreDealt seed count 0 cs
first-dealt seed count cs came room =
    let e : 0 + count ≡ count = omega arith in
    subst (λ (n : ℕ). AreDealt seed n 0 cs) e (came-ahead seed count 0 cs (came ∙ ap (map arrival_of) (first-ahead seed count)) room)

pub second-dealt : (seed count : ℕ) (cs : List Came) → map (λ (c : Came). c.arrival) cs ≡ map arrival_of (dealt 1 seed count) → Each (λ (c : Came). c.full ≡ false) cs → AreDealt seed count 1 cs
second-dealt seed zero [] came room = omega arith
second-dealt seed zero (c ∷ cs) came room = absurd (let e = came ∙ ap (map arrival_of) (dealt-none 1 seed) in cc e)
second-dealt seed (suc r) cs came room =
    let e : suc r ≡ 1 + r = omega arith in
    subst (λ (n : ℕ). AreDealt seed n 1 cs) (sym e) (came-ahead seed r 1 cs (came ∙ ap (map arrival_of) (ap (dealt 1 seed) e ∙ second-ahead seed r)) room)
