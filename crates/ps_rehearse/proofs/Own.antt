-- What the run of a rehearsal adds to the list, and whom its words are to.
use Rattle.std.proofs.Common.{◌≡◌, ℕ, Bool, true, false, List, [], ◌∷◌, Some, refl, sym, ap, arith}
use Rattle.std.specs.Prelude.{◌||◌, count_by}
use Rattle.std.specs.List.{AllByRecursion as Each}
use Rattle.std.specs.Str.{bytes_eq}
use Rattle.std.proofs.lemmas.Slice.Eq.{bytes_eq-Decides}
use Rattle.ps_base.proofs.Rows.{count_by-cons}
use Rattle.ps_types.specs.declared.entry.Entry.{Entry}
use Rattle.ps_types.specs.declared.entry.Entry.TheVariants.{Boot, Change, Handed, Gone, Base}
use Rattle.ps_trace.specs.Own.{IsServed}
use Rattle.ps_trace.specs.Words.{Word, Reply, Note}
use Rattle.ps_workers.specs.Told.{AreOurs}
use Rattle.ps_rehearse_laws.specs.Rehearsal.{is_change}
use Rattle.ps_rehearse_laws.specs.Runs.{IsOf, IsTo, two_hosts}
use Rattle.ps_rehearse.specs.Entries.{AreMade, changes_in, first_host, is_made, is_ours, second_host}

-- ---- the entries

served : (host : List ℕ) → is_ours host ≡ true → IsServed two_hosts host
served host is = by (bytes_eq host first_host) (bytes_eq host second_host) refl refl is
  where
    by : (a b : Bool) → bytes_eq host first_host ≡ a → bytes_eq host second_host ≡ b → (a || b) ≡ true → IsServed two_hosts host
    by true b e f h = (0, ap Some (sym ((bytes_eq-Decides host first_host).0 e)))
    by false true e f h = (1, ap Some (sym ((bytes_eq-Decides host second_host).0 f)))
    by false false e f h = absurd (cc h)

one-of : (e : Entry) → is_made e ≡ true → IsOf two_hosts e
one-of (Boot service) is = absurd (cc is)
one-of (Change host line moment t) is = served host is
one-of (Handed to) is = tt
one-of (Gone host) is = tt
one-of (Base row) is = absurd (cc is)

pub made-of : (es : List Entry) → AreMade es → Each (IsOf two_hosts) es
made-of [] made = tt
made-of (e ∷ es) made = (one-of e made.0, made-of es made.1)

pub changes-count : (es : List Entry) → changes_in es ≡ count_by is_change es
changes-count [] = refl
changes-count (Boot service ∷ es) = let h = changes-count es in let p = count_by-cons is_change (Boot service) es in omega (arith, h, p)
changes-count (Change host line moment t ∷ es) = let h = changes-count es in let p = count_by-cons is_change (Change host line moment t) es in omega (arith, h, p)
changes-count (Handed to ∷ es) = let h = changes-count es in let p = count_by-cons is_change (Handed to) es in omega (arith, h, p)
changes-count (Gone host ∷ es) = let h = changes-count es in let p = count_by-cons is_change (Gone host) es in omega (arith, h, p)
changes-count (Base row ∷ es) = let h = changes-count es in let p = count_by-cons is_change (Base row) es in omega (arith, h, p)

-- ---- the words

pub ours-to : (host : List ℕ) (ws : List Word) → AreOurs host ws → Each (IsTo host) ws
ours-to host [] ours = tt
ours-to host (Reply text ∷ ws) ours = (tt, ours-to host ws ours)
ours-to host (Note to n ∷ ws) ours = (ours.0, ours-to host ws ours.1)
