-- The records of a list that gets one entry more.
use Rattle.std.proofs.Common.{◌≡◌, ℕ, zero, suc, ◌+◌, ◌<◌, ◌≤◌, arith, List, [], ◌∷◌, ◌++◌, length, drop, refl, ap, sym, ◌∙◌, append-nil, length-append, length-drop}
use Rattle.std.proofs.lemmas.List.{drop_all}
use Rattle.std.proofs.lemmas.Grind.{flat_map-append}
use Rattle.ps_types.specs.declared.entry.Entry.{Entry}
use Rattle.ps_follow_laws.specs.Feed.{Sent, feed_of, sent_bytes}
use Rattle.ps_follow_laws.specs.Follow.{records_at, records_from}

abbrev pub record_at : ℕ → Entry → List ℕ
record_at at e = sent_bytes (record { place = at; entry = e })

abbrev pub all_of : ℕ → List Entry → List ℕ
all_of from E = feed_of (records_from from E)

records-more : (at : ℕ) (E : List Entry) (e : Entry) → records_at at (E ++ e ∷ []) ≡ records_at at E ++ record { place = at + length E; entry = e } ∷ []
records-more at [] e = let same : at ≡ at + 0 = omega arith in ap (λ (n : ℕ). record { place = n; entry = e } ∷ []) same
records-more at (x ∷ E) e =
    let next : suc at + length E ≡ at + length (x ∷ E) = omega arith in
    ap (λ (l : List Sent). record { place = at; entry = x } ∷ l) (records-more (suc at) E e ∙ ap (λ (n : ℕ). records_at (suc at) E ++ record { place = n; entry = e } ∷ []) next)

drop-more : (from : ℕ) (E : List Entry) (e : Entry) → from ≤ length E → drop from (E ++ e ∷ []) ≡ drop from E ++ e ∷ []
drop-more zero E e within = refl
drop-more (suc from) [] e within = absurd (let no : suc from ≤ 0 = within in omega (arith, no))
drop-more (suc from) (x ∷ E) e within = drop-more from E e (let le : suc from ≤ suc (length E) = within in omega (arith, le))

-- it stands before the place from which there are records
pub none-more : (from : ℕ) (E : List Entry) (e : Entry) → length E < from → all_of from (E ++ e ∷ []) ≡ all_of from E
none-more from E e before =
    let size = length-append E (e ∷ []) in
    ap (λ (l : List Entry). feed_of (records_at from l)) (drop_all from (E ++ e ∷ []) (omega (arith, size, before)) ∙ sym (drop_all from E (omega (arith, before))))

-- or there, or behind it
pub one-more : (from : ℕ) (E : List Entry) (e : Entry) → from ≤ length E → all_of from (E ++ e ∷ []) ≡ all_of from E ++ record_at (length E) e
one-more from E e within =
    let place : from + length (drop from E) ≡ length E = omega (arith, length-drop from E, within) in
    ap (λ (l : List Entry). feed_of (records_at from l)) (drop-more from E e within)
    ∙ ap feed_of (records-more from (drop from E) e)
    ∙ flat_map-append sent_bytes (records_from from E) (record { place = from + length (drop from E); entry = e } ∷ [])
    ∙ ap (λ (n : ℕ). all_of from E ++ (record_at n e ++ [])) place
    ∙ ap (λ (l : List ℕ). all_of from E ++ l) (append-nil (record_at (length E) e))
