-- A history is told of one entry more.
use Rattle.std.proofs.Common.{◌≡◌, ℕ, zero, suc, ◌+◌, ◌≤◌, arith, Bool, true, false, not, List, [], ◌∷◌, ◌++◌, length, take, Option, Some, refl, sym, ap, subst, ◌∙◌, length-append}
use Rattle.std.specs.Prelude.{slice_get}
use Rattle.std.specs.Str.{bytes_eq}
use Rattle.std.proofs.lemmas.List.{take_all}
use Rattle.ps_types.specs.declared.entry.Entry.{Entry}
use Rattle.ps_types.specs.declared.jid.Jid.{Jid}
use Rattle.ps_types.specs.declared.node.NodeKey.{NodeKey}
use Rattle.ps_model.specs.After.{after}
use Rattle.ps_model.specs.Book.{State, empty_state}
use Rattle.ps_model.specs.Replay.{replay}
use Rattle.ps_model.proofs.Going.{replay-append}
use Rattle.ps_audit_laws.specs.declared.told.ExplainLine.{ExplainLine}
use Rattle.ps_audit_laws.specs.declared.told.Four.{Four}
use Rattle.ps_audit_laws.specs.History.{is_told, verdicts_after}
use Rattle.ps_audit_laws.specs.Verdicts.{four_at, four_text}
use Rattle.ps_audit_laws.proofs.Telling.{last, lines, lines-more}
use Rattle.ps_audit.specs.Told.{IsTold}
use Rattle.ps_audit.proofs.Walks.{Walk, walk-ends, walk-quiet, walk-told}
use Rattle.ps_model.proofs.TheLaws.{count-is}

-- ---- a front of a list

take-front : (p : ℕ) (E F : List Entry) → p ≤ length E → take p (E ++ F) ≡ take p E
take-front zero E F within = refl
take-front (suc p) [] F within = absurd (let no : suc p ≤ 0 = within in omega (arith, no))
take-front (suc p) (e ∷ E) F within = ap (λ (l : List Entry). e ∷ l) (take-front p E F (let le : suc p ≤ suc (length E) = within in omega (arith, le)))

here-is : (E : List Entry) (e : Entry) → slice_get (E ++ e ∷ []) (length E) ≡ Some e
here-is [] e = refl
here-is (x ∷ E) e = here-is E e

module _ (E F : List Entry) (who : Jid) (node : NodeKey) where
  front-verdicts : (p : ℕ) → p ≤ length E → verdicts_after (E ++ F) who node p ≡ verdicts_after E who node p
  front-verdicts p within = ap (λ (l : List Entry). four_at (replay l).book node who) (take-front p E F within)

  front-told : (p : ℕ) → p ≤ length E → is_told (E ++ F) who node p ≡ is_told E who node p
  front-told zero within = refl
  front-told (suc p) within =
      let a = front-verdicts (suc p) within in
      let b = front-verdicts p (omega (arith, within)) in
      λ i. not (bytes_eq (four_text (a i)) (four_text (b i)))

  front-last : (p : ℕ) (b : Bool) → p ≤ length E → last (E ++ F) who node b p ≡ last E who node b p
  front-last p true within = let a = front-verdicts p within in λ i. record { after = p; four = a i } ∷ []
  front-last p false within = refl

  front-lines : (n : ℕ) → n ≤ length E → lines (E ++ F) who node n ≡ lines E who node n
  front-lines zero within = let a = front-verdicts 0 within in λ i. record { after = 0; four = a i } ∷ []
  front-lines (suc n) within =
      let more = front-lines n (omega (arith, within)) in
      let told = front-told (suc n) within in
      lines-more (E ++ F) who node n
      ∙ (λ i. more i ++ last (E ++ F) who node (told i) (suc n))
      ∙ ap (λ (l : List ExplainLine). lines E who node n ++ l) (front-last (suc n) (is_told E who node (suc n)) within)
      ∙ sym (lines-more E who node n)

-- ---- one entry more

module _ (E : List Entry) (who : Jid) (node : NodeKey) (newest : Option Four) (told : List ExplainLine) (so : IsTold E who node newest told) (e : Entry) (state : State)
    (is : state ≡ replay (E ++ e ∷ [])) where
  longer : length (E ++ e ∷ []) ≡ suc (length E)
  longer = omega (arith, length-append E (e ∷ []))

  walk : Walk (E ++ e ∷ []) who node (length E) (replay E) (length E) newest told
  walk = record {
    going = record { within = omega (arith, longer); replayed = ap replay (sym (take-front (length E) E (e ∷ []) (omega arith) ∙ take_all (length E) E (omega arith))) };
    counted = refl;
    asked = so.newest_is ∙ sym (front-verdicts E (e ∷ []) who node (length E) (omega arith));
    listed = so.listed ∙ sym (front-lines E (e ∷ []) who node (length E) (omega arith));
  }

  goes : state ≡ after (replay E) e
  goes = is ∙ replay-append E (e ∷ []) empty_state

  module _ (four : Option Four) (asked : four ≡ four_at state.book node who) where
    told-as : (at : ℕ) (now : Option Four) (all : List ExplainLine) → Walk (E ++ e ∷ []) who node (suc (length E)) state at now all → IsTold (E ++ e ∷ []) who node now all
    told-as at now all w = record {
      newest_is = w.asked ∙ ap (verdicts_after (E ++ e ∷ []) who node) (sym longer);
      listed = walk-ends (E ++ e ∷ []) who node (suc (length E)) state at now all w (sym longer);
    }

    -- no line, where they say the same
    pub told-quiet : four ≡ newest → IsTold (E ++ e ∷ []) who node newest told
    told-quiet same =
        told-as (length E + 1) newest told
        (walk-quiet (E ++ e ∷ []) who node (length E) (replay E) (length E) newest told walk e (here-is E e) (omega (arith, longer)) state goes four asked same)

    -- a line, where they say another thing
    pub told-more : (four ≡ newest → ⊥) → (count : ℕ) → count ≡ state.count → IsTold (E ++ e ∷ []) who node four (told ++ record { after = count; four = four } ∷ [])
    told-more differs count counts =
        let counted = counts ∙ ap (λ (s : State). s.count) is ∙ count-is (E ++ e ∷ []) empty_state in
        let size : count ≡ length E + 1 = omega (arith, counted, longer) in
        subst (λ (n : ℕ). IsTold (E ++ e ∷ []) who node four (told ++ record { after = n; four = four } ∷ [])) (sym size)
        (told-as (length E + 1) four (told ++ record { after = length E + 1; four = four } ∷ [])
        (walk-told (E ++ e ∷ []) who node (length E) (replay E) (length E) newest told walk e (here-is E e) (omega (arith, longer)) state goes four asked differs))
