-- A history is told entry by entry.
use Rattle.std.proofs.Common.{◌≡◌, ℕ, suc, ◌+◌, ◌<◌, arith, Bool, true, false, List, [], ◌∷◌, ◌++◌, length, Option, Some, refl, sym, ap, ◌∙◌, append-nil}
use Rattle.std.specs.Prelude.{slice_get}
use Rattle.ps_types.specs.declared.entry.Entry.{Entry}
use Rattle.ps_types.specs.declared.jid.Jid.{Jid}
use Rattle.ps_types.specs.declared.node.NodeKey.{NodeKey}
use Rattle.ps_model.specs.After.{after}
use Rattle.ps_model.specs.Book.{State}
use Rattle.ps_audit_laws.specs.declared.told.ExplainLine.{ExplainLine}
use Rattle.ps_audit_laws.specs.declared.told.Four.{Four}
use Rattle.ps_audit_laws.specs.History.{history, is_told, verdicts_after}
use Rattle.ps_audit_laws.specs.Verdicts.{four_at}
use Rattle.ps_audit_laws.proofs.Telling.{last, lines, lines-more, quiet, stays}
use Rattle.ps_audit.proofs.Going.{Going, going-on}

-- so many entries were taken, and the lines up to there are told
pub record Walk (E : List Entry) (who : Jid) (node : NodeKey) (i : ℕ) (state : State) (at : ℕ) (newest : Option Four) (told : List ExplainLine) : Type 0 where
  pub going : Going E i state
  pub counted : at ≡ i
  pub asked : newest ≡ verdicts_after E who node i
  pub listed : told ≡ lines E who node i

module _ (E : List Entry) (who : Jid) (node : NodeKey) (i : ℕ) (state : State) (at : ℕ) (newest : Option Four) (told : List ExplainLine) (w : Walk E who node i state at newest told) where
  module _ (e : Entry) (here : slice_get E i ≡ Some e) (inside : i < length E) (later : State) (goes : later ≡ after state e) (four : Option Four) (asked : four ≡ four_at later.book node who) where
    next : Going E (suc i) later
    next = going-on E i state w.going e here inside later goes

    next-four : four ≡ verdicts_after E who node (suc i)
    next-four = asked ∙ ap (λ (s : State). four_at s.book node who) next.replayed

    one-more : at ≡ i → at + 1 ≡ suc i
    one-more e = omega (arith, e)

    -- the same as before: no line
    pub walk-quiet : four ≡ newest → Walk E who node (suc i) later (at + 1) newest told
    walk-quiet same =
        let unchanged : verdicts_after E who node (suc i) ≡ verdicts_after E who node i = sym next-four ∙ same ∙ w.asked in
        let silent = stays (verdicts_after E who node (suc i)) (verdicts_after E who node i) unchanged in
        record {
          going = next;
          counted = one-more w.counted;
          asked = sym same ∙ next-four;
          listed = w.listed ∙ sym (lines-more E who node i ∙ ap (λ (b : Bool). lines E who node i ++ last E who node b (suc i)) silent ∙ append-nil (lines E who node i));
        }

    -- another: a line more
    pub walk-told : (four ≡ newest → ⊥) → Walk E who node (suc i) later (at + 1) four (told ++ record { after = at + 1; four = four } ∷ [])
    walk-told differs =
        record {
          going = next;
          counted = one-more w.counted;
          asked = next-four;
          listed = same-line (is_told E who node (suc i)) refl;
        }
      where
        line-is : at + 1 ≡ suc i → four ≡ verdicts_after E who node (suc i) → told ≡ lines E who node i
            → told ++ record { after = at + 1; four = four } ∷ [] ≡ lines E who node i ++ last E who node true (suc i)
        line-is a f t = λ k. t k ++ record { after = a k; four = f k } ∷ []

        same-line : (b : Bool) → is_told E who node (suc i) ≡ b → told ++ record { after = at + 1; four = four } ∷ [] ≡ lines E who node (suc i)
        same-line true h = line-is (one-more w.counted) next-four w.listed ∙ sym (lines-more E who node i ∙ ap (λ (b : Bool). lines E who node i ++ last E who node b (suc i)) h)
        same-line false h = absurd (differs (next-four ∙ quiet E who node i h ∙ sym w.asked))

pub walk-ends : (E : List Entry) (who : Jid) (node : NodeKey) (i : ℕ) (state : State) (at : ℕ) (newest : Option Four) (told : List ExplainLine) → Walk E who node i state at newest told
    → i ≡ length E → told ≡ history E who node
walk-ends E who node i state at newest told w e = w.listed ∙ ap (lines E who node) e
