-- Entries are taken one after the other.
use Rattle.std.proofs.Common.{◌≡◌, ℕ, zero, suc, ◌+◌, ◌<◌, ◌≤◌, arith, List, [], ◌∷◌, ◌++◌, length, take, Some, None, sym, ap, ◌∙◌}
use Rattle.std.specs.Prelude.{slice_get}
use Rattle.ps_types.specs.declared.entry.Entry.{Entry}
use Rattle.ps_model.specs.After.{after}
use Rattle.ps_model.specs.Book.{State, empty_state}
use Rattle.ps_model.specs.Replay.{replay}
use Rattle.ps_model.proofs.Going.{replay-append}
use Rattle.ps_model.proofs.TheLaws.{count-is}

-- ---- an entry of a list

front-more : (i : ℕ) (E : List Entry) (e : Entry) → slice_get E i ≡ Some e → take (suc i) E ≡ take i E ++ e ∷ []
front-more zero [] e h = absurd (let no : None ≡ Some e = h in cc no)
front-more zero (x ∷ E) e h = let same : x ≡ e = cc h in ap (λ (y : Entry). y ∷ []) same
front-more (suc i) [] e h = absurd (let no : None ≡ Some e = h in cc no)
front-more (suc i) (x ∷ E) e h = ap (λ (r : List Entry). x ∷ r) (front-more i E e h)

-- ---- so many entries were taken

pub record Going (E : List Entry) (i : ℕ) (state : State) : Type 0 where
  pub within : i ≤ length E
  pub replayed : state ≡ replay (take i E)

module _ (E : List Entry) (i : ℕ) (state : State) (w : Going E i state) where
  -- and one more
  pub going-on : (e : Entry) → slice_get E i ≡ Some e → i < length E → (later : State) → later ≡ after state e → Going E (suc i) later
  going-on e here inside later goes = record {
    within = omega (arith, inside);
    replayed = goes ∙ ap (λ (s : State). after s e) w.replayed ∙ sym (replay-append (take i E) (e ∷ []) empty_state) ∙ ap replay (sym (front-more i E e here));
  }
