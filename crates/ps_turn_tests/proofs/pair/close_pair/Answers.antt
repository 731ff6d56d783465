use Rattle.std.proofs.Common.{◌≡◌, ℕ, zero, suc, List, [], ◌∷◌, ◌++◌, sym, ap, ◌∙◌, subst}
use Rattle.std.specs.Prelude.{Some, slice_get}
use Rattle.ps_turn.specs.Seats.{number_of, IsSeatOf, IsFree, AreAll}
use Rattle.ps_turn.specs.declared.turn.Seat.{Seat}
use Rattle.ps_turn_tests.specs.declared.diary.Entry.{Entry}
use Rattle.ps_turn_tests.specs.declared.diary.Diary.{Diary}
use Rattle.ps_turn.specs.declared.turn.Turn.{Turn}
use Rattle.ps_turn.proofs.Rows.{all_back}
use Rattle.ps_turn_tests.proofs.pair.close_pair.Goals as goal

module _ (t : Turn Diary Entry) where
  abbrev Stands : ℕ → Seat Diary Entry → Type 0
  Stands k s = IsSeatOf t s × IsFree s × (number_of s ≡ k)

  both : (x y : Seat Diary Entry) → Stands 0 x → Stands 1 y → (k : ℕ) (s : Seat Diary Entry) → slice_get (x ∷ y ∷ []) k ≡ Some s → Stands k s
  both x y a b zero s e = let same : x ≡ s = cc e in subst (Stands 0) same a
  both x y a b (suc zero) s e = let same : y ≡ s = cc e in subst (Stands 1) same b
  both x y a b (suc (suc k)) s e = absurd (cc e)

pub close-requires : goal.close-requires
close-requires c =
    let x = c.args.first in
    let y = c.args.second in
    let items : c.push_reserved-2.new.self.items ≡ x ∷ y ∷ [] = c.push_reserved-2.ensures.items ∙ ap (λ l. l ++ y ∷ []) (c.push_reserved.ensures.items ∙ ap (λ l. l ++ x ∷ []) c.requires.room.0) in
    subst (λ (l : List (Seat Diary Entry)). AreAll c.args.turn l) (sym items) (all_back c.args.turn (x ∷ y ∷ []) (sym c.requires.seats) (both c.args.turn x y c.requires.first c.requires.second))
