-- One host more.
use Rattle.std.proofs.Common.{◌≡◌, ℕ, ◌+◌, ◌<◌, inl, inr, List, [], ◌∷◌, ◌++◌, length, get_or, take, ap, sym, ◌∙◌, subst}
use Rattle.std.proofs.lemmas.List.{map-append, take_more}
use Rattle.ps_world.proofs.Lists.{get-snoc}
use Rattle.ps_hall_open.specs.Fresh.{AreFreshRows, IsFreshRow}
use Rattle.ps_hall_state.specs.declared.state.HostRow.{HostRow}

module _ (hosts : List (List ℕ)) where
  one_more : (i : ℕ) (host : List ℕ) → i < length hosts → host ≡ get_or hosts i host → take (i + 1) hosts ≡ take i hosts ++ host ∷ []
  one_more i host within is = take_more hosts i host within ∙ ap (λ (h : List ℕ). take i hosts ++ h ∷ []) (sym is)

  pub rows_more : (rows : List HostRow) (i : ℕ) (host : List ℕ) (row : HostRow) → i < length hosts → host ≡ get_or hosts i host → AreFreshRows (take i hosts) rows → row.host ≡ host → IsFreshRow row
      → AreFreshRows (take (i + 1) hosts) (rows ++ row ∷ [])
  rows_more rows i host row within is so_far name fresh = record {
    hosts_are = map-append (λ (r : HostRow). r.host) rows (row ∷ []) ∙ ((λ j. so_far.hosts_are j ++ name j ∷ []) ∙ sym (one_more i host within is));
    each = λ k r here. elim (get-snoc rows row k r here) [ inl old ↦ so_far.each k r old.1 | inr new ↦ subst IsFreshRow new.1 fresh ];
  }
