-- Pieces that are taken one after another.
use Rattle.std.proofs.Common.{◌≡◌, inr, ℕ, List, [], ◌++◌, Option, length, refl, ap, sym, ◌∙◌, subst, append_assoc, append-nil}
use Rattle.std.specs.Prelude.{IsTrue}
use Rattle.std.specs.Io.KnownBytes.{Consumes}
use Rattle.ps_follow_run.specs.Following.{IfBad}
use Rattle.ps_follow_run.specs.Pieces.{HasTaken, PieceEnds, TookPiece}
use Rattle.ps_follow_run.specs.declared.ends.FollowEnd.{FollowEnd}
use Rattle.ps_follow_run.specs.declared.pieces.Taking.{Taking}
use Rattle.ps_follow_run.proofs.Taking.{consumed-more, consumed-none}

-- so many bytes were taken since
pub record Rests (old new : Taking) (feed : List ℕ) (before now : Option (List ℕ)) : Type 0 where
  pub piece : List ℕ
  pub gave : Consumes before now piece
  pub taken : HasTaken new (feed ++ piece) now
  pub still : IsTrue old.ended → (piece ≡ []) × IsTrue new.ended

pub rests-none : (t : Taking) (feed : List ℕ) (left : Option (List ℕ)) → HasTaken t feed left → Rests t t feed left left
rests-none t feed left h = record { piece = []; gave = consumed-none left; taken = subst (λ (x : List ℕ). HasTaken t x left) (sym (append-nil feed)) h; still = λ e. (refl, e) }

module _ (old mid : Taking) (feed : List ℕ) (before between : Option (List ℕ)) (r : Rests old mid feed before between) where
  module _ (new : Taking) (now : Option (List ℕ)) (p : TookPiece mid new (feed ++ r.piece) between now) where
    no-more : IsTrue old.ended → (r.piece ++ p.piece ≡ []) × IsTrue new.ended
    no-more e =
        let a = r.still e in
        let b = p.still a.1 in
        (ap (λ (x : List ℕ). x ++ p.piece) a.0 ∙ b.0, b.1)

    pub rests-more : Rests old new feed before now
    rests-more = record {
      piece = r.piece ++ p.piece;
      gave = consumed-more before between now r.piece p.piece r.gave p.gave;
      taken = subst (λ (x : List ℕ). HasTaken new x now) (append_assoc feed r.piece p.piece) p.taken;
      still = no-more;
    }

  pub rests-end : (now : Option (List ℕ)) (why : FollowEnd) → PieceEnds mid (feed ++ r.piece) between now why → PieceEnds old feed before now why
  rests-end now why p = record {
    piece = r.piece ++ p.piece;
    gave = consumed-more before between now r.piece p.piece r.gave p.gave;
    going = λ e. p.going (r.still e).1;
    never = p.never;
    bad = subst (λ (x : List ℕ). IfBad x why) (append_assoc feed r.piece p.piece) p.bad;
    long = λ e. sym (ap (λ (x : List ℕ). length x) (append_assoc feed r.piece p.piece)) ∙ p.long e;
  }

pub rests-done : (old new : Taking) (feed : List ℕ) (before now : Option (List ℕ)) → Rests old new feed before now → IsTrue new.ended → TookPiece old new feed before now
rests-done old new feed before now r ended = record { piece = r.piece; gave = r.gave; taken = r.taken; some = inr ended; still = r.still }
