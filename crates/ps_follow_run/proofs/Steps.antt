-- One line after another, as it is answered.
use Rattle.std.proofs.Common.{◌≡◌, ◌≢◌, ◌⊎◌, inl, inr, ℕ, ◌+◌, ◌<◌, ◌≤◌, ◌^◌, arith, List, [], ◌∷◌, ◌++◌, Option, length, refl, sym, ◌∙◌, subst, append-nil, length-append}
use Rattle.std.specs.Prelude.{IsTrue}
use Rattle.std.specs.Io.KnownBytes.{Appends, Keeps}
use Rattle.ps_types.specs.declared.entry.Arrival.{Arrival}
use Rattle.ps_types.specs.declared.entry.Entry.{Entry}
use Rattle.ps_model.specs.Replay.{replay}
use Rattle.ps_wire.specs.AtEnd.{nothing_of}
use Rattle.ps_wire.specs.Writing.{AppendsFront}
use Rattle.ps_wire.proofs.Written.{appends_more, appends_same, none_written, second_part}
use Rattle.ps_follow_laws.specs.Answer.{answer_to}
use Rattle.ps_follow_run.specs.Following.{Answered, AreAnswered, CameOf, IfBad, IsGood, arrivals_of, said, said_from}
use Rattle.ps_follow_run.specs.Lines.{EndsSo, SoFar, Told}
use Rattle.ps_follow_run.specs.Pieces.{HasTaken, PieceEnds, TookPiece}
use Rattle.ps_follow_run.specs.declared.ends.FollowEnd.{FollowEnd}
use Rattle.ps_follow_run.specs.declared.ends.FollowEnd.TheVariants as end
use Rattle.ps_follow_run.specs.declared.pieces.Taking.{Taking}
use Rattle.ps_follow_run.proofs.Answering.{answered-as, answered-more, answered-on, arrivals-more, at_all, leads-whole, length-more, said-more}
use Rattle.ps_follow_run.proofs.Coming.{came-more, came-none}
use Rattle.ps_follow_run.proofs.Taking.{consumed-more, consumed-none, good-of, whole-front}

-- an end that comes of no record
abbrev pub IsPlain : FollowEnd → Type 0
IsPlain why = (why ≡ end.Fault) ⊎ ((why ≡ end.Long) ⊎ (why ≡ end.Memory))

pub plain-good : (feed : List ℕ) (why : FollowEnd) → IsPlain why → IsGood feed → IfBad feed why
plain-good feed why (inl e) good = subst (IfBad feed) (sym e) good
plain-good feed why (inr (inl e)) good = subst (IfBad feed) (sym e) good
plain-good feed why (inr (inr e)) good = subst (IfBad feed) (sym e) tt

pub plain-never : (why : FollowEnd) → IsPlain why → why ≢ end.Done
plain-never why (inl e) = λ d. absurd (let no : end.Fault ≡ end.Done = sym e ∙ d in cc no)
plain-never why (inr (inl e)) = λ d. absurd (let no : end.Long ≡ end.Done = sym e ∙ d in cc no)
plain-never why (inr (inr e)) = λ d. absurd (let no : end.Memory ≡ end.Done = sym e ∙ d in cc no)

abbrev pub to_feed : Told → Option (List ℕ) → Told
to_feed n left = record { feed = left; input = n.input; sink = n.sink }

module _ (host : List ℕ) (b n : Told) (t : Taking) (line : ℕ) (s : SoFar host b n t line) where
  ended-on : IsTrue t.ended → n.feed ≡ nothing_of n.feed
  ended-on e = s.taken.at_end e

  -- ---- a piece of the feed

  module _ (u : Taking) (left : Option (List ℕ)) (p : TookPiece t u s.feed n.feed left) where
    longer : length (s.feed ++ p.piece) ≡ length s.feed + length p.piece
    longer = length-append s.feed p.piece

    pub behind-on : (line ≤ length s.feed) ⊎ IsTrue t.ended → (line ≤ length (s.feed ++ p.piece)) ⊎ IsTrue u.ended
    behind-on (inl le) = let l = longer in inl (omega (arith, le, l))
    behind-on (inr e) = inr (p.still e).1

    ready-by : (line ≤ length s.feed) ⊎ IsTrue t.ended → (0 < length p.piece) ⊎ IsTrue u.ended → (line + 1 ≤ length (s.feed ++ p.piece)) ⊎ IsTrue u.ended
    ready-by (inr e) some = inr (p.still e).1
    ready-by (inl le) (inr e) = inr e
    ready-by (inl le) (inl some) = let l = longer in inl (omega (arith, le, some, l))

    -- as many bytes are taken as the next line wants
    pub ready : (line + 1 ≤ length (s.feed ++ p.piece)) ⊎ IsTrue u.ended
    ready = ready-by s.behind p.some

    abbrev pub so-piece : SoFar host b (to_feed n left) u line
    so-piece = record {
      feed = s.feed ++ p.piece;
      gave = consumed-more b.feed n.feed left s.feed p.piece s.gave p.gave;
      taken = p.taken;
      answered = s.answered;
      came = s.came;
      answers = answered-on s.feed p.piece (IsTrue t.ended) (IsTrue u.ended) (λ e. (p.still e).0) (λ e. (p.still e).1) 1 0 s.answered s.answers;
      many = s.many;
      behind = behind-on s.behind;
      wrote = s.wrote;
    }

  pub piece-ends : (left : Option (List ℕ)) (given : ℕ) (why : FollowEnd) → PieceEnds t s.feed n.feed left why → EndsSo host b (to_feed n left) given why
  piece-ends left given why p = record {
    feed = s.feed ++ p.piece;
    gave = consumed-more b.feed n.feed left s.feed p.piece s.gave p.gave;
    answered = s.answered;
    left = n.input;
    came = s.came;
    answers = answered-on s.feed p.piece (IsTrue t.ended) (left ≡ nothing_of left) (λ e. absurd (p.going e)) (λ e. absurd (p.going e)) 1 0 s.answered s.answers;
    front = whole-front b.sink n.sink (said_from host 1 s.answered) s.wrote;
    whole = λ _. s.wrote;
    never = p.never;
    bad = p.bad;
    long = λ e. inl (p.long e);
  }

  -- ---- an end of the input

  pub input-ends : (given : ℕ) (rest : Option (List ℕ)) (why : FollowEnd) → IsPlain why → (why ≡ end.Long → given ≡ 2 ^ 40)
      → EndsSo host b (record { feed = n.feed; input = rest; sink = n.sink }) given why
  input-ends given rest why plain long = record {
    feed = s.feed;
    gave = s.gave;
    answered = s.answered;
    left = n.input;
    came = s.came;
    answers = answered-as s.feed (IsTrue t.ended) (n.feed ≡ nothing_of n.feed) ended-on 1 0 s.answered s.answers;
    front = whole-front b.sink n.sink (said_from host 1 s.answered) s.wrote;
    whole = λ _. s.wrote;
    never = plain-never why plain;
    bad = plain-good s.feed why plain (good-of t s.feed n.feed s.taken);
    long = λ e. inr (long e);
  }

  pub none-left : (rest : Option (List ℕ)) → CameOf n.input rest [] → SoFar host b (record { feed = n.feed; input = rest; sink = n.sink }) t line
  none-left rest came = record {
    feed = s.feed;
    gave = s.gave;
    taken = s.taken;
    answered = s.answered;
    came = subst (CameOf b.input rest) (append-nil (arrivals_of s.answered)) (came-more b.input n.input rest (arrivals_of s.answered) [] s.came came);
    answers = s.answers;
    many = s.many;
    behind = s.behind;
    wrote = s.wrote;
  }

  -- ---- a line that came

  module _ (arrival : Arrival) (rest : Option (List ℕ)) (came : CameOf n.input rest (arrival ∷ [])) (ready : (line + 1 ≤ length s.feed) ⊎ IsTrue t.ended) where
    abbrev E : List Entry
    E = s.taken.entries

    abbrev a : Answered
    a = at_all s.feed arrival E

    abbrev all : List Answered
    all = s.answered ++ a ∷ []

    number : line + 1 ≡ 1 + length s.answered
    number = let m = s.many in omega (arith, m)

    came-all : CameOf b.input rest (arrivals_of all)
    came-all = subst (CameOf b.input rest) (sym (arrivals-more s.answered (at_all s.feed arrival s.taken.entries))) (came-more b.input n.input rest (arrivals_of s.answered) (arrival ∷ []) s.came came)

    answers-all : AreAnswered s.feed (IsTrue t.ended) 1 0 all
    answers-all =
        answered-more s.feed (IsTrue t.ended) arrival s.taken.entries (leads-whole s.feed s.taken.entries t.follower.at s.taken.is.fed) 1 0 (line + 1) s.answered s.answers number ready

    abbrev reply : List ℕ
    reply = said (answer_to host (replay s.taken.entries).book (line + 1) arrival)

    said-all : said_from host 1 all ≡ said_from host 1 s.answered ++ reply
    said-all = said-more host 1 (line + 1) s.answered (at_all s.feed arrival s.taken.entries) number

    -- its reply was written
    pub line-more : (sink : Option (List ℕ)) → Appends n.sink sink (said (answer_to host (replay s.taken.entries).book (line + 1) arrival))
        → SoFar host b (record { feed = n.feed; input = rest; sink = sink }) t (line + 1)
    line-more sink wrote = record {
      feed = s.feed;
      gave = s.gave;
      taken = s.taken;
      answered = all;
      came = came-all;
      answers = answers-all;
      many = (let l = length-more s.answered (at_all s.feed arrival s.taken.entries) in let m = s.many in omega (arith, l, m));
      behind = ready;
      wrote = subst (Appends b.sink sink) (sym said-all) (appends_more b.sink n.sink sink (said_from host 1 s.answered) reply s.wrote wrote);
    }

    -- or a front of it
    pub line-cut : (sink : Option (List ℕ)) (given : ℕ) → AppendsFront n.sink sink (said (answer_to host (replay s.taken.entries).book (line + 1) arrival))
        → EndsSo host b (record { feed = n.feed; input = rest; sink = sink }) given end.Fault
    line-cut sink given front = record {
      feed = s.feed;
      gave = s.gave;
      answered = all;
      left = rest;
      came = came-all;
      answers = answered-as s.feed (IsTrue t.ended) (n.feed ≡ nothing_of n.feed) ended-on 1 0 all answers-all;
      front = subst (AppendsFront b.sink sink) (sym said-all) (second_part b.sink n.sink sink (said_from host 1 s.answered) reply s.wrote front);
      whole = λ never. absurd (never refl);
      never = λ e. cc e;
      bad = good-of t s.feed n.feed s.taken;
      long = λ e. absurd (let no : end.Fault ≡ end.Long = e in cc no);
    }

    -- or memory ran out before
    pub line-lost : (sink : Option (List ℕ)) (given : ℕ) → Keeps n.sink sink → EndsSo host b (record { feed = n.feed; input = rest; sink = sink }) given end.Memory
    line-lost sink given keeps =
        let wrote = appends_same b.sink n.sink sink (said_from host 1 s.answered) s.wrote keeps in
        record {
          feed = s.feed;
          gave = s.gave;
          answered = s.answered;
          left = n.input;
          came = s.came;
          answers = answered-as s.feed (IsTrue t.ended) (n.feed ≡ nothing_of n.feed) ended-on 1 0 s.answered s.answers;
          front = whole-front b.sink sink (said_from host 1 s.answered) wrote;
          whole = λ _. wrote;
          never = λ e. cc e;
          bad = tt;
          long = λ e. absurd (let no : end.Memory ≡ end.Long = e in cc no);
        }

    -- by why it was not written whole
    pub line-ends : (sink : Option (List ℕ)) (given : ℕ) (why : FollowEnd) → (why ≡ end.Fault) ⊎ (why ≡ end.Memory)
        → (why ≡ end.Fault → AppendsFront n.sink sink (said (answer_to host (replay s.taken.entries).book (line + 1) arrival)))
        → (why ≡ end.Memory → Keeps n.sink sink) → EndsSo host b (record { feed = n.feed; input = rest; sink = sink }) given why
    line-ends sink given why (inl e) front keeps = subst (EndsSo host b (record { feed = n.feed; input = rest; sink = sink }) given) (sym e) (line-cut sink given (front e))
    line-ends sink given why (inr e) front keeps = subst (EndsSo host b (record { feed = n.feed; input = rest; sink = sink }) given) (sym e) (line-lost sink given (keeps e))

-- ---- the begin

pub begun : (host : List ℕ) (n : Told) (t : Taking) → HasTaken t [] n.feed → SoFar host n n t 0
begun host n t taken = record {
  feed = [];
  gave = consumed-none n.feed;
  taken = taken;
  answered = [];
  came = came-none n.input;
  answers = (let h : 0 ≤ 0 = omega arith in h);
  many = refl;
  behind = inl (let h : 0 ≤ 0 = omega arith in h);
  wrote = none_written n.sink;
}
