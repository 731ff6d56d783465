-- The end of a run.
use Rattle.std.proofs.Common.{◌≡◌, ◌⊎◌, inl, inr, ℕ, ◌<◌, ◌≤◌, ◌^◌, arith, List, [], Option, length, ap, sym, subst}
use Rattle.std.specs.Prelude.{IsTrue, OnOk, Result, Ok, Err}
use Rattle.std.specs.Io.KnownBytes.{Appends, Consumes}
use Rattle.ps_base.specs.Causes.{Rose}
use Rattle.ps_wire.specs.AtEnd.{nothing_of}
use Rattle.ps_wire.specs.Reading.{Gave}
use Rattle.ps_wire.specs.Writing.{AppendsFront}
use Rattle.ps_wire.proofs.Written.{none_written}
use Rattle.ps_follow_run.specs.Following.{Follows, GaveAll, GaveFewer, IsReadToEnd, Worked, end_in, said_from}
use Rattle.ps_follow_run.specs.Lines.{AllSo, EndsSo, IsEnd, SoFar, Told}
use Rattle.ps_follow_run.specs.declared.ends.FollowEnd.{FollowEnd}
use Rattle.ps_follow_run.specs.declared.ends.FollowEnd.TheVariants as end
use Rattle.ps_follow_run.specs.declared.pieces.Taking.{Taking}
use Rattle.ps_follow_run.proofs.Answering.{answered-as}
use Rattle.ps_follow_run.proofs.Coming.{came-none}
use Rattle.ps_follow_run.proofs.Taking.{consumed-none, good-of, whole-front}

-- what the three tell at the begin
abbrev pub told_at : Worked → Told
told_at w = record { feed = w.feed.bytes; input = w.input.bytes; sink = w.sink.bytes }

-- the counts of faults, as they are known of one call
pub record Counts (w : Worked) (why : FollowEnd) : Type 0 where
  pub feed : w.feed.faults ≤ w.feed_now.faults
  pub input : w.input.faults ≤ w.input_now.faults
  pub sink : w.sink.faults ≤ w.sink_now.faults
  pub fault : why ≡ end.Fault → Rose w.feed.faults w.feed_now.faults ⊎ (Rose w.input.faults w.input_now.faults ⊎ Rose w.sink.faults w.sink_now.faults)

gave-all : (w : Worked) (given : ℕ) → Gave w.input.bytes w.input_now.bytes 0 given → given ≡ 2 ^ 40 → GaveAll w.input w.input_now
gave-all w given g e = (g.0, g.1, (let n = g.2 in omega (arith, n, e)))

gave-fewer : (w : Worked) (given : ℕ) → Gave w.input.bytes w.input_now.bytes 0 given → given < 2 ^ 40 → GaveFewer w.input w.input_now
gave-fewer w given g e = (g.0, g.1, (let n = g.2 in omega (arith, n, e)))

long-by : (w : Worked) (feed : List ℕ) (given : ℕ) → Gave w.input.bytes w.input_now.bytes 0 given → (length feed ≡ 2 ^ 40) ⊎ (given ≡ 2 ^ 40) → (length feed ≡ 2 ^ 40) ⊎ GaveAll w.input w.input_now
long-by w feed given g (inl e) = inl e
long-by w feed given g (inr e) = inr (gave-all w given g e)

module _ (host : List ℕ) (w : Worked) (now : Told) (feed-is : now.feed ≡ w.feed_now.bytes) (sink-is : now.sink ≡ w.sink_now.bytes) (given : ℕ) (gave : Gave w.input.bytes w.input_now.bytes 0 given)
  where
    pub finish-err : (why : FollowEnd) → Counts w why → EndsSo host (told_at w) now given why → Follows host w why
    finish-err why c s = record {
      feed = s.feed;
      gave = subst (λ (x : Option (List ℕ)). Consumes w.feed.bytes x s.feed) feed-is s.gave;
      answered = s.answered;
      left = s.left;
      came = s.came;
      answers = answered-as s.feed (now.feed ≡ nothing_of now.feed) (IsReadToEnd w.feed_now) (λ e. subst (λ (x : Option (List ℕ)). x ≡ nothing_of x) feed-is e) 1 0 s.answered s.answers;
      front = subst (λ (x : Option (List ℕ)). AppendsFront w.sink.bytes x (said_from host 1 s.answered)) sink-is s.front;
      whole = λ n. subst (λ (x : Option (List ℕ)). Appends w.sink.bytes x (said_from host 1 s.answered)) sink-is (s.whole n);
      done = λ e. absurd (s.never e);
      bad = s.bad;
      cause = record { feed_later = c.feed; input_later = c.input; sink_later = c.sink; fault = c.fault; long = λ e. long-by w s.feed given gave (s.long e) };
    }

    pub finish-ok : (t : Taking) (line : ℕ) → Counts w end.Done → IsTrue t.ended → IsReadToEnd w.input_now → given < 2 ^ 40 → SoFar host (told_at w) now t line → IsEnd now.input
        → Follows host w end.Done
    finish-ok t line c ended input early s left =
        let feed-end : w.feed_now.bytes ≡ nothing_of w.feed_now.bytes = subst (λ (x : Option (List ℕ)). x ≡ nothing_of x) feed-is (s.taken.at_end ended) in
        let wrote = subst (λ (x : Option (List ℕ)). Appends w.sink.bytes x (said_from host 1 s.answered)) sink-is s.wrote in
        record {
          feed = s.feed;
          gave = subst (λ (x : Option (List ℕ)). Consumes w.feed.bytes x s.feed) feed-is s.gave;
          answered = s.answered;
          left = now.input;
          came = s.came;
          answers = answered-as s.feed (IsTrue t.ended) (IsReadToEnd w.feed_now) (λ _. feed-end) 1 0 s.answered s.answers;
          front = whole-front w.sink.bytes w.sink_now.bytes (said_from host 1 s.answered) wrote;
          whole = λ _. wrote;
          done = λ _. record { feed_ended = feed-end; input_ended = input; none_left = left; feed_early = s.taken.early ended; input_early = gave-fewer w given gave early };
          bad = good-of t s.feed now.feed s.taken;
          cause = record { feed_later = c.feed; input_later = c.input; sink_later = c.sink; fault = c.fault; long = λ e. absurd (let no : end.Done ≡ end.Long = e in cc no) };
        }

    -- by what all of it came to
    pub finish : {T : Type 0} (r : Result T FollowEnd) (t : Taking) → w.feed.faults ≤ w.feed_now.faults → w.input.faults ≤ w.input_now.faults → w.sink.faults ≤ w.sink_now.faults
        → (r ≡ Err end.Fault → Rose w.feed.faults w.feed_now.faults ⊎ (Rose w.input.faults w.input_now.faults ⊎ Rose w.sink.faults w.sink_now.faults))
        → OnOk r (IsTrue t.ended) → OnOk r (IsReadToEnd w.input_now) → OnOk r (given < 2 ^ 40) → AllSo host (told_at w) now t given r → Follows host w (end_in r)
    finish (Ok x) t a b c fault ended read early so = finish-ok t so.0 (record { feed = a; input = b; sink = c; fault = λ e. absurd (let no : end.Done ≡ end.Fault = e in cc no) }) ended read early
        so.1.0 so.1.1
    finish (Err why) t a b c fault ended read early so = finish-err why (record { feed = a; input = b; sink = c; fault = λ e. fault (ap Err e) }) so

-- nothing was done, since memory ran out
pub nothing-done : (host : List ℕ) (w : Worked) → w.feed_now ≡ w.feed → w.input_now ≡ w.input → w.sink_now ≡ w.sink → Follows host w end.Memory
nothing-done host w f i s = record {
  feed = [];
  gave = subst (λ (x : Option (List ℕ)). Consumes w.feed.bytes x []) (sym (ap (λ h. h.bytes) f)) (consumed-none w.feed.bytes);
  answered = [];
  left = w.input.bytes;
  came = came-none w.input.bytes;
  answers = (let h : 0 ≤ 0 = omega arith in h);
  front = whole-front w.sink.bytes w.sink_now.bytes [] wrote;
  whole = λ _. wrote;
  done = λ e. absurd (let no : end.Memory ≡ end.Done = e in cc no);
  bad = tt;
  cause = record {
    feed_later = (let e : w.feed_now.faults ≡ w.feed.faults = ap (λ h. h.faults) f in omega (arith, e));
    input_later = (let e : w.input_now.faults ≡ w.input.faults = ap (λ h. h.faults) i in omega (arith, e));
    sink_later = (let e : w.sink_now.faults ≡ w.sink.faults = ap (λ h. h.faults) s in omega (arith, e));
    fault = λ e. absurd (let no : end.Memory ≡ end.Fault = e in cc no);
    long = λ e. absurd (let no : end.Memory ≡ end.Long = e in cc no);
  };
}
  where
    wrote : Appends w.sink.bytes w.sink_now.bytes []
    wrote = subst (λ (x : Option (List ℕ)). Appends w.sink.bytes x []) (sym (ap (λ h. h.bytes) s)) (none_written w.sink.bytes)
