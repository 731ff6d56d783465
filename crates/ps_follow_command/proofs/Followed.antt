-- A feed that was opened in a world, followed, and given back; and then a report.
use Rattle.std.proofs.Common.{◌≡◌, ◌≢◌, inl, inr, ℕ, List, sym, ◌∙◌, subst}
use Rattle.ps_io.specs.Held.{Held, Same, SameBut, SameLefts}
use Rattle.ps_commands.specs.declared.command.FollowWords.{FollowWords}
use Rattle.ps_endpoints.proofs.Back.{returned}
use Rattle.ps_follow_run.specs.Following.{Worked}
use Rattle.ps_status.specs.Outside.{Outside, SameStreams}
use Rattle.ps_status.specs.declared.status.Status.{Status}
use Rattle.ps_status.proofs.Moved.{lefts-trans, untouched-told}
use Rattle.ps_follow_command.specs.Following.{FollowsIn, FollowsOver, RanFollowing, worked_in}

pub worked-same : (t u : Worked) → t.feed ≡ u.feed → t.feed_now ≡ u.feed_now → t.input ≡ u.input → t.input_now ≡ u.input_now → t.sink ≡ u.sink → t.sink_now ≡ u.sink_now → t ≡ u
worked-same t u a b c d e f = λ i. record { feed = a i; feed_now = b i; input = c i; input_now = d i; sink = e i; sink_now = f i }

pub ran-moved : (w : FollowWords) (t u : Worked) (st : Status) → t ≡ u → RanFollowing w t st → RanFollowing w u st
ran-moved w t u st same ran = subst (λ (x : Worked). RanFollowing w x st) same ran

-- ---- the feed

-- it was opened before the source of lines, and is given back after it
module _ (w : FollowWords) (apart : w.feed ≢ w.source) (feed feed_now : Held) (old opened mid new : Outside) (lefts lefts_opened lefts_mid lefts_now : List ℕ → ℕ → List ℕ → Type 0)
    (was : feed ≡ old.sources w.feed) (is : feed_now ≡ new.sources w.feed)
    (opens : SameBut w.feed old.sources opened.sources) (gives : SameBut w.feed mid.sources new.sources)
    (sinks_before : Same old.sinks opened.sinks) (sinks_after : Same mid.sinks new.sinks) (clocks_before : Same old.clocks opened.clocks) (clocks_after : Same mid.clocks new.clocks)
    (stores_before : Same old.stores opened.stores) (stores_after : Same mid.stores new.stores)
    (lefts_before : SameLefts lefts lefts_opened) (lefts_after : SameLefts lefts_mid lefts_now) where
  other : w.source ≢ w.feed
  other e = apart (sym e)

  pub in-world : (st : Status) → FollowsOver w feed feed_now opened mid lefts_opened lefts_mid st → FollowsIn w old new lefts lefts_now st
  in-world st (inl not) = inl (record {
    same = record {
      same_sources = returned w.feed old.sources new.sources (λ n differs. gives n differs ∙ (not.0.same.same_sources n ∙ opens n differs)) (sym is ∙ (not.1 ∙ was));
      same_sinks = λ n. sinks_after n ∙ (not.0.same.same_sinks n ∙ sinks_before n);
      same_clocks = λ n. clocks_after n ∙ (not.0.same.same_clocks n ∙ clocks_before n);
    };
    stores = λ n. stores_after n ∙ (not.0.stores n ∙ stores_before n);
    lefts_same = λ n. lefts-trans (lefts n) (lefts_opened n) (lefts_now n) (lefts_before n)
        (lefts-trans (lefts_opened n) (lefts_mid n) (lefts_now n) (not.0.lefts_same n) (lefts_after n));
    status = not.0.status;
  })
  in-world st (inr ran) = inr (ran-moved w _ (worked_in w old new) st
      (worked-same _ (worked_in w old new) was is (opens w.source other) (sym (gives w.source other)) (sinks_before w.sink) (sym (sinks_after w.sink))) ran)

-- ---- the report

module _ (old new new1 : Outside) (lefts lefts_now lefts_told : List ℕ → ℕ → List ℕ → Type 0) (after : SameStreams new new1)
    (stores : Same new.stores new1.stores) (same_lefts : SameLefts lefts_now lefts_told) where
  pub follows-told : (w : FollowWords) (st : Status) → FollowsIn w old new lefts lefts_now st → FollowsIn w old new1 lefts lefts_told st
  follows-told w st (inl not) = inl (untouched-told old new new1 lefts lefts_now lefts_told after stores same_lefts st not)
  follows-told w st (inr ran) = inr (ran-moved w (worked_in w old new) (worked_in w old new1) st
      (λ i. record {
        feed = old.sources w.feed;
        feed_now = sym (after.same_sources w.feed) i;
        input = old.sources w.source;
        input_now = sym (after.same_sources w.source) i;
        sink = old.sinks w.sink;
        sink_now = sym (after.same_sinks w.sink) i;
      }) ran)
