use Rattle.std.proofs.Common.{◌∙◌, inl, inr, refl, sym}
use Rattle.ps_endpoints.proofs.Back.{held-same, returned}
use Rattle.ps_status.specs.Outside.{outside}
use Rattle.ps_status.proofs.Asking.{asked-before, asked-first}
use Rattle.ps_status.proofs.Moved.{held-is, lefts-trans}
use Rattle.ps_follow_run.specs.Following.{held_source}
use Rattle.ps_follow_command.specs.Following.{worked_over}
use Rattle.ps_follow_command.proofs.Followed.{ran-moved, worked-same}
use Rattle.ps_follow_command.proofs.following.follow_over.Goals as goal

pub returns-in-Err-clause-follows : goal.returns-in-Err-clause-follows
returns-in-Err-clause-follows g c =
    let e = c.in-Err.ensures in
    inl (
      record {
        same = record { same_sources = e.refused_sources; same_sinks = e.sinks; same_clocks = e.clocks };
        stores = e.stores;
        lefts_same = e.lefts;
        status = c.refused.ensures.only;
      },
      refl,
    )

pub returns-in-Err-clause-asked : goal.returns-in-Err-clause-asked
returns-in-Err-clause-asked g c = asked-first _ _ _ _ c.in-Err.why c.in-Err.ensures.asked

pub returns-in-Err-open_sink-clause-follows : goal.returns-in-Err-open_sink-clause-follows
returns-in-Err-open_sink-clause-follows g c =
    let w = g.W.World in
    let name = c.args.words.now.source in
    let old = c.args.world.now in
    let new = c.give_back.new.self in
    let opened = c.in-Ok.ensures in
    let e = c.in-Err-open_sink.ensures in
    let given = c.give_back.ensures in
    inl (
      record {
        same = record {
          same_sources = returned name (w.sources old) (w.sources new) (λ n differs. given.sources n differs ∙ (e.sources n ∙ opened.sources n differs))
              (held-same _ _ _ _ opened.object given.held);
          same_sinks = λ n. given.sinks n ∙ (e.refused_sinks n ∙ opened.sinks n);
          same_clocks = λ n. given.clocks n ∙ (e.clocks n ∙ opened.clocks n);
        };
        stores = λ n. given.stores n ∙ (e.stores n ∙ opened.stores n);
        lefts_same = λ n. lefts-trans _ _ _ (opened.lefts n) (lefts-trans _ _ _ (e.lefts n) (given.lefts n));
        status = c.refused-in-Err-open_sink.ensures.only;
      },
      refl,
    )

pub returns-in-Err-open_sink-clause-asked : goal.returns-in-Err-open_sink-clause-asked
returns-in-Err-open_sink-clause-asked g c =
    asked-before _ _ _ _ _ _ c.in-Ok.ensures.asked (asked-first _ _ _ _ c.in-Err-open_sink.why c.in-Err-open_sink.ensures.asked) c.give_back.ensures.asked

pub returns-in-Ok-open_sink-clause-follows : goal.returns-in-Ok-open_sink-clause-follows
returns-in-Ok-open_sink-clause-follows g c =
    let w = g.W.World in
    let words = c.args.words.now in
    let old = c.args.world.now in
    let new = c.give_back-in-Ok-open_sink.new.self in
    let opened = c.in-Ok.ensures in
    let sink = c.in-Ok-open_sink.ensures in
    let back = c.give_back_sink.ensures in
    let given = c.give_back-in-Ok-open_sink.ensures in
    inr (ran-moved words _ (worked_over words (held_source g.W.Reading.Source c.args.feed.now) (held_source g.W.Reading.Source c.run_follow-input.new.feed) (outside w old) (outside w new)) _
    (worked-same _ _ refl refl (held-is _ _ _ opened.object) (held-is _ _ _ given.held)
    (held-is _ _ _ sink.object ∙ opened.sinks words.sink) (held-is _ _ _ back.held ∙ sym (given.sinks words.sink)))
    (record { outcome = c.run_follow-input.result.end; status = c.status_of.ensures; follows = c.run_follow-input.ensures }))

pub returns-in-Ok-open_sink-clause-asked : goal.returns-in-Ok-open_sink-clause-asked
returns-in-Ok-open_sink-clause-asked g c =
    asked-before _ _ _ _ _ _ c.in-Ok.ensures.asked (1, c.in-Ok-open_sink.ensures.asked)
    (c.give_back-in-Ok-open_sink.ensures.asked ∙ c.give_back_sink.ensures.asked)

pub returns-in-Err-clause-others : goal.returns-in-Err-clause-others
returns-in-Err-clause-others g c =
    let e = c.in-Err.ensures in
    record {
      other_sources = λ n other. e.refused_sources n;
      other_sinks = λ n other. e.sinks n;
      other_stores = λ n other. e.stores n;
      other_lefts = λ n other. e.lefts n;
      all_clocks = e.clocks;
    }

pub returns-in-Err-open_sink-clause-others : goal.returns-in-Err-open_sink-clause-others
returns-in-Err-open_sink-clause-others g c =
    let opened = c.in-Ok.ensures in
    let e = c.in-Err-open_sink.ensures in
    let given = c.give_back.ensures in
    record {
      other_sources = λ n other. given.sources n other.0 ∙ (e.sources n ∙ opened.sources n other.0);
      other_sinks = λ n other. given.sinks n ∙ (e.refused_sinks n ∙ opened.sinks n);
      other_stores = λ n other. given.stores n ∙ (e.stores n ∙ opened.stores n);
      other_lefts = λ n other. lefts-trans _ _ _ (opened.lefts n) (lefts-trans _ _ _ (e.lefts n) (given.lefts n));
      all_clocks = λ n. given.clocks n ∙ (e.clocks n ∙ opened.clocks n);
    }

pub returns-in-Ok-open_sink-clause-others : goal.returns-in-Ok-open_sink-clause-others
returns-in-Ok-open_sink-clause-others g c =
    let opened = c.in-Ok.ensures in
    let sink = c.in-Ok-open_sink.ensures in
    let back = c.give_back_sink.ensures in
    let given = c.give_back-in-Ok-open_sink.ensures in
    record {
      other_sources = λ n other. given.sources n other.0 ∙ (back.sources n ∙ (sink.sources n ∙ opened.sources n other.0));
      other_sinks = λ n other. given.sinks n ∙ (back.sinks n other.0 ∙ (sink.sinks n other.0 ∙ opened.sinks n));
      other_stores = λ n other. given.stores n ∙ (back.stores n ∙ (sink.stores n ∙ opened.stores n));
      other_lefts = λ n other. lefts-trans _ _ _ (opened.lefts n) (lefts-trans _ _ _ (sink.lefts n) (lefts-trans _ _ _ (back.lefts n) (given.lefts n)));
      all_clocks = λ n. given.clocks n ∙ (back.clocks n ∙ (sink.clocks n ∙ opened.clocks n));
    }
