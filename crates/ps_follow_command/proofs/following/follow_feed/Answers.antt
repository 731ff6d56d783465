use Rattle.std.proofs.Common.{◌∙◌, inl}
use Rattle.ps_status.specs.Outside.{outside}
use Rattle.ps_status.proofs.Asking.{asked-before, asked-first}
use Rattle.ps_status.proofs.Moved.{held-is, lefts-trans}
use Rattle.ps_follow_run.specs.Following.{held_source}
use Rattle.ps_follow_command.proofs.Followed.{in-world}
use Rattle.ps_follow_command.proofs.following.follow_feed.Goals as goal

pub returns-in-Err-clause-follows : goal.returns-in-Err-clause-follows
returns-in-Err-clause-follows g c =
    let e = c.in-Err.ensures in
    inl (record {
      same = record { same_sources = e.refused_sources; same_sinks = e.sinks; same_clocks = e.clocks };
      stores = e.stores;
      lefts_same = e.lefts;
      status = c.refused.ensures.only;
    })

pub returns-in-Err-clause-asked : goal.returns-in-Err-clause-asked
returns-in-Err-clause-asked g c = asked-first _ _ _ _ c.in-Err.why c.in-Err.ensures.asked

pub returns-clause-follows : goal.returns-clause-follows
returns-clause-follows g c =
    let w = g.W.World in
    let s = g.W.Reading.Source in
    let opened = c.in-Ok.ensures in
    let given = c.give_back.ensures in
    let made = c.follow_over-status.ensures in
    in-world c.args.words.now c.requires.well.apart (held_source s c.in-Ok.feed) (held_source s c.follow_over-status.new.feed)
    (outside w c.args.world.now) (outside w c.open_source.new.self) (outside w c.follow_over-status.new.world) (outside w c.give_back.new.self)
    (w.lefts c.args.world.now) (w.lefts c.open_source.new.self) (w.lefts c.follow_over-status.new.world) (w.lefts c.give_back.new.self)
    (held-is _ _ _ opened.object) (held-is _ _ _ given.held) opened.sources given.sources opened.sinks given.sinks opened.clocks given.clocks opened.stores given.stores
    opened.lefts given.lefts c.follow_over-status.result made.follows

pub returns-clause-asked : goal.returns-clause-asked
returns-clause-asked g c = asked-before _ _ _ _ _ _ c.in-Ok.ensures.asked c.follow_over-status.ensures.asked c.give_back.ensures.asked

pub returns-in-Err-clause-others : goal.returns-in-Err-clause-others
returns-in-Err-clause-others g c =
    let e = c.in-Err.ensures in
    record {
      other_sources = λ n other. e.refused_sources n;
      other_sinks = λ n other. e.sinks n;
      other_stores = λ n other. e.stores n;
      other_lefts = λ n other. e.lefts n;
      all_clocks = e.clocks;
    }

pub returns-clause-others : goal.returns-clause-others
returns-clause-others g c =
    let opened = c.in-Ok.ensures in
    let made = c.follow_over-status.ensures.others in
    let given = c.give_back.ensures in
    record {
      other_sources = λ n other. given.sources n other.0 ∙ (made.other_sources n other.1 ∙ opened.sources n other.0);
      other_sinks = λ n other. given.sinks n ∙ (made.other_sinks n other ∙ opened.sinks n);
      other_stores = λ n other. given.stores n ∙ (made.other_stores n other ∙ opened.stores n);
      other_lefts = λ n other. lefts-trans _ _ _ (opened.lefts n) (lefts-trans _ _ _ (made.other_lefts n other) (given.lefts n));
      all_clocks = λ n. given.clocks n ∙ (made.all_clocks n ∙ opened.clocks n);
    }
