use Rattle.std.proofs.Common.{◌∙◌, inl, inr, sym}
use Rattle.ps_endpoints.proofs.Back.{returned}
use Rattle.ps_status.proofs.Asking.{asked-before, asked-first}
use Rattle.ps_status.proofs.Moved.{held-is, lefts-back, lefts-trans, store-is}
use Rattle.ps_follow_command.proofs.Fed.{fed-moved}
use Rattle.ps_follow_command.proofs.feeding.feed_store.Goals as goal

pub returns-in-Err-clause-feeds : goal.returns-in-Err-clause-feeds
returns-in-Err-clause-feeds g c =
    let e = c.in-Err.ensures in
    inl (record {
      same = record { same_sources = e.sources; same_sinks = e.sinks; same_clocks = e.clocks };
      stores = e.refused_stores;
      lefts_same = e.refused_lefts;
      status = c.refused.ensures.only;
    })

pub returns-in-Err-clause-asked : goal.returns-in-Err-clause-asked
returns-in-Err-clause-asked g c = asked-first _ _ _ _ c.in-Err.why c.in-Err.ensures.asked

pub returns-in-Err-open_sink-clause-feeds : goal.returns-in-Err-open_sink-clause-feeds
returns-in-Err-open_sink-clause-feeds g c =
    let w = g.W.World in
    let d = g.W.Store.Disk in
    let name = c.args.words.now.store in
    let old = c.args.world.now in
    let new = c.give_back_disk.new.self in
    let opened = c.in-Ok.ensures in
    let e = c.in-Err-open_sink.ensures in
    let given = c.give_back_disk.ensures in
    inl (record {
      same = record {
        same_sources = λ n. given.sources n ∙ (e.sources n ∙ opened.sources n);
        same_sinks = λ n. given.sinks n ∙ (e.refused_sinks n ∙ opened.sinks n);
        same_clocks = λ n. given.clocks n ∙ (e.clocks n ∙ opened.clocks n);
      };
      stores = returned name (w.stores old) (w.stores new) (λ n differs. given.stores n differs ∙ (e.stores n ∙ opened.stores n differs))
          (sym (store-is d c.in-Ok.disk (w.stores new name) given.held) ∙ store-is d c.in-Ok.disk (w.stores old name) opened.object);
      lefts_same = lefts-back name (w.lefts old) (w.lefts new)
          (λ n differs. lefts-trans _ _ _ (opened.lefts n differs) (lefts-trans _ _ _ (e.lefts n) (given.lefts n differs)))
          (lefts-trans _ _ _ opened.left given.left);
      status = c.refused-in-Err-open_sink.ensures.only;
    })

pub returns-in-Err-open_sink-clause-asked : goal.returns-in-Err-open_sink-clause-asked
returns-in-Err-open_sink-clause-asked g c =
    asked-before _ _ _ _ _ _ c.in-Ok.ensures.asked (asked-first _ _ _ _ c.in-Err-open_sink.why c.in-Err-open_sink.ensures.asked) c.give_back_disk.ensures.asked

pub returns-in-Ok-open_sink-clause-feeds : goal.returns-in-Ok-open_sink-clause-feeds
returns-in-Ok-open_sink-clause-feeds g c =
    let w = g.W.World in
    let d = g.W.Store.Disk in
    let words = c.args.words.now in
    let old = c.args.world.now in
    let new = c.give_back_disk-in-Ok-open_sink.new.self in
    let opened = c.in-Ok.ensures in
    let sink = c.in-Ok-open_sink.ensures in
    let back = c.give_back_sink.ensures in
    let given = c.give_back_disk-in-Ok-open_sink.ensures in
    let made = c.feed_disk-status in
    inr (fed-moved d.tells (d.left_since made.result.1) (w.lefts new words.store) (λ t x l. (given.left t x).1 l) words.from _ _ _ _ _ _ _ _ made.result.0
    (store-is d c.in-Ok.disk (w.stores old words.store) opened.object) (store-is d made.result.1 (w.stores new words.store) given.held)
    (held-is _ _ _ sink.object ∙ opened.sinks words.sink) (held-is _ _ _ back.held ∙ sym (given.sinks words.sink)) made.ensures)

pub returns-in-Ok-open_sink-clause-asked : goal.returns-in-Ok-open_sink-clause-asked
returns-in-Ok-open_sink-clause-asked g c =
    asked-before _ _ _ _ _ _ c.in-Ok.ensures.asked (1, c.in-Ok-open_sink.ensures.asked)
    (c.give_back_disk-in-Ok-open_sink.ensures.asked ∙ c.give_back_sink.ensures.asked)

pub returns-in-Err-clause-others : goal.returns-in-Err-clause-others
returns-in-Err-clause-others g c =
    let e = c.in-Err.ensures in
    record {
      other_sources = λ n other. e.sources n;
      other_sinks = λ n other. e.sinks n;
      other_stores = λ n other. e.refused_stores n;
      other_lefts = λ n other. e.refused_lefts n;
      all_clocks = e.clocks;
    }

pub returns-in-Err-open_sink-clause-others : goal.returns-in-Err-open_sink-clause-others
returns-in-Err-open_sink-clause-others g c =
    let opened = c.in-Ok.ensures in
    let e = c.in-Err-open_sink.ensures in
    let given = c.give_back_disk.ensures in
    record {
      other_sources = λ n other. given.sources n ∙ (e.sources n ∙ opened.sources n);
      other_sinks = λ n other. given.sinks n ∙ (e.refused_sinks n ∙ opened.sinks n);
      other_stores = λ n other. given.stores n other.0 ∙ (e.stores n ∙ opened.stores n other.0);
      other_lefts = λ n other. lefts-trans _ _ _ (opened.lefts n other.0) (lefts-trans _ _ _ (e.lefts n) (given.lefts n other.0));
      all_clocks = λ n. given.clocks n ∙ (e.clocks n ∙ opened.clocks n);
    }

pub returns-in-Ok-open_sink-clause-others : goal.returns-in-Ok-open_sink-clause-others
returns-in-Ok-open_sink-clause-others g c =
    let opened = c.in-Ok.ensures in
    let sink = c.in-Ok-open_sink.ensures in
    let back = c.give_back_sink.ensures in
    let given = c.give_back_disk-in-Ok-open_sink.ensures in
    record {
      other_sources = λ n other. given.sources n ∙ (back.sources n ∙ (sink.sources n ∙ opened.sources n));
      other_sinks = λ n other. given.sinks n ∙ (back.sinks n other.0 ∙ (sink.sinks n other.0 ∙ opened.sinks n));
      other_stores = λ n other. given.stores n other.0 ∙ (back.stores n ∙ (sink.stores n ∙ opened.stores n other.0));
      other_lefts = λ n other. lefts-trans _ _ _ (opened.lefts n other.0) (lefts-trans _ _ _ (sink.lefts n) (lefts-trans _ _ _ (back.lefts n) (given.lefts n other.0)));
      all_clocks = λ n. given.clocks n ∙ (back.clocks n ∙ (sink.clocks n ∙ opened.clocks n));
    }
