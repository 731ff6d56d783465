use Rattle.std.proofs.Common.{◌∙◌, [], ◌∷◌, subst}
use Rattle.ps_io.specs.Held.{IsHeld}
use Rattle.ps_io.specs.declared.world.OpenCall.{OpenCall}
use Rattle.ps_io.specs.declared.world.Kind.TheVariants.{Source, Sink, Clock}
use Rattle.ps_endpoints.proofs.Back.{returned, held-same}
use Rattle.ps_endpoints.proofs.Asking.{Front, after-one, one-more}
use Rattle.ps_endpoints.proofs.port.open_port.Goals as goal

pub returns-in-Err-clause-refused : goal.returns-in-Err-clause-refused
returns-in-Err-clause-refused g c =
    let w = g.W.World in
    let r = g.W.Reading.Source in
    let name = c.args.stream.now.source in
    let back = subst (λ (s : g.row.W-Reading.Denot). IsHeld (w.sources c.give_back.new.self name) (r.faults s) (r.left s)) c.close.ensures c.give_back.ensures.held in
    record {
      sources = returned name (w.sources c.args.world.now) (w.sources c.give_back.new.self)
          (λ n differ. c.give_back.ensures.sources n differ ∙ (c.in-Err.ensures.sources n ∙ c.in_ok-lines.ensures.others.sources n (differ, tt)))
          (held-same _ _ _ _ c.in_ok-lines.ensures.held back);
      sinks = λ n. c.give_back.ensures.sinks n ∙ (c.in-Err.ensures.refused_sinks n ∙ c.in_ok-lines.ensures.sinks n);
      clocks = λ n. c.give_back.ensures.clocks n ∙ (c.in-Err.ensures.clocks n ∙ c.in_ok-lines.ensures.clocks n);
    }

pub returns-in-Err-clause-asked : goal.returns-in-Err-clause-asked
returns-in-Err-clause-asked g c =
    let w = g.W.World in
    let stream = c.args.stream.now in
    let old = c.args.world.now in
    let first : OpenCall = record { kind = Source; name = stream.source } in
    let second : OpenCall = record { kind = Sink; name = stream.sink } in
    let third : OpenCall = record { kind = Clock; name = stream.host } in
    let sink = one-more (w.asked c.open_lines.new.world) (w.asked c.open_sink.new.self) second (third ∷ []) c.in-Err.why c.in-Err.ensures.asked in
    let both : Front (first ∷ second ∷ third ∷ []) (w.asked old) (w.asked c.open_sink.new.self) = after-one (w.asked old) (w.asked c.open_lines.new.world) (w.asked c.open_sink.new.self) first
    (second ∷ third ∷ []) c.in_ok-lines.ensures.all sink in
    (both.0, c.give_back.ensures.asked ∙ both.1)

pub returns-in-Ok-open_clock-clause-asked : goal.returns-in-Ok-open_clock-clause-asked
returns-in-Ok-open_clock-clause-asked g c =
    let w = g.W.World in
    let stream = c.args.stream.now in
    let old = c.args.world.now in
    let first : OpenCall = record { kind = Source; name = stream.source } in
    let second : OpenCall = record { kind = Sink; name = stream.sink } in
    let third : OpenCall = record { kind = Clock; name = stream.host } in
    after-one (w.asked old) (w.asked c.open_lines.new.world) (w.asked c.open_clock.new.self) first (second ∷ third ∷ []) c.in_ok-lines.ensures.all
    (after-one (w.asked c.open_lines.new.world) (w.asked c.open_sink.new.self) (w.asked c.open_clock.new.self) second (third ∷ []) c.in-Ok.ensures.asked
    (1, c.in-Ok-open_clock.ensures.asked))

pub returns-in-Err-open_clock-clause-refused : goal.returns-in-Err-open_clock-clause-refused
returns-in-Err-open_clock-clause-refused g c =
    let w = g.W.World in
    let r = g.W.Reading.Source in
    let stream = c.args.stream.now in
    let new = c.give_back-in-Err-open_clock.new.self in
    let back = subst (λ (s : g.row.W-Reading.Denot). IsHeld (w.sources new stream.source) (r.faults s) (r.left s)) c.close-in-Err-open_clock.ensures c.give_back-in-Err-open_clock.ensures.held in
    let sinks = returned stream.sink (w.sinks c.args.world.now) (w.sinks c.give_back_sink.new.self)
    (λ n differ. c.give_back_sink.ensures.sinks n differ ∙ (c.in-Err-open_clock.ensures.sinks n ∙ (c.in-Ok.ensures.sinks n differ ∙ c.in_ok-lines.ensures.sinks n)))
    (held-same _ _ _ _ c.in-Ok.ensures.object c.give_back_sink.ensures.held ∙ c.in_ok-lines.ensures.sinks stream.sink) in
    record {
      sources = returned stream.source (w.sources c.args.world.now) (w.sources new)
          (λ n differ. c.give_back-in-Err-open_clock.ensures.sources n differ ∙
          (c.give_back_sink.ensures.sources n ∙ (c.in-Err-open_clock.ensures.sources n ∙ (c.in-Ok.ensures.sources n ∙ c.in_ok-lines.ensures.others.sources n (differ, tt)))))
          (held-same _ _ _ _ c.in_ok-lines.ensures.held back);
      sinks = λ n. c.give_back-in-Err-open_clock.ensures.sinks n ∙ sinks n;
      clocks = λ n. c.give_back-in-Err-open_clock.ensures.clocks n ∙
          (c.give_back_sink.ensures.clocks n ∙ (c.in-Err-open_clock.ensures.refused_clocks n ∙ (c.in-Ok.ensures.clocks n ∙ c.in_ok-lines.ensures.clocks n)));
    }

pub returns-in-Err-open_clock-clause-asked : goal.returns-in-Err-open_clock-clause-asked
returns-in-Err-open_clock-clause-asked g c =
    let w = g.W.World in
    let stream = c.args.stream.now in
    let old = c.args.world.now in
    let first : OpenCall = record { kind = Source; name = stream.source } in
    let second : OpenCall = record { kind = Sink; name = stream.sink } in
    let third : OpenCall = record { kind = Clock; name = stream.host } in
    let clock = one-more (w.asked c.open_sink.new.self) (w.asked c.open_clock.new.self) third [] c.in-Err-open_clock.why c.in-Err-open_clock.ensures.asked in
    let two = after-one (w.asked c.open_lines.new.world) (w.asked c.open_sink.new.self) (w.asked c.open_clock.new.self) second (third ∷ []) c.in-Ok.ensures.asked clock in
    let all : Front (first ∷ second ∷ third ∷ []) (w.asked old) (w.asked c.open_clock.new.self) = after-one (w.asked old) (w.asked c.open_lines.new.world) (w.asked c.open_clock.new.self) first
    (second ∷ third ∷ []) c.in_ok-lines.ensures.all two in
    (all.0, c.give_back-in-Err-open_clock.ensures.asked ∙ (c.give_back_sink.ensures.asked ∙ all.1))
