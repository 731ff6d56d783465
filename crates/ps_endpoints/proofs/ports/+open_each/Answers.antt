use Rattle.std.proofs.Common.{◌≡◌, ◌∙◌, List, [], ◌∷◌, ◌++◌, ap, append_assoc, subst, sym}
use Rattle.std.proofs.lemmas.List.{append-nil}
use Rattle.std.specs.Option.{option_to_list}
use Rattle.ps_io.specs.declared.world.Kind.TheVariants.{Source, Sink, Clock}
use Rattle.ps_io.specs.declared.world.OpenCall.{OpenCall}
use Rattle.ps_wire.specs.declared.lines.Lines.{Lines}
use Rattle.ps_args.specs.declared.command.Stream.{Stream}
use Rattle.ps_endpoints.specs.declared.port.Port.{Port}
use Rattle.ps_endpoints.specs.Ports.{AreApart, AreOpened, port_openings}
use Rattle.ps_endpoints.proofs.Asking.{Front, after-three, in-three}
use Rattle.ps_endpoints.proofs.Each.{first-back, held-as-opened, none-opened, rest-opened, same-last}
use Rattle.ps_endpoints.proofs.ports.+open_each.Goals as goal

pub returns-in_default-clause-opened : goal.returns-in_default-clause-opened
returns-in_default-clause-opened g t c = (
  [],
  sym (append-nil c.args.ports.now.items),
  none-opened g.W.World g.W.Reading.Source g.W.Writing.Sink g.W.Ticking.Clock c.args.streams.now c.args.world.now c.in_default.ensures.cases,
)

pub returns-in_err-port-clause-asked : goal.returns-in_err-port-clause-asked
returns-in_err-port-clause-asked g t c =
    let w = g.W.World in
    let stream = c.in-Some.stream.now in
    let others = c.in-Some.others.now in
    let first : OpenCall = record { kind = Source; name = stream.source } in
    let second : OpenCall = record { kind = Sink; name = stream.sink } in
    let third : OpenCall = record { kind = Clock; name = stream.host } in
    subst (λ (l : List Stream). Front (port_openings l) (w.asked c.args.world.now) (w.asked c.open_port.new.world)) (sym c.in-Some.ensures.cases.0)
    (in-three (w.asked c.args.world.now) (w.asked c.args.world.now) (w.asked c.open_port.new.world) first second third (port_openings others) c.open_port.ensures.asked)

pub returns-in-Ok-clause-opened : goal.returns-in-Ok-clause-opened
returns-in-Ok-clause-opened g t c =
    let w = g.W.World in
    let k = g.W.Writing.Sink in
    let clock = g.W.Ticking.Clock in
    let stream = c.in-Some.stream.now in
    let others = c.in-Some.others.now in
    let port = c.in_ok-port.port in
    let apart = subst AreApart c.in-Some.ensures.cases.0 c.requires.apart in
    let more = c.in-Ok.ensures.opened in
    let are = rest-opened w k clock stream others more.0 c.args.world.now c.open_port.new.world apart.0 apart.1 apart.2 c.open_port.ensures.others more.2 in (
      port ∷ more.0,
      more.1 ∙ (ap (λ (l : List (Port (Lines g.row.W-Reading.Denot g.W.Reading.Source) g.row.W-Ticking.Denot g.row.W-Writing.Denot)). l ++ more.0) c.push_reserved.ensures.items ∙ append_assoc
          c.args.ports.now.items (port ∷ []) more.0),
      subst (λ (l : List Stream). AreOpened w k clock c.args.world.now l (port ∷ more.0)) (sym c.in-Some.ensures.cases.0) (c.in_ok-port.ensures.opened, are),
    )

pub returns-in-Ok-clause-asked : goal.returns-in-Ok-clause-asked
returns-in-Ok-clause-asked g t c =
    let w = g.W.World in
    let stream = c.in-Some.stream.now in
    let others = c.in-Some.others.now in
    let first : OpenCall = record { kind = Source; name = stream.source } in
    let second : OpenCall = record { kind = Sink; name = stream.sink } in
    let third : OpenCall = record { kind = Clock; name = stream.host } in
    subst (λ (l : List Stream). Front (port_openings l) (w.asked c.args.world.now) (w.asked c.open_each.new.world)) (sym c.in-Some.ensures.cases.0)
    (after-three (w.asked c.args.world.now) (w.asked c.open_port.new.world) (w.asked c.open_each.new.world) first second third (port_openings others) c.in_ok-port.ensures.all
    c.open_each.ensures.asked)

pub returns-in-Err-clause-refused : goal.returns-in-Err-clause-refused
returns-in-Err-clause-refused g t c =
    let w = g.W.World in
    let k = g.W.Writing.Sink in
    let clock = g.W.Ticking.Clock in
    let stream = c.in-Some.stream.now in
    let port = c.in_ok-port.port in
    let pushed = sym c.push_reserved.ensures.items ∙ (sym c.in-Err.ensures.same ∙ (c.pop.ensures.items ∙ ap (λ o. c.pop.new.self.items ++ option_to_list o) c.unwrap.ensures)) in
    let same : port ≡ c.unwrap.result = same-last c.args.ports.now.items c.pop.new.self.items port c.unwrap.result pushed in
    first-back w k clock stream c.unwrap.result c.args.world.now c.open_port.new.world c.open_each.new.world c.give_back_port.new.world
    c.open_port.ensures.others c.in-Err.ensures.refused c.give_back_port.ensures.others
    (held-as-opened w k clock stream port c.unwrap.result c.args.world.now same c.in_ok-port.ensures.opened) c.give_back_port.ensures.held

pub returns-in-Err-clause-asked : goal.returns-in-Err-clause-asked
returns-in-Err-clause-asked g t c =
    let w = g.W.World in
    let stream = c.in-Some.stream.now in
    let others = c.in-Some.others.now in
    let first : OpenCall = record { kind = Source; name = stream.source } in
    let second : OpenCall = record { kind = Sink; name = stream.sink } in
    let third : OpenCall = record { kind = Clock; name = stream.host } in
    let more = after-three (w.asked c.args.world.now) (w.asked c.open_port.new.world) (w.asked c.open_each.new.world) first second third (port_openings others) c.in_ok-port.ensures.all
    c.open_each.ensures.asked in
    subst (λ (l : List Stream). Front (port_openings l) (w.asked c.args.world.now) (w.asked c.give_back_port.new.world)) (sym c.in-Some.ensures.cases.0)
    (more.0, c.give_back_port.ensures.nothing.asked ∙ more.1)
