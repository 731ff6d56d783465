use Rattle.std.proofs.Common.{◌∙◌, ◌++◌, List, ap, length}
use Rattle.ps_wire.specs.declared.lines.Lines.{Lines}
use Rattle.ps_io.specs.declared.world.Kind.TheVariants.{Store}
use Rattle.ps_endpoints.specs.declared.port.Port.{Port}
use Rattle.ps_endpoints.specs.Ports.{IsPortOpened}
use Rattle.ps_endpoints.proofs.Each.{each-many, no-store}
use Rattle.ps_endpoints.proofs.ports.open_ports.Goals as goal

pub returns-in_err-open_each-clause-stay : goal.returns-in_err-open_each-clause-stay
returns-in_err-open_each-clause-stay g c = λ n. c.open_each.ensures.others.stay Store n (no-store n c.args.streams.now)

pub returns-clause-stay : goal.returns-clause-stay
returns-clause-stay g c = λ n. c.open_each.ensures.others.stay Store n (no-store n c.args.streams.now)

pub returns-clause-many : goal.returns-clause-many
returns-clause-many g c =
    let opened = c.in_ok-open_each.ensures.opened in
    let items = opened.1 ∙ ap (λ (l : List (Port (Lines g.row.W-Reading.Denot g.W.Reading.Source) g.row.W-Ticking.Denot g.row.W-Writing.Denot)). l ++ opened.0) c.in-Ok.ensures.items in
    ap length items ∙ each-many (IsPortOpened g.W.World {r = g.W.Reading.Source} g.W.Writing.Sink g.W.Ticking.Clock c.args.world.now) c.args.streams.now opened.0 opened.2
