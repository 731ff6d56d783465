use Rattle.std.proofs.Common.{◌≡◌, sym, ◌∙◌}
use Rattle.std.specs.Prelude.{Result, Ok, Err, OnOk}
use Rattle.ps_access.specs.Tables.{book_of}
use Rattle.ps_core.specs.States.{changed_part, part_of}
use Rattle.ps_core.proofs.Taken.{accepted_asked, change_after}
use Rattle.ps_core.proofs.half.Half.take_asked.Goals as goal

on_ok : {T E A B : Type 0} (r : Result T E) → (A → B) → OnOk r A → OnOk r B
on_ok (Ok x) f h = f h
on_ok (Err e) f h = tt

pub returns : goal.returns
returns c =
    let p = part_of c.args.self.now in
    let r = c.args.request.now in
    let done = change_after p c.args.host.now c.args.line c.args.moment c.args._tree.now r c.requires.asked in
    record {
      state = on_ok c.take_request.result (λ (h : part_of c.take_request.new.self ≡ changed_part r c.args.moment c.args.host.now c.args.line p). h ∙ sym done) c.take_request.ensures.state;
      wants = c.take_request.ensures.wants;
    }

pub take_request-requires-clause-accepted : goal.take_request-requires-clause-accepted
take_request-requires-clause-accepted c =
    let t = c.args._tree.now in
    accepted_asked (book_of c.args.self.now.tables) c.args.host.now c.args.line c.args.moment t t c.args.request.now c.requires.accepted c.requires.asked
