use Rattle.std.proofs.Common.{◌≡◌, ◌+◌, true, false, Option, None, Some, ap, sym, ◌∙◌, subst}
use Rattle.std.specs.Prelude.{IsSome, option_map}
use Rattle.std.proofs.lemmas.Bool.{false≢true}
use Rattle.ps_types.specs.Print.{print}
use Rattle.ps_types.specs.Tree.{Tree}
use Rattle.ps_types.specs.declared.entry.Entry.{Entry}
use Rattle.ps_model.specs.Replies.{reply_to}
use Rattle.ps_core.specs.Answers.{full_by}
use Rattle.ps_hall_state.specs.declared.state.HostRow.{HostRow}
use Rattle.ps_hall_state.specs.Arrive.{entry_for, reply_for}
use Rattle.ps_hall_state.proofs.OneRow.{row_is}
use Rattle.ps_hall_state.proofs.replies.full_at.Goals as goal

full_is : (entry : Option Entry) (reply full : Option Tree) → IsSome entry → full ≡ full_by entry reply → full ≡ reply
full_is None reply full some is = absurd (false≢true some)
full_is (Some entry) reply full some is = is

pub returns : goal.returns
returns c = record {
  full = λ row was. (
      let x = c.index-row.result.now in
      let book = c.args.service.now.state.book in
      let arrival = c.args.arrival.now in
      let answer = c.in_ok-answer.answer in
      let same : x ≡ row = row_is c.args.rows.now.items c.args.at x row c.requires.here c.index-row.ensures was in
      let makes = subst (λ (r : HostRow). IsSome (entry_for book r arrival false)) (sym same) (c.requires.some row was) in
      let some : IsSome answer.entry = subst (λ (e : Option Entry). IsSome e) (sym c.in_ok-answer.ensures.entry) makes in
      let full : answer.full ≡ reply_to x.host book (x.line + 1) arrival true = full_is answer.entry _ answer.full some c.in_ok-answer.ensures.full in
      c.in_ok-reply.ensures ∙ (ap (λ (t : Option Tree). option_map print t) (c.into_full-full.ensures ∙ full) ∙ ap (λ (r : HostRow). reply_for book r arrival true) same));
}
