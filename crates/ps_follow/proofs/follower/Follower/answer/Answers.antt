use Rattle.std.proofs.Common.{rules, ◌≡◌, length, Option, sym, ap, subst, ◌∙◌}
use Rattle.std.specs.Prelude.{IfSome}
use Rattle.ps_types.specs.declared.entry.Entry.{Entry}
use Rattle.ps_types.specs.declared.request.Request.{Request}
use Rattle.ps_model.specs.Book.{State}
use Rattle.ps_core.specs.Requests.{IsRequestOf}
use Rattle.ps_core.specs.declared.answers.Answer.{Answer}
use Rattle.ps_follow_laws.specs.Answer.{answer_to}
use Rattle.ps_follow.specs.Followed.{Has}
use Rattle.ps_follow.specs.Following.{Stands}
use Rattle.ps_follow.specs.View.{Following}
use Rattle.ps_follow.proofs.Answered.{answered-is}
use Rattle.ps_follow.proofs.Takes.{log-length}
use Rattle.ps_follow.proofs.follower.Follower.answer.Goals as goal

pub returns : goal.returns
returns c = λ F is.
    let stands : Stands c.self.inside.service.state c.self.inside.log.items F = subst (λ (f : Following). Has f F) (sym c.self.view_is) is in
    let book = c.self.inside.service.state.book in
    let n : c.len-place.result ≡ length c.self.inside.log.items = search rules in
    let reply = c.into_said-reply.ensures.reply ∙ ap (λ (a : Answer). a.reply) c.into_parts-answer.ensures.answer ∙ c.in_ok-answered.ensures.reply in
    let same : c.into_said-reply.result.1 ≡ c.in_ok-answered.answered.answer.entry = c.into_said-reply.ensures.entry ∙ ap (λ (a : Answer). a.entry) c.into_parts-answer.ensures.answer in
    let asked : IfSome c.into_said-reply.result.1 (λ e. IsRequestOf book.service e c.into_parts-answer.result.1) =
    subst (λ (o : Option Entry). IfSome o (λ e. IsRequestOf book.service e c.into_parts-answer.result.1)) (sym same)
    (subst (λ (r : Option Request). IfSome c.in_ok-answered.answered.answer.entry (λ e. IsRequestOf book.service e r)) (sym c.into_parts-answer.ensures.request) c.in_ok-answered.ensures.request) in
    record {
      place = n ∙ log-length c.self.inside.service.state c.self.inside.log.items F stands;
      reply = answered-is c.args.host.now book c.args.line c.args.arrival.now c.into_said-reply.result.0 c.into_said-reply.result.1 c.into_parts-answer.result.1 _ reply
          (same ∙ c.in_ok-answered.ensures.entry) asked
          c.in_ok-reply.ensures.none c.in_ok-reply.ensures.some ∙ ap (λ (s : State). answer_to c.args.host.now s.book c.args.line c.args.arrival.now) stands.replayed;
    }
