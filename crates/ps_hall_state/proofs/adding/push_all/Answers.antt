use Rattle.std.proofs.Common.{rules, ◌≡◌, ◌∷◌, ◌++◌, [], length, List, ap, sym, ◌∙◌, arith, append_assoc}
use Rattle.std.specs.Prelude.{slice_get}
use Rattle.ps_types.specs.declared.entry.Notice.{Notice}
use Rattle.ps_hall_state.proofs.Queued.{spare-tail}
use Rattle.ps_hall_state.proofs.adding.push_all.Goals as goal

pub push-requires : goal.push-requires
push-requires c =
    let split : c.loop-notice.notice-iterator.rest.items ≡ c.in-Some.notice ∷ c.next.new.self.rest.items = search rules in
    let spare = c.loop-notice.invariant.1 0 c.in-Some.notice (ap (λ ns. slice_get ns 0) split) in
    let size : length c.loop-notice.notice-iterator.rest.items ≡ length (c.in-Some.notice ∷ c.next.new.self.rest.items) = ap length split in
    omega (arith, spare, size)

pub loop-notice-preserved : goal.loop-notice-preserved
loop-notice-preserved c =
    let n = c.in-Some.notice in
    let rest = c.next.new.self.rest.items in
    let split : c.loop-notice.notice-iterator.rest.items ≡ n ∷ rest = search rules in (
      ap (λ (q : List Notice). q ++ rest) c.push.ensures.waiting ∙
          (append_assoc c.loop-notice.queues.waiting (n ∷ []) rest ∙ (ap (λ (q : List Notice). c.loop-notice.queues.waiting ++ q) (sym split) ∙ c.loop-notice.invariant.0)),
      spare-tail c.loop-notice.notice-iterator.rest.items n rest c.loop-notice.queues c.push.new.self split c.loop-notice.invariant.1 c.push.ensures.kept,
      c.push.ensures.held ∙ c.loop-notice.invariant.2,
    )
