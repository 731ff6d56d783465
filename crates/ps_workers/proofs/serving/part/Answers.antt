use Rattle.std.proofs.Common.{◌≡◌, ◌∷◌, ◌++◌, length, ap, ◌∙◌, arith}
use Rattle.std.specs.Option.{option_to_list}
use Rattle.ps_workers.proofs.Parting.{ended_all, ended_on, one_more, passes_all, passes_on, two_more}
use Rattle.ps_workers.proofs.serving.part.Goals as goal

pub unwrap-writer-requires : goal.unwrap-writer-requires
unwrap-writer-requires g c =
    let more = one_more c.loop-reader.workers.rest.items c.next.new.self.rest.items c.in-Some.reader c.in-Some.ensures.items c.loop-reader.invariant.0 in
    let len = c.next.new.self.rest.ok.0 in
    c.next-in-Some.ensures.variant.1 (omega (arith, more, len))

pub loop-reader-preserved : goal.loop-reader-preserved
loop-reader-preserved g c =
    let i = c.loop-reader.invariant in
    let r = c.in-Some.reader in
    let w = c.unwrap-writer.result in
    let ws = c.next-in-Some.new.self.rest.items in
    let two : c.next.new.self.rest.items ≡ w ∷ ws = c.next-in-Some.ensures.items ∙ ap (λ x. option_to_list x ++ ws) c.unwrap-writer.ensures in
    let both : c.loop-reader.workers.rest.items ≡ r ∷ w ∷ ws = c.in-Some.ensures.items ∙ ap (λ l. r ∷ l) two in
    let more = two_more c.loop-reader.workers.rest.items ws r w both i.0 in
    let size = ap length both in
    let passes = c.push_reserved.ensures in
    let ended = c.push_reserved-in-Some.ensures in
    let room = i.3 in
    let room_too = i.4 in (
      more.2,
      passes_on c.loop-reader.workers.rest.items ws c.args.workers.items r w c.loop-reader.passes.items c.push_reserved.new.self.items both passes.items i.1,
      ended_on c.loop-reader.workers.rest.items ws c.args.workers.items r w c.ended_of.result c.loop-reader.ended.items c.push_reserved-in-Some.new.self.items both c.ended_of.ensures ended.items i.2,
      (let a = passes.capacity in let b = passes.len in let d = c.push_reserved.new.self.ok.0 in let e = c.loop-reader.passes.ok.0 in omega (arith, a, b, d, e, size, room)),
      (let a = ended.capacity in let b = ended.len in let d = c.push_reserved-in-Some.new.self.ok.0 in let e = c.loop-reader.ended.ok.0 in omega (arith, a, b, d, e, size, room_too)),
    )

pub returns-clause-passes : goal.returns-clause-passes
returns-clause-passes g c =
    let none = c.in_default.ensures.cases.0 in
    let len = c.loop-reader.workers.rest.ok.0 in
    passes_all c.loop-reader.workers.rest.items c.args.workers.items c.loop-reader.passes.items (omega (arith, none, len)) c.loop-reader.invariant.1

pub returns-clause-ended : goal.returns-clause-ended
returns-clause-ended g c =
    let none = c.in_default.ensures.cases.0 in
    let len = c.loop-reader.workers.rest.ok.0 in
    ended_all c.loop-reader.workers.rest.items c.args.workers.items c.loop-reader.ended.items (omega (arith, none, len)) c.loop-reader.invariant.2
