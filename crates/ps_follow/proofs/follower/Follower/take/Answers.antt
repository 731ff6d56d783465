use Rattle.std.proofs.Common.{rules, ◌≡◌, ◌+◌, ◌++◌, length, drop, sym, ap, subst, ◌∙◌}
use Rattle.ps_follow.specs.Followed.{Has, IsAt}
use Rattle.ps_follow.specs.Following.{Stands}
use Rattle.ps_follow.specs.Refused.{refused_by}
use Rattle.ps_follow.specs.View.{Following}
use Rattle.ps_follow.proofs.Follows.{fed-on, grown, left-is, refused-as, stays-front}
use Rattle.ps_follow.proofs.Takes.{log-length}
use Rattle.ps_follow.proofs.follower.Follower.take.Goals as goal

pub returns-then-self-ge-LONGEST-clause-stuck : goal.returns-then-self-ge-LONGEST-clause-stuck
returns-then-self-ge-LONGEST-clause-stuck g c = λ E F stream is. record { entries = F; stands = is.stands; refused = stays-front c.args.self.now E F stream c.args.piece.now is }

pub returns-in_default-clause-stuck : goal.returns-in_default-clause-stuck
returns-in_default-clause-stuck g c = λ E F stream is.
    let stands : Stands c.self.inside.service.state c.self.inside.log.items F = subst (λ (f : Following). Has f F) (sym c.self.view_is) is.stands in
    record { entries = F; stands = stands; refused = stays-front c.args.self.now E F stream c.args.piece.now is }

pub returns-in-Some-clause-stuck : goal.returns-in-Some-clause-stuck
returns-in-Some-clause-stuck g c = λ E F stream is.
    let f : Following = record { state = c.self.inside.service.state; log = c.self.inside.log.items; at = c.self.inside.at; rest = c.self.inside.rest.items; stuck = c.self.inside.stuck } in
    let at : IsAt f E stream F = subst (λ (x : Following). IsAt x E stream F) (sym c.self.view_is) is in
    let bytes = c.as_slice.result.now in
    let came : bytes ≡ c.self.inside.rest.items ++ c.args.piece.now = c.as_slice.ensures.value ∙ c.in-Ok.ensures.items in
    let w = c.take_all-taken.ensures.went F at.stands in
    let n : c.len-count.result ≡ length c.take_all-taken.new.log.items = search rules in
    record {
      entries = w.entries;
      stands = w.stands;
      refused = refused-as f E F stream c.args.piece.now at c.take_all-taken.new.service.state c.take_all-taken.new.log.items c.take_all-taken.result.0 bytes c.take_all-taken.result.1 came w
          c.in-Some.why
          (ap (refused_by c.take_all-taken.result.1 (c.self.inside.at + c.take_all-taken.result.0)) (sym n) ∙ sym c.stop_of.ensures ∙ c.in-Some.is);
    }

pub returns-in-Some-clause-grows : goal.returns-in-Some-clause-grows
returns-in-Some-clause-grows g c = λ F is.
    let stands : Stands c.self.inside.service.state c.self.inside.log.items F = subst (λ (f : Following). Has f F) (sym c.self.view_is) is in
    let w = c.take_all-taken.ensures.went F stands in
    (w.entries, w.stands, grown F c.as_slice.result.now c.take_all-taken.new.service.state c.take_all-taken.new.log.items c.take_all-taken.result.0 c.take_all-taken.result.1 w)

pub returns-clause-at : goal.returns-clause-at
returns-clause-at g c = λ E F stream is.
    let f : Following = record { state = c.self.inside.service.state; log = c.self.inside.log.items; at = c.self.inside.at; rest = c.self.inside.rest.items; stuck = c.self.inside.stuck } in
    let at : IsAt f E stream F = subst (λ (x : Following). IsAt x E stream F) (sym c.self.view_is) is in
    let bytes = c.as_slice.result.now in
    let came : bytes ≡ c.self.inside.rest.items ++ c.args.piece.now = c.as_slice.ensures.value ∙ c.in-Ok.ensures.items in
    let w = c.take_all-taken.ensures.went F at.stands in
    let n : c.len-count.result ≡ length c.take_all-taken.new.log.items = search rules in
    let none = ap (refused_by c.take_all-taken.result.1 (c.self.inside.at + c.take_all-taken.result.0)) (sym n) ∙ sym c.stop_of.ensures ∙ c.in_default-stop_of.is in
    let later = c.take_all-taken.new.service.state in
    let more = c.take_all-taken.new.log.items in
    record {
      entries = w.entries;
      is = record {
        going = at.going;
        stands = w.stands;
        fed = fed-on f E F stream c.args.piece.now at later more c.take_all-taken.result.0 bytes c.take_all-taken.result.1 came w none;
        left = c.drop-drain.ensures.items ∙ c.drain.ensures.kept ∙ ap (drop c.take_all-taken.result.0) (sym c.as_slice.ensures.value)
            ∙ left-is f E F stream c.args.piece.now at later more c.take_all-taken.result.0 bytes c.take_all-taken.result.1 came w;
      };
      counted = n ∙ log-length later more w.entries w.stands;
    }

pub returns-clause-grows : goal.returns-clause-grows
returns-clause-grows g c = λ F is.
    let stands : Stands c.self.inside.service.state c.self.inside.log.items F = subst (λ (f : Following). Has f F) (sym c.self.view_is) is in
    let w = c.take_all-taken.ensures.went F stands in
    (w.entries, w.stands, grown F c.as_slice.result.now c.take_all-taken.new.service.state c.take_all-taken.new.log.items c.take_all-taken.result.0 c.take_all-taken.result.1 w)
