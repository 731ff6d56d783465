use Rattle.std.proofs.Common.{◌≡◌, ◌+◌, ◌*◌, ◌<◌, ◌^◌, get_or, sym, subst, ◌∙◌, arith}
use Rattle.std.proofs.lemmas.Grind.{common_steps}
use Rattle.std.specs.Char.{digit_value}
use Rattle.std.specs.Str.Parse.{digits_value}
use Rattle.ps_compact_codec.proofs.Digits.{held-none, held-some, one-more, some-held, too-large}
use Rattle.ps_compact_codec.proofs.numbers.number_of.Goals as goal

pub returns-in-None : goal.returns-in-None
returns-in-None c =
    let ds = c.args.digits.now in
    let i = c.loop-digit.digit-index in
    let n = c.loop-digit.number in
    too-large ds i n c.loop-digit.invariant.value c.loop-digit-test.true (held-none (n * 10 + digit_value (get_or ds i 0)) c.in-None.ensures)

pub loop-digit-preserved : goal.loop-digit-preserved
loop-digit-preserved c =
    let ds = c.args.digits.now in
    let i = c.loop-digit.digit-index in
    let n = c.loop-digit.number in
    let more = held-some c.in-Some.more (n * 10 + digit_value (get_or ds i 0)) c.in-Some.ensures in
    record {
      value = more.0 ∙ one-more ds i n c.loop-digit.invariant.value c.loop-digit-test.true;
      held = subst (λ m. m < 2 ^ 64) (sym more.0) more.1;
    }

pub returns : goal.returns
returns c =
    let whole : c.loop-digit.number ≡ digits_value 10 c.args.digits.now = grind (arith, common_steps, c.loop-digit.invariant.value) in
    some-held c.loop-digit.number (digits_value 10 c.args.digits.now) c.loop-digit.invariant.held whole
