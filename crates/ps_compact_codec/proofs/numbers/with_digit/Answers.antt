use Rattle.std.proofs.Common.{◌+◌, ◌*◌, ap₂, ◌∙◌, arith}
use Rattle.std.specs.Char.{digit_value}
use Rattle.ps_compact_codec.specs.Kinds.{held_number}
use Rattle.ps_compact_codec.proofs.Digits.{held-iff, none-held}
use Rattle.ps_compact_codec.proofs.numbers.with_digit.Goals as goal

pub returns-in-Some : goal.returns-in-Some
returns-in-Some c =
    held-iff c.checked_add.result (c.in-Some.tens + c.digit_value.result) c.checked_add.ensures ∙ ap₂ (λ a b. held_number (a + b)) c.in-Some.ensures.1 c.digit_value.ensures

pub returns-in-None : goal.returns-in-None
returns-in-None c = none-held (c.args.number * 10 + digit_value c.args.digit) (λ few. c.in-None.ensures (omega (arith, few)))
