use Rattle.std.proofs.Common.{◌≡◌, true, false, length, rules, sym, ◌∙◌}
use Rattle.std.specs.Prelude.{◌==◌, if◌then◌else◌}
use Rattle.std.specs.Str.Parse.{digits_value}
use Rattle.ps_types.specs.Values.{are_digits}
use Rattle.ps_entity.proofs.Digits.{digits_given, number_read}
use Rattle.ps_entity.proofs.items.most_of.Goals as goal

pub unreachable-requires : goal.unreachable-requires
unreachable-requires c =
    let some : (length c.args.max.now == 0) ≡ false = cc in
    let given : are_digits 9 c.args.max.now ≡ true = digits_given c.args.max.now some c.requires in
    let digits : are_digits 9 c.as_str.result.now ≡ true = cc in
    cc (number_read c.as_str.result.now c.parse.result digits c.parse.ensures.value.0, c.in-Err.is)
