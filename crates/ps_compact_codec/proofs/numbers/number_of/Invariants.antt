use Rattle.std.proofs.Common.{◌≡◌, ◌<◌, ◌^◌, take}
use Rattle.std.specs.Str.Parse.{digits_value}
use Rattle.ps_compact_codec.proofs.numbers.number_of.Given as goal

-- the number so far
abbrev pub invariant-loop-digit : goal.invariant-loop-digit
invariant-loop-digit l = record {
  value : l.number ≡ digits_value 10 (take l.digit-index l.digits);
  held : l.number < 2 ^ 64;
}
