use Rattle.std.proofs.Common.{◌≡◌, ◌<◌, ◌^◌, drop}
use Rattle.std.specs.Str.Parse.{digits_value, digits_value_after}
use Rattle.c_lex.specs.Constants.{radix}
use Rattle.c_lex.proofs.constant.value_of.Given as goal

abbrev pub invariant-loop-digit : goal.invariant-loop-digit
invariant-loop-digit l = record {
  value : digits_value_after (radix l.base) l.value (drop l.digit-index l.digits) ≡ digits_value (radix l.base) l.digits;
  small : l.value < 2 ^ 64;
}
