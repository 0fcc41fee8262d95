use Rattle.std.proofs.Common.{◌≡◌, ◌<◌, ◌^◌, IsTrue, drop}
use Rattle.std.specs.List.{list_all}
use Rattle.std.specs.Str.Parse.{digits_value, digits_value_after}
use Rattle.fql_tokens.specs.Bytes.{is_digit}
use Rattle.fql_tokens.proofs.first.value_of.Given as goal

abbrev pub invariant-loop-digit : goal.invariant-loop-digit
invariant-loop-digit l = record {
  digits : IsTrue (list_all is_digit (drop l.digit-index l.digits));
  value : digits_value_after 10 l.value (drop l.digit-index l.digits) ≡ digits_value 10 l.digits;
  small : l.value < 10 ^ l.digit-index;
}
