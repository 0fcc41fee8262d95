use Rattle.std.proofs.Common.{◌≡◌, ◌≤◌, drop}
use Rattle.std.specs.Prelude.{nat_lt}
use Rattle.std.specs.List.{list_any}
use Rattle.fql_tokens.specs.Limits.{most_brackets, depths, is_too_deep}
use Rattle.fql_tokens.proofs.limits.is_too_deep.Given as goal

abbrev pub invariant-loop-token : goal.invariant-loop-token
invariant-loop-token l = record {
  few : l.brackets ≤ 60;
  same : list_any (λ n. nat_lt most_brackets n) (depths l.brackets (drop l.token-index l.tokens)) ≡ is_too_deep l.tokens;
}
