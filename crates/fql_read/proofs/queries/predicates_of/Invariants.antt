use Rattle.std.proofs.Common.{◌≡◌, ◌≤◌, length, take}
use Rattle.fql_read.specs.QueryForm.{predicates_of}
use Rattle.fql_read.proofs.queries.predicates_of.Given as goal

abbrev pub invariant-loop-token : goal.invariant-loop-token
invariant-loop-token l = record {
  texts : l.list ≡ predicates_of (take l.token-index l.tokens);
  few : length l.list ≤ l.token-index;
}
