use Rattle.std.proofs.Common.{◌≡◌, ◌+◌, ◌≤◌, drop}
use Rattle.fql_read.specs.QueryLimits.{preds, preds_behind}
use Rattle.fql_read.proofs.limits.preds.Given as goal

abbrev pub invariant-loop-token : goal.invariant-loop-token
invariant-loop-token l = record {
  counted : l.count + preds_behind l.behind (drop l.token-index l.tokens) ≡ preds l.tokens;
  few : l.count ≤ l.token-index;
}
