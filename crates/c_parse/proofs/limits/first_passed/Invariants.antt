use Rattle.std.proofs.Common.{◌≡◌, ◌≤◌, drop}
use Rattle.c_parse.specs.Scan.{scan}
use Rattle.c_parse.proofs.limits.first_passed.Given as goal

abbrev pub invariant-loop-token : goal.invariant-loop-token
invariant-loop-token l = record {
  few_brackets : l.brackets ≤ 60;
  short_row : l.row ≤ 256;
  same : scan l.brackets l.row (drop l.token-index l.tokens) ≡ scan 0 0 l.tokens;
}
