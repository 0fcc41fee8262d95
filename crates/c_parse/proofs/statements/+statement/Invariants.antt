use Rattle.std.proofs.Common.{◌≡◌, ℕ, ◌+◌, ◌*◌, ◌≤◌, length}
use Rattle.c_parse.specs.ReadingStatements.{body_at, groups_at, statement_in}
use Rattle.c_parse.specs.OpenStatements.{progress_at, parts_of, finished}
use Rattle.c_parse.proofs.Loops.{with_front}
use Rattle.c_parse.proofs.statements.+statement.Given as goal

-- each call has fewer tokens than its caller, or as many and a lower place in this order
abbrev pub decreases-statement_front : goal.decreases-statement_front
decreases-statement_front l = 10 * length l.tokens.now

abbrev pub decreases-statement : goal.decreases-statement
decreases-statement l = 10 * length l.tokens.now + 1

abbrev pub decreases-one : goal.decreases-one
decreases-one l = 10 * length l.tokens.now + 2

abbrev pub decreases-body : goal.decreases-body
decreases-body l = 10 * length l.tokens.now + 3

abbrev pub decreases-groups : goal.decreases-groups
decreases-groups l = 10 * length l.tokens.now + 4

abbrev pub decreases-switched : goal.decreases-switched
decreases-switched l = 10 * length l.tokens.now + 5

abbrev pub decreases-closed_statement : goal.decreases-closed_statement
decreases-closed_statement l = 10 * length l.tokens.now + 6

abbrev pub decreases-by_symbol : goal.decreases-by_symbol
decreases-by_symbol l = 10 * length l.tokens.now + 7

abbrev pub decreases-body-statements : goal.decreases-body-statements
decreases-body-statements l = length l.rest

abbrev pub invariant-body-statements : goal.invariant-body-statements
invariant-body-statements l = record {
  fewer : length l.rest ≤ length l.tokens;
  bound : ℕ;
  enough : length l.rest ≤ bound;
  so_far : with_front l.list (body_at statement_in bound l.rest) ≡ body_at statement_in (length l.tokens) l.tokens;
}

abbrev pub decreases-groups-groups : goal.decreases-groups-groups
decreases-groups-groups l = length l.rest

abbrev pub invariant-groups-groups : goal.invariant-groups-groups
invariant-groups-groups l = record {
  fewer : length l.rest ≤ length l.tokens;
  bound : ℕ;
  enough : length l.rest ≤ bound;
  so_far : with_front l.list (groups_at statement_in bound l.rest) ≡ groups_at statement_in (length l.tokens) l.tokens;
}

abbrev pub invariant-statement-statements : goal.invariant-statement-statements
invariant-statement-statements l = record {
  fewer : length l.rest ≤ length l.tokens;
  so_far : finished l.outer.items (progress_at statement_in l.progress l.rest) ≡ statement_in l.tokens;
}

abbrev pub decreases-statement-statements : goal.decreases-statement-statements
decreases-statement-statements l = 2 * (length l.rest + parts_of l.progress) + length l.outer.items
