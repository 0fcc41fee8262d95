use Rattle.std.proofs.Common.{◌≡◌, drop}
use Rattle.std.specs.Prelude.{find}
use Rattle.fql_tokens.specs.Spelling.{is_written, spelling}
use Rattle.fql_tokens.proofs.spelling.keyword_among.Given as goal

abbrev pub invariant-loop-keyword : goal.invariant-loop-keyword
invariant-loop-keyword l = find (λ k. is_written (spelling k) l.text) (drop l.keyword-index l.keywords) ≡ find (λ k. is_written (spelling k) l.text) l.keywords
