use Rattle.std.proofs.Common.{◌≡◌, drop}
use Rattle.std.specs.Prelude.{find}
use Rattle.fql_tokens.specs.Spelling.{is_written}
use Rattle.fql_read.specs.Forms.{kind_spelling}
use Rattle.fql_read.proofs.kinds.kind_among.Given as goal

abbrev pub invariant-loop-kind : goal.invariant-loop-kind
invariant-loop-kind l = find (λ k. is_written (kind_spelling k) l.text) (drop l.kind-index l.kinds) ≡ find (λ k. is_written (kind_spelling k) l.text) l.kinds
