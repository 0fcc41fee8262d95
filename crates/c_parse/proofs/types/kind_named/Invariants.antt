use Rattle.std.proofs.Common.{◌≡◌, drop}
use Rattle.std.specs.Map.{lookup}
use Rattle.c_parse.specs.Types.{are_same_words}
use Rattle.c_parse.proofs.types.kind_named.Given as goal

abbrev pub invariant-loop-name : goal.invariant-loop-name
invariant-loop-name l = lookup (λ name. are_same_words name.now l.words) (drop l.name-index l.names) ≡ lookup (λ name. are_same_words name.now l.words) l.names
