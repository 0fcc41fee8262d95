use Rattle.std.proofs.Common.{◌+◌, ◌-◌, ◌*◌, [], ◌∷◌, length}
use Rattle.c_lex.specs.Lexed.{most}
use Rattle.c_lex.specs.Expanding.{pending}
use Rattle.c_lex.proofs.Runs.{Progress}
use Rattle.c_lex.proofs.expand.expand.Given as goal

abbrev pub invariant-turns : goal.invariant-turns
invariant-turns l =
    Progress l.table.macros.items l.span (l.word ∷ []) (pending l.table.macros.items l.frames.items) l.fn.output.tokens.items l.output.tokens.items l.fn.output.replaced l.output.replaced

abbrev pub decreases-turns : goal.decreases-turns
decreases-turns l = 3 * (most - length l.output.tokens.items) + 3 * (most - l.output.replaced) + length l.frames.items
