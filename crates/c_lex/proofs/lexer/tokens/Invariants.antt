use Rattle.c_lex.proofs.LexerLaws.{TextsSoFar}
use Rattle.c_lex.proofs.lexer.tokens.Given as goal

abbrev pub invariant-loop-file : goal.invariant-loop-file
invariant-loop-file l = TextsSoFar l.texts l.file l.output
