use Rattle.c_lex.proofs.LexerLaws.{gap_taken, token_taken, directive_taken, span_here, line_here}
use Rattle.c_lex.proofs.lexer.take_piece.Goals as goal

pub returns-in-Gap : goal.returns-in-Gap
returns-in-Gap c =
    rw c.in-Gap.is (gap_taken c.args.spot.file c.args.text.now c.in-Gap.field-0 c.in-Gap.field-1 c.args.table.now c.args.output.now c.requires.indexed c.requires.allowed)

pub returns-in-Directive : goal.returns-in-Directive
returns-in-Directive c =
    let lies = rw c.in-Directive.is at c.requires.inside in
    rw c.in-Directive.is (directive_taken c.args.spot.file c.args.text.now c.in-Directive.at c.in-Directive.length c.args.table.now c.take_directive.new.table c.args.output.now c.requires.allowed _ _ c.take_directive.result
    c.part.ensures (line_here c.args.spot.file c.args.text.now c.args.spot.at c.in-Directive.at c.args.spot.position c.requires.position lies.0) c.take_directive.ensures.indexed c.take_directive.ensures.taken)

pub returns-in-Token : goal.returns-in-Token
returns-in-Token c =
    let lies = rw c.in-Token.is at c.requires.inside in
    rw c.in-Token.is (token_taken c.args.spot.file c.args.text.now c.in-Token.at c.in-Token.length c.args.table.now c.requires.indexed c.args.output.now c.take_token.new.output _ _ c.take_token.result
    c.part-in-Token.ensures (span_here c.args.spot.file c.args.text.now c.args.spot.at c.in-Token.at c.args.spot.position c.requires.position lies.0 c.in-Token.length) c.take_token.ensures)
