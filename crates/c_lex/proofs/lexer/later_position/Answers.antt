use Rattle.std.proofs.Common.{◌≤◌, arith, ◌∙◌}
use Rattle.c_lex.proofs.Total.{position_moves}
use Rattle.c_lex.proofs.lexer.later_position.Goals as goal

pub returns-clause-position : goal.returns-clause-position
returns-clause-position c =
    let h : c.args.at ≤ c.args.next = omega (arith, c.requires.forward) in
    c.after_bytes.ensures.value ∙ position_moves c.args.text.now c.args.at c.args.next c.args.from h c.requires.position
