use Rattle.c_lex.proofs.Total.{lies_within}
use Rattle.c_lex.proofs.piece.piece_at.Goals as goal

pub returns-clause-inside : goal.returns-clause-inside
returns-clause-inside c = rw (c.first_piece.ensures, c.rest_of.ensures) (lies_within c.args.allowed c.args.text.now c.args.at c.requires)
