use Rattle.std.proofs.Common.{sym, subst}
use Rattle.patterns.specs.Match as plain
use Rattle.measurer_index.specs.gap_words.Parts.{IsPieceOf}
use Rattle.measurer_index.specs.declared.gap_words.piece.Piece.TheVariants.{Gap}
use Rattle.measurer_index.proofs.gap_words.Spelled.{gap_piece}
use Rattle.measurer_index.proofs.gap_words.spelling.letter_gap.Goals as goal

pub returns-in-Some : goal.returns-in-Some
returns-in-Some c =
    subst (λ l. IsPieceOf c.args.sets.now (plain.repeat (plain.letter l) c.args.least c.args.most) (Gap (record { set = c.in-Some.set; least = c.args.least; most = c.args.most }))) (sym c.in-Edges.is)
    (gap_piece c.args.sets.now c.in-Edges.edges (record { set = c.in-Some.set; least = c.args.least; most = c.args.most }) c.in-Some.ensures)
