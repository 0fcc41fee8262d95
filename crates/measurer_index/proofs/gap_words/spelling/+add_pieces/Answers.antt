use Rattle.patterns.specs.Letters.{form}
use Rattle.patterns.specs.Match as plain
use Rattle.measurer_index.proofs.gap_words.Spelled.{of_letter, of_dot, of_gap}
use Rattle.measurer_index.proofs.gap_words.spelling.+add_pieces.Goals as goal

pub returns-in-Letter : goal.returns-in-Letter
returns-in-Letter t c =
    of_letter c.args.sets.now c.args.pattern.now c.in-Letter.letter c.in-Letter.is c.args.pieces.now.items c.add_piece.new.pieces.items c.add_piece.result
    (c.add_piece.ensures c.args.sets.now (plain.letter c.in-Letter.letter) (c.letter_piece.ensures c.args.sets.now))

pub returns-else-not-branch : goal.returns-else-not-branch
returns-else-not-branch t c =
    of_dot c.args.sets.now c.args.pattern.now c.in-Dot.a c.in-Dot.b c.deref.result.now c.deref-in-Dot.result.now c.in-Dot.is c.deref.ensures c.deref-in-Dot.ensures c.args.pieces.now.items c.add_pieces.new.pieces.items c.add_pieces-in-Dot.new.pieces.items
    (c.in_ok-add_pieces-in-Dot.ensures c.if-not-branch.false) c.add_pieces-in-Dot.result c.add_pieces-in-Dot.ensures

pub returns-in-Repeat : goal.returns-in-Repeat
returns-in-Repeat t c =
    let body = c.deref-in-Repeat.result.now in
    of_gap c.args.sets.now c.args.pattern.now c.in-Repeat.body body c.in-Repeat.least c.in-Repeat.most c.in-Repeat.is
    c.deref-in-Repeat.ensures c.args.pieces.now.items c.add_piece-in-Repeat.new.pieces.items c.add_piece-in-Repeat.result
    (c.add_piece-in-Repeat.ensures c.args.sets.now (plain.repeat (form body) c.in-Repeat.least c.in-Repeat.most) c.pattern_gap.ensures)
