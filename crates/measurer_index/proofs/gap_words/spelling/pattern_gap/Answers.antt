use Rattle.measurer_index.proofs.gap_words.Spelled.{gap_of}
use Rattle.measurer_index.proofs.gap_words.spelling.pattern_gap.Goals as goal

pub returns-in-Letter : goal.returns-in-Letter
returns-in-Letter c = gap_of c.args.sets.now c.args.body.now c.in-Letter.letter c.args.least c.args.most c.in-Letter.is c.letter_gap.result c.letter_gap.ensures
