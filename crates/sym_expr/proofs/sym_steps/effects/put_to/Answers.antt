use Rattle.std.proofs.Common.{cond, Some, None, ap, sym, ◌∙◌}
use Rattle.bit_words.specs.Words.{word_value}
use Rattle.bit_words.proofs.Values.{yes_holds}
use Rattle.sym_expr.specs.Stores.{cells_in}
use Rattle.sym_expr.specs.sym_steps.Effects.{put_cells}
use Rattle.sym_expr.proofs.sym_steps.effects.put_to.Goals as goal

pub returns-in-None-clause-value : goal.returns-in-None-clause-value
returns-in-None-clause-value c = λ w.
    let g = c.args.circuit.now in
    let cells = cells_in g c.args.store.now.cells w in
    ap (λ t. cond t (Some cells) None) (yes_holds g w) ∙ ap (λ d. put_cells cells c.args.frame.now d (word_value g c.args.word.now w)) (sym c.in-None.is)
