use Rattle.c_front.proofs.typed_sources.Fits.{tree_fits}
use Rattle.c_front.proofs.typed_sources.Refusals.{accepts, refuses}
use Rattle.c_front.proofs.typed_sources.sources.typed_of_texts.Goals as goal

pub returns-clause-fits : goal.returns-clause-fits
returns-clause-fits c = tree_fits c.args.texts.now c.units_of_texts_fit.ensures c.typed.result c.typed.ensures.accepted

pub returns-clause-accepts : goal.returns-clause-accepts
returns-clause-accepts c = accepts c.args.texts.now (c.one_outcome.ensures c.args.texts.now) c.typed.result c.typed.ensures.accepted c.typed.ensures.refused

pub returns-clause-refuses : goal.returns-clause-refuses
returns-clause-refuses c = refuses c.args.texts.now (c.one_outcome.ensures c.args.texts.now) c.typed.result c.typed.ensures.accepted c.typed.ensures.refused
