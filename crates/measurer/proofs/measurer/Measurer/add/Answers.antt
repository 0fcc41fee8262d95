use Rattle.measurer_index.proofs.word_index.Steps.{on_ok}
use Rattle.measurer.proofs.measurer.Measurer.add.Goals as goal

pub returns-clause-hits : goal.returns-clause-hits
returns-clause-hits c = on_ok c.note.result _ _ (λ h. (c.in_ok-hits.hits.items, (h, c.in_ok-hits.ensures.hits))) c.note.ensures.ok
