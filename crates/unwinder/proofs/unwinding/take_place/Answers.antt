use Rattle.std.proofs.Common.{List, ap, sym, ◌∙◌}
use Rattle.std.specs.Prelude.{slice_get}
use Rattle.unwinder.specs.declared.arrival.Arrival.{Arrival}
use Rattle.unwinder.proofs.unwinding.take_place.Goals as goal

pub taken-requires-clause-ways : goal.taken-requires-clause-ways
taken-requires-clause-ways c = λ i x e. c.requires.ways c.row_at-row.result c.row_at-row.ensures.row i x (ap (λ (r : List Arrival). slice_get r i) (sym c.deref.ensures) ∙ e)
