-- The room that an expression has between the cells of a store.
use Rattle.std.specs.Prelude.{[], ◌∷◌}
use Rattle.cfa.specs.Rules.{Room}
use Rattle.test_expressions.specs.declared.stores.Places.{Places}

abbrev pub room_of : Places → Room
room_of places = record { globals = places.globals; cells = places.locals; arrays = places.lent.1 ∷ [] }
