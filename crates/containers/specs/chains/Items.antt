use Rattle.std.specs.Prelude.{ℕ, List, [], ◌∷◌}
use Rattle.containers.specs.declared.chains.chain.Link.{Link}
use Rattle.containers.specs.declared.chains.chain.Link.TheVariants.{End, More}

abbrev pub items : {T : Type 0} → Link T → List T
items End = []
items (More cell) = cell.value.first ∷ cell.value.rest
