-- What the fields of a graph keep.
use Rattle.std.specs.Prelude.{ℕ, List, Vec}
use Rattle.std.specs.declared.alloc.Global.{Global}
use Rattle.std.specs.BTreeMap.{BTreeMap}
use Rattle.cfa.specs.declared.parts.GraphParts.{GraphParts}
use Rattle.cfa.specs.Graph.{IsGraph}
use Rattle.cfa.specs.Names.{AreFirstNumbers}
use Rattle.cfa.specs.Table.{IsOutgoing}

-- the parts are a graph, and the tables are those of its edges and functions
pub record IsCoherent (parts : GraphParts) (rows : List (List ℕ)) (names : BTreeMap (Vec ℕ Global) ℕ) : Type 0 where
  pub graph : IsGraph parts
  pub outgoing : IsOutgoing parts rows
  pub named : AreFirstNumbers parts.functions names
