-- What is kept of the edges that lead into a node.
use Rattle.std.specs.Prelude.{◌≡◌, ℕ, Bool, true, ◌<◌, nat_lt, List, [], ◌∷◌, length}
use Rattle.cfa.specs.declared.parts.Edge.{Edge}
use Rattle.cfa.specs.declared.parts.GraphParts.{GraphParts}
use Rattle.cfa.specs.Table.{outgoing_of}
use Rattle.fql_read.specs.declared.filter.FilterForm.TheOpen.{FilterForm-F}
use Rattle.filters.specs.declared.blocks.Incoming.{Incoming}
use Rattle.filters.specs.declared.blocks.Incoming.TheVariants as incoming
use Rattle.filters.specs.Parts.{is_marked}
use Rattle.filters.specs.Properties.{begins_block}

abbrev pub incoming_of : List Edge → Incoming
incoming_of [] = incoming.Nothing
incoming_of (e ∷ []) = incoming.One e.source
incoming_of (e ∷ f ∷ rest) = incoming.Several

-- with one more edge, which leaves this node
abbrev pub with_source : Incoming → ℕ → Incoming
with_source incoming.Nothing s = incoming.One s
with_source (incoming.One r) s = incoming.Several
with_source incoming.Several s = incoming.Several

abbrev pub begins_by : GraphParts → Incoming → Bool
begins_by parts incoming.Nothing = true
begins_by parts (incoming.One s) = nat_lt 1 (length (outgoing_of parts s))
begins_by parts incoming.Several = true

-- the node that a lone edge leaves is one of so many
abbrev pub SourceBelow : ℕ → Incoming → Type 0
SourceBelow n (incoming.One s) = s < n
SourceBelow n _ = Unit {0}

-- the table of the nodes at which blocks begin, where a filter asks for it
abbrev pub AreBlocks : {A B : Type 0} → GraphParts → FilterForm-F A B → List Bool → Type 0
AreBlocks parts FilterForm-F.BasicBlockEntry begins = is_marked begins ≡ begins_block parts
AreBlocks parts _ begins = Unit {0}
