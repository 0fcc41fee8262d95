-- What it is that the edges of a statement tell what happens in it.
use Rattle.std.specs.Prelude.{ℕ, ◌<◌}
use Rattle.cfa.specs.declared.state.State.{State}
use Rattle.c_lower_rules.specs.declared.graph_of.parts.Around.{Around}
use Rattle.c_lower_rules.specs.graph_of.Edges.{Lowering}
use Rattle.tree_meaning.specs.Outcomes.{Store}
use Rattle.tree_events.specs.Outcomes.{Meaning}
use Rattle.tree_meaning_laws.specs.expression_laws.Sits.{Sits}
use Rattle.tree_meaning_laws.specs.expression_laws.Contexts.{Context, Held, Related, parts_of}
use Rattle.tree_meaning_laws.specs.statement_laws.Simulates.{Arrives}
use Rattle.tree_events_laws.specs.expression_events.Follows.{Follows}

-- From each state at a, the run does what the meaning says, arrives where the statement leads, and its edges tell what happens.
-- The statement leads to a node that was there before its own.
abbrev pub Simulates : Context → Held → Meaning → Lowering → Type 0
Simulates c ho m make = (u : Around) (a z n e k : ℕ) → Sits (parts_of c) (make u a z n e k) n e k → z < n
    → (s : Store) (st : State) → Related c ho a s st → Follows (parts_of c) c.input st s.turns s.turns (Arrives c ho u z) (m s)
