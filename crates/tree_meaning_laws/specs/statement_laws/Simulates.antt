-- What it is that the nodes and edges of a statement do what the statement means.
use Rattle.std.specs.Prelude.{ℕ}
use Rattle.cfa.specs.declared.state.State.{State}
use Rattle.c_lower_rules.specs.declared.graph_of.parts.Around.{Around}
use Rattle.c_lower_rules.specs.graph_of.Edges.{Lowering}
use Rattle.tree_meaning.specs.declared.way.Way.{Way}
use Rattle.tree_meaning.specs.declared.way.Way.TheVariants.{GoesOn, Breaks, Continues, Returns}
use Rattle.tree_meaning.specs.Outcomes.{Store, Meaning}
use Rattle.tree_meaning_laws.specs.expression_laws.Sits.{Sits}
use Rattle.tree_meaning_laws.specs.expression_laws.Follows.{Follows}
use Rattle.tree_meaning_laws.specs.expression_laws.Contexts.{Context, Held, Related, parts_of}

-- the node that a statement leads to where it leaves off so
abbrev pub target : (on_break on_continue exit z : ℕ) → Way → ℕ
target on_break on_continue exit z GoesOn = z
target on_break on_continue exit z Breaks = on_break
target on_break on_continue exit z Continues = on_continue
target on_break on_continue exit z Returns = exit

abbrev pub Arrives : Context → Held → Around → ℕ → Way → Store → State → Type 0
Arrives c ho u z way s st = Related c ho (target u.on_break u.on_continue u.exit z way) s st

-- From each state at a, the run does what the meaning says, and arrives where the statement leads.
abbrev pub Simulates : Context → Held → Meaning → Lowering → Type 0
Simulates c ho m make = (u : Around) (a z n e k : ℕ) → Sits (parts_of c) (make u a z n e k) n e k
    → (s : Store) (st : State) → Related c ho a s st → Follows (parts_of c) c.input st s.turns s.turns (Arrives c ho u z) (m s)
