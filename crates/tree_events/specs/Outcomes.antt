-- What is done, as tree_meaning has it, and what happens meanwhile, in order. An event happens when a row comes to it: what a
-- trap or the lack of a turn comes before is left out.
use Rattle.std.specs.Prelude.{ℕ, zero, suc, Bool, List, [], ◌∷◌, ◌++◌, None, Result, Ok, Err}
use Rattle.fq_core.specs.declared.span.Span.{Span}
use Rattle.fq_core.specs.declared.statement_kind.StatementKind.{StatementKind}
use Rattle.cfa.specs.declared.state.Trap.{Trap}
use Rattle.tree_events.specs.declared.edge_events.event.Event.{Event}
use Rattle.tree_events.specs.declared.edge_events.event.What.{What}
use Rattle.tree_events.specs.declared.edge_events.event.What.TheVariants.{Did}
use Rattle.tree_meaning.specs.Outcomes.{Store, TrapEnd, Done, Gives, Ends, OutOfTurns}
use Rattle.tree_meaning.specs.declared.way.Way.{Way}
use Rattle.tree_meaning.specs.declared.way.Way.TheVariants.{GoesOn}

-- what was done, and the events of it
pub record Told (A : Type 0) : Type 0 where
  pub events : List Event
  pub done : Done A

-- nothing happens
abbrev pub silent : {A : Type 0} → Done A → Told A
silent d = record { events = []; done = d }

abbrev pub gives : {A : Type 0} → A → Store → Told A
gives x s = silent (Gives x s)

-- these events happen first
abbrev pub behind : {A : Type 0} → List Event → Told A → Told A
behind es t = record { events = es ++ t.events; done = t.done }

abbrev pub continued : {A B : Type 0} → Done A → (A → Store → Told B) → Told B
continued (Gives x s) next = next x s
continued (Ends end) next = silent (Ends end)
continued OutOfTurns next = silent OutOfTurns

infixr 20 ◌thence◌
-- goes on with what is given and left
abbrev pub ◌thence◌ : {A B : Type 0} → Told A → (A → Store → Told B) → Told B
t thence next = behind t.events (continued t.done next)

-- goes on with a value, and ends at a trap
abbrev pub unless_trap : {A B : Type 0} → Result A Trap → (A → Told B) → Told B
unless_trap (Ok value) next = next value
unless_trap (Err trap) next = silent (Ends (TrapEnd trap))

-- takes a turn, if one is left
abbrev pub turn_of : {A : Type 0} → ℕ → Store → (Store → Told A) → Told A
turn_of zero s next = silent OutOfTurns
turn_of (suc n) s next = next (record { cells = s.cells; answers = s.answers; turns = n })

abbrev pub turn : {A : Type 0} → Store → (Store → Told A) → Told A
turn s next = turn_of s.turns s next

-- what a statement does, what is done for a value, and what is done to decide whether a condition is true
abbrev pub Meaning : Type 0
Meaning = Store → Told Way

abbrev pub Evaluation : Type 0
Evaluation = Store → Told ℕ

abbrev pub Deciding : Type 0
Deciding = Store → Told Bool

abbrev pub skip : Meaning
skip s = gives GoesOn s

-- ---- the statement at hand: its first token and its kind

pub record At : Type 0 where
  pub place : Span
  pub kind : StatementKind

abbrev pub at_hand : Span → StatementKind → At
at_hand span kind = record { place = span; kind = kind }

-- something happens in the statement at hand
abbrev pub happens : At → What → List Event
happens at what = record { place = at.place; statement = at.kind; what = what } ∷ []

-- the same, at a place of its own
abbrev pub happens_at : At → Span → What → List Event
happens_at at place what = record { place = place; statement = at.kind; what = what } ∷ []

-- a statement that changes no variable is done
abbrev pub did : At → List Event
did at = happens at (Did None)
