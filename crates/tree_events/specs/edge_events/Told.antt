-- What an edge tells: one event, and the return or the answer of a call that is a statement two. By the edge alone: neither
-- the edges around it nor the state are asked.
use Rattle.std.specs.Prelude.{ℕ, Bool, true, false, ◌==◌, if◌then◌else◌, List, [], ◌∷◌, Option, Some, None}
use Rattle.std.specs.Option.{is_none}
use Rattle.fq_core.specs.declared.statement_kind.StatementKind.{StatementKind}
use Rattle.fq_core.specs.declared.statement_kind.StatementKind.TheVariants as kinds
use Rattle.cfa.specs.declared.expr.CellPlace.{CellPlace, out-CellPlace}
use Rattle.cfa.specs.declared.expr.CellPlace.TheOpen.{CellPlace-F}
use Rattle.cfa.specs.declared.expr.Expr.{Expr}
use Rattle.cfa.specs.declared.parts.Edge.{Edge}
use Rattle.cfa.specs.declared.parts.Operation.{Operation}
use Rattle.cfa.specs.declared.parts.Operation.TheVariants.{Skip, Assign, Clear, Guard, Call, Return, Answer, Assert, Assume}
use Rattle.tree_events.specs.declared.edge_events.event.Event.{Event}
use Rattle.tree_events.specs.declared.edge_events.event.What.{What}
use Rattle.tree_events.specs.declared.edge_events.event.What.TheVariants.{Outcome, Did, Entered, Left, Answered, Valued, Enters, Again, Always, Straight}

abbrev pub first_name : List (List ℕ) → Option (List ℕ)
first_name [] = None
first_name (name ∷ rest) = Some name

-- the cell of a function's result is the first one of its frame
abbrev pub is_result_form : CellPlace-F CellPlace Expr → Bool
is_result_form (CellPlace-F.Global cell) = false
is_result_form (CellPlace-F.Local cell) = cell == 0
is_result_form (CellPlace-F.Element array index length) = false

abbrev pub is_result : CellPlace → Bool
is_result p = is_result_form (out-CellPlace p)

-- What is put into a variable does a statement, and so does a function's result; what is put into a temporary is a value that
-- is wanted on.
abbrev pub put_tells : List (List ℕ) → CellPlace → What
put_tells [] p = if is_result p then Did None else Valued
put_tells (name ∷ rest) p = Did (Some name)

abbrev pub kind_tells : StatementKind → What
kind_tells kinds.If = Did None
kind_tells kinds.For = Always
kind_tells kinds.While = Did None
kind_tells kinds.Do = Did None
kind_tells kinds.Switch = Straight
kind_tells kinds.Assign = Did None
kind_tells kinds.Call = Did None
kind_tells kinds.Return = Did None
kind_tells kinds.Decl = Did None
kind_tells kinds.Assert = Did None
kind_tells kinds.Assume = Did None
kind_tells kinds.Jump = Did None
kind_tells kinds.Label = Did None
kind_tells kinds.Empty = Did None

abbrev pub label_tells : Option (List ℕ) → StatementKind → What
label_tells None kind = kind_tells kind
label_tells (Some name) kind = Did (Some name)

abbrev pub skip_tells : Edge → What
skip_tells e = if e.enter then Enters else if e.back then Again else label_tells e.label e.statement

abbrev pub operation_tells : Edge → Operation → What
operation_tells e Skip = skip_tells e
operation_tells e (Assign p value) = put_tells e.writes p
operation_tells e (Clear array length) = Did (first_name e.writes)
operation_tells e (Guard test truth) = Outcome truth e.outcome
operation_tells e (Call callee words arrays) = Entered callee
operation_tells e (Return call dest) = Left
operation_tells e (Answer input dest) = Answered input
operation_tells e (Assert test) = Did None
operation_tells e (Assume test) = Did None

-- whether the result of a call is put nowhere, which is a statement then
abbrev pub ends_call : Operation → Bool
ends_call Skip = false
ends_call (Assign p value) = false
ends_call (Clear array length) = false
ends_call (Guard test truth) = false
ends_call (Call callee words arrays) = false
ends_call (Return call dest) = is_none dest
ends_call (Answer input dest) = is_none dest
ends_call (Assert test) = false
ends_call (Assume test) = false

-- something that happens at an edge's place, in a statement of its kind
abbrev pub event_of : Edge → What → Event
event_of e what = record { place = e.span; statement = e.statement; what = what }

abbrev pub done_if : Edge → Bool → List Event
done_if e true = event_of e (Did None) ∷ []
done_if e false = []

unfoldable pub told : Edge → List Event
told e = event_of e (operation_tells e e.operation) ∷ done_if e (ends_call e.operation)
