-- The table: what each form of a statement makes from a to z.
use Rattle.std.specs.Prelude.{List, [], ◌∷◌, map}
use Rattle.std.specs.Option.{option_map}
use Rattle.fq_core.specs.declared.span.Span.{Span}
use Rattle.fq_core.specs.declared.statement_kind.StatementKind.{StatementKind}
use Rattle.fq_core.specs.declared.statement_kind.StatementKind.TheVariants as kinds
use Rattle.cfa.specs.declared.parts.Operation.TheVariants.{Assert, Assume}
use Rattle.cfa.specs.declared.parts.Variable.{Variable}
use Rattle.c_typed_trees.specs.declared.expression.TypedExpr.{TypedExpr}
use Rattle.c_typed_trees.specs.declared.statement.TypedForm.{TypedForm, fold-TypedForm}
use Rattle.c_typed_trees.specs.declared.statement.TypedForm.TheOpen.{TypedForm-F, TypedGroup-F, TypedStatement-F}
use Rattle.c_typed_trees.specs.declared.statement.TypedGroup.{TypedGroup, fold-TypedGroup}
use Rattle.c_typed_trees.specs.declared.statement.TypedStatement.{TypedStatement, fold-TypedStatement}
use Rattle.c_lower_rules.specs.graph_of.Edges.{Lowering, stated, skip}
use Rattle.c_lower_rules.specs.graph_of.Expressions.{Value, value_of, spot_of, calling_of}
use Rattle.c_lower_rules.specs.graph_of.Statements.{Piece, block_row, arms_row, while_row, do_row, for_row, break_row, continue_row, return_row, label_row, test_row, assign_row, local_row, array_row, call_row}
use Rattle.c_lower_rules.specs.graph_of.Switch.{Group, switch_row}

-- a statement of a kind, which declares these variables
abbrev pub stating : StatementKind → List Variable → Lowering → Span → Piece
stating kind variables make span = record { span = span; declares = variables; make = λ u. make (stated u span kind) }

abbrev pub tested : TypedExpr × Piece → Value × Piece
tested arm = (value_of arm.0, arm.1)

-- a statement's form, by its first token
abbrev pub form_step : TypedForm-F (Span → Piece) Group Piece → Span → Piece
form_step (TypedForm-F.Block body) = stating kinds.Empty [] (block_row body)
form_step TypedForm-F.Empty = stating kinds.Empty [] skip
form_step (TypedForm-F.Local x first) = stating kinds.Decl (x ∷ []) (local_row x (option_map value_of first))
form_step (TypedForm-F.LocalArray x list) = stating kinds.Decl (x ∷ []) (array_row x (map value_of list))
form_step (TypedForm-F.Assign p op e) = stating kinds.Assign [] (assign_row (spot_of p) op (value_of e))
form_step (TypedForm-F.Call c) = stating kinds.Call [] (call_row (calling_of c))
form_step (TypedForm-F.Label name s) = stating kinds.Label [] (label_row name s)
form_step (TypedForm-F.If arms otherwise) = stating kinds.If [] (arms_row (map tested arms) otherwise)
form_step (TypedForm-F.While c s) = stating kinds.While [] (while_row (value_of c) s)
form_step (TypedForm-F.Do s c) = stating kinds.Do [] (do_row s (value_of c))
form_step (TypedForm-F.For first c j s) = stating kinds.For [] (for_row first (option_map value_of c) j s)
form_step (TypedForm-F.Switch e cell groups) = stating kinds.Switch [] (switch_row (value_of e) cell groups)
form_step TypedForm-F.Break = stating kinds.Jump [] break_row
form_step TypedForm-F.Continue = stating kinds.Jump [] continue_row
form_step (TypedForm-F.Return e) = stating kinds.Return [] (return_row (option_map value_of e))
form_step (TypedForm-F.Assert e) = stating kinds.Assert [] (test_row Assert (value_of e))
form_step (TypedForm-F.Assume e) = stating kinds.Assume [] (test_row Assume (value_of e))

abbrev pub group_step : TypedGroup-F (Span → Piece) Group Piece → Group
group_step g = record { labels = g.labels; body = g.body }

abbrev pub statement_step : TypedStatement-F (Span → Piece) Group Piece → Piece
statement_step s = s.form s.span

unfoldable pub shape : TypedForm → Span → Piece
shape = fold-TypedForm (Span → Piece) Group Piece form_step group_step statement_step

unfoldable pub group_of : TypedGroup → Group
group_of = fold-TypedGroup (Span → Piece) Group Piece form_step group_step statement_step

unfoldable pub piece : TypedStatement → Piece
piece = fold-TypedStatement (Span → Piece) Group Piece form_step group_step statement_step

-- the nodes, edges and scopes of a statement from one node to another
abbrev pub lowered : TypedStatement → Lowering
lowered s = (piece s).make
