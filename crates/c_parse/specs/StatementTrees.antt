-- The parts that trees of statements are made of.
-- Public contracts rest on this.
use Rattle.std.specs.Prelude.{ℕ, Bool, true, false, List, Option, Some, None}
use Rattle.fq_core.specs.declared.span.Span.{Span}
use Rattle.c_values.specs.declared.operators.BinaryOp.{BinaryOp}
use Rattle.c_values.specs.declared.operators.BinaryOp.TheVariants as ops
use Rattle.c_parse.specs.declared.sign.Symbol.{Symbol}
use Rattle.c_parse.specs.declared.sign.Symbol.TheVariants as symbols
use Rattle.c_parse.specs.declared.expr.Ident.{Ident}
use Rattle.c_parse.specs.declared.expr.ExprTree.{ExprTree}
use Rattle.c_parse.specs.declared.statement.PlaceTree.{PlaceTree}
use Rattle.c_parse.specs.declared.statement.Declarator.{Declarator}
use Rattle.c_parse.specs.declared.statement.Initial.{Initial}
use Rattle.c_parse.specs.declared.statement.CaseLabel.{CaseLabel}
use Rattle.c_parse.specs.declared.statement.Group.{Group, roll-Group}
use Rattle.c_parse.specs.declared.statement.Statement.{Statement, roll-Statement}
use Rattle.c_parse.specs.declared.statement.Form.{Form}

-- a statement of this form, whose first token has this span
abbrev pub statement : Span → Form → Statement
statement s f = roll-Statement (record { span = s; form = f })

abbrev pub ident : List ℕ → Span → Ident
ident w s = record { name = w; span = s }

abbrev pub place_tree : List ℕ → Span → Option ExprTree → PlaceTree
place_tree w s i = record { name = ident w s; index = i }

abbrev pub declarator : List ℕ → Span → Option ExprTree → Option Initial → Declarator
declarator w s length first = record { name = ident w s; length = length; first = first }

abbrev pub case_label : Span → Option ExprTree → CaseLabel
case_label s value = record { span = s; value = value }

abbrev pub group : List CaseLabel → List Statement → Group
group labels body = roll-Group (record { labels = labels; body = body })

-- the operator in an assignment by a symbol, if it has one (6.5.16)
abbrev pub assigned_by : Symbol → Option (Option BinaryOp)
assigned_by symbols.Assign = Some None
assigned_by symbols.MulAssign = Some (Some ops.Mul)
assigned_by symbols.DivAssign = Some (Some ops.Div)
assigned_by symbols.RemAssign = Some (Some ops.Rem)
assigned_by symbols.AddAssign = Some (Some ops.Add)
assigned_by symbols.SubAssign = Some (Some ops.Sub)
assigned_by symbols.ShlAssign = Some (Some ops.Shl)
assigned_by symbols.ShrAssign = Some (Some ops.Shr)
assigned_by symbols.AndAssign = Some (Some ops.And)
assigned_by symbols.XorAssign = Some (Some ops.Xor)
assigned_by symbols.OrAssign = Some (Some ops.Or)
assigned_by _ = None

-- whether a symbol adds 1 or takes 1 off (6.5.2.4, 6.5.3.1)
abbrev pub step_by : Symbol → Option Bool
step_by symbols.Increment = Some true
step_by symbols.Decrement = Some false
step_by _ = None
