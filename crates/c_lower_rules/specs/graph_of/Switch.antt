-- The nodes and edges of `switch`.
use Rattle.std.specs.Prelude.{ℕ, ◌+◌, Bool, true, false, List, [], ◌∷◌, ◌++◌, map, length, Option, Some, None}
use Rattle.fq_core.specs.declared.span.Span.{Span}
use Rattle.c_values.specs.declared.kinds.Kind.{Kind}
use Rattle.c_values.specs.declared.operators.BinaryOp.TheVariants as binary
use Rattle.cfa.specs.declared.expr.Expr.TheVariants as expr
use Rattle.cfa.specs.declared.parts.Operation.TheVariants.{Guard}
use Rattle.c_lower_rules.specs.declared.graph_of.parts.Around.{Around}
use Rattle.c_lower_rules.specs.graph_of.Builder.{Builder, edge, numbered, ending}
use Rattle.c_lower_rules.specs.graph_of.Edges.{Lowering, within, node_at, node_here, edge_of, skip, put}
use Rattle.c_lower_rules.specs.graph_of.Expressions.{Value, temporary}
use Rattle.c_lower_rules.specs.graph_of.Statements.{Piece, block_row}

-- labels in a row, each with its place and its value, none for `default`; and the statements after them
pub record Group : Type 0 where
  pub labels : List (Span × Option ℕ)
  pub body : List Piece

-- a case label: the place of its word, its value, and the node of its group
pub record Case : Type 0 where
  pub span : Span
  pub value : ℕ
  pub target : ℕ

-- the case labels in a row of labels, which lead to a node
abbrev pub cases_in : ℕ → List (Span × Option ℕ) → List Case
cases_in g [] = []
cases_in g ((span, None) ∷ rest) = cases_in g rest
cases_in g ((span, Some value) ∷ rest) = record { span = span; value = value; target = g } ∷ cases_in g rest

-- the case labels in order, where the first group has this node and each further one the next
abbrev pub cases_from : ℕ → List Group → List Case
cases_from g [] = []
cases_from g (group ∷ rest) = cases_in g group.labels ++ cases_from (g + 1) rest

abbrev pub has_default : List (Span × Option ℕ) → Bool
has_default [] = false
has_default ((span, None) ∷ rest) = true
has_default ((span, Some value) ∷ rest) = has_default rest

abbrev pub default_at : Bool → ℕ → ℕ → ℕ
default_at true g other = g
default_at false g other = other

-- the node of the default's group, or z where there is no default
abbrev pub default_from : ℕ → List Group → ℕ → ℕ
default_from g [] z = z
default_from g (group ∷ rest) z = default_at (has_default group.labels) g (default_from (g + 1) rest z)

-- a guard of equality with a label's value, on the line of the label
abbrev pub case_guard : Around → ℕ → Kind → Case → Bool → Bool → ℕ → ℕ → Builder
case_guard u cell kind l truth outcome a z =
    edge (record (edge_of u (Guard (expr.Binary binary.Equal (temporary cell kind) (expr.Constant l.value kind) kind) truth) [] [] a z) {
      span = l.span;
      decision = true;
      outcome = outcome;
    })

-- 4. For each case label in order, a node c' unless it is the last, and two guards: to the label's group, and to c', for
--    the last to the default's group or z. 5. Where there is no case label, an edge Skip there.
abbrev pub cases_row : Around → ℕ → Kind → List Case → ℕ → ℕ → Builder
cases_row u cell kind [] other c = skip u c other
cases_row u cell kind (l ∷ []) other c = numbered (λ n e k. case_guard u cell kind l true true c l.target ∷ case_guard u cell kind l false true c other ∷ [])
cases_row u cell kind (l ∷ next ∷ rest) other c = numbered (λ c' e k.
    node_here u ∷ case_guard u cell kind l true true c l.target ∷ case_guard u cell kind l false false c c' ∷ cases_row u cell kind (next ∷ rest) other c' ∷ [])

-- 1. a node for each group
abbrev pub group_nodes : Around → List Group → Builder
group_nodes u groups n e k = record { nodes = map (λ (g : Group). node_at u u.span) groups; edges = []; scopes = [] }

-- 6. each group as a block from its node to the next one's, the last to z
abbrev pub groups_row : List Group → Around → ℕ → ℕ → List Builder
groups_row [] u g z = []
groups_row (group ∷ []) u g z = block_row group.body u g z ∷ []
groups_row (group ∷ next ∷ rest) u g z = block_row group.body u g (g + 1) ∷ groups_row (next ∷ rest) u (g + 1) z

-- `switch (e)`: 1. nodes g_1 to g_n; 2. node c; 3. pure(e), and the edge to c that assigns its value to a temporary;
-- 4. and 5. the labels; 6. the groups
abbrev pub switch_row : Value → ℕ → List Group → Lowering
switch_row x cell groups u a z = numbered (λ g e k.
    let c = g + length groups in
    group_nodes u groups ∷ node_here u ∷ ending (x.pure u) (λ v b. put u cell v.value v.reads b c) a
    ∷ cases_row u cell x.kind (cases_from g groups) (default_from g groups z) c ∷ groups_row groups (within u z) g z)
