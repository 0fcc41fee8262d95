-- The graph of a typed unit stands in an order.
use Rattle.std.proofs.Common.{◌≡◌, ℕ, zero, suc, ◌+◌, ◌*◌, ◌<◌, ◌≤◌, List, [], ◌∷◌, ◌++◌, map, length, Some, refl, sym, ap, subst, ◌∙◌, arith, append_assoc, length-append}
use Rattle.std.specs.Prelude.{slice_get, unwrap_or}
use Rattle.std.specs.List.{AllZip, AllByRecursion}
use Rattle.std.proofs.lemmas.List.Elements.{All-nil}
use Rattle.std.proofs.lemmas.Option.{same_Some, slice_get_within}
use Rattle.cfa.specs.declared.parts.Function.{Function}
use Rattle.cfa.specs.declared.parts.Node.{Node}
use Rattle.cfa.specs.declared.parts.Variable.{Variable}
use Rattle.cfa.specs.Contexts.{IsOnce}
use Rattle.cfa.specs.Graph.{IsGraph}
use Rattle.c_lower_rules.specs.cfa_order.Order.{Standing}
use Rattle.c_lower_rules.proofs.cfa_order.Once.{once}
use Rattle.c_typed_trees.specs.declared.statement.TypedStatement.{TypedStatement}
use Rattle.c_typed_trees.specs.declared.unit.Typed.{Typed}
use Rattle.c_typed_trees.specs.declared.unit.TypedFunction.{TypedFunction}
use Rattle.c_lower_rules.specs.graph_of.Builder.{in_order}
use Rattle.c_lower_rules.specs.graph_of.Edges.{entry_of, exit_of}
use Rattle.c_lower_rules.specs.graph_of.Statements.{block_row}
use Rattle.c_lower_rules.specs.graph_of.Table.{piece}
use Rattle.c_lower_rules.specs.graph_of.GraphOf.{function_of, functions_from, global_variables, around_of, ends_from, ends, bodies_from, made, graph_of}
use Rattle.c_lower_rules.proofs.graph_of.Fits.{Agrees, agrees_front, NodeStands, Fits, fits_nil, fits_cons}
use Rattle.c_lower_rules.proofs.graph_of.Given.{stand, To, Deep, from_at, to_at, to_behind}
use Rattle.c_lower_rules.proofs.graph_of.Rows.{Given, IsPiece, block_is}
use Rattle.c_lower_rules.proofs.graph_of.Made.{is_made}

-- ---- a list of standings as a function of places

abbrev pub standing_in : List Standing → ℕ → Standing
standing_in ss n = unwrap_or (slice_get ss n) (stand 0 [])

at_place : (front : List Standing) (s : Standing) (rest : List Standing) → standing_in (front ++ s ∷ rest) (length front) ≡ s
at_place [] s rest = refl
at_place (x ∷ front) s rest = at_place front s rest

agrees_itself : (front ss : List Standing) → Agrees (standing_in (front ++ ss)) (length front) ss
agrees_itself front [] = tt
agrees_itself front (s ∷ ss) =
    let whole : (front ++ s ∷ []) ++ ss ≡ front ++ s ∷ ss = append_assoc front (s ∷ []) ss in
    let long : length (front ++ s ∷ []) ≡ length front + 1 = length-append front (s ∷ []) in
    let rest : Agrees (standing_in (front ++ s ∷ ss)) (length (front ++ s ∷ [])) ss = subst (λ zs. Agrees (standing_in zs) (length (front ++ s ∷ [])) ss) whole (agrees_itself (front ++ s ∷ []) ss) in
    (at_place front s ss, subst (λ n. Agrees (standing_in (front ++ s ∷ ss)) n ss) long rest)

stands_each : (ns : List Node) (ss : List Standing) → AllZip NodeStands ns ss → (i : ℕ) (n : Node) → slice_get ns i ≡ Some n → NodeStands n (standing_in ss i)
stands_each [] ss all i n is = absurd (cc)
stands_each (x ∷ ns) [] all i n is = absurd all
stands_each (x ∷ ns) (s ∷ ss) all zero n is = subst (λ (y : Node). NodeStands y s) (same_Some x n is) all.0
stands_each (x ∷ ns) (s ∷ ss) all (suc i) n is = stands_each ns ss all.1 i n is

module _ (globals : List Variable) where
  -- ---- entries and exits

  abbrev end_standings : List ℕ → List Standing
  end_standings [] = []
  end_standings (hi ∷ rest) = stand 0 [] ∷ stand hi [] ∷ end_standings rest

  outside : (lo : ℕ) → Deep 0 lo []
  outside lo = record { deep = refl; heads = All-nil (λ h. h ≤ lo) }

  -- what the bodies from the function of a number on are given
  abbrev EndsGiven : (ℕ → Standing) → ℕ → List TypedFunction → List ℕ → Type 0
  EndsGiven at i (f ∷ fs) (hi ∷ rest) = Given (around_of globals i f) at 0 hi [] (entry_of i) (exit_of i) × EndsGiven at (i + 1) fs rest
  EndsGiven at i _ _ = Unit {0}

  given_ends : (at : ℕ → Standing) (i : ℕ) (fs : List TypedFunction) (his : List ℕ) → Agrees at (2 * i) (end_standings his) → EndsGiven at i fs his
  given_ends at i [] his ag = tt
  given_ends at i (f ∷ fs) [] ag = tt
  given_ends at i (f ∷ fs) (hi ∷ rest) ag =
      let exit : To at hi [] (exit_of i) = to_at ag.1.0 (omega arith) in
      let next : 2 * i + 1 + 1 ≡ 2 * (i + 1) = omega arith in (
        (from_at ag.0 (omega arith), exit, record { exit = to_behind exit; on_break = to_behind exit; on_continue = to_behind exit }),
        given_ends at (i + 1) fs rest (subst (λ n. Agrees at n (end_standings rest)) next ag.1.1),
      )

  ends_stand : (i : ℕ) (fs : List TypedFunction) (his : List ℕ) → length fs ≡ length his → AllZip NodeStands (ends_from globals i fs) (end_standings his)
  ends_stand i [] [] long = tt
  ends_stand i [] (hi ∷ his) long = absurd (omega arith)
  ends_stand i (f ∷ fs) [] long = absurd (omega arith)
  ends_stand i (f ∷ fs) (hi ∷ his) long = (record { deep = refl; heads = All-nil _ }, (record { deep = refl; heads = All-nil _ }, ends_stand (i + 1) fs his (omega arith)))

  -- each function begins outside of loops
  entry_stands : (his : List ℕ) (rest : List Standing) (k : ℕ) → k < length his → standing_in (end_standings his ++ rest) (2 * k) ≡ stand 0 []
  entry_stands [] rest k within = absurd (omega arith)
  entry_stands (hi ∷ his) rest zero within = refl
  entry_stands (hi ∷ his) rest (suc k) within =
      let twice : 2 * suc k ≡ suc (suc (2 * k)) = omega arith in
      ap (standing_in (end_standings (hi ∷ his) ++ rest)) twice ∙ entry_stands his rest k (omega arith)

  -- ---- bodies

  record Bodies (i : ℕ) (fs : List TypedFunction) (n e k : ℕ) : Type 0 where
    his : List ℕ
    long : length fs ≡ length his
    standings : List Standing
    fits : Fits (in_order (bodies_from globals i fs) n e k) n standings (λ at. EndsGiven at i fs his)

  all_made : (ss : List TypedStatement) → AllByRecursion IsPiece (map piece ss)
  all_made [] = tt
  all_made (s ∷ ss) = (is_made s, all_made ss)

  bodies : (i : ℕ) (fs : List TypedFunction) (n e k : ℕ) → Bodies i fs n e k
  bodies i [] n e k = record { his = []; long = refl; standings = []; fits = fits_nil n e k }
  bodies i (f ∷ rest) n e k =
      let m = block_row (map piece f.body) (around_of globals i f) (entry_of i) (exit_of i) n e k in
      let X = block_is (map piece f.body) (all_made f.body) (around_of globals i f) (entry_of i) (exit_of i) n e k 0 [] (outside 0) in
      let Y = bodies (i + 1) rest (n + length m.nodes) (e + length m.edges) (k + length m.scopes) in
      record { his = X.hi ∷ Y.his; long = ap suc Y.long; standings = X.standings ++ Y.standings; fits = fits_cons _ _ _ _ _ X.fits Y.fits }

-- ---- functions

function_at : (i : ℕ) (fs : List TypedFunction) (k : ℕ) (f : Function) → slice_get (functions_from i fs) k ≡ Some f → f.entry ≡ entry_of (i + k)
function_at i [] k f is = absurd (cc)
function_at i (g ∷ fs) zero f is = let same : function_of i g ≡ f = same_Some (function_of i g) f is in let none : i ≡ i + 0 = omega arith in ap (λ (f : Function). f.entry) (sym same) ∙ ap entry_of none
function_at i (g ∷ fs) (suc k) f is = let e : i + 1 + k ≡ i + suc k = omega arith in function_at (i + 1) fs k f is ∙ ap entry_of e

functions-length : (i : ℕ) (fs : List TypedFunction) → length (functions_from i fs) ≡ length fs
functions-length i [] = refl
functions-length i (f ∷ fs) = ap suc (functions-length (i + 1) fs)

-- ---- the whole

pub graph_once : (t : Typed) (files : List (List ℕ)) → IsGraph (graph_of t files) → IsOnce (graph_of t files)
unfolding graph_of
graph_once t files graph = once (graph_of t files) (standing_in ss) graph (record {
  depths = λ i n is. (node i n is).deep;
  heads = λ i n is. (node i n is).heads;
  entries = λ k f is.
      let within : k < length B.his = omega (arith, slice_get_within (functions_from 0 t.functions) k f is, functions-length 0 t.functions, B.long) in
      let none : 0 + k ≡ k = omega arith in
      let entry : f.entry ≡ entry_of k = function_at 0 t.functions k f is ∙ ap entry_of none in
      ap (λ n. (standing_in ss n).loops) entry ∙ ap (λ (s : Standing). s.loops) (entry_stands globals B.his B.standings k within);
  edges = all.edges (standing_in ss) (agrees_itself [] ss) (tt, given_ends globals (standing_in ss) 0 t.functions B.his (agrees_front (standing_in ss) 0 (end_standings globals B.his) B.standings (agrees_itself [] ss)));
})
  where
    globals : List Variable
    globals = global_variables t

    B : Bodies (global_variables t) 0 t.functions (0 + length (ends_from (global_variables t) 0 t.functions)) 0 (0 + length (ends (global_variables t) t.functions 0 0 0).scopes)
    B = bodies (global_variables t) 0 t.functions _ _ _

    ss : List Standing
    ss = end_standings (global_variables t) B.his ++ B.standings

    first : Fits (ends (global_variables t) t.functions 0 0 0) 0 (end_standings (global_variables t) B.his) (λ at. Unit {0})
    first = record { nodes = ends_stand (global_variables t) 0 t.functions B.his B.long; edges = λ at ag g. tt }

    all : Fits (made (global_variables t) t.functions) 0 ss (λ at. Unit {0} × EndsGiven (global_variables t) at 0 t.functions B.his)
    all = fits_cons _ _ _ _ _ first B.fits

    node : (i : ℕ) (n : Node) → slice_get (made (global_variables t) t.functions).nodes i ≡ Some n → NodeStands n (standing_in ss i)
    node i n is = stands_each (made (global_variables t) t.functions).nodes ss all.nodes i n is
