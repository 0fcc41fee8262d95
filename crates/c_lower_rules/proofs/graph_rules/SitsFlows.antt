-- What expressions make meets the rules, and what they give does.
use Rattle.std.proofs.Common.{◌≡◌, ℕ, ◌+◌, ◌<◌, List, [], ◌∷◌, map, length, Option, None, Some, refl, sym, ap, subst, ◌∙◌}
use Rattle.std.specs.Prelude.{IsTrue, slice_get, option_and_then}
use Rattle.std.specs.List.{AllZip}
use Rattle.std.specs.Option.{IsSome, OnSome}
use Rattle.std.proofs.lemmas.Bool.{eqb-true}
use Rattle.std.proofs.lemmas.Option.{slice_get_within}
use Rattle.c_values.specs.Kind.{is_kind}
use Rattle.c_values.specs.declared.kinds.Kind.{Kind}
use Rattle.c_values.proofs.Fitting.{and_left, and_right, and_both}
use Rattle.cfa.specs.declared.expr.ArrayPlace.{ArrayPlace}
use Rattle.cfa.specs.declared.expr.CellPlace.{CellPlace}
use Rattle.cfa.specs.declared.expr.Expr.{Expr}
use Rattle.cfa.specs.declared.parts.Edge.{Edge}
use Rattle.cfa.specs.declared.parts.Function.{Function}
use Rattle.cfa.specs.declared.parts.InputFunction.{InputFunction}
use Rattle.cfa.specs.declared.parts.Operation.TheVariants.{Call, Return}
use Rattle.cfa.specs.declared.parts.Variable.{Variable}
use Rattle.cfa.specs.declared.parts.VariablePlace.{VariablePlace}
use Rattle.cfa.specs.Each.{matched}
use Rattle.cfa.specs.Graph.{IsNodeOf, EdgeFits, call_fits, dest_fits, callee_of, returned_call, function_called, words_fit, word_fits, arrays_fit, variable_fits}
use Rattle.cfa.specs.Rules.{Room, checked_kind, place_fits, has_kind, is_length}
use Rattle.cfa.specs.Rules as rule
use Rattle.cfa.proofs.Exits.{given}
use Rattle.c_typed_trees.specs.declared.expression.Callee.{Callee}
use Rattle.c_typed_trees.specs.declared.expression.Callee.TheVariants.{Defined, Input}
use Rattle.c_typed_trees.specs.declared.unit.TypedFunction.{TypedFunction}
use Rattle.c_typed_trees.specs.Fitting.{word_kinds, array_lengths, is_variable, is_integer, is_array, array_fits}
use Rattle.c_lower_rules.specs.declared.graph_of.parts.Around.{Around}
use Rattle.c_lower_rules.specs.declared.graph_of.parts.Operand.{Operand}
use Rattle.c_lower_rules.specs.declared.graph_of.parts.Target.{Target}
use Rattle.c_lower_rules.specs.graph_of.Builder.{Builder, Flow, Flowed, give, ◌then◌, ending}
use Rattle.c_lower_rules.specs.graph_of.Edges.{entry_of, exit_of, deciding, edge_of}
use Rattle.c_lower_rules.specs.graph_of.Expressions.{Value, Spot, array_of, element_of, spot_index, words_in_order, reads_of, call_edges}
use Rattle.c_lower_rules.specs.graph_of.GraphOf.{function_of}
use Rattle.c_lower_rules.proofs.graph_of.Fits.{◌&◌}
use Rattle.c_lower_rules.proofs.graph_rules.Sits.{Sits, all_sit, Meets, all_meet, meet_nil}
use Rattle.c_lower_rules.proofs.graph_rules.Settings.{Setting, AtNode, Within, node_within, in_functions, operands_meet as operands_are, edge_meets, plain_answer}
use Rattle.c_lower_rules.proofs.graph_rules.Operands.{has_own, array_meets, integer_cell, element_place}

-- ---- what flows

-- an operand of a kind
pub record OperandFits (c : Setting) (kind : Kind) (v : Operand) : Type 0 where
  pub checked : checked_kind c.names.room v.value ≡ Some kind

-- a place that is there
pub record TargetFits (c : Setting) (t : Target) : Type 0 where
  pub fits : IsTrue (place_fits c.names.room t.place)

-- operands of these kinds
pub record WordsFit (c : Setting) (kinds : List Kind) (ws : List Operand) : Type 0 where
  pub fits : IsTrue (words_fit c.names.room (map (λ (w : Operand). w.value) ws) kinds)

-- what is made meets the rules, control ends at a node, and what is given fits
pub record Flowing (c : Setting) (A : Type 0) (Fit : A → Type 0) (w : Flowed A) (e : ℕ) : Type 0 where
  pub made : Meets c.graph w.made e
  pub end : AtNode c w.end
  pub gives : Fit w.gives

pub record IsFlow (c : Setting) (A : Type 0) (Fit : A → Type 0) (x : Flow A) : Type 0 where
  pub flows : (a n e k : ℕ) → AtNode c a → Sits c.graph (x a n e k).made n e k → Flowing c A Fit (x a n e k) e

abbrev pub IsPure : (c : Setting) {A : Type 0} → (A → Type 0) → (Around → Flow A) → Type 0
IsPure c {A} Fit x = (u : Around) → Within c u → IsFlow c A Fit (x u)

abbrev pub IsTesting : Setting → (Around → ℕ → ℕ → ℕ → Builder) → Type 0
IsTesting c b = (u : Around) (a t f n e k : ℕ) → Within c u → AtNode c a → AtNode c t → AtNode c f → Sits c.graph (b u a t f n e k) n e k → Meets c.graph (b u a t f n e k) e

-- an expression of a kind
pub record IsValue (c : Setting) (x : Value) (kind : Kind) : Type 0 where
  pub span : x.span.file < length c.graph.files
  pub same : x.kind ≡ kind
  pub pure : IsPure c (OperandFits c kind) x.pure
  pub cond : IsTesting c x.cond

-- ---- within

module _ (c : Setting) where
  pub as_deciding : (u : Around) (t f : ℕ) → Within c u → Within c (deciding u t f)
  as_deciding u t f w = record { function = w.function; file = w.file; scope = w.scope; own = w.own; sees = w.sees; exit = w.exit; on_break = w.on_break; on_continue = w.on_continue }

  -- ---- combinators

  pub give_is : {A : Type 0} (Fit : A → Type 0) (v : A) → Fit v → IsFlow c A Fit (give v)
  give_is Fit v h = record { flows = λ a n e k at s. record { made = meet_nil c.graph n e k; end = at; gives = h } }

  pub then_is : {A B : Type 0} (Fit : A → Type 0) (Fits : B → Type 0) (x : Flow A) (f : A → Flow B) → IsFlow c A Fit x → ((v : A) → Fit v → IsFlow c B Fits (f v)) → IsFlow c B Fits (x then f)
  then_is Fit Fits x f hx hf = record {
    flows = λ a n e k at s.
        let v = x a n e k in
        let S = all_sit c.graph _ n e k s in
        let X = hx.flows a n e k at S.0 in
        let Y = (hf v.gives X.gives).flows v.end (n + length v.made.nodes) (e + length v.made.edges) (k + length v.made.scopes) X.end S.1.0 in
        record { made = all_meet c.graph _ n e k (X.made & Y.made & tt); end = Y.end; gives = Y.gives };
  }

  pub then_gives : {A B : Type 0} (Fit : A → Type 0) (Fits : B → Type 0) (x : Flow A) (g : A → B) → IsFlow c A Fit x → ((v : A) → Fit v → Fits (g v)) → IsFlow c B Fits (x then λ v. give (g v))
  then_gives Fit Fits x g hx hg = then_is Fit Fits x (λ v. give (g v)) hx (λ v h. give_is Fits (g v) (hg v h))

  pub ending_is : {A : Type 0} (Fit : A → Type 0) (x : Flow A) (f : A → ℕ → Builder) → IsFlow c A Fit x
      → ((v : A) (m p q r : ℕ) → Fit v → AtNode c m → Sits c.graph (f v m p q r) p q r → Meets c.graph (f v m p q r) q)
      → (a n e k : ℕ) → AtNode c a → Sits c.graph (ending x f a n e k) n e k → Meets c.graph (ending x f a n e k) e
  ending_is Fit x f hx hf a n e k at s =
      let v = x a n e k in
      let S = all_sit c.graph _ n e k s in
      let X = hx.flows a n e k at S.0 in
      let Y = hf v.gives v.end (n + length v.made.nodes) (e + length v.made.edges) (k + length v.made.scopes) X.gives X.end S.1.0 in
      all_meet c.graph _ n e k (X.made & Y & tt)

  -- ---- places and words

  -- an integer, or an array with an index
  abbrev pub IndexFits : Variable → Option Value → Type 0
  IndexFits v None = IsTrue (is_integer c.names v)
  IndexFits v (Some i) = IsTrue (is_array c.names v) × ((kind : Kind) × IsValue c i kind)

  pub spot_index_is : (v : Variable) (index : Option Value) → IndexFits v index → IsPure c (TargetFits c) (spot_index v index)
  spot_index_is v None h u w = give_is (TargetFits c) _ (record { fits = integer_cell c.names v h })
  spot_index_is v (Some i) h u w =
      then_gives (OperandFits c h.1.0) (TargetFits c) (i.pure u) (λ o. record { place = element_of v o.value; reads = o.reads }) (h.1.1.pure u w)
      (λ o fit. record { fits = element_place c.names v o.value h.1.0 h.0 fit.checked })

  abbrev pub SpotFits : Spot → Type 0
  SpotFits p = IndexFits p.variable p.index

  pub words_are : (xs : List Value) (kinds : List Kind) → AllZip (IsValue c) xs kinds → IsPure c (WordsFit c kinds) (words_in_order xs)
  words_are [] [] hs u w = give_is (WordsFit c []) [] (record { fits = refl })
  words_are [] (k ∷ ks) hs u w = absurd hs
  words_are (x ∷ xs) [] hs u w = absurd hs
  words_are (x ∷ xs) (k ∷ ks) hs u w =
      then_is (OperandFits c k) (WordsFit c (k ∷ ks)) (x.pure u) _ (hs.0.pure u w)
      (λ v fit. then_gives (WordsFit c ks) (WordsFit c (k ∷ ks)) (words_in_order xs u) (λ vs. v ∷ vs) (words_are xs ks hs.1 u w)
      (λ vs rest. record { fits = and_both (word_fits c.names.room v.value k) (words_fit c.names.room (map (λ (w : Operand). w.value) vs) ks) (has_own c.names.room (checked_kind c.names.room v.value) k fit.checked) rest.fits }))

  -- ---- calls

  -- a call of a defined function, with words of its kinds and arrays of its lengths
  pub record DefinedFits (j : ℕ) (words : List Value) (arrays : List Variable) (result : Option Kind) : Type 0 where
    pub callee : TypedFunction
    pub there : slice_get c.names.functions j ≡ Some callee
    pub given_words : AllZip (IsValue c) words (word_kinds callee)
    pub given_arrays : IsTrue (matched (array_fits c.names) arrays (array_lengths callee))
    pub same : result ≡ callee.result

  -- a call of an input function, with nothing
  pub record InputFits (j : ℕ) (words : List Value) (result : Option Kind) : Type 0 where
    pub input : InputFunction
    pub there : slice_get c.names.inputs j ≡ Some input
    pub given_words : AllZip (IsValue c) words []

  abbrev pub CallFits : Callee → List Value → List Variable → Option Kind → Type 0
  CallFits (Defined j) words arrays result = DefinedFits j words arrays result
  CallFits (Input j) words arrays result = InputFits j words result

  lent_meets : (own : Option ℕ) (p : VariablePlace) (length : ℕ) → IsTrue (variable_fits c.names.room own p) → IsTrue (is_length own length) → IsTrue (rule.array_fits c.names.room (array_of p) length)
  lent_meets None p length h k = absurd (cc)
  lent_meets (Some own) p length h k = subst (λ n. IsTrue (rule.array_fits c.names.room (array_of p) n)) (eqb-true own length k) (array_meets c.names.room (Some own) p h refl)

  arrays_meet : (arrays : List Variable) (lengths : List ℕ) → IsTrue (matched (array_fits c.names) arrays lengths) → IsTrue (arrays_fit c.names.room (map (λ (v : Variable). array_of v.place) arrays) lengths)
  arrays_meet [] [] h = refl
  arrays_meet [] (n ∷ ns) h = absurd (cc)
  arrays_meet (v ∷ vs) [] h = absurd (cc)
  arrays_meet (v ∷ vs) (n ∷ ns) h =
      let here = and_left (array_fits c.names v n) (matched (array_fits c.names) vs ns) h in
      let own = and_left (is_variable c.names v) (is_length v.length n) here in
      and_both (rule.array_fits c.names.room (array_of v.place) n) (arrays_fit c.names.room (map (λ (v : Variable). array_of v.place) vs) ns)
      (lent_meets v.length v.place n (and_right (is_kind v.kind) (variable_fits c.names.room v.length v.place) own) (and_right (is_variable c.names v) (is_length v.length n) here))
      (arrays_meet vs ns (and_right (array_fits c.names v n) (matched (array_fits c.names) vs ns) h))

  -- where a result is put somewhere, there is one, and the place is a temporary's
  pub record DestFits (dest : Option CellPlace) (result : Option Kind) : Type 0 where
    pub place : IsTrue (dest_fits c.names.room dest)
    pub some : OnSome dest (IsSome result)

  defined_meets : (j : ℕ) (words : List Value) (arrays : List Variable) (result : Option Kind) → (u : Around) (ws : List Operand) (dest : Option CellPlace) (a z n e k : ℕ)
      → Within c u → (h : DefinedFits j words arrays result) → WordsFit c (word_kinds h.callee) ws → DestFits dest result → AtNode c a → AtNode c z
      → Sits c.graph (call_edges (Defined j) arrays u ws dest a z n e k) n e k → Meets c.graph (call_edges (Defined j) arrays u ws dest a z n e k) e
  defined_meets j words arrays result u ws dest a z n e k w h hw hd at to s =
      let S = all_sit c.graph _ n e k s in
      all_meet c.graph _ n e k (record { nodes = tt; edges = (call S.0.edges.0 S.1.0.edges.0, tt); scopes = tt } & record { nodes = tt; edges = (return S.0.edges.0, tt); scopes = tt } & tt)
    where
      values : List Expr
      values = map (λ (w : Operand). w.value) ws

      places : List ArrayPlace
      places = map (λ (v : Variable). array_of v.place) arrays

      call_edge : Edge
      call_edge = edge_of u (Call j values places) [] (reads_of ws arrays) a (entry_of j)

      return_edge : Edge
      return_edge = edge_of u (Return e dest) [] [] (exit_of j) z

      there : slice_get c.graph.functions j ≡ Some (function_of j h.callee)
      there = c.functions j h.callee h.there

      words_meet : IsTrue (call_fits c.names.room (slice_get c.graph.functions j) values places)
      words_meet = subst (λ o. IsTrue (call_fits c.names.room o values places)) (sym there)
          (and_both (words_fit c.names.room values (word_kinds h.callee)) (arrays_fit c.names.room places (array_lengths h.callee)) hw.fits (arrays_meet arrays (array_lengths h.callee) h.given_arrays))

      in_file : u.span.file < length c.graph.files
      in_file = w.file

      inside : u.function < length c.graph.functions
      inside = subst (λ f. f < length c.graph.functions) (sym w.function) (in_functions c)

      call : slice_get c.graph.edges e ≡ Some call_edge → slice_get c.graph.edges (e + 1) ≡ Some return_edge → EdgeFits c.graph e call_edge
      call is next = record {
        file = w.file;
        function = inside;
        source = node_within c a at;
        target = c.entries j h.callee h.there;
        numbers = slice_get_within c.graph.functions j (function_of j h.callee) there;
        leaves = subst (λ g. IsNodeOf c.graph g a) (sym w.function) at.there;
        reaches = given (λ (f : Function). entry_of j ≡ f.entry) (slice_get c.graph.functions j) (function_of j h.callee) there refl;
        operands = operands_are c call_edge w.function words_meet;
        pair = given (λ (f : Edge). (f.function ≡ u.function) × (returned_call f.operation ≡ Some e)) (slice_get c.graph.edges (e + 1)) return_edge next (refl, refl);
      }

      called : slice_get c.graph.edges e ≡ Some call_edge → function_called c.graph e ≡ Some (function_of j h.callee)
      called is = ap (option_and_then (λ (x : Edge). option_and_then (λ callee. slice_get c.graph.functions callee) (callee_of x.operation))) is ∙ there

      result_some : OnSome dest (IsSome h.callee.result)
      result_some = subst (λ o. OnSome dest (IsSome o)) h.same hd.some

      return : slice_get c.graph.edges e ≡ Some call_edge → EdgeFits c.graph (e + 1) return_edge
      return is = record {
        file = w.file;
        function = inside;
        source = c.exits j h.callee h.there;
        target = node_within c z to;
        numbers = slice_get_within c.graph.edges e call_edge is;
        leaves = given (λ (f : Function). exit_of j ≡ f.exit) (function_called c.graph e) (function_of j h.callee) (called is) refl;
        reaches = subst (λ g. IsNodeOf c.graph g z) (sym w.function) to.there;
        operands = operands_are c return_edge w.function hd.place;
        pair = (refl, given (λ (f : Function). OnSome dest (IsSome f.result)) (function_called c.graph e) (function_of j h.callee) (called is) result_some);
      }

  -- the words of a call, and its edges
  pub call_ends : (callee : Callee) (words : List Value) (arrays : List Variable) (result : Option Kind) (dest : Option CellPlace) (u : Around) (z : ℕ) → CallFits callee words arrays result → DestFits dest result → Within c u → AtNode c z
      → (a n e k : ℕ) → AtNode c a → Sits c.graph (ending (words_in_order words u) (λ ws b. call_edges callee arrays u ws dest b z) a n e k) n e k
      → Meets c.graph (ending (words_in_order words u) (λ ws b. call_edges callee arrays u ws dest b z) a n e k) e
  call_ends (Defined j) words arrays result dest u z h hd w to a n e k at s =
      ending_is (WordsFit c (word_kinds h.callee)) (words_in_order words u) (λ ws b. call_edges (Defined j) arrays u ws dest b z) (words_are words (word_kinds h.callee) h.given_words u w)
      (λ ws m p q r fit from sits. defined_meets j words arrays result u ws dest m z p q r w h fit hd from to sits) a n e k at s
  call_ends (Input j) words arrays result dest u z h hd w to a n e k at s =
      let there = slice_get_within c.names.inputs j h.input h.there in
      ending_is (WordsFit c []) (words_in_order words u) (λ ws b. call_edges (Input j) arrays u ws dest b z) (words_are words [] h.given_words u w)
      (λ ws m p q r fit from sits. edge_meets c w.function w.file from to (plain_answer c j dest (subst (λ (l : List InputFunction). j < length l) (sym c.inputs) there) hd.place)) a n e k at s
