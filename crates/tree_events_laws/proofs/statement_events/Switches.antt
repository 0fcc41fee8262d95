-- The row of `switch` tells what happens in it.
use Rattle.std.proofs.Common.{◌≡◌, ℕ, suc, ◌+◌, ◌<◌, ◌≤◌, Bool, true, false, List, [], ◌∷◌, ◌++◌, map, length, Option, Some, None, Result, Ok, Err, refl, sym, ap, subst, ◌∙◌, arith}
use Rattle.std.specs.Prelude.{◌==◌, ◌||◌, if◌then◌else◌, slice_get}
use Rattle.std.specs.List.{AllByRecursion}
use Rattle.std.proofs.lemmas.List.{length-map}
use Rattle.fq_core.specs.declared.span.Span.{Span}
use Rattle.fq_core.specs.declared.statement_kind.StatementKind.TheVariants as kinds
use Rattle.c_values.specs.Kind.{IsValue}
use Rattle.c_values.specs.Operations.{truth_of}
use Rattle.c_values.specs.declared.kinds.Kind.{Kind}
use Rattle.c_values.specs.declared.operators.BinaryOp.TheVariants as binary
use Rattle.c_values.proofs.Fitting.{value_parts}
use Rattle.c_values.proofs.Machine.{machine_equal}
use Rattle.cfa.specs.declared.expr.Expr.{Expr}
use Rattle.cfa.specs.declared.expr.Expr.TheVariants as expr
use Rattle.cfa.specs.declared.state.State.{State}
use Rattle.cfa.specs.declared.state.Trap.{Trap}
use Rattle.cfa.specs.States.{value_in}
use Rattle.cfa.specs.Values.{valued, value_of, after_value, operator_outcome}
use Rattle.c_meaning.specs.declared.stepped.Stepped.TheVariants.{Moved}
use Rattle.c_meaning.specs.Runs.{state_moved}
use Rattle.c_meaning.specs.Steps.{next, unless_trapped}
use Rattle.c_lower_rules.specs.declared.graph_of.parts.Around.{Around}
use Rattle.cfa.specs.declared.parts.Edge.{Edge}
use Rattle.cfa.specs.declared.parts.Operation.TheVariants.{Skip, Guard}
use Rattle.c_lower_rules.specs.graph_of.Edges.{within, stated, edge_of, node_at}
use Rattle.tree_events.specs.declared.edge_events.event.Event.{Event}
use Rattle.tree_events.specs.declared.edge_events.event.What.TheVariants.{Outcome, Valued, Straight}
use Rattle.tree_events.specs.edge_events.Told.{told}
use Rattle.c_lower_rules.specs.graph_of.Expressions.{Value, temporary}
use Rattle.c_lower_rules.specs.graph_of.Statements.{block_row}
use Rattle.c_lower_rules.specs.graph_of.Switch.{Case, cases_in, cases_from, has_default, default_at, default_from, cases_row, groups_row, switch_row}
use Rattle.c_lower_rules.specs.graph_of.Switch as graph
use Rattle.tree_meaning.specs.declared.way.Way.{Way}
use Rattle.tree_meaning.specs.declared.way.Way.TheVariants.{GoesOn, Breaks, Continues, Returns}
use Rattle.tree_meaning.specs.Outcomes.{Store, Done, Gives, Ends, OutOfTurns}
use Rattle.tree_meaning.specs.Switch.{has_label}
use Rattle.tree_events.specs.Outcomes.{Told, gives, behind, continued, ◌thence◌, unless_trap, Meaning, At, at_hand, happens, happens_at}
use Rattle.tree_events.specs.Expressions.{Telling, evaluate}
use Rattle.tree_events.specs.Statements.{then_next, sequence, block}
use Rattle.tree_events.specs.Switch.{Group, case_of, cases, compared, labels_told, groups_from, groups_or, groups_at, after_switch, switch_on}
use Rattle.tree_meaning_laws.specs.expression_laws.Sits.{Sits}
use Rattle.tree_events_laws.specs.expression_events.Follows.{Follows}
use Rattle.tree_meaning_laws.specs.expression_laws.Contexts.{Context, IsContext, Held, holding, Related, Proper, Spare, Clear, parts_of, own_frame}
use Rattle.tree_events_laws.specs.expression_events.Flows.{Does}
use Rattle.tree_meaning_laws.proofs.expression_laws.Sits.{AllSit, all_sit}
use Rattle.tree_meaning_laws.proofs.expression_laws.Going.{next_two}
use Rattle.tree_events_laws.proofs.expression_events.Follows.{then_then, evaluated_then, tells_one, follows_give, follows_behind, follows_then}
use Rattle.tree_meaning_laws.proofs.expression_laws.Cells.{related_less, drops_holding, holds_own, good, frame_is}
use Rattle.tree_meaning_laws.proofs.expression_laws.Values.{constant_value, binary_is, temporary_has}
use Rattle.tree_meaning_laws.proofs.expression_laws.Parts.{In}
use Rattle.tree_events_laws.proofs.expression_events.Parts.{chosen_lands}
use Rattle.tree_meaning_laws.specs.statement_laws.Simulates.{Arrives}
use Rattle.tree_events_laws.specs.statement_events.Simulates.{Simulates}
use Rattle.tree_meaning_laws.proofs.statement_laws.Cells.{kept_value}
use Rattle.tree_events_laws.proofs.statement_events.Rows.{AllDo, From, Led, skips, block_does, next_does}
use Rattle.std.specs.List.{flat_map}

-- ---- the node of a value's group

abbrev target_of : ℕ → List Case → ℕ → ℕ
target_of v [] other = other
target_of v (l ∷ rest) other = if v == l.value then l.target else target_of v rest other

pick_or : (a b : Bool) (g other : ℕ) → (if a then g else (if b then g else other)) ≡ (if a || b then g else other)
pick_or true b g other = refl
pick_or false b g other = refl

labels_target : (v g : ℕ) (labels : List (Span × Option ℕ)) (more : List Case) (other : ℕ) → target_of v (cases_in g labels ++ more) other ≡ (if has_label (Some v) labels then g else target_of v more other)
labels_target v g [] more other = refl
labels_target v g ((span, None) ∷ labels) more other = labels_target v g labels more other
labels_target v g ((span, Some w) ∷ labels) more other =
    ap (λ t. if v == w then g else t) (labels_target v g labels more other) ∙ pick_or (v == w) (has_label (Some v) labels) g (target_of v more other)

default_is : (labels : List (Span × Option ℕ)) → has_default labels ≡ has_label None labels
default_is [] = refl
default_is ((span, None) ∷ labels) = refl
default_is ((span, Some w) ∷ labels) = default_is labels

default_pick : (b : Bool) (g other : ℕ) → default_at b g other ≡ (if b then g else other)
default_pick true g other = refl
default_pick false g other = refl

-- the values of labels are values of a kind
abbrev pub LabelsOf : Kind → List (Span × Option ℕ) → Type 0
LabelsOf kind [] = Unit {0}
LabelsOf kind ((span, None) ∷ rest) = LabelsOf kind rest
LabelsOf kind ((span, Some v) ∷ rest) = IsValue kind v × LabelsOf kind rest

abbrev CasesOf : Kind → List Case → Type 0
CasesOf kind cases = AllByRecursion (λ (l : Case). IsValue kind l.value) cases

labels_cases : (kind : Kind) (g : ℕ) (labels : List (Span × Option ℕ)) (more : List Case) → LabelsOf kind labels → CasesOf kind more → CasesOf kind (cases_in g labels ++ more)
labels_cases kind g [] more h k = k
labels_cases kind g ((span, None) ∷ labels) more h k = labels_cases kind g labels more h k
labels_cases kind g ((span, Some v) ∷ labels) more h k = (h.0, labels_cases kind g labels more h.1 k)

-- a label with its place and its value
abbrev pair : Case → Span × ℕ
pair l = (l.span, l.value)

pairs_in : (g : ℕ) (labels : List (Span × Option ℕ)) (more : List Case) → map pair (cases_in g labels ++ more) ≡ flat_map case_of labels ++ map pair more
pairs_in g [] more = refl
pairs_in g ((span, None) ∷ labels) more = pairs_in g labels more
pairs_in g ((span, Some v) ∷ labels) more = ap (λ (xs : List (Span × ℕ)). (span, v) ∷ xs) (pairs_in g labels more)

module _ (c : Context) (ok : IsContext c) (ho : Held) where
  -- a group and what is made of it
  pub record GroupDoes (place : Span) (kind : Kind) (g : Group) (p : graph.Group) : Type 0 where
    pub labels : g.labels ≡ p.labels
    pub values : LabelsOf kind p.labels
    pub means : List Meaning
    pub block : g.does ≡ block place means
    pub does : AllDo c ho means p.body

  abbrev pub GroupsDo : Span → Kind → List Group → List graph.Group → Type 0
  GroupsDo place kind [] [] = Unit {0}
  GroupsDo place kind [] (p ∷ ps) = ⊥
  GroupsDo place kind (g ∷ gs) [] = ⊥
  GroupsDo place kind (g ∷ gs) (p ∷ ps) = GroupDoes place kind g p × GroupsDo place kind gs ps

  groups_cases : (place : Span) (kind : Kind) (g : ℕ) (gs : List Group) (ps : List graph.Group) → GroupsDo place kind gs ps → CasesOf kind (cases_from g ps)
  groups_cases place kind g [] [] h = tt
  groups_cases place kind g [] (p ∷ ps) h = absurd h
  groups_cases place kind g (x ∷ gs) [] h = absurd h
  groups_cases place kind g (x ∷ gs) (p ∷ ps) h = labels_cases kind g p.labels (cases_from (g + 1) ps) (h.0).values (groups_cases place kind (g + 1) gs ps h.1)

  pairs_are : (place : Span) (kind : Kind) (g : ℕ) (gs : List Group) (ps : List graph.Group) → GroupsDo place kind gs ps → map pair (cases_from g ps) ≡ cases gs
  pairs_are place kind g [] [] h = refl
  pairs_are place kind g [] (p ∷ ps) h = absurd h
  pairs_are place kind g (x ∷ gs) [] h = absurd h
  pairs_are place kind g (x ∷ gs) (p ∷ ps) h =
      pairs_in g p.labels (cases_from (g + 1) ps) ∙ ap (λ (xs : List (Span × ℕ)). flat_map case_of p.labels ++ xs) (pairs_are place kind (g + 1) gs ps h.1) ∙ (λ i. flat_map case_of (sym (h.0).labels i) ++ cases gs)

  -- ---- the groups, from each on

  abbrev does_of : List Group → List Meaning
  does_of gs = map (λ (g : Group). g.does) gs

  module _ (u0 : Around) (span : Span) (z : ℕ) where
    abbrev u : Around
    u = stated u0 span kinds.Switch

    abbrev own : At
    own = at_hand span kinds.Switch

    abbrev Runs : ℕ → List Group → Type 0
    Runs node gs = From c ho node (Arrives c ho (within u z) z) (sequence (does_of gs))

    abbrev Suffixes : ℕ → List Group → Type 0
    Suffixes g [] = Unit {0}
    Suffixes g (x ∷ rest) = Runs g (x ∷ rest) × Suffixes (g + 1) rest

    none_runs : Runs z []
    unfolding sequence
    none_runs s st at = follows_give (parts_of c) c.input (Arrives c ho (within u z) z) st GoesOn s at

    group_runs : (kind : Kind) (x : Group) (p : graph.Group) (rest : List Group) (g next n e k : ℕ) → GroupDoes span kind x p → Sits (parts_of c) (block_row p.body (within u z) g next n e k) n e k → next < n → Runs next rest → Runs g (x ∷ rest)
    unfolding sequence
    group_runs kind x p rest g next n e k h sits less more s st at =
        follows_then (parts_of c) c.input (Arrives c ho (within u z) next) (Arrives c ho (within u z) z) st s.turns s.turns (x.does s) (then_next (sequence (does_of rest)))
        (subst (λ (m : Meaning). Follows (parts_of c) c.input st s.turns s.turns (Arrives c ho (within u z) next) (m s)) (sym h.block) (block_does c ho span h.means p.body h.does (within u z) g next n e k refl sits less s st at))
        (λ way s' to there few. next_does c ho (within u z) next z (sequence (does_of rest)) more way s' to there)

    suffixes : (kind : Kind) (g : ℕ) (gs : List Group) (ps : List graph.Group) (n e k : ℕ) → GroupsDo span kind gs ps → AllSit (parts_of c) (groups_row ps (within u z) g z) n e k → g + length ps ≤ n → z < n → Suffixes g gs
    suffixes kind g [] [] n e k h sits room lz = tt
    suffixes kind g [] (p ∷ ps) n e k h sits room lz = absurd h
    suffixes kind g (x ∷ gs) [] n e k h sits room lz = absurd h
    suffixes kind g (x ∷ []) (p ∷ []) n e k h sits room lz = (group_runs kind x p [] g z _ _ _ h.0 sits.0 lz none_runs, tt)
    suffixes kind g (x ∷ []) (p ∷ q ∷ ps) n e k h sits room lz = absurd h.1
    suffixes kind g (x ∷ y ∷ gs) (p ∷ []) n e k h sits room lz = absurd h.1
    suffixes kind g (x ∷ y ∷ gs) (p ∷ q ∷ ps) n e k h sits room lz =
        let room' : g + suc (suc (length ps)) ≤ n = room in
        let R = suffixes kind (g + 1) (y ∷ gs) (q ∷ ps) _ _ _ h.1 sits.1 (omega (arith, room')) (omega (arith, lz)) in
        (group_runs kind x p (y ∷ gs) g (g + 1) _ _ _ h.0 sits.0 (omega (arith, room')) R.0, R)

    -- from the group of a label, or from others
    chosen : (b : Bool) (g other : ℕ) (x : Group) (rest out : List Group) (found : Option (List Group)) → Runs g (x ∷ rest) → Runs other (groups_or found out) → Runs (if b then g else other) (groups_or (if b then Some (x ∷ rest) else found) out)
    chosen true g other x rest out found h k = h
    chosen false g other x rest out found h k = k

    case_runs : (kind : Kind) (v g : ℕ) (gs : List Group) (ps : List graph.Group) (other : ℕ) (out : List Group) → GroupsDo span kind gs ps → Suffixes g gs → Runs other out → Runs (target_of v (cases_from g ps) other) (groups_or (groups_from (Some v) gs) out)
    case_runs kind v g [] [] other out h S r = r
    case_runs kind v g [] (p ∷ ps) other out h S r = absurd h
    case_runs kind v g (x ∷ gs) [] other out h S r = absurd h
    case_runs kind v g (x ∷ gs) (p ∷ ps) other out h S r =
        let R = chosen (has_label (Some v) x.labels) g (target_of v (cases_from (g + 1) ps) other) x gs out (groups_from (Some v) gs) S.0 (case_runs kind v (g + 1) gs ps other out h.1 S.1 r) in
        let same : (if has_label (Some v) x.labels then g else target_of v (cases_from (g + 1) ps) other) ≡ target_of v (cases_from g (p ∷ ps)) other =
        ap (λ l. if has_label (Some v) l then g else target_of v (cases_from (g + 1) ps) other) (h.0).labels ∙ sym (labels_target v g p.labels (cases_from (g + 1) ps) other) in
        subst (λ node. Runs node (groups_or (groups_from (Some v) (x ∷ gs)) out)) same R

    default_runs : (kind : Kind) (g : ℕ) (gs : List Group) (ps : List graph.Group) → GroupsDo span kind gs ps → Suffixes g gs → Runs (default_from g ps z) (groups_or (groups_from None gs) [])
    default_runs kind g [] [] h S = none_runs
    default_runs kind g [] (p ∷ ps) h S = absurd h
    default_runs kind g (x ∷ gs) [] h S = absurd h
    default_runs kind g (x ∷ gs) (p ∷ ps) h S =
        let R = chosen (has_label None x.labels) g (default_from (g + 1) ps z) x gs [] (groups_from None gs) S.0 (default_runs kind (g + 1) gs ps h.1 S.1) in
        let same : (if has_label None x.labels then g else default_from (g + 1) ps z) ≡ default_from g (p ∷ ps) z =
        ap (λ l. if has_label None l then g else default_from (g + 1) ps z) (h.0).labels ∙ ap (λ b. if b then g else default_from (g + 1) ps z) (sym (default_is p.labels)) ∙ sym (default_pick (has_default p.labels) g (default_from (g + 1) ps z)) in
        subst (λ node. Runs node (groups_or (groups_from None (x ∷ gs)) [])) same R

    -- ---- the labels

    module _ (cell : ℕ) (kind : Kind) (spare : Spare c ho cell) where
      abbrev test : ℕ → Expr
      test w = expr.Binary binary.Equal (temporary cell kind) (expr.Constant w kind) kind

      test_is : (node v w : ℕ) (s : Store) (st : State) → IsValue kind v → IsValue kind w → In c ok ho cell node v s st → value_in st (test w) ≡ Ok (truth_of (v == w))
      test_is node v w s st hv hw h =
          let frame = own_frame c in
          let held = holding ho ((own_frame c).base + cell) v in
          let has = temporary_has c ok cell v kind ho held [] (holds_own ho ((own_frame c).base + cell) v) in
          let loaded : value_of st.cells frame (temporary cell kind) ≡ Ok v = has.value [] s.cells st.cells h.cells ∙ ap Ok (kept_value kind v hv) in
          ap (λ f. value_of st.cells f (test w)) (frame_is c held node s st h)
          ∙ ap (λ q. q.value) (binary_is st.cells frame binary.Equal (temporary cell kind) (expr.Constant w kind) kind)
          ∙ ap (λ r. after_value r (λ a. after_value (value_of st.cells frame (expr.Constant w kind)) (λ b. operator_outcome st.cells frame binary.Equal kind (valued st.cells frame (expr.Constant w kind)).kind a b))) loaded
          ∙ ap (λ q. after_value q.value (λ b. operator_outcome st.cells frame binary.Equal kind q.kind v b)) (constant_value st.cells frame w kind)
          ∙ ap (λ b. Ok (truth_of b)) (sym (machine_equal kind v w (value_parts kind v hv).pattern (value_parts kind w hw).pattern))

      abbrev Targets : List Case → ℕ → ℕ → Store → State → Type 0
      Targets cases other v s st = Related c ho (target_of v cases other) s st

      dropped : (node v : ℕ) (s : Store) (st : State) → In c ok ho cell node v s st → Related c ho node s st
      dropped node v s st h = related_less c (holding ho ((own_frame c).base + cell) v) ho node s st (drops_holding ho ((own_frame c).base + cell) v spare.free) h

      moved_to : (node node' v : ℕ) (s : Store) (st : State) → In c ok ho cell node v s st → In c ok ho cell node' v s (record st { node = node' })
      moved_to node node' v s st h = record { node = refl; frames = h.frames; size = h.size; cells = h.cells; answers = h.answers }

      -- two guards of a label
      label_goes : (b t f at : ℕ) (v w : ℕ) (s : Store) (st : State) → IsValue kind v → IsValue kind w → In c ok ho cell b v s st
          → next (parts_of c) c.input st ≡ unless_trapped (value_in st (test w)) (λ r. if r == 0 then Moved (at + 1) (record st { node = f }) else Moved at (record st { node = t }))
          → next (parts_of c) c.input st ≡ (if v == w then Moved at (record st { node = t }) else Moved (at + 1) (record st { node = f }))
      label_goes b t f at v w s st hv hw h goes = goes ∙ ap (λ r. unless_trapped r (λ r. if r == 0 then Moved (at + 1) (record st { node = f }) else Moved at (record st { node = t }))) (test_is b v w s st hv hw h) ∙ by (v == w)
        where
          by : (q : Bool) → (if truth_of q == 0 then Moved (at + 1) (record st { node = f }) else Moved at (record st { node = t })) ≡ (if q then Moved at (record st { node = t }) else Moved (at + 1) (record st { node = f }))
          by true = refl
          by false = refl

      case_edge : Case → Bool → Bool → ℕ → ℕ → Edge
      case_edge l b outcome a t = record (edge_of u (Guard (test l.value) b) [] [] a t) { span = l.span; decision = true; outcome = outcome }

      case_tells : (l : Case) (b outcome : Bool) (a t : ℕ) → told (record (edge_of u (Guard (test l.value) b) [] [] a t) { span = l.span; decision = true; outcome = outcome }) ≡ happens_at own l.span (Outcome b outcome)
      unfolding told
      case_tells l b outcome a t = refl

      straight_tells : (a t : ℕ) → told (edge_of u Skip [] [] a t) ≡ happens own Straight
      unfolding told
      straight_tells a t = refl

      -- along the labels, and then from the node that they lead to
      cases_do : {B : Type 0} (Reach : B → Store → State → Type 0) (t : Told B) (all : List Case) (other b v n e k : ℕ) → CasesOf kind all → IsValue kind v → Sits (parts_of c) (cases_row u cell kind all other b n e k) n e k → (s : Store) (st : State) → In c ok ho cell b v s st
          → ((to : State) → Related c ho (target_of v all other) s to → Follows (parts_of c) c.input to s.turns s.turns Reach t)
          → Follows (parts_of c) c.input st s.turns s.turns Reach (behind (labels_told own v (map pair all)) t)
      cases_do Reach t [] other b v n e k hs hv sits s st h rest =
          let l : Led c (holding ho ((own_frame c).base + cell) v) other s st (happens own Straight) = skips c (holding ho ((own_frame c).base + cell) v) e _ _ s st sits.edges.0 refl (straight_tells b other) h in
          follows_behind (parts_of c) c.input Reach 1 st l.to (happens own Straight) s.turns s.turns s.turns s.turns t l.path l.tell (omega arith) (omega arith) (rest l.to (dropped other v s l.to l.there))
      cases_do {B} Reach t (l ∷ []) other b v n e k hs hv sits s st h rest =
          let S = all_sit (parts_of c) _ n e k sits in
          by (v == l.value) S.0.edges.0 S.1.0.edges.0 (label_goes b l.target other e v l.value s st hv hs.0 h (next_two (parts_of c) (good c) c.input st (test l.value) e (e + 1) _ _ S.0.edges.0 S.1.0.edges.0 refl refl (sym h.node) (sym h.node))) rest
        where
          by : (q : Bool) → slice_get (parts_of c).edges e ≡ Some (record (edge_of u (Guard (test l.value) true) [] [] b l.target) { span = l.span; decision = true; outcome = true })
              → slice_get (parts_of c).edges (e + 1) ≡ Some (record (edge_of u (Guard (test l.value) false) [] [] b other) { span = l.span; decision = true; outcome = true })
              → next (parts_of c) c.input st ≡ (if q then Moved e (record st { node = l.target }) else Moved (e + 1) (record st { node = other }))
              → ((to : State) → Related c ho (if q then l.target else other) s to → Follows (parts_of c) c.input to s.turns s.turns Reach t)
              → Follows (parts_of c) c.input st s.turns s.turns Reach (behind ((happens_at own l.span (Outcome q (q || true)) ++ (if q then [] else [])) ++ []) t)
          by true when otherwise goes rest =
              let to : State = record st { node = l.target } in
              follows_behind (parts_of c) c.input Reach 1 st to (happens_at own l.span (Outcome true true)) s.turns s.turns s.turns s.turns t (ap state_moved goes) (tells_one (parts_of c) c.input e _ st to goes when ∙ case_tells l true true b l.target) (omega arith) (omega arith)
              (rest to (dropped l.target v s to (moved_to b l.target v s st h)))
          by false when otherwise goes rest =
              let to : State = record st { node = other } in
              follows_behind (parts_of c) c.input Reach 1 st to (happens_at own l.span (Outcome false true)) s.turns s.turns s.turns s.turns t (ap state_moved goes) (tells_one (parts_of c) c.input (e + 1) _ st to goes otherwise ∙ case_tells l false true b other) (omega arith) (omega arith)
              (rest to (dropped other v s to (moved_to b other v s st h)))
      cases_do {B} Reach t (l ∷ l' ∷ more) other b v n e k hs hv sits s st h rest =
          let S = all_sit (parts_of c) _ n e k sits in
          by (v == l.value) S.1.0.edges.0 S.1.1.0.edges.0 (label_goes b l.target n (e + 0) v l.value s st hv hs.0 h (next_two (parts_of c) (good c) c.input st (test l.value) (e + 0) (e + 0 + 1) _ _ S.1.0.edges.0 S.1.1.0.edges.0 refl refl (sym h.node) (sym h.node)))
          (λ s' st' h' rest'. cases_do Reach t (l' ∷ more) other n v _ _ _ hs.1 hv S.1.1.1.0 s' st' h' rest') rest
        where
          by : (q : Bool) → slice_get (parts_of c).edges (e + 0) ≡ Some (record (edge_of u (Guard (test l.value) true) [] [] b l.target) { span = l.span; decision = true; outcome = true })
              → slice_get (parts_of c).edges (e + 0 + 1) ≡ Some (record (edge_of u (Guard (test l.value) false) [] [] b n) { span = l.span; decision = true; outcome = false })
              → next (parts_of c) c.input st ≡ (if q then Moved (e + 0) (record st { node = l.target }) else Moved (e + 0 + 1) (record st { node = n }))
              → ((s' : Store) (st' : State) → In c ok ho cell n v s' st' → ((to : State) → Related c ho (target_of v (l' ∷ more) other) s' to → Follows (parts_of c) c.input to s'.turns s'.turns Reach t) → Follows (parts_of c) c.input st' s'.turns s'.turns Reach (behind (labels_told own v (map pair (l' ∷ more))) t))
              → ((to : State) → Related c ho (if q then l.target else target_of v (l' ∷ more) other) s to → Follows (parts_of c) c.input to s.turns s.turns Reach t)
              → Follows (parts_of c) c.input st s.turns s.turns Reach (behind ((happens_at own l.span (Outcome q (q || false)) ++ (if q then [] else compared own v (map pair (l' ∷ more)))) ++ []) t)
          by true when otherwise goes go rest =
              let to : State = record st { node = l.target } in
              follows_behind (parts_of c) c.input Reach 1 st to (happens_at own l.span (Outcome true true)) s.turns s.turns s.turns s.turns t (ap state_moved goes) (tells_one (parts_of c) c.input (e + 0) _ st to goes when ∙ case_tells l true true b l.target) (omega arith) (omega arith)
              (rest to (dropped l.target v s to (moved_to b l.target v s st h)))
          by false when otherwise goes go rest =
              let to : State = record st { node = n } in
              follows_behind (parts_of c) c.input Reach 1 st to (happens_at own l.span (Outcome false false)) s.turns s.turns s.turns s.turns (behind (labels_told own v (map pair (l' ∷ more))) t) (ap state_moved goes) (tells_one (parts_of c) c.input (e + 0 + 1) _ st to goes otherwise ∙ case_tells l false false b n) (omega arith) (omega arith)
              (go s to (moved_to b n v s st h) rest)

  -- ---- the whole

  -- the values that are given are of their kind
  of_kind : (own : At) (m : Telling) (Reach : ℕ → Store → State → Type 0) (st : State) (low high : ℕ) (s : Store) → ((vs cells : List ℕ) (v : ℕ) → m.rest vs cells ≡ Ok v → IsValue m.kind v)
      → Follows (parts_of c) c.input st low high Reach (evaluate m s thence λ v s'. behind (happens own Valued) (gives v s'))
      → Follows (parts_of c) c.input st low high (λ v s' to. IsValue m.kind v × Reach v s' to) (evaluate m s thence λ v s'. behind (happens own Valued) (gives v s'))
  of_kind own m Reach st low high s values f =
      let same = evaluated_then m.first m.rest s (λ v s'. behind (happens own Valued) (gives v s')) in
      subst (Follows (parts_of c) c.input st low high (λ v s' to. IsValue m.kind v × Reach v s' to)) (sym same) (by (m.first [] s).done (subst (Follows (parts_of c) c.input st low high Reach) same f))
    where
      es : List Event
      es = (m.first [] s).events

      rest : (r : Result ℕ Trap) (s' : Store) → ((v : ℕ) → r ≡ Ok v → IsValue m.kind v) → Follows (parts_of c) c.input st low high Reach (behind es (unless_trap r (λ v. behind (happens own Valued) (gives v s'))))
          → Follows (parts_of c) c.input st low high (λ v s' to. IsValue m.kind v × Reach v s' to) (behind es (unless_trap r (λ v. behind (happens own Valued) (gives v s'))))
      rest (Ok v) s' value g = record { moves = g.moves; to = g.to; path = g.path; tell = g.tell; there = (value v refl, g.there); enough = g.enough; few = g.few }
      rest (Err t) s' value g = g

      by : (d : Done (List ℕ)) → Follows (parts_of c) c.input st low high Reach (behind es (continued d (λ vs s'. unless_trap (m.rest vs s'.cells) (λ v. behind (happens own Valued) (gives v s')))))
          → Follows (parts_of c) c.input st low high (λ v s' to. IsValue m.kind v × Reach v s' to) (behind es (continued d (λ vs s'. unless_trap (m.rest vs s'.cells) (λ v. behind (happens own Valued) (gives v s')))))
      by (Gives vs s') g = rest (m.rest vs s'.cells) s' (values vs s'.cells) g
      by (Ends end) g = g
      by OutOfTurns g = g

  behind_switch : (u : Around) (z : ℕ) (way : Way) (s : Store) (to : State) → Arrives c ho (within u z) z way s to → Follows (parts_of c) c.input to s.turns s.turns (Arrives c ho u z) (after_switch way s)
  behind_switch u z GoesOn s to h = follows_give (parts_of c) c.input (Arrives c ho u z) to GoesOn s h
  behind_switch u z Breaks s to h = follows_give (parts_of c) c.input (Arrives c ho u z) to GoesOn s h
  behind_switch u z Continues s to h = follows_give (parts_of c) c.input (Arrives c ho u z) to Continues s h
  behind_switch u z Returns s to h = follows_give (parts_of c) c.input (Arrives c ho u z) to Returns s h

  relabelled : (u : Around) (cell : ℕ) (kind kind' : Kind) (all : List Case) (other b n e k : ℕ) → kind ≡ kind' → Sits (parts_of c) (cases_row u cell kind all other b n e k) n e k → Sits (parts_of c) (cases_row u cell kind' all other b n e k) n e k
  relabelled u cell kind kind' all other b n e k is sits = subst (λ (q : Kind). Sits (parts_of c) (cases_row u cell q all other b n e k) n e k) is sits

  pub switch_does : (span : Span) (low high cell : ℕ) (m : At → Telling) (x : Value) (gs : List Group) (ps : List graph.Group) → cell < low → Proper c ho → Clear c ho low high → Spare c ho cell → Does c ho low high m x
      → ((vs cells : List ℕ) (v : ℕ) → (m (at_hand span kinds.Switch)).rest vs cells ≡ Ok v → IsValue (m (at_hand span kinds.Switch)).kind v) → GroupsDo span (m (at_hand span kinds.Switch)).kind gs ps
      → Simulates c ho (switch_on (at_hand span kinds.Switch) (evaluate (m (at_hand span kinds.Switch))) gs) (λ u. switch_row x cell ps (stated u span kinds.Switch))
  switch_does span low high cell m_at x gs ps before proper clear spare hx values hs u a z n e k sits less s st at =
      let w = stated u span kinds.Switch in
      let own = at_hand span kinds.Switch in
      let m = m_at own in
      let S = all_sit (parts_of c) _ n e k sits in
      let node = n + length ps in
      let long = length-map ps (λ (g : graph.Group). node_at w w.span) in
      let T = suffixes u span z m.kind n gs ps _ _ _ hs S.1.1.1.1 (omega (arith, long)) (omega (arith, less)) in
      let other = default_from n ps z in
      let lands = of_kind own m (In c ok ho cell node) st s.turns s.turns s values (chosen_lands c ok ho low high cell m_at x w node before proper clear spare hx a _ _ _ S.1.1.0 s st at) in
      let labels = relabelled w cell x.kind m.kind (cases_from n ps) other node _ _ _ (hx.kind own) S.1.1.1.0 in
      subst (Follows (parts_of c) c.input st s.turns s.turns (Arrives c ho u z)) (then_then (λ v s'. behind (labels_told own v (cases gs)) (sequence (does_of (groups_at v gs)) s' thence after_switch)) (evaluate m s) (λ v s'. behind (happens own Valued) (gives v s')))
      (follows_then (parts_of c) c.input (λ v s' to. IsValue m.kind v × In c ok ho cell node v s' to) (Arrives c ho u z) st s.turns s.turns (evaluate m s thence λ v s'. behind (happens own Valued) (gives v s'))
      (λ v s'. behind (labels_told own v (cases gs)) (sequence (does_of (groups_at v gs)) s' thence after_switch)) lands
      (λ v s' to there few.
      subst (λ ls. Follows (parts_of c) c.input to s'.turns s'.turns (Arrives c ho u z) (behind (labels_told own v ls) (sequence (does_of (groups_at v gs)) s' thence after_switch))) (pairs_are span m.kind n gs ps hs)
      (cases_do u span z cell m.kind spare (Arrives c ho u z) (sequence (does_of (groups_at v gs)) s' thence after_switch) (cases_from n ps) other node v _ _ _ (groups_cases span m.kind n gs ps hs) there.0 labels s' to there.1
      (λ too at'.
      follows_then (parts_of c) c.input (Arrives c ho (within w z) z) (Arrives c ho u z) too s'.turns s'.turns (sequence (does_of (groups_at v gs)) s') after_switch
      (case_runs u span z m.kind v n gs ps other (groups_or (groups_from None gs) []) hs T (default_runs u span z m.kind n gs ps hs T) s' too at')
      (λ way s'' too' there' few'. behind_switch u z way s'' too' there')))))
