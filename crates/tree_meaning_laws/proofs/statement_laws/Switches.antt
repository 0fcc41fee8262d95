-- The row of `switch` does what it means.
use Rattle.std.proofs.Common.{◌≡◌, ℕ, ◌+◌, ◌<◌, Bool, true, false, List, [], ◌∷◌, ◌++◌, map, length, Option, Some, None, Result, Ok, Err, refl, sym, ap, subst, ◌∙◌, arith}
use Rattle.std.specs.Prelude.{◌==◌, ◌||◌, if◌then◌else◌}
use Rattle.std.specs.List.{AllByRecursion}
use Rattle.fq_core.specs.declared.span.Span.{Span}
use Rattle.c_values.specs.Kind.{IsValue}
use Rattle.c_values.specs.Operations.{truth_of}
use Rattle.c_values.specs.declared.kinds.Kind.{Kind}
use Rattle.c_values.specs.declared.operators.BinaryOp.TheVariants as binary
use Rattle.c_values.proofs.Fitting.{value_parts}
use Rattle.c_values.proofs.Machine.{machine_equal}
use Rattle.cfa.specs.declared.expr.Expr.{Expr}
use Rattle.cfa.specs.declared.expr.Expr.TheVariants as expr
use Rattle.cfa.specs.declared.state.State.{State}
use Rattle.cfa.specs.declared.state.Trap.{Trap}
use Rattle.cfa.specs.States.{value_in}
use Rattle.cfa.specs.Values.{valued, value_of, after_value, operator_outcome}
use Rattle.c_meaning.specs.declared.stepped.Stepped.TheVariants.{Moved}
use Rattle.c_meaning.specs.Runs.{state_moved}
use Rattle.c_meaning.specs.Steps.{next, unless_trapped}
use Rattle.c_lower_rules.specs.declared.graph_of.parts.Around.{Around}
use Rattle.c_lower_rules.specs.graph_of.Edges.{within}
use Rattle.c_lower_rules.specs.graph_of.Expressions.{Value, temporary}
use Rattle.c_lower_rules.specs.graph_of.Statements.{block_row}
use Rattle.c_lower_rules.specs.graph_of.Switch.{Case, cases_in, cases_from, has_default, default_at, default_from, cases_row, groups_row, switch_row}
use Rattle.c_lower_rules.specs.graph_of.Switch as graph
use Rattle.tree_meaning.specs.declared.way.Way.{Way}
use Rattle.tree_meaning.specs.declared.way.Way.TheVariants.{GoesOn, Breaks, Continues, Returns}
use Rattle.tree_meaning.specs.Outcomes.{Store, Done, Gives, Ends, OutOfTurns, ◌andthen◌, unless_trap, Meaning}
use Rattle.tree_meaning.specs.Expressions.{Meant, evaluate}
use Rattle.tree_meaning.specs.Statements.{then_next, block}
use Rattle.tree_meaning.specs.Switch.{Group, has_label, groups_from, groups_or, groups_at, after_switch, switch_on}
use Rattle.tree_meaning_laws.specs.expression_laws.Sits.{Sits}
use Rattle.tree_meaning_laws.specs.expression_laws.Follows.{Follows}
use Rattle.tree_meaning_laws.specs.expression_laws.Contexts.{Context, IsContext, Held, holding, Related, Proper, Spare, Clear, parts_of, own_frame}
use Rattle.tree_meaning_laws.specs.expression_laws.Flows.{Does}
use Rattle.tree_meaning_laws.proofs.expression_laws.Sits.{AllSit, all_sit}
use Rattle.tree_meaning_laws.proofs.expression_laws.Going.{next_two}
use Rattle.tree_meaning_laws.proofs.expression_laws.Follows.{follows_give, follows_behind, follows_then, follows_onto}
use Rattle.tree_meaning_laws.proofs.expression_laws.Cells.{related_less, drops_holding, holds_own, good, frame_is}
use Rattle.tree_meaning_laws.proofs.expression_laws.Values.{constant_value, binary_is, temporary_has}
use Rattle.tree_meaning_laws.proofs.expression_laws.Parts.{In, chosen_lands}
use Rattle.tree_meaning_laws.specs.statement_laws.Simulates.{Arrives, Simulates}
use Rattle.tree_meaning_laws.proofs.statement_laws.Cells.{kept_value}
use Rattle.tree_meaning_laws.proofs.statement_laws.Rows.{AllDo, From, Led, skips, block_does, next_does}

-- ---- the node of a value's group

abbrev target_of : ℕ → List Case → ℕ → ℕ
target_of v [] other = other
target_of v (l ∷ rest) other = if v == l.value then l.target else target_of v rest other

pick_or : (a b : Bool) (g other : ℕ) → (if a then g else (if b then g else other)) ≡ (if a || b then g else other)
pick_or true b g other = refl
pick_or false b g other = refl

labels_target : (v g : ℕ) (labels : List (Span × Option ℕ)) (more : List Case) (other : ℕ) → target_of v (cases_in g labels ++ more) other ≡ (if has_label (Some v) labels then g else target_of v more other)
labels_target v g [] more other = refl
labels_target v g ((span, None) ∷ labels) more other = labels_target v g labels more other
labels_target v g ((span, Some w) ∷ labels) more other =
    ap (λ t. if v == w then g else t) (labels_target v g labels more other) ∙ pick_or (v == w) (has_label (Some v) labels) g (target_of v more other)

default_is : (labels : List (Span × Option ℕ)) → has_default labels ≡ has_label None labels
default_is [] = refl
default_is ((span, None) ∷ labels) = refl
default_is ((span, Some w) ∷ labels) = default_is labels

default_pick : (b : Bool) (g other : ℕ) → default_at b g other ≡ (if b then g else other)
default_pick true g other = refl
default_pick false g other = refl

-- the values of labels are values of a kind
abbrev pub LabelsOf : Kind → List (Span × Option ℕ) → Type 0
LabelsOf kind [] = Unit {0}
LabelsOf kind ((span, None) ∷ rest) = LabelsOf kind rest
LabelsOf kind ((span, Some v) ∷ rest) = IsValue kind v × LabelsOf kind rest

abbrev CasesOf : Kind → List Case → Type 0
CasesOf kind cases = AllByRecursion (λ (l : Case). IsValue kind l.value) cases

labels_cases : (kind : Kind) (g : ℕ) (labels : List (Span × Option ℕ)) (more : List Case) → LabelsOf kind labels → CasesOf kind more → CasesOf kind (cases_in g labels ++ more)
labels_cases kind g [] more h k = k
labels_cases kind g ((span, None) ∷ labels) more h k = labels_cases kind g labels more h k
labels_cases kind g ((span, Some v) ∷ labels) more h k = (h.0, labels_cases kind g labels more h.1 k)

module _ (c : Context) (ok : IsContext c) (ho : Held) where
  -- a group and what is made of it
  pub record GroupDoes (kind : Kind) (g : Group) (p : graph.Group) : Type 0 where
    pub labels : g.labels ≡ p.labels
    pub values : LabelsOf kind p.labels
    pub means : List Meaning
    pub block : g.does ≡ block means
    pub does : AllDo c ho means p.body

  abbrev pub GroupsDo : Kind → List Group → List graph.Group → Type 0
  GroupsDo kind [] [] = Unit {0}
  GroupsDo kind [] (p ∷ ps) = ⊥
  GroupsDo kind (g ∷ gs) [] = ⊥
  GroupsDo kind (g ∷ gs) (p ∷ ps) = GroupDoes kind g p × GroupsDo kind gs ps

  groups_cases : (kind : Kind) (g : ℕ) (gs : List Group) (ps : List graph.Group) → GroupsDo kind gs ps → CasesOf kind (cases_from g ps)
  groups_cases kind g [] [] h = tt
  groups_cases kind g [] (p ∷ ps) h = absurd h
  groups_cases kind g (x ∷ gs) [] h = absurd h
  groups_cases kind g (x ∷ gs) (p ∷ ps) h = labels_cases kind g p.labels (cases_from (g + 1) ps) (h.0).values (groups_cases kind (g + 1) gs ps h.1)

  -- ---- the groups, from each on

  abbrev does_of : List Group → List Meaning
  does_of gs = map (λ (g : Group). g.does) gs

  module _ (u : Around) (z : ℕ) where
    abbrev Runs : ℕ → List Group → Type 0
    Runs node gs = From c ho node (Arrives c ho (within u z) z) (block (does_of gs))

    abbrev Suffixes : ℕ → List Group → Type 0
    Suffixes g [] = Unit {0}
    Suffixes g (x ∷ rest) = Runs g (x ∷ rest) × Suffixes (g + 1) rest

    none_runs : Runs z []
    unfolding block
    none_runs s st at = follows_give (parts_of c) c.input (Arrives c ho (within u z) z) st GoesOn s at

    group_runs : (kind : Kind) (x : Group) (p : graph.Group) (rest : List Group) (g next n e k : ℕ) → GroupDoes kind x p → Sits (parts_of c) (block_row p.body (within u z) g next n e k) n e k → Runs next rest → Runs g (x ∷ rest)
    unfolding block
    group_runs kind x p rest g next n e k h sits more s st at =
        follows_then (parts_of c) c.input (Arrives c ho (within u z) next) (Arrives c ho (within u z) z) st s.turns s.turns (x.does s) (then_next (block (does_of rest)))
        (subst (λ (m : Meaning). Follows (parts_of c) c.input st s.turns s.turns (Arrives c ho (within u z) next) (m s)) (sym h.block) (block_does c ho h.means p.body h.does (within u z) g next n e k sits s st at))
        (λ way s' to there few. next_does c ho (within u z) next z (block (does_of rest)) more way s' to there)

    suffixes : (kind : Kind) (g : ℕ) (gs : List Group) (ps : List graph.Group) (n e k : ℕ) → GroupsDo kind gs ps → AllSit (parts_of c) (groups_row ps (within u z) g z) n e k → Suffixes g gs
    suffixes kind g [] [] n e k h sits = tt
    suffixes kind g [] (p ∷ ps) n e k h sits = absurd h
    suffixes kind g (x ∷ gs) [] n e k h sits = absurd h
    suffixes kind g (x ∷ []) (p ∷ []) n e k h sits = (group_runs kind x p [] g z _ _ _ h.0 sits.0 none_runs, tt)
    suffixes kind g (x ∷ []) (p ∷ q ∷ ps) n e k h sits = absurd h.1
    suffixes kind g (x ∷ y ∷ gs) (p ∷ []) n e k h sits = absurd h.1
    suffixes kind g (x ∷ y ∷ gs) (p ∷ q ∷ ps) n e k h sits =
        let R = suffixes kind (g + 1) (y ∷ gs) (q ∷ ps) _ _ _ h.1 sits.1 in
        (group_runs kind x p (y ∷ gs) g (g + 1) _ _ _ h.0 sits.0 R.0, R)

    -- from the group of a label, or from others
    chosen : (b : Bool) (g other : ℕ) (x : Group) (rest out : List Group) (found : Option (List Group)) → Runs g (x ∷ rest) → Runs other (groups_or found out) → Runs (if b then g else other) (groups_or (if b then Some (x ∷ rest) else found) out)
    chosen true g other x rest out found h k = h
    chosen false g other x rest out found h k = k

    case_runs : (kind : Kind) (v g : ℕ) (gs : List Group) (ps : List graph.Group) (other : ℕ) (out : List Group) → GroupsDo kind gs ps → Suffixes g gs → Runs other out → Runs (target_of v (cases_from g ps) other) (groups_or (groups_from (Some v) gs) out)
    case_runs kind v g [] [] other out h S r = r
    case_runs kind v g [] (p ∷ ps) other out h S r = absurd h
    case_runs kind v g (x ∷ gs) [] other out h S r = absurd h
    case_runs kind v g (x ∷ gs) (p ∷ ps) other out h S r =
        let R = chosen (has_label (Some v) x.labels) g (target_of v (cases_from (g + 1) ps) other) x gs out (groups_from (Some v) gs) S.0 (case_runs kind v (g + 1) gs ps other out h.1 S.1 r) in
        let same : (if has_label (Some v) x.labels then g else target_of v (cases_from (g + 1) ps) other) ≡ target_of v (cases_from g (p ∷ ps)) other =
        ap (λ l. if has_label (Some v) l then g else target_of v (cases_from (g + 1) ps) other) (h.0).labels ∙ sym (labels_target v g p.labels (cases_from (g + 1) ps) other) in
        subst (λ node. Runs node (groups_or (groups_from (Some v) (x ∷ gs)) out)) same R

    default_runs : (kind : Kind) (g : ℕ) (gs : List Group) (ps : List graph.Group) → GroupsDo kind gs ps → Suffixes g gs → Runs (default_from g ps z) (groups_or (groups_from None gs) [])
    default_runs kind g [] [] h S = none_runs
    default_runs kind g [] (p ∷ ps) h S = absurd h
    default_runs kind g (x ∷ gs) [] h S = absurd h
    default_runs kind g (x ∷ gs) (p ∷ ps) h S =
        let R = chosen (has_label None x.labels) g (default_from (g + 1) ps z) x gs [] (groups_from None gs) S.0 (default_runs kind (g + 1) gs ps h.1 S.1) in
        let same : (if has_label None x.labels then g else default_from (g + 1) ps z) ≡ default_from g (p ∷ ps) z =
        ap (λ l. if has_label None l then g else default_from (g + 1) ps z) (h.0).labels ∙ ap (λ b. if b then g else default_from (g + 1) ps z) (sym (default_is p.labels)) ∙ sym (default_pick (has_default p.labels) g (default_from (g + 1) ps z)) in
        subst (λ node. Runs node (groups_or (groups_from None (x ∷ gs)) [])) same R

    -- ---- the labels

    module _ (cell : ℕ) (kind : Kind) (spare : Spare c ho cell) where
      abbrev test : ℕ → Expr
      test w = expr.Binary binary.Equal (temporary cell kind) (expr.Constant w kind) kind

      test_is : (node v w : ℕ) (s : Store) (st : State) → IsValue kind v → IsValue kind w → In c ok ho cell node v s st → value_in st (test w) ≡ Ok (truth_of (v == w))
      test_is node v w s st hv hw h =
          let frame = own_frame c in
          let held = holding ho ((own_frame c).base + cell) v in
          let has = temporary_has c ok cell v kind ho held [] (holds_own ho ((own_frame c).base + cell) v) in
          let loaded : value_of st.cells frame (temporary cell kind) ≡ Ok v = has.value [] s.cells st.cells h.cells ∙ ap Ok (kept_value kind v hv) in
          ap (λ f. value_of st.cells f (test w)) (frame_is c held node s st h)
          ∙ ap (λ q. q.value) (binary_is st.cells frame binary.Equal (temporary cell kind) (expr.Constant w kind) kind)
          ∙ ap (λ r. after_value r (λ a. after_value (value_of st.cells frame (expr.Constant w kind)) (λ b. operator_outcome st.cells frame binary.Equal kind (valued st.cells frame (expr.Constant w kind)).kind a b))) loaded
          ∙ ap (λ q. after_value q.value (λ b. operator_outcome st.cells frame binary.Equal kind q.kind v b)) (constant_value st.cells frame w kind)
          ∙ ap (λ b. Ok (truth_of b)) (sym (machine_equal kind v w (value_parts kind v hv).pattern (value_parts kind w hw).pattern))

      abbrev Targets : List Case → ℕ → ℕ → Store → State → Type 0
      Targets cases other v s st = Related c ho (target_of v cases other) s st

      dropped : (node v : ℕ) (s : Store) (st : State) → In c ok ho cell node v s st → Related c ho node s st
      dropped node v s st h = related_less c (holding ho ((own_frame c).base + cell) v) ho node s st (drops_holding ho ((own_frame c).base + cell) v spare.free) h

      moved_to : (node node' v : ℕ) (s : Store) (st : State) → In c ok ho cell node v s st → In c ok ho cell node' v s (record st { node = node' })
      moved_to node node' v s st h = record { node = refl; frames = h.frames; size = h.size; cells = h.cells; answers = h.answers }

      -- two guards of a label
      label_goes : (b t f at : ℕ) (v w : ℕ) (s : Store) (st : State) → IsValue kind v → IsValue kind w → In c ok ho cell b v s st
          → next (parts_of c) c.input st ≡ unless_trapped (value_in st (test w)) (λ r. if r == 0 then Moved (at + 1) (record st { node = f }) else Moved at (record st { node = t }))
          → next (parts_of c) c.input st ≡ (if v == w then Moved at (record st { node = t }) else Moved (at + 1) (record st { node = f }))
      label_goes b t f at v w s st hv hw h goes = goes ∙ ap (λ r. unless_trapped r (λ r. if r == 0 then Moved (at + 1) (record st { node = f }) else Moved at (record st { node = t }))) (test_is b v w s st hv hw h) ∙ by (v == w)
        where
          by : (q : Bool) → (if truth_of q == 0 then Moved (at + 1) (record st { node = f }) else Moved at (record st { node = t })) ≡ (if q then Moved at (record st { node = t }) else Moved (at + 1) (record st { node = f }))
          by true = refl
          by false = refl

      cases_do : (cases : List Case) (other b v n e k : ℕ) → CasesOf kind cases → IsValue kind v → Sits (parts_of c) (cases_row u cell kind cases other b n e k) n e k → (s : Store) (st : State) → In c ok ho cell b v s st
          → Follows (parts_of c) c.input st s.turns s.turns (Targets cases other) (Gives v s)
      cases_do [] other b v n e k hs hv sits s st h =
          let l : Led c (holding ho ((own_frame c).base + cell) v) other s st = skips c (holding ho ((own_frame c).base + cell) v) e _ s st sits.edges.0 refl h in
          record { moves = 1; to = l.to; path = l.path; there = dropped other v s l.to l.there; enough = omega arith; few = omega arith }
      cases_do (l ∷ []) other b v n e k hs hv sits s st h =
          let S = all_sit (parts_of c) _ n e k sits in
          by (v == l.value) (label_goes b l.target other e v l.value s st hv hs.0 h (next_two (parts_of c) (good c) c.input st (test l.value) e (e + 1) _ _ S.0.edges.0 S.1.0.edges.0 refl refl (sym h.node) (sym h.node)))
        where
          by : (q : Bool) → next (parts_of c) c.input st ≡ (if q then Moved e (record st { node = l.target }) else Moved (e + 1) (record st { node = other })) → Follows (parts_of c) c.input st s.turns s.turns (λ v s st. Related c ho (if q then l.target else other) s st) (Gives v s)
          by true goes = record { moves = 1; to = record st { node = l.target }; path = ap state_moved goes; there = dropped l.target v s _ (moved_to b l.target v s st h); enough = omega arith; few = omega arith }
          by false goes = record { moves = 1; to = record st { node = other }; path = ap state_moved goes; there = dropped other v s _ (moved_to b other v s st h); enough = omega arith; few = omega arith }
      cases_do (l ∷ l' ∷ rest) other b v n e k hs hv sits s st h =
          let S = all_sit (parts_of c) _ n e k sits in
          by (v == l.value) (label_goes b l.target n (e + 0) v l.value s st hv hs.0 h (next_two (parts_of c) (good c) c.input st (test l.value) (e + 0) (e + 0 + 1) _ _ S.1.0.edges.0 S.1.1.0.edges.0 refl refl (sym h.node) (sym h.node)))
          (λ s st h. cases_do (l' ∷ rest) other n v _ _ _ hs.1 hv S.1.1.1.0 s st h)
        where
          by : (q : Bool) → next (parts_of c) c.input st ≡ (if q then Moved (e + 0) (record st { node = l.target }) else Moved (e + 0 + 1) (record st { node = n }))
              → ((s : Store) (st : State) → In c ok ho cell n v s st → Follows (parts_of c) c.input st s.turns s.turns (Targets (l' ∷ rest) other) (Gives v s))
              → Follows (parts_of c) c.input st s.turns s.turns (λ v s st. Related c ho (if q then l.target else target_of v (l' ∷ rest) other) s st) (Gives v s)
          by true goes more = record { moves = 1; to = record st { node = l.target }; path = ap state_moved goes; there = dropped l.target v s _ (moved_to b l.target v s st h); enough = omega arith; few = omega arith }
          by false goes more = follows_behind (parts_of c) c.input (Targets (l' ∷ rest) other) 1 st (record st { node = n }) s.turns s.turns s.turns s.turns (Gives v s) (ap state_moved goes) (omega arith) (omega arith) (more s (record st { node = n }) (moved_to b n v s st h))

  -- ---- the whole

  -- the values that are given are of their kind
  of_kind : (m : Meant) (Reach : ℕ → Store → State → Type 0) (st : State) (low high : ℕ) (s : Store) → ((vs cells : List ℕ) (v : ℕ) → m.rest vs cells ≡ Ok v → IsValue m.kind v)
      → Follows (parts_of c) c.input st low high Reach (evaluate m s) → Follows (parts_of c) c.input st low high (λ v s' to. IsValue m.kind v × Reach v s' to) (evaluate m s)
  of_kind m Reach st low high s values f = by (m.first [] s) f
    where
      rest : (r : Result ℕ Trap) (s' : Store) → ((v : ℕ) → r ≡ Ok v → IsValue m.kind v) → Follows (parts_of c) c.input st low high Reach (unless_trap r (λ v. Gives v s')) → Follows (parts_of c) c.input st low high (λ v s' to. IsValue m.kind v × Reach v s' to) (unless_trap r (λ v. Gives v s'))
      rest (Ok v) s' value g = record { moves = g.moves; to = g.to; path = g.path; there = (value v refl, g.there); enough = g.enough; few = g.few }
      rest (Err t) s' value g = g

      by : (d : Done (List ℕ)) → Follows (parts_of c) c.input st low high Reach (d andthen λ vs s'. unless_trap (m.rest vs s'.cells) (λ v. Gives v s'))
          → Follows (parts_of c) c.input st low high (λ v s' to. IsValue m.kind v × Reach v s' to) (d andthen λ vs s'. unless_trap (m.rest vs s'.cells) (λ v. Gives v s'))
      by (Gives vs s') g = rest (m.rest vs s'.cells) s' (values vs s'.cells) g
      by (Ends end) g = g
      by OutOfTurns g = g

  behind_switch : (u : Around) (z : ℕ) (way : Way) (s : Store) (to : State) → Arrives c ho (within u z) z way s to → Follows (parts_of c) c.input to s.turns s.turns (Arrives c ho u z) (after_switch way s)
  behind_switch u z GoesOn s to h = follows_give (parts_of c) c.input (Arrives c ho u z) to GoesOn s h
  behind_switch u z Breaks s to h = follows_give (parts_of c) c.input (Arrives c ho u z) to GoesOn s h
  behind_switch u z Continues s to h = follows_give (parts_of c) c.input (Arrives c ho u z) to Continues s h
  behind_switch u z Returns s to h = follows_give (parts_of c) c.input (Arrives c ho u z) to Returns s h

  labelled : (u : Around) (cell : ℕ) (kind kind' : Kind) (cases : List Case) (other b n e k : ℕ) → kind ≡ kind' → Sits (parts_of c) (cases_row u cell kind cases other b n e k) n e k → Sits (parts_of c) (cases_row u cell kind' cases other b n e k) n e k
  labelled u cell kind kind' cases other b n e k is sits = subst (λ (q : Kind). Sits (parts_of c) (cases_row u cell q cases other b n e k) n e k) is sits

  pub switch_does : (low high cell : ℕ) (m : Meant) (x : Value) (gs : List Group) (ps : List graph.Group) → cell < low → Proper c ho → Clear c ho low high → Spare c ho cell → Does c ho low high m x
      → ((vs cells : List ℕ) (v : ℕ) → m.rest vs cells ≡ Ok v → IsValue m.kind v) → GroupsDo m.kind gs ps → Simulates c ho (switch_on (evaluate m) gs) (switch_row x cell ps)
  switch_does low high cell m x gs ps before proper clear spare hx values hs u a z n e k sits s st at =
      let S = all_sit (parts_of c) _ n e k sits in
      let node = n + length ps in
      let T = suffixes u z m.kind n gs ps _ _ _ hs S.1.1.1.1 in
      let other = default_from n ps z in
      let lands = of_kind m (In c ok ho cell node) st s.turns s.turns s values (chosen_lands c ok ho low high cell m x u node before proper clear spare hx a _ _ _ S.1.1.0 s st at) in
      let labels = labelled u cell x.kind m.kind (cases_from n ps) other node _ _ _ hx.kind S.1.1.1.0 in
      follows_then (parts_of c) c.input (Targets u z cell m.kind spare (cases_from n ps) other) (Arrives c ho u z) st s.turns s.turns (evaluate m s) (λ v s'. block (does_of (groups_at v gs)) s' andthen after_switch)
      (follows_onto (parts_of c) c.input (λ v s' to. IsValue m.kind v × In c ok ho cell node v s' to) (Targets u z cell m.kind spare (cases_from n ps) other) st s.turns s.turns (evaluate m s) lands
      (λ v s' to there few. cases_do u z cell m.kind spare (cases_from n ps) other node v _ _ _ (groups_cases m.kind n gs ps hs) there.0 labels s' to there.1))
      (λ v s' to there few.
      follows_then (parts_of c) c.input (Arrives c ho (within u z) z) (Arrives c ho u z) to s'.turns s'.turns (block (does_of (groups_at v gs)) s') after_switch
      (case_runs u z m.kind v n gs ps other (groups_or (groups_from None gs) []) hs T (default_runs u z m.kind n gs ps hs T) s' to there)
      (λ way s'' too there' few'. behind_switch u z way s'' too there'))
