-- What conditions tell, and the values of `&&`, `||` and `?:` in their temporaries.
use Rattle.std.proofs.Common.{◌≡◌, ℕ, ◌+◌, ◌<◌, ◌≤◌, Bool, true, false, List, [], ◌∷◌, ◌++◌, Option, Some, None, Result, Ok, Err, refl, sym, ap, subst, ◌∙◌, arith, ⊎_elim, inl, inr, rules}
use Rattle.std.specs.Prelude.{◌==◌, ◌||◌, not, IsTrue, if◌then◌else◌, slice_get, slice_set}
use Rattle.std.proofs.lemmas.Bool.{eq-eqb, ne_eqb}
use Rattle.std.proofs.lemmas.List.{length-set}
use Rattle.fq_core.specs.declared.span.Span.{Span}
use Rattle.c_values.specs.Kind.{int}
use Rattle.c_values.specs.declared.kinds.Kind.{Kind}
use Rattle.cfa.specs.declared.expr.CellPlace.{the_lemmas as place_lemmas}
use Rattle.cfa.specs.declared.expr.CellPlace.TheVariants as place
use Rattle.cfa.specs.declared.expr.Expr.{Expr}
use Rattle.cfa.specs.declared.expr.Expr.TheVariants as expr
use Rattle.cfa.specs.declared.parts.Edge.{Edge}
use Rattle.cfa.specs.declared.parts.Operation.TheVariants.{Assign, Guard}
use Rattle.cfa.specs.declared.state.State.{State}
use Rattle.cfa.specs.declared.state.Trap.{Trap}
use Rattle.cfa.specs.States.{value_in}
use Rattle.cfa.specs.Values.{value_of, cell_of}
use Rattle.c_meaning.specs.declared.stepped.Stepped.{Stepped}
use Rattle.c_meaning.specs.declared.stepped.Stepped.TheVariants.{Moved}
use Rattle.c_meaning.specs.Runs.{state_moved}
use Rattle.c_meaning.specs.Steps.{next, unless_trapped, cell_in, moved}
use Rattle.c_lower_rules.specs.declared.graph_of.parts.Around.{Around}
use Rattle.c_lower_rules.specs.declared.graph_of.parts.Operand.{Operand}
use Rattle.c_lower_rules.specs.graph_of.Builder.{Builder, Flow}
use Rattle.c_lower_rules.specs.graph_of.Edges.{guards, put, deciding, decides, edge_of}
use Rattle.c_lower_rules.specs.graph_of.Expressions.{Value, both_cond, either_cond, other_cond, not_cond, truth_pure, choice_pure, part_row, temporary}
use Rattle.tree_events.specs.declared.edge_events.event.Event.{Event}
use Rattle.tree_events.specs.declared.edge_events.event.What.TheVariants.{Did, Outcome, Valued}
use Rattle.tree_events.specs.edge_events.Told.{is_result, told}
use Rattle.tree_meaning.specs.Outcomes.{Store, is_true}
use Rattle.tree_meaning.specs.Expressions.{Rest, truth}
use Rattle.tree_events.specs.Outcomes.{Told, gives, behind, ◌thence◌, unless_trap, Evaluation, Deciding, At, happens, happens_at}
use Rattle.tree_events.specs.Expressions.{First, Telling, evaluated, evaluate, settles, decide_value, decide_not, where_true, decide_both, where_false, decide_either, part_first, part_rest, decided, one_of, choice_does, unsplit}
use Rattle.tree_meaning_laws.specs.expression_laws.Sits.{Sits}
use Rattle.tree_meaning_laws.specs.expression_laws.Contexts.{Context, IsContext, Held, holding, Related, Proper, Spare, Clear, Outside, parts_of, own_frame}
use Rattle.tree_meaning_laws.specs.expression_laws.Flows.{Ended, HasRest}
use Rattle.tree_meaning_laws.proofs.expression_laws.Sits.{all_sit}
use Rattle.tree_meaning_laws.proofs.expression_laws.Going.{next_one, next_two}
use Rattle.tree_meaning_laws.proofs.expression_laws.Cells.{Drops, related_less, drops_both, agree_put, holds_own, holds_other, good, frame_is, spare_after}
use Rattle.tree_meaning_laws.proofs.expression_laws.Values.{constant_value, local_cell, temporary_has}
use Rattle.tree_meaning_laws.proofs.expression_laws.Parts.{In}
use Rattle.tree_events_laws.specs.expression_events.Follows.{Follows}
use Rattle.tree_events_laws.specs.expression_events.Flows.{at_of, Chosen, EndsBelow, Ahead, Decides, Flows, Does}
use Rattle.tree_events_laws.proofs.expression_events.Follows.{then_then, evaluated_then, tells_one, follows_give, follows_then, follows_less}
use Rattle.tree_events_laws.proofs.expression_events.Flows.{value_then}

-- ---- nodes of decisions

pub ahead_more : (u : Around) (n m : ℕ) → n ≤ m → Ahead u n → Ahead u m
ahead_more u n m l h = by u.decision h
  where
    by : (o : Option (ℕ × ℕ)) → EndsBelow o n → EndsBelow o m
    by None h = tt
    by (Some ends) h = (omega (arith, h.0, l), omega (arith, h.1, l))

-- a node that is new is none of the decision around
pub new_not : (u : Around) (n z : ℕ) → n ≤ z → Ahead u n → decides u.decision z ≡ false
new_not u n z l h = by u.decision h
  where
    other : (d : ℕ) → d < n → z ≡ d → ⊥
    other d less e = omega (arith, less, e, l)

    by : (o : Option (ℕ × ℕ)) → EndsBelow o n → decides o z ≡ false
    by None h = refl
    by (Some ends) h = (λ i. ne_eqb z ends.0 (other ends.0 h.0) i || ne_eqb z ends.1 (other ends.1 h.1) i)

local_result : (cell : ℕ) → is_result (place.Local cell) ≡ (cell == 0)
local_result cell = search (rules, place_lemmas)

-- the two nodes of a decision
pub own_first : (n m : ℕ) → decides (Some (n, m)) n ≡ true
own_first n m = let same : (n == n) ≡ true = eq-eqb n n refl in ap (λ b. b || n == m) same

pub own_second : (n m : ℕ) → decides (Some (n, m)) m ≡ true
own_second n m = let same : (m == m) ≡ true = eq-eqb m m refl in ap (λ b. m == n || b) same ∙ by (m == n)
  where
    by : (b : Bool) → (b || true) ≡ true
    by true = refl
    by false = refl

-- ---- what edges tell

guard_tells : (u : Around) (span : Span) (test : Expr) (reads : List (List ℕ)) (b : Bool) (a z : ℕ) → told (record (edge_of u (Guard test b) [] reads a z) { span = span; outcome = decides u.decision z }) ≡ happens_at (at_of u) span (Outcome b (decides u.decision z))
unfolding told
guard_tells u span test reads b a z = refl

put_tells : (u : Around) (cell : ℕ) (value : Expr) (reads : List (List ℕ)) (a z : ℕ) → (cell ≡ 0 → ⊥) → told (edge_of u (Assign (place.Local cell) value) [] reads a z) ≡ happens (at_of u) Valued
unfolding told
put_tells u cell value reads a z other = ap (λ (b : Bool). happens (at_of u) (if b then Did None else Valued)) (local_result cell ∙ ne_eqb cell 0 other)

module _ (c : Context) (ok : IsContext c) where
  -- a temporary is not the result's cell
  pub not_result : (ho : Held) (cell : ℕ) → Spare c ho cell → cell ≡ 0 → ⊥
  not_result ho cell spare e =
      let base_is : (own_frame c).base + cell ≡ (own_frame c).base = omega (arith, e) in
      let kept : IsTrue (c.keeps (own_frame c).base) = ok.kept (own_frame c).base (inr (inl (0, omega (arith, ok.result), omega arith))) in
      let clash : false ≡ true = sym spare.temporary ∙ ap c.keeps base_is ∙ kept in absurd cc

  -- ---- two guards

  -- of two edges, the one that a value picks
  abbrev pick : (yes_at no_at t f : ℕ) → State → ℕ → Stepped
  pick yes_at no_at t f st v = if v == 0 then Moved no_at (record st { node = f }) else Moved yes_at (record st { node = t })

  -- what a guard tells of a truth
  abbrev pub outcome_of : Around → Span → (t f : ℕ) → Bool → List Event
  outcome_of u span t f b = happens_at (at_of u) span (Outcome b (settles (decides u.decision t) (decides u.decision f) b))

  pub guards_do : (held : Held) (u : Around) (span : Span) (o : Operand) (b t f n e k : ℕ) → Sits (parts_of c) (guards u span o.value o.reads b t f n e k) n e k
      → (s : Store) (st : State) → Related c held b s st → (r : Result ℕ Trap) → value_in st o.value ≡ r
      → Follows (parts_of c) c.input st s.turns s.turns (Chosen c held t f) (unless_trap r (λ v. behind (outcome_of u span t f (is_true v)) (gives (is_true v) s)))
  guards_do held u span o b t f n e k sits s st at r given =
      let S = all_sit (parts_of c) _ n e k sits in
      let goes = next_two (parts_of c) (good c) c.input st o.value e (e + 1) _ _ S.0.edges.0 S.1.0.edges.0 refl refl (sym at.node) (sym at.node) in
      picked S.0.edges.0 S.1.0.edges.0 r (goes ∙ ap (λ r. unless_trapped r (pick e (e + 1) t f st)) given)
    where
      edge : Bool → ℕ → Edge
      edge b' z = record (edge_of u (Guard o.value b') [] o.reads b z) { span = span; outcome = decides u.decision z }

      went : (z number : ℕ) (truth : Bool) → slice_get (parts_of c).edges number ≡ Some (edge truth z) → next (parts_of c) c.input st ≡ Moved number (record st { node = z }) → Related c held (if truth then t else f) s (record st { node = z })
          → decides u.decision z ≡ settles (decides u.decision t) (decides u.decision f) truth
          → Follows (parts_of c) c.input st s.turns s.turns (Chosen c held t f) (behind (outcome_of u span t f truth) (gives truth s))
      went z number truth there goes related same = record {
        moves = 1;
        to = record st { node = z };
        path = ap state_moved goes;
        tell = tells_one (parts_of c) c.input number (edge truth z) st (record st { node = z }) goes there ∙ guard_tells u span o.value o.reads truth b z ∙ ap (λ q. happens_at (at_of u) span (Outcome truth q)) same;
        there = related;
        enough = omega arith;
        few = omega arith;
      }

      placed : (z : ℕ) → Related c held z s (record st { node = z })
      placed z = record { node = refl; frames = at.frames; size = at.size; cells = at.cells; answers = at.answers }

      chosen : slice_get (parts_of c).edges e ≡ Some (edge true t) → slice_get (parts_of c).edges (e + 1) ≡ Some (edge false f) → (zero_is : Bool)
          → next (parts_of c) c.input st ≡ (if zero_is then Moved (e + 1) (record st { node = f }) else Moved e (record st { node = t }))
          → Follows (parts_of c) c.input st s.turns s.turns (Chosen c held t f) (behind (outcome_of u span t f (not zero_is)) (gives (not zero_is) s))
      chosen when otherwise true goes = went f (e + 1) false otherwise goes (placed f) refl
      chosen when otherwise false goes = went t e true when goes (placed t) refl

      picked : slice_get (parts_of c).edges e ≡ Some (edge true t) → slice_get (parts_of c).edges (e + 1) ≡ Some (edge false f) → (r : Result ℕ Trap) → next (parts_of c) c.input st ≡ unless_trapped r (pick e (e + 1) t f st)
          → Follows (parts_of c) c.input st s.turns s.turns (Chosen c held t f) (unless_trap r (λ v. behind (outcome_of u span t f (is_true v)) (gives (is_true v) s)))
      picked when otherwise (Err trap) goes = record { moves = 0; to = st; path = refl; tell = refl; stops = goes }
      picked when otherwise (Ok v) goes = chosen when otherwise (v == 0) goes

  chosen_less : (more less : Held) (t f : ℕ) → Drops more less → (b : Bool) (s : Store) (to : State) → Chosen c more t f b s to → Chosen c less t f b s to
  chosen_less more less t f d b s to h = related_less c more less _ s to d h

  -- an expression that no condition splits
  pub other_decides : (ho : Held) (low high : ℕ) (kind : Kind) (parts : At → ℕ) (first : At → First) (rest : At → Rest) (span : Span) (x : Around → Flow Operand) → Proper c ho → Clear c ho low high
      → ((u : Around) → Flows c ho low high (parts (at_of u)) (first (at_of u)) (HasRest c kind (rest (at_of u))) (x u)) → Decides c ho (λ at. decide_value at span (evaluated (first at) (rest at))) (other_cond span x)
  other_decides ho low high kind parts first rest span x proper clear hx u a t f n e k sits ahead s st at =
      let own = at_of u in
      subst (Follows (parts_of c) c.input st s.turns s.turns (Chosen c ho t f)) (sym (evaluated_then (first own) (rest own) s (λ v s'. behind (outcome_of u span t f (is_true v)) (gives (is_true v) s'))))
      (value_then c ho low high (parts own) kind (first own) (rest own) (x u) (λ v n. guards u span v.value v.reads n t f) (Chosen c ho t f) (λ v s'. behind (outcome_of u span t f (is_true v)) (gives (is_true v) s')) proper clear (hx u)
      (λ held d pr out o b n e k sits s st at r given. follows_less (parts_of c) c.input (Chosen c held t f) (Chosen c ho t f) st s.turns s.turns _ (chosen_less held ho t f d)
      (guards_do held u span o b t f n e k sits s st at r given)) a n e k sits s st at)

  pub unsplit_does : (ho : Held) (low high : ℕ) (parts : At → ℕ) (first : At → First) (rest : At → Rest) (span : Span) (kind : Kind) (x : Around → Flow Operand) → Proper c ho → Clear c ho low high
      → ((u : Around) → Flows c ho low high (parts (at_of u)) (first (at_of u)) (HasRest c kind (rest (at_of u))) (x u))
      → Does c ho low high (λ at. unsplit at span kind (parts at) (first at) (rest at)) (record { span = span; kind = kind; pure = x; cond = other_cond span x })
  unsplit_does ho low high parts first rest span kind x proper clear hx = record { kind = λ at. refl; pure = hx; cond = other_decides ho low high kind parts first rest span x proper clear hx }

  -- ---- conditions that are split

  pub both_decides : (ho : Held) (left right : At → Bool → Bool → Deciding) (x y : Value) → Decides c ho left x.cond → Decides c ho right y.cond → Decides c ho (λ at. decide_both (left at) (right at)) (both_cond x y)
  both_decides ho left right x y hx hy u a t f n e k sits ahead s st at =
      let S = all_sit (parts_of c) _ n e k sits in
      let own = at_of u in
      let first : Follows (parts_of c) c.input st s.turns s.turns (Chosen c ho n f) (left own (decides u.decision n) (decides u.decision f) s) = hx u a n f _ _ _ S.1.0 (ahead_more u n _ (omega arith) ahead) s st at in
      follows_then (parts_of c) c.input (Chosen c ho n f) (Chosen c ho t f) st s.turns s.turns (left own false (decides u.decision f) s) (where_true (right own (decides u.decision t) (decides u.decision f)))
      (subst (λ b. Follows (parts_of c) c.input st s.turns s.turns (Chosen c ho n f) (left own b (decides u.decision f) s)) (new_not u n n (omega arith) ahead) first)
      (λ b s' to there few. by (λ s st at. hy u n t f _ _ _ S.1.1.0 (ahead_more u n _ (omega arith) ahead) s st at) b s' to there)
    where
      by : ((s : Store) (st : State) → Related c ho n s st → Follows (parts_of c) c.input st s.turns s.turns (Chosen c ho t f) (right (at_of u) (decides u.decision t) (decides u.decision f) s)) → (b : Bool) (s : Store) (to : State) → Related c ho (if b then n else f) s to
          → Follows (parts_of c) c.input to s.turns s.turns (Chosen c ho t f) (where_true (right (at_of u) (decides u.decision t) (decides u.decision f)) b s)
      by go true s to there = go s to there
      by go false s to there = follows_give (parts_of c) c.input (Chosen c ho t f) to false s there

  pub either_decides : (ho : Held) (left right : At → Bool → Bool → Deciding) (x y : Value) → Decides c ho left x.cond → Decides c ho right y.cond → Decides c ho (λ at. decide_either (left at) (right at)) (either_cond x y)
  either_decides ho left right x y hx hy u a t f n e k sits ahead s st at =
      let S = all_sit (parts_of c) _ n e k sits in
      let own = at_of u in
      let first : Follows (parts_of c) c.input st s.turns s.turns (Chosen c ho t n) (left own (decides u.decision t) (decides u.decision n) s) = hx u a t n _ _ _ S.1.0 (ahead_more u n _ (omega arith) ahead) s st at in
      follows_then (parts_of c) c.input (Chosen c ho t n) (Chosen c ho t f) st s.turns s.turns (left own (decides u.decision t) false s) (where_false (right own (decides u.decision t) (decides u.decision f)))
      (subst (λ b. Follows (parts_of c) c.input st s.turns s.turns (Chosen c ho t n) (left own (decides u.decision t) b s)) (new_not u n n (omega arith) ahead) first)
      (λ b s' to there few. by (λ s st at. hy u n t f _ _ _ S.1.1.0 (ahead_more u n _ (omega arith) ahead) s st at) b s' to there)
    where
      by : ((s : Store) (st : State) → Related c ho n s st → Follows (parts_of c) c.input st s.turns s.turns (Chosen c ho t f) (right (at_of u) (decides u.decision t) (decides u.decision f) s)) → (b : Bool) (s : Store) (to : State) → Related c ho (if b then t else n) s to
          → Follows (parts_of c) c.input to s.turns s.turns (Chosen c ho t f) (where_false (right (at_of u) (decides u.decision t) (decides u.decision f)) b s)
      by go true s to there = follows_give (parts_of c) c.input (Chosen c ho t f) to true s there
      by go false s to there = go s to there

  -- `!`
  pub not_decides : (ho : Held) (left : At → Bool → Bool → Deciding) (x : Value) → Decides c ho left x.cond → Decides c ho (λ at. decide_not (left at)) (not_cond x)
  not_decides ho left x h u a t f n e k sits ahead s st at =
      follows_then (parts_of c) c.input (Chosen c ho f t) (Chosen c ho t f) st s.turns s.turns (left (at_of u) (decides u.decision f) (decides u.decision t) s) (λ b s'. gives (not b) s') (h u a f t n e k sits ahead s st at)
      (λ b s' to there few. follows_give (parts_of c) c.input (Chosen c ho t f) to (not b) s' (turned b s' to there))
    where
      turned : (b : Bool) (s : Store) (to : State) → Chosen c ho f t b s to → Chosen c ho t f (not b) s to
      turned true s to h = h
      turned false s to h = h

  -- ---- temporaries

  -- a value, or its trap, goes into a temporary, and is there then
  pub put_does : (ho : Held) (cell z : ℕ) (u : Around) (value : Expr) (reads : List (List ℕ)) (a at : ℕ) (s : Store) (st : State) (r : Result ℕ Trap) → Spare c ho cell
      → slice_get (parts_of c).edges at ≡ Some (edge_of u (Assign (place.Local cell) value) [] reads a z) → Related c ho a s st → value_in st value ≡ r
      → Follows (parts_of c) c.input st s.turns s.turns (In c ok ho cell z) (unless_trap r (λ v. behind (happens (at_of u) Valued) (gives v s)))
  put_does ho cell z u value reads a at s st r spare there h given = by r goes
    where
      e : Edge
      e = edge_of u (Assign (place.Local cell) value) [] reads a z

      place_is : cell_in st (place.Local cell) ≡ Ok ((own_frame c).base + cell)
      place_is = ap (λ f. cell_of st.cells f (place.Local cell)) (frame_is c ho a s st h) ∙ local_cell st.cells (own_frame c) cell

      goes : next (parts_of c) c.input st ≡ unless_trapped r (λ v. moved at e st (slice_set st.cells ((own_frame c).base + cell) v))
      goes = next_one (parts_of c) (good c) c.input st at e there refl refl (sym h.node)
          ∙ ap (λ r. unless_trapped r (λ cell. unless_trapped (value_in st value) (λ v. moved at e st (slice_set st.cells cell v)))) place_is
          ∙ ap (λ r. unless_trapped r (λ v. moved at e st (slice_set st.cells ((own_frame c).base + cell) v))) given

      by : (r : Result ℕ Trap) → next (parts_of c) c.input st ≡ unless_trapped r (λ v. moved at e st (slice_set st.cells ((own_frame c).base + cell) v))
          → Follows (parts_of c) c.input st s.turns s.turns (In c ok ho cell z) (unless_trap r (λ v. behind (happens (at_of u) Valued) (gives v s)))
      by (Err trap) goes = record { moves = 0; to = st; path = refl; tell = refl; stops = goes }
      by (Ok v) goes =
          let to : State = record st { node = z; cells = slice_set st.cells ((own_frame c).base + cell) v } in
          record {
            moves = 1;
            to = to;
            path = ap state_moved goes;
            tell = tells_one (parts_of c) c.input at e st to goes there ∙ put_tells u cell value reads a z (not_result ho cell spare);
            there = record {
              node = refl;
              frames = h.frames;
              size = length-set st.cells ((own_frame c).base + cell) v ∙ h.size;
              cells = agree_put c.keeps ho s.cells st.cells ((own_frame c).base + cell) v h.cells spare.temporary (omega (arith, spare.within, h.size));
              answers = h.answers;
            };
            enough = omega arith;
            few = omega arith;
          }

  constant_in : (ho : Held) (v node : ℕ) (kind : Kind) (s : Store) (st : State) → Related c ho node s st → value_in st (expr.Constant v kind) ≡ Ok v
  constant_in ho v node kind s st h = ap (λ f. value_of st.cells f (expr.Constant v kind)) (frame_is c ho node s st h) ∙ ap (λ q. q.value) (constant_value st.cells (own_frame c) v kind)

  other_cell : (low high cell i : ℕ) → low ≤ cell → cell < high → Outside c low high i → i ≡ (own_frame c).base + cell → ⊥
  other_cell low high cell i l h o is = ⊎_elim (λ less. omega (arith, less, l, is)) (λ more. omega (arith, more, h, is)) o

  -- a part whose value lands in its temporary
  pub part_flows : (ho : Held) (low high cell : ℕ) (kind : Kind) (does : Evaluation) (x : Flow Operand) → low ≤ cell → cell < high
      → ((a n e k : ℕ) → Sits (parts_of c) (x a n e k).made n e k → (s : Store) (st : State) → Related c ho a s st → Follows (parts_of c) c.input st s.turns s.turns (In c ok ho cell (x a n e k).end) (does s))
      → ((a n e k : ℕ) → (x a n e k).gives ≡ record { value = temporary cell kind; reads = [] })
      → Flows c ho low high 1 (part_first does) (HasRest c kind (part_rest kind)) x
  part_flows ho low high cell kind does x l h lands gives_is vs a n e k sits s st at =
      follows_then (parts_of c) c.input (In c ok ho cell (x a n e k).end) _ st s.turns s.turns (does s) (λ v s'. gives (vs ++ v ∷ []) s') (lands a n e k sits s st at)
      (λ v s' to there few. follows_give (parts_of c) c.input (Ended c ho low high 1 (HasRest c kind (part_rest kind)) vs (x a n e k).end (x a n e k).gives) to (vs ++ v ∷ []) s' (record {
        held = holding ho ((own_frame c).base + cell) v;
        news = v ∷ [];
        are = refl;
        long = refl;
        outside = λ i o. holds_other ho ((own_frame c).base + cell) v i (other_cell low high cell i l h o);
        related = there;
        means = subst (HasRest c kind (part_rest kind) (holding ho ((own_frame c).base + cell) v) (v ∷ [])) (sym (gives_is a n e k))
            (temporary_has c ok cell v kind ho (holding ho ((own_frame c).base + cell) v) [] (holds_own ho ((own_frame c).base + cell) v));
      }))

  -- `&&` and `||` as values
  pub truth_lands : (ho : Held) (cell : ℕ) (kind : Kind) (does : At → Bool → Bool → Deciding) (cond : Around → ℕ → ℕ → ℕ → Builder) (u : Around) → Spare c ho cell → Decides c ho does cond
      → (a n e k : ℕ) → Sits (parts_of c) (truth_pure cond cell kind u a n e k).made n e k → (s : Store) (st : State) → Related c ho a s st
      → Follows (parts_of c) c.input st s.turns s.turns (In c ok ho cell (n + 2)) (decided (at_of u) (does (at_of u) true true) s)
  truth_lands ho cell kind does cond u spare h a n e k sits s st at =
      let S = all_sit (parts_of c) _ n e k sits in
      let v = deciding u n (n + 1) in
      let first : Follows (parts_of c) c.input st s.turns s.turns (Chosen c ho n (n + 1)) (does (at_of u) (decides (Some (n, n + 1)) n) (decides (Some (n, n + 1)) (n + 1)) s) = h v a n (n + 1) _ _ _ S.1.1.1.0 (omega arith, omega arith) s st at in
      let both : does (at_of u) (decides (Some (n, n + 1)) n) (decides (Some (n, n + 1)) (n + 1)) s ≡ does (at_of u) true true s = λ i. does (at_of u) (own_first n (n + 1) i) (own_second n (n + 1) i) s in
      follows_then (parts_of c) c.input (Chosen c ho n (n + 1)) (In c ok ho cell (n + 2)) st s.turns s.turns (does (at_of u) true true s) (λ b s'. behind (happens (at_of u) Valued) (gives (truth b) s'))
      (subst (Follows (parts_of c) c.input st s.turns s.turns (Chosen c ho n (n + 1))) both first)
      (λ b s to there few. by
      (λ s st h. put_does ho cell (n + 2) u (expr.Constant 1 int) [] n _ s st (Ok 1) spare S.1.1.1.1.0.edges.0 h (constant_in ho 1 n int s st h))
      (λ s st h. put_does ho cell (n + 2) u (expr.Constant 0 int) [] (n + 1) _ s st (Ok 0) spare S.1.1.1.1.1.0.edges.0 h (constant_in ho 0 (n + 1) int s st h)) b s to there)
    where
      by : ((s : Store) (st : State) → Related c ho n s st → Follows (parts_of c) c.input st s.turns s.turns (In c ok ho cell (n + 2)) (behind (happens (at_of u) Valued) (gives 1 s)))
          → ((s : Store) (st : State) → Related c ho (n + 1) s st → Follows (parts_of c) c.input st s.turns s.turns (In c ok ho cell (n + 2)) (behind (happens (at_of u) Valued) (gives 0 s)))
          → (b : Bool) (s : Store) (to : State) → Related c ho (if b then n else n + 1) s to → Follows (parts_of c) c.input to s.turns s.turns (In c ok ho cell (n + 2)) (behind (happens (at_of u) Valued) (gives (truth b) s))
      by one none true s to there = one s to there
      by one none false s to there = none s to there

  -- the second and the third part of `?:`
  pub chosen_lands : (ho : Held) (low high cell : ℕ) (m : At → Telling) (x : Value) (u : Around) (z : ℕ) → cell < low → Proper c ho → Clear c ho low high → Spare c ho cell → Does c ho low high m x
      → (a n e k : ℕ) → Sits (parts_of c) (part_row x cell u a z n e k) n e k → (s : Store) (st : State) → Related c ho a s st
      → Follows (parts_of c) c.input st s.turns s.turns (In c ok ho cell z) (evaluate (m (at_of u)) s thence λ v s'. behind (happens (at_of u) Valued) (gives v s'))
  chosen_lands ho low high cell m x u z before proper clear spare hx a n e k sits s st at =
      let own = m (at_of u) in
      subst (Follows (parts_of c) c.input st s.turns s.turns (In c ok ho cell z)) (sym (evaluated_then own.first own.rest s (λ v s'. behind (happens (at_of u) Valued) (gives v s'))))
      (value_then c ho low high own.parts own.kind own.first own.rest (x.pure u) (λ v b. put u cell v.value v.reads b z) (In c ok ho cell z) (λ v s'. behind (happens (at_of u) Valued) (gives v s')) proper clear (hx.pure u)
      (λ held d pr out o b n e k sits s st at r given.
      follows_less (parts_of c) c.input (In c ok held cell z) (In c ok ho cell z) st s.turns s.turns _ (λ v s to h. related_less c (holding held ((own_frame c).base + cell) v) (holding ho ((own_frame c).base + cell) v) z s to (drops_both held ho ((own_frame c).base + cell) v d) h)
      (put_does held cell z u o.value o.reads b e s st r (spare_after c ho held low high proper clear out cell before spare) sits.edges.0 at given)) a n e k sits s st at)

  pub choice_lands : (ho : Held) (cell low mid more high : ℕ) (kind : Kind) (mt mx my : At → Telling) (t x y : Value) (u : Around) → cell < low → low ≤ mid → mid ≤ more → more ≤ high → Proper c ho → Clear c ho low high → Spare c ho cell
      → Does c ho low mid mt t → Does c ho mid more mx x → Does c ho more high my y
      → (a n e k : ℕ) → Sits (parts_of c) (choice_pure t x y cell kind u a n e k).made n e k → (s : Store) (st : State) → Related c ho a s st
      → Follows (parts_of c) c.input st s.turns s.turns (In c ok ho cell (n + 2)) (choice_does (at_of u) ((mt (at_of u)).decide true true) (evaluate (mx (at_of u))) (evaluate (my (at_of u))) s)
  choice_lands ho cell low mid more high kind mt mx my t x y u before l m h proper clear spare ht hx hy a n e k sits s st at =
      let S = all_sit (parts_of c) _ n e k sits in
      let own = at_of u in
      let test = (mt own).decide in
      let first : Follows (parts_of c) c.input st s.turns s.turns (Chosen c ho n (n + 1)) (test (decides (Some (n, n + 1)) n) (decides (Some (n, n + 1)) (n + 1)) s) = ht.cond (deciding u n (n + 1)) a n (n + 1) _ _ _ S.1.1.1.0 (omega arith, omega arith) s st at in
      let both : test (decides (Some (n, n + 1)) n) (decides (Some (n, n + 1)) (n + 1)) s ≡ test true true s = λ i. test (own_first n (n + 1) i) (own_second n (n + 1) i) s in
      subst (Follows (parts_of c) c.input st s.turns s.turns (In c ok ho cell (n + 2))) (sym (then_then (λ v s'. behind (happens own Valued) (gives v s')) (test true true s) (one_of (evaluate (mx own)) (evaluate (my own)))))
      (follows_then (parts_of c) c.input (Chosen c ho n (n + 1)) (In c ok ho cell (n + 2)) st s.turns s.turns (test true true s) _
      (subst (Follows (parts_of c) c.input st s.turns s.turns (Chosen c ho n (n + 1))) both first)
      (λ b s to there few. by
      (λ s st g. chosen_lands ho mid more cell mx x u (n + 2) (omega (arith, before, l)) proper (λ i j q. clear i (omega (arith, j, l)) (omega (arith, q, h))) spare hx n _ _ _ S.1.1.1.1.0 s st g)
      (λ s st g. chosen_lands ho more high cell my y u (n + 2) (omega (arith, before, l, m)) proper (λ i j q. clear i (omega (arith, j, l, m)) q) spare hy (n + 1) _ _ _ S.1.1.1.1.1.0 s st g) b s to there))
    where
      V : ℕ → Store → Told ℕ
      V v s' = behind (happens (at_of u) Valued) (gives v s')

      by : ((s : Store) (st : State) → Related c ho n s st → Follows (parts_of c) c.input st s.turns s.turns (In c ok ho cell (n + 2)) (evaluate (mx (at_of u)) s thence V))
          → ((s : Store) (st : State) → Related c ho (n + 1) s st → Follows (parts_of c) c.input st s.turns s.turns (In c ok ho cell (n + 2)) (evaluate (my (at_of u)) s thence V))
          → (b : Bool) (s : Store) (to : State) → Related c ho (if b then n else n + 1) s to → Follows (parts_of c) c.input to s.turns s.turns (In c ok ho cell (n + 2)) (one_of (evaluate (mx (at_of u))) (evaluate (my (at_of u))) b s thence V)
      by first second true s to there = first s to there
      by first second false s to there = second s to there
