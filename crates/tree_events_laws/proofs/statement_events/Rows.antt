-- The rows of blocks, `if`, loops, jumps and labels tell what happens in them.
use Rattle.std.proofs.Common.{◌≡◌, ℕ, zero, suc, ◌+◌, ◌-◌, ◌<◌, ◌≤◌, Bool, true, false, List, [], ◌∷◌, map, Option, Some, None, refl, sym, ap, subst, ◌∙◌, arith}
use Rattle.std.specs.Prelude.{slice_get, if◌then◌else◌}
use Rattle.fq_core.specs.declared.span.Span.{Span}
use Rattle.fq_core.specs.declared.statement_kind.StatementKind.TheVariants as kinds
use Rattle.cfa.specs.declared.parts.Edge.{Edge}
use Rattle.cfa.specs.declared.parts.Operation.TheVariants.{Skip}
use Rattle.cfa.specs.declared.state.State.{State}
use Rattle.cfa.specs.Graph.{is_return, is_guard}
use Rattle.c_meaning.specs.Steps.{next, operated}
use Rattle.c_meaning.specs.declared.stepped.Stepped.TheVariants.{Moved}
use Rattle.c_lower_rules.specs.declared.graph_of.parts.Around.{Around}
use Rattle.c_lower_rules.specs.graph_of.Edges.{Lowering, stated, inside, deciding, seeing, decides, skip, edge_of}
use Rattle.c_lower_rules.specs.graph_of.Expressions.{Value}
use Rattle.c_lower_rules.specs.graph_of.Statements.{Piece, sequence as row_of, block_row, arm_row, arms_row, while_row, do_row, for_test, for_step, for_loop, for_row, declared_by, break_row, continue_row, return_row, label_row}
use Rattle.tree_events.specs.declared.edge_events.event.Event.{Event}
use Rattle.tree_events.specs.declared.edge_events.event.What.TheVariants.{Did, Enters, Again as GoesBack, Always}
use Rattle.tree_events.specs.edge_events.Told.{told}
use Rattle.tree_meaning.specs.declared.way.Way.{Way}
use Rattle.tree_meaning.specs.declared.way.Way.TheVariants.{GoesOn, Breaks, Continues, Returns}
use Rattle.tree_meaning.specs.Outcomes.{Store, Done, Gives, Ends, OutOfTurns}
use Rattle.tree_events.specs.Outcomes.{Told, gives, behind, ◌thence◌, Meaning, Deciding, skip as no_meaning, turn_of, At, at_hand, happens, did}
use Rattle.tree_events.specs.Statements.{then_next, sequence, block, leaving, labelled, one_of, arms}
use Rattle.tree_events.specs.Loops.{after_body, pass, again_at, passes, entering, while_loop, again_if, do_passes, do_loop, test_or, step_or}
use Rattle.tree_events.specs.Loops as loops
use Rattle.tree_meaning_laws.specs.expression_laws.Sits.{Sits}
use Rattle.tree_meaning_laws.specs.expression_laws.Follows.{Moves}
use Rattle.tree_meaning_laws.specs.expression_laws.Contexts.{Context, Held, Related, parts_of}
use Rattle.tree_meaning_laws.proofs.expression_laws.Sits.{all_sit}
use Rattle.tree_meaning_laws.proofs.expression_laws.Going.{next_one}
use Rattle.tree_meaning_laws.proofs.expression_laws.Cells.{good}
use Rattle.tree_meaning_laws.proofs.expression_laws.Follows.{move_one}
use Rattle.tree_meaning_laws.specs.statement_laws.Simulates.{Arrives}
use Rattle.tree_events_laws.specs.expression_events.Follows.{Follows, FollowsBy, tells}
use Rattle.tree_events_laws.specs.expression_events.Flows.{at_of, Chosen, Decides}
use Rattle.tree_events_laws.proofs.expression_events.Follows.{tells_one, follows_give, follows_behind, follows_then, follows_spare}
use Rattle.tree_events_laws.proofs.expression_events.Parts.{own_first, own_second}
use Rattle.tree_events_laws.specs.statement_events.Simulates.{Simulates}

-- these do what those mean, in order
abbrev pub AllDo : Context → Held → List Meaning → List Piece → Type 0
AllDo c ho [] [] = Unit {0}
AllDo c ho [] (p ∷ ps) = ⊥
AllDo c ho (m ∷ ms) [] = ⊥
AllDo c ho (m ∷ ms) (p ∷ ps) = Simulates c ho m p.make × AllDo c ho ms ps

-- a meaning that goes on, if it doesn't end the run
abbrev pub GoesOnlyBy : Done Way → Type 0
GoesOnlyBy (Gives way s) = way ≡ GoesOn
GoesOnlyBy (Ends end) = Unit {0}
GoesOnlyBy OutOfTurns = Unit {0}

abbrev pub GoesOnly : Told Way → Type 0
GoesOnly t = GoesOnlyBy t.done

module _ (c : Context) (ho : Held) where
  -- what is done from each state at a node
  abbrev pub From : {A : Type 0} → ℕ → (A → Store → State → Type 0) → (Store → Told A) → Type 0
  From a Reach does = (s : Store) (st : State) → Related c ho a s st → Follows (parts_of c) c.input st s.turns s.turns Reach (does s)

  -- ---- one edge that does nothing

  -- it leads to its target, and tells this
  pub record Led (z : ℕ) (s : Store) (st : State) (es : List Event) : Type 0 where
    pub to : State
    pub path : Moves (parts_of c) c.input 1 st to
    pub tell : tells (parts_of c) c.input 1 st ≡ es
    pub there : Related c ho z s to

  pub skips : (at : ℕ) (e : Edge) (es : List Event) (s : Store) (st : State) → slice_get (parts_of c).edges at ≡ Some e → e.operation ≡ Skip → told e ≡ es → Related c ho e.source s st → Led e.target s st es
  skips at e es s st there skip' tell h =
      let to : State = record st { node = e.target } in
      let goes : next (parts_of c) c.input st ≡ Moved at to = next_one (parts_of c) (good c) c.input st at e there (ap is_return skip') (ap is_guard skip') (sym h.node) ∙ ap (operated (parts_of c) c.input st at e) skip' in
      record {
        to = to;
        path = move_one (parts_of c) c.input at st to goes;
        tell = tells_one (parts_of c) c.input at e st to goes there ∙ tell;
        there = record { node = refl; frames = h.frames; size = h.size; cells = h.cells; answers = h.answers };
      }

  -- what is done behind such an edge
  pub led_behind : {A : Type 0} (Reach : A → Store → State → Type 0) (t : Told A) (z : ℕ) (s : Store) (st : State) (es : List Event) → (l : Led z s st es) → Follows (parts_of c) c.input l.to s.turns s.turns Reach t → Follows (parts_of c) c.input st s.turns s.turns Reach (behind es t)
  led_behind Reach t z s st es l f = follows_behind (parts_of c) c.input Reach 1 st l.to es s.turns s.turns s.turns s.turns t l.path l.tell (omega arith) (omega arith) f

  -- a statement of one such edge
  pub led_does : {A : Type 0} (Reach : A → Store → State → Type 0) (x : A) (z : ℕ) (s : Store) (st : State) (es : List Event) → Led z s st es → ((to : State) → Related c ho z s to → Reach x s to) → Follows (parts_of c) c.input st s.turns s.turns Reach (behind es (gives x s))
  led_does Reach x z s st es l reach = led_behind Reach (gives x s) z s st es l (follows_give (parts_of c) c.input Reach l.to x s (reach l.to l.there))

  empty_tells : (u : Around) (span : Span) (a z : ℕ) → told (edge_of (stated u span kinds.Empty) Skip [] [] a z) ≡ did (at_hand span kinds.Empty)
  unfolding told
  empty_tells u span a z = refl

  jump_tells : (u : Around) (span : Span) (a z : ℕ) → told (edge_of (stated u span kinds.Jump) Skip [] [] a z) ≡ did (at_hand span kinds.Jump)
  unfolding told
  jump_tells u span a z = refl

  return_tells : (u : Around) (span : Span) (a z : ℕ) → told (edge_of (stated u span kinds.Return) Skip [] [] a z) ≡ did (at_hand span kinds.Return)
  unfolding told
  return_tells u span a z = refl

  label_tells : (u : Around) (name : List ℕ) (a z : ℕ) → told (record (edge_of u Skip [] [] a z) { label = Some name }) ≡ happens (at_of u) (Did (Some name))
  unfolding told
  label_tells u name a z = refl

  enter_tells : (u : Around) (a z : ℕ) → told (record (edge_of u Skip [] [] a z) { enter = true }) ≡ happens (at_of u) Enters
  unfolding told
  enter_tells u a z = refl

  back_tells : (u : Around) (a z : ℕ) → told (record (edge_of u Skip [] [] a z) { back = true }) ≡ happens (at_of u) GoesBack
  unfolding told
  back_tells u a z = refl

  always_tells : (u : Around) (span : Span) (on_break on_continue a z : ℕ) → told (edge_of (inside (stated u span kinds.For) on_break on_continue) Skip [] [] a z) ≡ happens (at_hand span kinds.For) Always
  unfolding told
  always_tells u span on_break on_continue a z = refl

  -- a row of a statement with its first token
  abbrev pub skip_row : Span → Lowering
  skip_row span u = skip (stated u span kinds.Empty)

  pub skip_does : (span : Span) → Simulates c ho (leaving (at_hand span kinds.Empty) GoesOn) (skip_row span)
  skip_does span u a z n e k sits less s st h = led_does (Arrives c ho u z) GoesOn z s st _ (skips e _ _ s st sits.edges.0 refl (empty_tells u span a z) h) (λ to there. there)

  pub break_does : (span : Span) → Simulates c ho (leaving (at_hand span kinds.Jump) Breaks) (λ u. break_row (stated u span kinds.Jump))
  break_does span u a z n e k sits less s st h = led_does (Arrives c ho u z) Breaks u.on_break s st _ (skips e _ _ s st sits.edges.0 refl (jump_tells u span a u.on_break) h) (λ to there. there)

  pub continue_does : (span : Span) → Simulates c ho (leaving (at_hand span kinds.Jump) Continues) (λ u. continue_row (stated u span kinds.Jump))
  continue_does span u a z n e k sits less s st h = led_does (Arrives c ho u z) Continues u.on_continue s st _ (skips e _ _ s st sits.edges.0 refl (jump_tells u span a u.on_continue) h) (λ to there. there)

  pub return_does : (span : Span) → Simulates c ho (leaving (at_hand span kinds.Return) Returns) (λ u. return_row None (stated u span kinds.Return))
  return_does span u a z n e k sits less s st h = led_does (Arrives c ho u z) Returns u.exit s st _ (skips e _ _ s st sits.edges.0 refl (return_tells u span a u.exit) h) (λ to there. there)

  pub label_does : (span : Span) (name : List ℕ) (m : Meaning) (p : Piece) → Simulates c ho m p.make → Simulates c ho (labelled (at_hand span kinds.Label) name m) (λ u. label_row name p (stated u span kinds.Label))
  label_does span name m p h u a z n e k sits less s st at =
      let S = all_sit (parts_of c) _ n e k sits in
      let v = stated u span kinds.Label in
      let into = skips _ _ _ s st S.1.0.edges.0 refl (label_tells v name a n) at in
      led_behind (Arrives c ho u z) (m s) n s st _ into (h v n z _ _ _ S.1.1.0 (omega (arith, less)) s into.to into.there)

  -- ---- blocks

  -- behind a statement to m, what is next to z
  pub next_does : (u : Around) (m z : ℕ) (k : Meaning) → From m (Arrives c ho u z) k
      → (way : Way) (s : Store) (to : State) → Arrives c ho u m way s to → Follows (parts_of c) c.input to s.turns s.turns (Arrives c ho u z) (then_next k way s)
  next_does u m z k rest GoesOn s to h = rest s to h
  next_does u m z k rest Breaks s to h = follows_give (parts_of c) c.input (Arrives c ho u z) to Breaks s h
  next_does u m z k rest Continues s to h = follows_give (parts_of c) c.input (Arrives c ho u z) to Continues s h
  next_does u m z k rest Returns s to h = follows_give (parts_of c) c.input (Arrives c ho u z) to Returns s h

  pub sequence_does : (m : Meaning) (ms : List Meaning) (p : Piece) (ps : List Piece) → Simulates c ho m p.make → AllDo c ho ms ps → Simulates c ho (sequence (m ∷ ms)) (row_of (p ∷ ps))
  unfolding sequence
  sequence_does m [] p [] h hs u a z n e k sits less s st at =
      follows_then (parts_of c) c.input (Arrives c ho u z) (Arrives c ho u z) st s.turns s.turns (m s) (then_next (sequence [])) (h u a z n e k sits less s st at)
      (λ way s' to there few. next_does u z z (sequence []) (λ s st h. follows_give (parts_of c) c.input (Arrives c ho u z) st GoesOn s h) way s' to there)
  sequence_does m [] p (q ∷ ps) h hs u a z n e k sits less s st at = absurd hs
  sequence_does m (m' ∷ ms) p [] h hs u a z n e k sits less s st at = absurd hs
  sequence_does m (m' ∷ ms) p (q ∷ ps) h hs u a z n e k sits less s st at =
      let S = all_sit (parts_of c) _ n e k sits in
      follows_then (parts_of c) c.input (Arrives c ho u n) (Arrives c ho u z) st s.turns s.turns (m s) (then_next (sequence (m' ∷ ms))) (h u a n _ _ _ S.1.1.0 (omega arith) s st at)
      (λ way s' to there few. next_does u n z (sequence (m' ∷ ms)) (λ s st h. sequence_does m' ms q ps hs.0 hs.1 (seeing u p.declares k) n z _ _ _ S.1.1.1.0 (omega (arith, less)) s st h) way s' to there)

  pub block_does : (place : Span) (ms : List Meaning) (ps : List Piece) → AllDo c ho ms ps → (u : Around) (a z n e k : ℕ) → u.span ≡ place → Sits (parts_of c) (block_row ps u a z n e k) n e k → z < n
      → From a (Arrives c ho u z) (block place ms)
  block_does place [] [] hs u a z n e k same sits less s st at =
      subst (λ (q : Span). Follows (parts_of c) c.input st s.turns s.turns (Arrives c ho u z) (leaving (at_hand q kinds.Empty) GoesOn s)) same (skip_does u.span u a z n e k sits less s st at)
  block_does place [] (p ∷ ps) hs u a z n e k same sits less s st at = absurd hs
  block_does place (m ∷ ms) [] hs u a z n e k same sits less s st at = absurd hs
  block_does place (m ∷ ms) (p ∷ ps) hs u a z n e k same sits less s st at = sequence_does m ms p ps hs.0 hs.1 u a z n e k sits less s st at

  -- ---- loops

  -- a turn is taken, for which the move that was made before pays
  turned : {A : Type 0} (Reach : A → Store → State → Type 0) (t : ℕ) (next : Store → Told A) (q : ℕ) (s : Store) (to : State) → Related c ho t s to → s.turns ≡ q
      → ((s' : Store) → s'.turns < s.turns → Related c ho t s' to → Follows (parts_of c) c.input to s'.turns s'.turns Reach (next s')) → Follows (parts_of c) c.input to (s.turns - 1) s.turns Reach (turn_of q s next)
  turned Reach t next zero s to h is rest = record { moves = 0; to = to; path = refl; tell = refl; enough = omega (arith, is) }
  turned Reach t next (suc q) s to h is rest =
      let s' : Store = record { cells = s.cells; answers = s.answers; turns = q } in
      follows_behind (parts_of c) c.input Reach 0 to to [] (s.turns - 1) s.turns q q (next s') refl refl (omega (arith, is)) (omega (arith, is))
      (rest s' (omega (arith, is)) (record { node = h.node; frames = h.frames; size = h.size; cells = h.cells; answers = h.answers }))

  -- behind a loop's body
  behind_body : (u : Around) (z l q : ℕ) (again : Meaning) → ((s : Store) (st : State) → Related c ho l s st → s.turns ≤ q → Follows (parts_of c) c.input st s.turns s.turns (Arrives c ho u z) (again s))
      → (way : Way) (s : Store) (to : State) → Arrives c ho (inside u z l) l way s to → s.turns ≤ q → Follows (parts_of c) c.input to s.turns s.turns (Arrives c ho u z) (after_body again way s)
  behind_body u z l q again h GoesOn s to at few = h s to at few
  behind_body u z l q again h Breaks s to at few = follows_give (parts_of c) c.input (Arrives c ho u z) to GoesOn s at
  behind_body u z l q again h Continues s to at few = h s to at few
  behind_body u z l q again h Returns s to at few = follows_give (parts_of c) c.input (Arrives c ho u z) to Returns s at

  -- behind one move to a node, which tells something, with fewer turns than a number
  abbrev Once : (u : Around) (z head : ℕ) → ℕ → Meaning → Type 0
  Once u z head n again = (es : List Event) (s : Store) (st : State) → Led head s st es → s.turns < n → Follows (parts_of c) c.input st s.turns s.turns (Arrives c ho u z) (behind es (again s))

  module _ (own : At) (u : Around) (z head t l : ℕ) (test : Deciding) (body step : Meaning)
      (tests : From head (Chosen c ho t z) test) (does : From t (Arrives c ho (inside u z l) l) body)
      (back : (n : ℕ) (again : Meaning) → Once u z head n again → (s : Store) (st : State) → Related c ho l s st → s.turns < n → Follows (parts_of c) c.input st s.turns s.turns (Arrives c ho u z) (step s thence then_next (again_at own again))) where
    abbrev rest_of : ℕ → Meaning
    rest_of n s'' = step s'' thence then_next (again_at own (passes own n test body step))

    passed : (n : ℕ) → Once u z head n (passes own n test body step) → (b : Bool) (s : Store) (to : State) → Related c ho (if b then t else z) s to → s.turns ≤ n
        → Follows (parts_of c) c.input to (s.turns - 1) s.turns (Arrives c ho u z) (pass body (rest_of n) b s)
    passed n again true s to h less = turned (Arrives c ho u z) t (λ s'. body s' thence after_body (rest_of n)) s.turns s to h refl
        (λ s' fewer h'. follows_then (parts_of c) c.input (Arrives c ho (inside u z l) l) (Arrives c ho u z) to s'.turns s'.turns (body s') (after_body (rest_of n)) (does s' to h')
        (λ way s'' too there few. behind_body u z l s'.turns (rest_of n) (λ s st at few. back n (passes own n test body step) again s st at (omega (arith, few, fewer, less))) way s'' too there few))
    passed n again false s to h less = record { moves = 0; to = to; path = refl; tell = refl; there = h; enough = omega arith; few = omega arith }

    -- behind one move to the loop's head
    pub passes_do : (n : ℕ) → Once u z head n (passes own n test body step)
    unfolding passes
    passes_do zero es s st l' less = absurd (omega (arith, less))
    passes_do (suc n) es s st l' less =
        follows_spare (parts_of c) c.input (Chosen c ho t z) (Arrives c ho u z) st l'.to es s.turns (test s) (pass body (rest_of n)) l'.path l'.tell (tests s l'.to l'.there)
        (λ b s' to there few. passed n (passes_do n) b s' to there (omega (arith, few, less)))

  -- a condition of a statement, which leads to one of two nodes that were there before
  pub tested_at : (test : At → Bool → Bool → Deciding) (x : Value) (v : Around) (a t f n e k : ℕ) → Decides c ho test x.cond → Sits (parts_of c) (x.cond (deciding v t f) a t f n e k) n e k → t < n → f < n → From a (Chosen c ho t f) (test (at_of v) true true)
  tested_at test x v a t f n e k hx sits lt lf s st h =
      let both : test (at_of v) (decides (Some (t, f)) t) (decides (Some (t, f)) f) s ≡ test (at_of v) true true s = λ i. test (at_of v) (own_first t f i) (own_second t f i) s in
      subst (Follows (parts_of c) c.input st s.turns s.turns (Chosen c ho t f)) both (hx (deciding v t f) a t f n e k sits (lt, lf) s st h)

  pub while_does : (span : Span) (test : At → Bool → Bool → Deciding) (body : Meaning) (x : Value) (p : Piece) → Decides c ho test x.cond → Simulates c ho body p.make
      → Simulates c ho (while_loop (at_hand span kinds.While) (test (at_hand span kinds.While) true true) body) (λ u. while_row x p (stated u span kinds.While))
  while_does span test body x p hx hp u a z n e k sits less s st at =
      let S = all_sit (parts_of c) _ n e k sits in
      let w = stated u span kinds.While in
      let v = inside w z (n + 2) in
      let own = at_hand span kinds.While in
      let into = skips _ _ _ s st S.1.1.1.0.edges.0 refl (enter_tells w a n) at in
      passes_do own w z n (n + 1) (n + 2) (test own true true) body no_meaning (tested_at test x v n (n + 1) z _ _ _ hx S.1.1.1.1.0 (omega arith) (omega (arith, less)))
      (λ s st h. hp v (n + 1) (n + 2) _ _ _ S.1.1.1.1.1.0 (omega arith) s st h)
      (λ m again once s st h fewer. once _ s st (skips _ _ _ s st S.1.1.1.1.1.1.0.edges.0 refl (back_tells w (n + 2) n) h) fewer)
      (s.turns + 1) _ s st into (omega arith)

  -- ---- `do`

  module _ (own : At) (u : Around) (z t q l : ℕ) (test : Deciding) (body : Meaning)
      (tests : From q (Chosen c ho l z) test) (does : From t (Arrives c ho (inside u z q) q) body) (back : (s : Store) (st : State) → Related c ho l s st → Led t s st (happens own GoesBack)) where
    abbrev test_of : ℕ → Meaning
    test_of n s' = test s' thence again_if (again_at own (do_passes own n body test))

    tested : (n : ℕ) → Once u z t n (do_passes own n body test) → (b : Bool) (s : Store) (to : State) → Related c ho (if b then l else z) s to → s.turns < n
        → Follows (parts_of c) c.input to s.turns s.turns (Arrives c ho u z) (again_if (again_at own (do_passes own n body test)) b s)
    tested n again true s to h less = again (happens own GoesBack) s to (back s to h) less
    tested n again false s to h less = follows_give (parts_of c) c.input (Arrives c ho u z) to GoesOn s h

    pub do_passes_do : (n : ℕ) → Once u z t n (do_passes own n body test)
    unfolding do_passes
    do_passes_do zero es s st l' less = absurd (omega (arith, less))
    do_passes_do (suc n) es s st l' less =
        follows_behind (parts_of c) c.input (Arrives c ho u z) 1 st l'.to es s.turns s.turns (s.turns - 1) s.turns (pass body (test_of n) true s) l'.path l'.tell (omega arith) (omega arith)
        (turned (Arrives c ho u z) t (λ s'. body s' thence after_body (test_of n)) s.turns s l'.to l'.there refl
        (λ s' fewer h'. follows_then (parts_of c) c.input (Arrives c ho (inside u z q) q) (Arrives c ho u z) l'.to s'.turns s'.turns (body s') (after_body (test_of n)) (does s' l'.to h')
        (λ way s'' too there few. behind_body u z q s'.turns (test_of n)
        (λ s3 st3 at3 few3. follows_then (parts_of c) c.input (Chosen c ho l z) (Arrives c ho u z) st3 s3.turns s3.turns (test s3) (again_if (again_at own (do_passes own n body test))) (tests s3 st3 at3)
        (λ b s4 to4 there4 few4. tested n (do_passes_do n) b s4 to4 there4 (omega (arith, few4, few3, fewer, less)))) way s'' too there few)))

  pub do_does : (span : Span) (body : Meaning) (test : At → Bool → Bool → Deciding) (p : Piece) (x : Value) → Simulates c ho body p.make → Decides c ho test x.cond
      → Simulates c ho (do_loop (at_hand span kinds.Do) body (test (at_hand span kinds.Do) true true)) (λ u. do_row p x (stated u span kinds.Do))
  do_does span body test p x hp hx u a z n e k sits less s st at =
      let S = all_sit (parts_of c) _ n e k sits in
      let w = stated u span kinds.Do in
      let v = inside w z (n + 1) in
      let own = at_hand span kinds.Do in
      let into = skips _ _ _ s st S.1.1.1.0.edges.0 refl (enter_tells w a n) at in
      do_passes_do own w z n (n + 1) (n + 2) (test own true true) body (tested_at test x v (n + 1) (n + 2) z _ _ _ hx S.1.1.1.1.1.0 (omega arith) (omega (arith, less)))
      (λ s st h. hp v n (n + 1) _ _ _ S.1.1.1.1.0 (omega arith) s st h) (λ s st h. skips _ _ _ s st S.1.1.1.1.1.1.0.edges.0 refl (back_tells w (n + 2) n) h)
      (s.turns + 1) _ s st into (omega arith)

  -- ---- `for`

  abbrev pub TestDoes : Option (At → Bool → Bool → Deciding) → Option Value → Type 0
  TestDoes None None = Unit {0}
  TestDoes None (Some x) = ⊥
  TestDoes (Some test) None = ⊥
  TestDoes (Some test) (Some x) = Decides c ho test x.cond

  -- a condition by the statement at hand, which it settles
  abbrev pub settling : At → Option (At → Bool → Bool → Deciding) → Option Deciding
  settling own None = None
  settling own (Some test) = Some (test own true true)

  abbrev pub StepDoes : Option Meaning → Option Piece → Type 0
  StepDoes None None = Unit {0}
  StepDoes None (Some p) = ⊥
  StepDoes (Some m) None = ⊥
  StepDoes (Some m) (Some p) = Simulates c ho m p.make × ((s : Store) → GoesOnly (m s))

  for_tests : (span : Span) (test : Option (At → Bool → Bool → Deciding)) (x : Option Value) → TestDoes test x → (u : Around) (on_break on_continue h t z n e k : ℕ) → Sits (parts_of c) (for_test x (inside (stated u span kinds.For) on_break on_continue) h t z n e k) n e k → t < n → z < n
      → From h (Chosen c ho t z) (test_or (at_hand span kinds.For) (settling (at_hand span kinds.For) test))
  for_tests span None None hx u on_break on_continue h t z n e k sits lt lz s st at = led_does (Chosen c ho t z) true t s st _ (skips e _ _ s st sits.edges.0 refl (always_tells u span on_break on_continue h t) at) (λ to there. there)
  for_tests span None (Some x) hx u on_break on_continue h t z n e k sits lt lz s st at = absurd hx
  for_tests span (Some test) None hx u on_break on_continue h t z n e k sits lt lz s st at = absurd hx
  for_tests span (Some test) (Some x) hx u on_break on_continue h t z n e k sits lt lz s st at = tested_at test x (inside (stated u span kinds.For) on_break on_continue) h t z n e k hx sits lt lz s st at

  -- a meaning that goes on alone
  goes_only : (u : Around) (z : ℕ) (st : State) (low high : ℕ) (t : Told Way) → GoesOnly t → Follows (parts_of c) c.input st low high (Arrives c ho u z) t → Follows (parts_of c) c.input st low high (λ way s to. (way ≡ GoesOn) × Related c ho z s to) t
  goes_only u z st low high t g f = by t.done g f
    where
      by : (d : Done Way) → GoesOnlyBy d → FollowsBy (parts_of c) c.input st low high (Arrives c ho u z) t.events d → FollowsBy (parts_of c) c.input st low high (λ way s to. (way ≡ GoesOn) × Related c ho z s to) t.events d
      by (Gives way s) g f = record { moves = f.moves; to = f.to; path = f.path; tell = f.tell; there = (g, subst (λ w. Arrives c ho u z w s f.to) g f.there); enough = f.enough; few = f.few }
      by (Ends end) g f = f
      by OutOfTurns g f = f

  for_steps : (w : Around) (step : Option Meaning) (j : Option Piece) → StepDoes step j → (z h l n e k : ℕ) → Sits (parts_of c) (for_step j w z h l n e k) n e k
      → (m : ℕ) (again : Meaning) → Once w z h m again → (s : Store) (st : State) → Related c ho l s st → s.turns < m → Follows (parts_of c) c.input st s.turns s.turns (Arrives c ho w z) (step_or step s thence then_next (again_at (at_of w) again))
  for_steps w None None hj z h l n e k sits m again once s st at less = once _ s st (skips e _ _ s st sits.edges.0 refl (back_tells w l h) at) less
  for_steps w None (Some p) hj z h l n e k sits m again once s st at less = absurd hj
  for_steps w (Some j) None hj z h l n e k sits m again once s st at less = absurd hj
  for_steps w (Some j) (Some p) hj z h l n e k sits m again once s st at less =
      let S = all_sit (parts_of c) _ n e k sits in
      let v = inside w z n in
      follows_then (parts_of c) c.input (λ way s to. (way ≡ GoesOn) × Related c ho n s to) (Arrives c ho w z) st s.turns s.turns (j s) (then_next (again_at (at_of w) again))
      (goes_only v n st s.turns s.turns (j s) (hj.1 s) (hj.0 v l n _ _ _ S.1.0 (omega arith) s st at))
      (λ way s' to there few. by way s' to there.0 there.1 few (λ s st at. skips _ _ _ s st S.1.1.0.edges.0 refl (back_tells w n h) at))
    where
      by : (way : Way) (s' : Store) (to : State) → way ≡ GoesOn → Related c ho n s' to → s'.turns ≤ s.turns → ((s : Store) (st : State) → Related c ho n s st → Led h s st (happens (at_of w) GoesBack)) → Follows (parts_of c) c.input to s'.turns s'.turns (Arrives c ho w z) (then_next (again_at (at_of w) again) way s')
      by way s' to is there few led = subst (λ q. Follows (parts_of c) c.input to s'.turns s'.turns (Arrives c ho w z) (then_next (again_at (at_of w) again) q s')) (sym is) (once _ s' to (led s' to there) (omega (arith, few, less)))

  for_loop_does : (span : Span) (test : Option (At → Bool → Bool → Deciding)) (step : Option Meaning) (body : Meaning) (x : Option Value) (j : Option Piece) (p : Piece) → TestDoes test x → StepDoes step j → Simulates c ho body p.make
      → (u : Around) (a z n e k : ℕ) → Sits (parts_of c) (for_loop x j p (stated u span kinds.For) a z n e k) n e k → z < n
      → From a (Arrives c ho u z) (λ s'. entering (at_hand span kinds.For) (passes (at_hand span kinds.For) (s'.turns + 1) (test_or (at_hand span kinds.For) (settling (at_hand span kinds.For) test)) body (step_or step)) s')
  for_loop_does span test step body x j p hx hj hp u a z n e k sits less s st at =
      let S = all_sit (parts_of c) _ n e k sits in
      let w = stated u span kinds.For in
      let v = inside w z (n + 2) in
      let own = at_hand span kinds.For in
      let into = skips _ _ _ s st S.1.1.1.0.edges.0 refl (enter_tells w a n) at in
      passes_do own w z n (n + 1) (n + 2) (test_or own (settling own test)) body (step_or step) (for_tests span test x hx u z (n + 2) n (n + 1) z _ _ _ S.1.1.1.1.0 (omega arith) (omega (arith, less)))
      (λ s st h. hp v (n + 1) (n + 2) _ _ _ S.1.1.1.1.1.0 (omega arith) s st h) (for_steps w step j hj z n (n + 2) _ _ _ S.1.1.1.1.1.1.0)
      (s.turns + 1) _ s st into (omega arith)

  pub for_does : (span : Span) (first : List Meaning) (test : Option (At → Bool → Bool → Deciding)) (step : Option Meaning) (body : Meaning) (ps : List Piece) (x : Option Value) (j : Option Piece) (p : Piece) → AllDo c ho first ps → TestDoes test x → StepDoes step j → Simulates c ho body p.make
      → Simulates c ho (loops.for_loop (at_hand span kinds.For) first (settling (at_hand span kinds.For) test) step body) (λ u. for_row ps x j p (stated u span kinds.For))
  unfolding sequence
  for_does span [] test step body [] x j p hs hx hj hp u a z n e k sits less s st at = for_loop_does span test step body x j p hx hj hp u a z n e k sits less s st at
  for_does span [] test step body (q ∷ ps) x j p hs hx hj hp u a z n e k sits less s st at = absurd hs
  for_does span (m ∷ ms) test step body [] x j p hs hx hj hp u a z n e k sits less s st at = absurd hs
  for_does span (m ∷ ms) test step body (q ∷ ps) x j p hs hx hj hp u a z n e k sits less s st at =
      let S = all_sit (parts_of c) _ n e k sits in
      let w = stated u span kinds.For in
      let own = at_hand span kinds.For in
      let again : Meaning = λ s'. entering own (passes own (s'.turns + 1) (test_or own (settling own test)) body (step_or step)) s' in
      follows_then (parts_of c) c.input (Arrives c ho w n) (Arrives c ho w z) st s.turns s.turns (sequence (m ∷ ms) s) (then_next again) (sequence_does m ms q ps hs.0 hs.1 w a n _ _ _ S.1.1.0 (omega arith) s st at)
      (λ way s' to there few. next_does w n z again (λ s st h. for_loop_does span test step body x j p hx hj hp (seeing w (declared_by (q ∷ ps)) k) n z _ _ _ S.1.1.1.0 (omega (arith, less)) s st h) way s' to there)

  -- ---- `if`

  -- a condition, and then one of two
  branches : (u : Around) (t f z : ℕ) (test : Deciding) (m other : Meaning) (s : Store) (st : State)
      → Follows (parts_of c) c.input st s.turns s.turns (Chosen c ho t f) (test s) → From t (Arrives c ho u z) m → From f (Arrives c ho u z) other
      → Follows (parts_of c) c.input st s.turns s.turns (Arrives c ho u z) (test s thence one_of m other)
  branches u t f z test m other s st tests so other' = follows_then (parts_of c) c.input (Chosen c ho t f) (Arrives c ho u z) st s.turns s.turns (test s) (one_of m other) tests (λ b s' to there few. by b s' to there)
    where
      by : (b : Bool) (s : Store) (to : State) → Related c ho (if b then t else f) s to → Follows (parts_of c) c.input to s.turns s.turns (Arrives c ho u z) (one_of m other b s)
      by true s to there = so s to there
      by false s to there = other' s to there

  -- a condition, by the statement at hand, and the statement behind it
  abbrev pub Arm : Type 0
  Arm = (At → Bool → Bool → Deciding) × Meaning

  abbrev pub arm_at : At → Arm → Deciding × Meaning
  arm_at own arm = (arm.0 own true true, arm.1)

  abbrev pub ArmDoes : Arm → Value × Piece → Type 0
  ArmDoes arm made = Decides c ho arm.0 (made.0).cond × Simulates c ho arm.1 (made.1).make

  abbrev pub ArmsDo : List Arm → List (Value × Piece) → Type 0
  ArmsDo [] [] = Unit {0}
  ArmsDo [] (p ∷ ps) = ⊥
  ArmsDo (m ∷ ms) [] = ⊥
  ArmsDo (m ∷ ms) (p ∷ ps) = ArmDoes m p × ArmsDo ms ps

  abbrev pub LastDoes : Option Meaning → Option Piece → Type 0
  LastDoes None None = Unit {0}
  LastDoes None (Some p) = ⊥
  LastDoes (Some m) None = ⊥
  LastDoes (Some m) (Some p) = Simulates c ho m p.make

  -- at each place, in a statement at hand
  abbrev Rows : At → Meaning → Lowering → Type 0
  Rows own m row = (u : Around) (a z n e k : ℕ) → at_of u ≡ own → Sits (parts_of c) (row u a z n e k) n e k → z < n → From a (Arrives c ho u z) m

  arm_then : (own : At) (arm : Arm) (made : Value × Piece) (span : Span) (other : Meaning) (rest : Lowering) → ArmDoes arm made → Rows own other rest → Rows own (λ s. arm.0 own true true s thence one_of arm.1 other) (arm_row made (Some span) rest)
  arm_then own arm made span other rest h hr u a z n e k same sits less s st at =
      let S = all_sit (parts_of c) _ n e k sits in
      let first = tested_at arm.0 made.0 u a n (n + 1) _ _ _ h.0 S.1.1.0 (omega arith) (omega arith) s st at in
      branches u n (n + 1) z (arm.0 own true true) arm.1 other s st (subst (λ q. Follows (parts_of c) c.input st s.turns s.turns (Chosen c ho n (n + 1)) (arm.0 q true true s)) same first)
      (λ s st h'. h.1 u n z _ _ _ S.1.1.1.0 (omega (arith, less)) s st h') (λ s st h'. hr u (n + 1) z _ _ _ same S.1.1.1.1.0 (omega (arith, less)) s st h')

  arm_alone : (own : At) (arm : Arm) (made : Value × Piece) (rest : Lowering) → ArmDoes arm made → Rows own (λ s. arm.0 own true true s thence one_of arm.1 no_meaning) (arm_row made None rest)
  arm_alone own arm made rest h u a z n e k same sits less s st at =
      let S = all_sit (parts_of c) _ n e k sits in
      let first = tested_at arm.0 made.0 u a n z _ _ _ h.0 S.1.0 (omega arith) (omega (arith, less)) s st at in
      branches u n z z (arm.0 own true true) arm.1 no_meaning s st (subst (λ q. Follows (parts_of c) c.input st s.turns s.turns (Chosen c ho n z) (arm.0 q true true s)) same first)
      (λ s st h'. h.1 u n z _ _ _ S.1.1.0 (omega (arith, less)) s st h') (λ s st h'. follows_give (parts_of c) c.input (Arrives c ho u z) st GoesOn s h')

  arms_rows : (own : At) (m : Arm) (ms : List Arm) (last : Option Meaning) (p : Value × Piece) (ps : List (Value × Piece)) (otherwise : Option Piece)
      → ArmDoes m p → ArmsDo ms ps → LastDoes last otherwise → Rows own (arms (map (arm_at own) (m ∷ ms)) last) (arms_row (p ∷ ps) otherwise)
  unfolding arms
  arms_rows own m [] None p [] None h hs hl u a z n e k same sits less s st at = arm_alone own m p (arms_row [] None) h u a z n e k same sits less s st at
  arms_rows own m [] None p [] (Some q) h hs hl u a z n e k same sits less s st at = absurd hl
  arms_rows own m [] (Some l) p [] None h hs hl u a z n e k same sits less s st at = absurd hl
  arms_rows own m [] (Some l) p [] (Some q) h hs hl u a z n e k same sits less s st at = arm_then own m p q.span l q.make h (λ u a z n e k same sits less s st at. hl u a z n e k sits less s st at) u a z n e k same sits less s st at
  arms_rows own m [] last p (q ∷ ps) otherwise h hs hl u a z n e k same sits less s st at = absurd hs
  arms_rows own m (m' ∷ ms) last p [] otherwise h hs hl u a z n e k same sits less s st at = absurd hs
  arms_rows own m (m' ∷ ms) last p (q ∷ ps) otherwise h hs hl u a z n e k same sits less s st at =
      arm_then own m p (q.0).span (arms (map (arm_at own) (m' ∷ ms)) last) (arms_row (q ∷ ps) otherwise) h (λ u a z n e k same sits less s st at. arms_rows own m' ms last q ps otherwise hs.0 hs.1 hl u a z n e k same sits less s st at) u a z n e k same sits less s st at

  pub arms_do : (span : Span) (m : Arm) (ms : List Arm) (last : Option Meaning) (p : Value × Piece) (ps : List (Value × Piece)) (otherwise : Option Piece)
      → ArmDoes m p → ArmsDo ms ps → LastDoes last otherwise → Simulates c ho (arms (map (arm_at (at_hand span kinds.If)) (m ∷ ms)) last) (λ u. arms_row (p ∷ ps) otherwise (stated u span kinds.If))
  arms_do span m ms last p ps otherwise h hs hl u a z n e k sits less s st at = arms_rows (at_hand span kinds.If) m ms last p ps otherwise h hs hl (stated u span kinds.If) a z n e k refl sits less s st at
