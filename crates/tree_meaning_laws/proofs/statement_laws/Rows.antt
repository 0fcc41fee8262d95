-- The rows of blocks, `if`, loops, jumps and labels do what their meanings say.
use Rattle.std.proofs.Common.{◌≡◌, ℕ, zero, suc, ◌+◌, ◌-◌, ◌<◌, ◌≤◌, Bool, true, false, List, [], ◌∷◌, Option, Some, None, refl, sym, ap, subst, arith}
use Rattle.std.specs.Prelude.{slice_get, if◌then◌else◌}
use Rattle.fq_core.specs.declared.span.Span.{Span}
use Rattle.fq_core.specs.declared.statement_kind.StatementKind.TheVariants as kinds
use Rattle.cfa.specs.declared.parts.Edge.{Edge}
use Rattle.cfa.specs.declared.parts.Operation.TheVariants.{Skip}
use Rattle.cfa.specs.declared.state.State.{State}
use Rattle.cfa.specs.Graph.{is_return, is_guard}
use Rattle.c_meaning.specs.Steps.{operated}
use Rattle.c_lower_rules.specs.declared.graph_of.parts.Around.{Around}
use Rattle.c_lower_rules.specs.graph_of.Edges.{Lowering, stated, inside, deciding, seeing, skip}
use Rattle.c_lower_rules.specs.graph_of.Expressions.{Value}
use Rattle.c_lower_rules.specs.graph_of.Statements.{Piece, sequence, block_row, arm_row, arms_row, while_row, do_row, for_test, for_step, for_loop, for_row, declared_by, break_row, continue_row, return_row, label_row}
use Rattle.tree_meaning.specs.declared.way.Way.{Way}
use Rattle.tree_meaning.specs.declared.way.Way.TheVariants.{GoesOn, Breaks, Continues, Returns}
use Rattle.tree_meaning.specs.Outcomes.{Store, Done, Gives, Ends, OutOfTurns, ◌andthen◌, Meaning, Evaluation, skip as no_meaning, is_true, turn_of}
use Rattle.tree_meaning.specs.Statements.{then_next, block, one_of, arms}
use Rattle.tree_meaning.specs.Loops.{after_body, pass, passes, while_loop, again_if, do_passes, do_loop, test_or, step_or}
use Rattle.tree_meaning.specs.Loops as loops
use Rattle.tree_meaning_laws.specs.expression_laws.Sits.{Sits}
use Rattle.tree_meaning_laws.specs.expression_laws.Follows.{Moves, Follows}
use Rattle.tree_meaning_laws.specs.expression_laws.Contexts.{Context, Held, Related, parts_of}
use Rattle.tree_meaning_laws.specs.expression_laws.Flows.{Chosen, Decides}
use Rattle.tree_meaning_laws.proofs.expression_laws.Sits.{all_sit}
use Rattle.tree_meaning_laws.proofs.expression_laws.Follows.{follows_give, follows_behind, follows_then, follows_spare}
use Rattle.tree_meaning_laws.proofs.expression_laws.Cells.{along_one}
use Rattle.tree_meaning_laws.specs.statement_laws.Simulates.{Arrives, Simulates}

-- these do what those mean, in order
abbrev pub AllDo : Context → Held → List Meaning → List Piece → Type 0
AllDo c ho [] [] = Unit {0}
AllDo c ho [] (p ∷ ps) = ⊥
AllDo c ho (m ∷ ms) [] = ⊥
AllDo c ho (m ∷ ms) (p ∷ ps) = Simulates c ho m p.make × AllDo c ho ms ps

-- a meaning that goes on, if it doesn't end the run
abbrev pub GoesOnly : Done Way → Type 0
GoesOnly (Gives way s) = way ≡ GoesOn
GoesOnly (Ends end) = Unit {0}
GoesOnly OutOfTurns = Unit {0}

module _ (c : Context) (ho : Held) where
  -- what is done from each state at a node
  abbrev pub From : {A : Type 0} → ℕ → (A → Store → State → Type 0) → (Store → Done A) → Type 0
  From a Reach does = (s : Store) (st : State) → Related c ho a s st → Follows (parts_of c) c.input st s.turns s.turns Reach (does s)

  -- ---- one edge that does nothing

  -- it leads to its target
  pub record Led (z : ℕ) (s : Store) (st : State) : Type 0 where
    pub to : State
    pub path : Moves (parts_of c) c.input 1 st to
    pub there : Related c ho z s to

  pub skips : (at : ℕ) (e : Edge) (s : Store) (st : State) → slice_get (parts_of c).edges at ≡ Some e → e.operation ≡ Skip → Related c ho e.source s st → Led e.target s st
  skips at e s st there skip' h =
      let to : State = record st { node = e.target } in
      record {
        to = to;
        path = along_one c ho e.source at e s st to there (ap is_return skip') (ap is_guard skip') refl h (ap (operated (parts_of c) c.input st at e) skip');
        there = record { node = refl; frames = h.frames; size = h.size; cells = h.cells; answers = h.answers };
      }

  -- a statement of one such edge
  led_does : {A : Type 0} (Reach : A → Store → State → Type 0) (x : A) (z : ℕ) (s : Store) (st : State) → Led z s st → ((to : State) → Related c ho z s to → Reach x s to) → Follows (parts_of c) c.input st s.turns s.turns Reach (Gives x s)
  led_does Reach x z s st l reach = record { moves = 1; to = l.to; path = l.path; there = reach l.to l.there; enough = omega arith; few = omega arith }

  pub skip_does : Simulates c ho no_meaning skip
  skip_does u a z n e k sits s st h = led_does (Arrives c ho u z) GoesOn z s st (skips e _ s st sits.edges.0 refl h) (λ to there. there)

  pub break_does : Simulates c ho (λ s. Gives Breaks s) break_row
  break_does u a z n e k sits s st h = led_does (Arrives c ho u z) Breaks u.on_break s st (skips e _ s st sits.edges.0 refl h) (λ to there. there)

  pub continue_does : Simulates c ho (λ s. Gives Continues s) continue_row
  continue_does u a z n e k sits s st h = led_does (Arrives c ho u z) Continues u.on_continue s st (skips e _ s st sits.edges.0 refl h) (λ to there. there)

  pub return_does : Simulates c ho (λ s. Gives Returns s) (return_row None)
  return_does u a z n e k sits s st h = led_does (Arrives c ho u z) Returns u.exit s st (skips e _ s st sits.edges.0 refl h) (λ to there. there)

  pub label_does : (name : List ℕ) (m : Meaning) (p : Piece) → Simulates c ho m p.make → Simulates c ho m (label_row name p)
  label_does name m p h u a z n e k sits s st at =
      let S = all_sit (parts_of c) _ n e k sits in
      let into : Led n s st = skips _ _ s st S.1.0.edges.0 refl at in
      follows_behind (parts_of c) c.input (Arrives c ho u z) 1 st into.to s.turns s.turns s.turns s.turns (m s) into.path (omega arith) (omega arith) (h u n z _ _ _ S.1.1.0 s into.to into.there)

  -- ---- blocks

  -- behind a statement to m, what is next to z
  pub next_does : (u : Around) (m z : ℕ) (k : Meaning) → From m (Arrives c ho u z) k
      → (way : Way) (s : Store) (to : State) → Arrives c ho u m way s to → Follows (parts_of c) c.input to s.turns s.turns (Arrives c ho u z) (then_next k way s)
  next_does u m z k rest GoesOn s to h = rest s to h
  next_does u m z k rest Breaks s to h = follows_give (parts_of c) c.input (Arrives c ho u z) to Breaks s h
  next_does u m z k rest Continues s to h = follows_give (parts_of c) c.input (Arrives c ho u z) to Continues s h
  next_does u m z k rest Returns s to h = follows_give (parts_of c) c.input (Arrives c ho u z) to Returns s h

  pub sequence_does : (m : Meaning) (ms : List Meaning) (p : Piece) (ps : List Piece) → Simulates c ho m p.make → AllDo c ho ms ps → Simulates c ho (block (m ∷ ms)) (sequence (p ∷ ps))
  unfolding block
  sequence_does m [] p [] h hs u a z n e k sits s st at =
      follows_then (parts_of c) c.input (Arrives c ho u z) (Arrives c ho u z) st s.turns s.turns (m s) (then_next (block [])) (h u a z n e k sits s st at)
      (λ way s' to there few. next_does u z z (block []) (λ s st h. follows_give (parts_of c) c.input (Arrives c ho u z) st GoesOn s h) way s' to there)
  sequence_does m [] p (q ∷ ps) h hs u a z n e k sits s st at = absurd hs
  sequence_does m (m' ∷ ms) p [] h hs u a z n e k sits s st at = absurd hs
  sequence_does m (m' ∷ ms) p (q ∷ ps) h hs u a z n e k sits s st at =
      let S = all_sit (parts_of c) _ n e k sits in
      follows_then (parts_of c) c.input (Arrives c ho u n) (Arrives c ho u z) st s.turns s.turns (m s) (then_next (block (m' ∷ ms))) (h u a n _ _ _ S.1.1.0 s st at)
      (λ way s' to there few. next_does u n z (block (m' ∷ ms)) (λ s st h. sequence_does m' ms q ps hs.0 hs.1 (seeing u p.declares k) n z _ _ _ S.1.1.1.0 s st h) way s' to there)

  pub block_does : (ms : List Meaning) (ps : List Piece) → AllDo c ho ms ps → Simulates c ho (block ms) (block_row ps)
  unfolding block
  block_does [] [] hs u a z n e k sits s st at = skip_does (stated u u.span kinds.Empty) a z n e k sits s st at
  block_does [] (p ∷ ps) hs u a z n e k sits s st at = absurd hs
  block_does (m ∷ ms) [] hs u a z n e k sits s st at = absurd hs
  block_does (m ∷ ms) (p ∷ ps) hs u a z n e k sits s st at = sequence_does m ms p ps hs.0 hs.1 u a z n e k sits s st at

  -- ---- loops

  -- a turn is taken, for which the move that was made before pays
  turned : {A : Type 0} (Reach : A → Store → State → Type 0) (t : ℕ) (next : Store → Done A) (q : ℕ) (s : Store) (to : State) → Related c ho t s to → s.turns ≡ q
      → ((s' : Store) → s'.turns < s.turns → Related c ho t s' to → Follows (parts_of c) c.input to s'.turns s'.turns Reach (next s')) → Follows (parts_of c) c.input to (s.turns - 1) s.turns Reach (turn_of q s next)
  turned Reach t next zero s to h is rest = record { moves = 0; to = to; path = refl; enough = omega (arith, is) }
  turned Reach t next (suc q) s to h is rest =
      let s' : Store = record { cells = s.cells; answers = s.answers; turns = q } in
      follows_behind (parts_of c) c.input Reach 0 to to (s.turns - 1) s.turns q q (next s') refl (omega (arith, is)) (omega (arith, is))
      (rest s' (omega (arith, is)) (record { node = h.node; frames = h.frames; size = h.size; cells = h.cells; answers = h.answers }))

  -- behind a loop's body
  behind_body : (u : Around) (z l q : ℕ) (again : Meaning) → ((s : Store) (st : State) → Related c ho l s st → s.turns ≤ q → Follows (parts_of c) c.input st s.turns s.turns (Arrives c ho u z) (again s))
      → (way : Way) (s : Store) (to : State) → Arrives c ho (inside u z l) l way s to → s.turns ≤ q → Follows (parts_of c) c.input to s.turns s.turns (Arrives c ho u z) (after_body again way s)
  behind_body u z l q again h GoesOn s to at few = h s to at few
  behind_body u z l q again h Breaks s to at few = follows_give (parts_of c) c.input (Arrives c ho u z) to GoesOn s at
  behind_body u z l q again h Continues s to at few = h s to at few
  behind_body u z l q again h Returns s to at few = follows_give (parts_of c) c.input (Arrives c ho u z) to Returns s at

  -- behind one move to a node, with fewer turns than a number
  abbrev Once : (u : Around) (z head : ℕ) → ℕ → Meaning → Type 0
  Once u z head n again = (s : Store) (st mid : State) → Moves (parts_of c) c.input 1 st mid → Related c ho head s mid → s.turns < n → Follows (parts_of c) c.input st s.turns s.turns (Arrives c ho u z) (again s)

  module _ (u : Around) (z head t l : ℕ) (test : Evaluation) (body step : Meaning)
      (tests : From head (Chosen c ho t z) test) (does : From t (Arrives c ho (inside u z l) l) body)
      (back : (n : ℕ) (again : Meaning) → Once u z head n again → (s : Store) (st : State) → Related c ho l s st → s.turns < n → Follows (parts_of c) c.input st s.turns s.turns (Arrives c ho u z) (step s andthen then_next again)) where
    passed : (n : ℕ) → Once u z head n (passes n test body step) → (b : Bool) (s : Store) (to : State) → Related c ho (if b then t else z) s to → s.turns ≤ n
        → Follows (parts_of c) c.input to (s.turns - 1) s.turns (Arrives c ho u z) (pass body (λ s''. step s'' andthen then_next (passes n test body step)) b s)
    passed n again true s to h less = turned (Arrives c ho u z) t (λ s'. body s' andthen after_body (λ s''. step s'' andthen then_next (passes n test body step))) s.turns s to h refl
        (λ s' fewer h'. follows_then (parts_of c) c.input (Arrives c ho (inside u z l) l) (Arrives c ho u z) to s'.turns s'.turns (body s') (after_body (λ s''. step s'' andthen then_next (passes n test body step))) (does s' to h')
        (λ way s'' too there few. behind_body u z l s'.turns (λ s''. step s'' andthen then_next (passes n test body step)) (λ s st at few. back n (passes n test body step) again s st at (omega (arith, few, fewer, less))) way s'' too there few))
    passed n again false s to h less = record { moves = 0; to = to; path = refl; there = h; enough = omega arith; few = omega arith }

    -- behind one move to the loop's head
    pub passes_do : (n : ℕ) → Once u z head n (passes n test body step)
    unfolding passes
    passes_do zero s st mid p at less = absurd (omega (arith, less))
    passes_do (suc n) s st mid p at less =
        follows_spare (parts_of c) c.input (Chosen c ho t z) (Arrives c ho u z) st mid s.turns (test s) (λ v s'. pass body (λ s''. step s'' andthen then_next (passes n test body step)) (is_true v) s') p (tests s mid at)
        (λ v s' to there few. passed n (passes_do n) (is_true v) s' to there (omega (arith, few, less)))

  pub while_does : (test : Evaluation) (body : Meaning) (x : Value) (p : Piece) → Decides c ho test x.cond → Simulates c ho body p.make → Simulates c ho (while_loop test body) (while_row x p)
  while_does test body x p hx hp u a z n e k sits s st at =
      let S = all_sit (parts_of c) _ n e k sits in
      let into : Led n s st = skips _ _ s st S.1.1.1.0.edges.0 refl at in
      passes_do u z n (n + 1) (n + 2) test body no_meaning (λ s st h. hx (deciding (inside u z (n + 2)) (n + 1) z) n (n + 1) z _ _ _ S.1.1.1.1.0 s st h)
      (λ s st h. hp (inside u z (n + 2)) (n + 1) (n + 2) _ _ _ S.1.1.1.1.1.0 s st h)
      (λ m again once s st h less. let l : Led n s st = skips _ _ s st S.1.1.1.1.1.1.0.edges.0 refl h in once s st l.to l.path l.there less)
      (s.turns + 1) s st into.to into.path into.there (omega arith)

  -- ---- `do`

  module _ (u : Around) (z t q l : ℕ) (test : Evaluation) (body : Meaning)
      (tests : From q (Chosen c ho l z) test) (does : From t (Arrives c ho (inside u z q) q) body) (back : (s : Store) (st : State) → Related c ho l s st → Led t s st) where
    tested : (n : ℕ) → Once u z t n (do_passes n body test) → (b : Bool) (s : Store) (to : State) → Related c ho (if b then l else z) s to → s.turns < n
        → Follows (parts_of c) c.input to s.turns s.turns (Arrives c ho u z) (again_if (do_passes n body test) b s)
    tested n again true s to h less = let b = back s to h in again s to b.to b.path b.there less
    tested n again false s to h less = follows_give (parts_of c) c.input (Arrives c ho u z) to GoesOn s h

    pub do_passes_do : (n : ℕ) → Once u z t n (do_passes n body test)
    unfolding do_passes
    do_passes_do zero s st mid p at less = absurd (omega (arith, less))
    do_passes_do (suc n) s st mid p at less =
        let behind : Meaning = λ s'. test s' andthen λ v s''. again_if (do_passes n body test) (is_true v) s'' in
        follows_behind (parts_of c) c.input (Arrives c ho u z) 1 st mid s.turns s.turns (s.turns - 1) s.turns _ p (omega arith) (omega arith)
        (turned (Arrives c ho u z) t (λ s'. body s' andthen after_body behind) s.turns s mid at refl
        (λ s' fewer h'. follows_then (parts_of c) c.input (Arrives c ho (inside u z q) q) (Arrives c ho u z) mid s'.turns s'.turns (body s') (after_body behind) (does s' mid h')
        (λ way s'' too there few. behind_body u z q s'.turns behind
        (λ s3 st3 at3 few3. follows_then (parts_of c) c.input (Chosen c ho l z) (Arrives c ho u z) st3 s3.turns s3.turns (test s3) (λ v s''. again_if (do_passes n body test) (is_true v) s'') (tests s3 st3 at3)
        (λ v s4 to4 there4 few4. tested n (do_passes_do n) (is_true v) s4 to4 there4 (omega (arith, few4, few3, fewer, less)))) way s'' too there few)))

  pub do_does : (body : Meaning) (test : Evaluation) (p : Piece) (x : Value) → Simulates c ho body p.make → Decides c ho test x.cond → Simulates c ho (do_loop body test) (do_row p x)
  do_does body test p x hp hx u a z n e k sits s st at =
      let S = all_sit (parts_of c) _ n e k sits in
      let into : Led n s st = skips _ _ s st S.1.1.1.0.edges.0 refl at in
      do_passes_do u z n (n + 1) (n + 2) test body (λ s st h. hx (deciding (inside u z (n + 1)) (n + 2) z) (n + 1) (n + 2) z _ _ _ S.1.1.1.1.1.0 s st h)
      (λ s st h. hp (inside u z (n + 1)) n (n + 1) _ _ _ S.1.1.1.1.0 s st h) (λ s st h. skips _ _ s st S.1.1.1.1.1.1.0.edges.0 refl h)
      (s.turns + 1) s st into.to into.path into.there (omega arith)

  -- ---- `for`

  abbrev pub TestDoes : Option Evaluation → Option Value → Type 0
  TestDoes None None = Unit {0}
  TestDoes None (Some x) = ⊥
  TestDoes (Some test) None = ⊥
  TestDoes (Some test) (Some x) = Decides c ho test x.cond

  abbrev pub StepDoes : Option Meaning → Option Piece → Type 0
  StepDoes None None = Unit {0}
  StepDoes None (Some p) = ⊥
  StepDoes (Some m) None = ⊥
  StepDoes (Some m) (Some p) = Simulates c ho m p.make × ((s : Store) → GoesOnly (m s))

  for_tests : (test : Option Evaluation) (x : Option Value) → TestDoes test x → (v : Around) (h t z n e k : ℕ) → Sits (parts_of c) (for_test x v h t z n e k) n e k → From h (Chosen c ho t z) (test_or test)
  for_tests None None hx v h t z n e k sits s st at = led_does (Chosen c ho t z) 1 t s st (skips e _ s st sits.edges.0 refl at) (λ to there. there)
  for_tests None (Some x) hx v h t z n e k sits s st at = absurd hx
  for_tests (Some test) None hx v h t z n e k sits s st at = absurd hx
  for_tests (Some test) (Some x) hx v h t z n e k sits s st at = hx (deciding v t z) h t z n e k sits s st at

  -- a meaning that goes on alone
  goes_only : (u : Around) (z : ℕ) (st : State) (low high : ℕ) (d : Done Way) → GoesOnly d → Follows (parts_of c) c.input st low high (Arrives c ho u z) d → Follows (parts_of c) c.input st low high (λ way s to. (way ≡ GoesOn) × Related c ho z s to) d
  goes_only u z st low high (Gives way s) g f = record { moves = f.moves; to = f.to; path = f.path; there = (g, subst (λ w. Arrives c ho u z w s f.to) g f.there); enough = f.enough; few = f.few }
  goes_only u z st low high (Ends end) g f = f
  goes_only u z st low high OutOfTurns g f = f

  for_steps : (step : Option Meaning) (j : Option Piece) → StepDoes step j → (u : Around) (z h l n e k : ℕ) → Sits (parts_of c) (for_step j u z h l n e k) n e k
      → (m : ℕ) (again : Meaning) → Once u z h m again → (s : Store) (st : State) → Related c ho l s st → s.turns < m → Follows (parts_of c) c.input st s.turns s.turns (Arrives c ho u z) (step_or step s andthen then_next again)
  for_steps None None hj u z h l n e k sits m again once s st at less = let b : Led h s st = skips _ _ s st sits.edges.0 refl at in once s st b.to b.path b.there less
  for_steps None (Some p) hj u z h l n e k sits m again once s st at less = absurd hj
  for_steps (Some j) None hj u z h l n e k sits m again once s st at less = absurd hj
  for_steps (Some j) (Some p) hj u z h l n e k sits m again once s st at less =
      let S = all_sit (parts_of c) _ n e k sits in
      let v = inside u z n in
      follows_then (parts_of c) c.input (λ way s to. (way ≡ GoesOn) × Related c ho n s to) (Arrives c ho u z) st s.turns s.turns (j s) (then_next again)
      (goes_only v n st s.turns s.turns (j s) (hj.1 s) (hj.0 v l n _ _ _ S.1.0 s st at))
      (λ way s' to there few. by way s' to there.0 there.1 few (λ s st at. skips _ _ s st S.1.1.0.edges.0 refl at))
    where
      by : (way : Way) (s' : Store) (to : State) → way ≡ GoesOn → Related c ho n s' to → s'.turns ≤ s.turns → ((s : Store) (st : State) → Related c ho n s st → Led h s st) → Follows (parts_of c) c.input to s'.turns s'.turns (Arrives c ho u z) (then_next again way s')
      by way s' to is there few led =
          let b = led s' to there in
          subst (λ w. Follows (parts_of c) c.input to s'.turns s'.turns (Arrives c ho u z) (then_next again w s')) (sym is) (once s' to b.to b.path b.there (omega (arith, few, less)))

  for_loop_does : (test : Option Evaluation) (step : Option Meaning) (body : Meaning) (x : Option Value) (j : Option Piece) (p : Piece) → TestDoes test x → StepDoes step j → Simulates c ho body p.make
      → Simulates c ho (λ s'. passes (s'.turns + 1) (test_or test) body (step_or step) s') (for_loop x j p)
  for_loop_does test step body x j p hx hj hp u a z n e k sits s st at =
      let S = all_sit (parts_of c) _ n e k sits in
      let v = inside u z (n + 2) in
      let into : Led n s st = skips _ _ s st S.1.1.1.0.edges.0 refl at in
      passes_do u z n (n + 1) (n + 2) (test_or test) body (step_or step) (for_tests test x hx v n (n + 1) z _ _ _ S.1.1.1.1.0)
      (λ s st h. hp v (n + 1) (n + 2) _ _ _ S.1.1.1.1.1.0 s st h) (for_steps step j hj u z n (n + 2) _ _ _ S.1.1.1.1.1.1.0)
      (s.turns + 1) s st into.to into.path into.there (omega arith)

  pub for_does : (first : List Meaning) (test : Option Evaluation) (step : Option Meaning) (body : Meaning) (ps : List Piece) (x : Option Value) (j : Option Piece) (p : Piece) → AllDo c ho first ps → TestDoes test x → StepDoes step j → Simulates c ho body p.make
      → Simulates c ho (loops.for_loop first test step body) (for_row ps x j p)
  unfolding block
  for_does [] test step body [] x j p hs hx hj hp u a z n e k sits s st at = for_loop_does test step body x j p hx hj hp u a z n e k sits s st at
  for_does [] test step body (q ∷ ps) x j p hs hx hj hp u a z n e k sits s st at = absurd hs
  for_does (m ∷ ms) test step body [] x j p hs hx hj hp u a z n e k sits s st at = absurd hs
  for_does (m ∷ ms) test step body (q ∷ ps) x j p hs hx hj hp u a z n e k sits s st at =
      let S = all_sit (parts_of c) _ n e k sits in
      let again : Meaning = λ s'. passes (s'.turns + 1) (test_or test) body (step_or step) s' in
      follows_then (parts_of c) c.input (Arrives c ho u n) (Arrives c ho u z) st s.turns s.turns (block (m ∷ ms) s) (then_next again) (sequence_does m ms q ps hs.0 hs.1 u a n _ _ _ S.1.1.0 s st at)
      (λ way s' to there few. next_does u n z again (λ s st h. for_loop_does test step body x j p hx hj hp (seeing u (declared_by (q ∷ ps)) k) n z _ _ _ S.1.1.1.0 s st h) way s' to there)

  -- ---- `if`

  -- a condition, and then one of two
  branches : (u : Around) (t f z : ℕ) (test : Evaluation) (m other : Meaning) (s : Store) (st : State)
      → Follows (parts_of c) c.input st s.turns s.turns (Chosen c ho t f) (test s) → From t (Arrives c ho u z) m → From f (Arrives c ho u z) other
      → Follows (parts_of c) c.input st s.turns s.turns (Arrives c ho u z) (test s andthen λ v s'. one_of m other (is_true v) s')
  branches u t f z test m other s st tests so other' = follows_then (parts_of c) c.input (Chosen c ho t f) (Arrives c ho u z) st s.turns s.turns (test s) (λ v s'. one_of m other (is_true v) s') tests (λ v s' to there few. by (is_true v) s' to there)
    where
      by : (b : Bool) (s : Store) (to : State) → Related c ho (if b then t else f) s to → Follows (parts_of c) c.input to s.turns s.turns (Arrives c ho u z) (one_of m other b s)
      by true s to there = so s to there
      by false s to there = other' s to there

  abbrev pub ArmDoes : Evaluation × Meaning → Value × Piece → Type 0
  ArmDoes arm made = Decides c ho arm.0 (made.0).cond × Simulates c ho arm.1 (made.1).make

  arm_then : (arm : Evaluation × Meaning) (made : Value × Piece) (span : Span) (other : Meaning) (rest : Lowering) → ArmDoes arm made → Simulates c ho other rest → Simulates c ho (λ s. arm.0 s andthen λ v s'. one_of arm.1 other (is_true v) s') (arm_row made (Some span) rest)
  arm_then arm made span other rest h hr u a z n e k sits s st at =
      let S = all_sit (parts_of c) _ n e k sits in
      branches u n (n + 1) z arm.0 arm.1 other s st (h.0 (deciding u n (n + 1)) a n (n + 1) _ _ _ S.1.1.0 s st at)
      (λ s st h'. h.1 u n z _ _ _ S.1.1.1.0 s st h') (λ s st h'. hr u (n + 1) z _ _ _ S.1.1.1.1.0 s st h')

  arm_alone : (arm : Evaluation × Meaning) (made : Value × Piece) (rest : Lowering) → ArmDoes arm made → Simulates c ho (λ s. arm.0 s andthen λ v s'. one_of arm.1 no_meaning (is_true v) s') (arm_row made None rest)
  arm_alone arm made rest h u a z n e k sits s st at =
      let S = all_sit (parts_of c) _ n e k sits in
      branches u n z z arm.0 arm.1 no_meaning s st (h.0 (deciding u n z) a n z _ _ _ S.1.0 s st at)
      (λ s st h'. h.1 u n z _ _ _ S.1.1.0 s st h') (λ s st h'. follows_give (parts_of c) c.input (Arrives c ho u z) st GoesOn s h')

  abbrev pub ArmsDo : List (Evaluation × Meaning) → List (Value × Piece) → Type 0
  ArmsDo [] [] = Unit {0}
  ArmsDo [] (p ∷ ps) = ⊥
  ArmsDo (m ∷ ms) [] = ⊥
  ArmsDo (m ∷ ms) (p ∷ ps) = ArmDoes m p × ArmsDo ms ps

  abbrev pub LastDoes : Option Meaning → Option Piece → Type 0
  LastDoes None None = Unit {0}
  LastDoes None (Some p) = ⊥
  LastDoes (Some m) None = ⊥
  LastDoes (Some m) (Some p) = Simulates c ho m p.make

  pub arms_do : (m : Evaluation × Meaning) (ms : List (Evaluation × Meaning)) (last : Option Meaning) (p : Value × Piece) (ps : List (Value × Piece)) (otherwise : Option Piece)
      → ArmDoes m p → ArmsDo ms ps → LastDoes last otherwise → Simulates c ho (arms (m ∷ ms) last) (arms_row (p ∷ ps) otherwise)
  unfolding arms
  arms_do m [] None p [] None h hs hl u a z n e k sits s st at = arm_alone m p (arms_row [] None) h u a z n e k sits s st at
  arms_do m [] None p [] (Some q) h hs hl u a z n e k sits s st at = absurd hl
  arms_do m [] (Some l) p [] None h hs hl u a z n e k sits s st at = absurd hl
  arms_do m [] (Some l) p [] (Some q) h hs hl u a z n e k sits s st at = arm_then m p q.span l q.make h hl u a z n e k sits s st at
  arms_do m [] last p (q ∷ ps) otherwise h hs hl u a z n e k sits s st at = absurd hs
  arms_do m (m' ∷ ms) last p [] otherwise h hs hl u a z n e k sits s st at = absurd hs
  arms_do m (m' ∷ ms) last p (q ∷ ps) otherwise h hs hl u a z n e k sits s st at =
      arm_then m p (q.0).span (arms (m' ∷ ms) last) (arms_row (q ∷ ps) otherwise) h (λ u a z n e k sits s st at. arms_do m' ms last q ps otherwise hs.0 hs.1 hl u a z n e k sits s st at) u a z n e k sits s st at
