-- Conditions, and the values of `&&`, `||` and `?:` in their temporaries.
use Rattle.std.proofs.Common.{◌≡◌, ℕ, ◌+◌, ◌<◌, ◌≤◌, Bool, true, false, List, [], ◌∷◌, ◌++◌, Some, Result, Ok, Err, refl, sym, ap, subst, ◌∙◌, arith, pos, ⊎_elim}
use Rattle.std.specs.Prelude.{◌==◌, not, if◌then◌else◌, slice_get, slice_set, slice_index}
use Rattle.std.proofs.lemmas.List.{length-set}
use Rattle.fq_core.specs.declared.span.Span.{Span}
use Rattle.c_values.specs.Kind.{int, wrapped, number_of, IsValue}
use Rattle.c_values.specs.Operations.{unary_value, truth_of, is_equal}
use Rattle.c_values.specs.declared.kinds.Kind.{Kind}
use Rattle.c_values.specs.declared.operators.UnaryOp.TheVariants as unary
use Rattle.c_values.proofs.Fitting.{value_parts, wrapped-number_of, IsValue-truth_of}
use Rattle.c_values.proofs.Machine.{machine_equal}
use Rattle.cfa.specs.declared.expr.CellPlace.TheVariants as place
use Rattle.cfa.specs.declared.expr.Expr.{Expr}
use Rattle.cfa.specs.declared.expr.Expr.TheVariants as expr
use Rattle.cfa.specs.declared.parts.Edge.{Edge}
use Rattle.cfa.specs.declared.parts.Operation.TheVariants.{Assign}
use Rattle.cfa.specs.declared.state.State.{State}
use Rattle.cfa.specs.declared.state.Trap.{Trap}
use Rattle.cfa.specs.Graph.{is_return, is_guard}
use Rattle.cfa.specs.States.{value_in}
use Rattle.cfa.specs.Values.{value_of, cell_of, after_value}
use Rattle.c_meaning.specs.declared.stepped.Stepped.{Stepped}
use Rattle.c_meaning.specs.declared.stepped.Stepped.TheVariants.{Moved}
use Rattle.c_meaning.specs.Runs.{state_moved}
use Rattle.c_meaning.specs.Steps.{next, operated, unless_trapped, cell_in, moved}
use Rattle.c_lower_rules.specs.declared.graph_of.parts.Around.{Around}
use Rattle.c_lower_rules.specs.declared.graph_of.parts.Operand.{Operand}
use Rattle.c_lower_rules.specs.graph_of.Builder.{Builder, Flow}
use Rattle.c_lower_rules.specs.graph_of.Edges.{guards, put, deciding}
use Rattle.c_lower_rules.specs.graph_of.Expressions.{Value, both_cond, either_cond, other_cond, not_cond, truth_pure, choice_pure, part_row, temporary}
use Rattle.tree_meaning.specs.Outcomes.{Store, Done, Gives, Ends, OutOfTurns, ◌andthen◌, unless_trap, Evaluation, is_true}
use Rattle.tree_meaning.specs.Activations.{as_kind}
use Rattle.tree_meaning.specs.Expressions.{Meant, evaluate, unary_meant, part_meant, truth, if_true, both_does, if_false, either_does, chosen, choice_does}
use Rattle.tree_meaning_laws.specs.expression_laws.Sits.{Sits}
use Rattle.tree_meaning_laws.specs.expression_laws.Follows.{Follows}
use Rattle.tree_meaning_laws.specs.expression_laws.Contexts.{Context, IsContext, Held, holding, Related, Proper, Spare, Clear, Outside, parts_of, own_frame}
use Rattle.tree_meaning_laws.specs.expression_laws.Flows.{Chosen, Decides, Ended, Flows, HasRest, Does}
use Rattle.tree_meaning_laws.proofs.expression_laws.Sits.{all_sit}
use Rattle.tree_meaning_laws.proofs.expression_laws.Going.{next_one, next_two}
use Rattle.tree_meaning_laws.proofs.expression_laws.Follows.{follows_give, follows_then, follows_less, follows_onto}
use Rattle.tree_meaning_laws.proofs.expression_laws.Cells.{Drops, related_less, drops_both, agree_put, holds_own, holds_other, good, frame_is, spare_after}
use Rattle.tree_meaning_laws.proofs.expression_laws.Flows.{value_then}
use Rattle.tree_meaning_laws.proofs.expression_laws.Values.{constant_value, local_cell, temporary_has}

-- ---- numbers that tell what is true

pub truth_is : (b : Bool) → is_true (truth b) ≡ b
truth_is true = refl
truth_is false = refl

one_is : wrapped int (pos 1) ≡ 1
unfolding number_of
one_is = wrapped-number_of int 1 (IsValue-truth_of true)

zero_is : wrapped int (pos 0) ≡ 0
unfolding number_of
zero_is = wrapped-number_of int 0 (IsValue-truth_of false)

truth_kept : (b : Bool) → as_kind int (truth b) ≡ truth b
truth_kept true = one_is
truth_kept false = zero_is

of_true : (b : Bool) → is_true (truth_of b) ≡ b
of_true true = refl
of_true false = refl

-- `!` is true where its operand isn't
pub not_is : (kind : Kind) (v : ℕ) → IsValue kind v → is_true (unary_value unary.Not kind v) ≡ (v == 0)
not_is kind v h = of_true (is_equal kind v 0) ∙ sym (machine_equal kind v 0 (value_parts kind v h).pattern (omega arith))

module _ (c : Context) (ok : IsContext c) where
  -- ---- two guards

  -- of two edges, the one that a value picks
  abbrev pick : (yes_at no_at t f : ℕ) → State → ℕ → Stepped
  pick yes_at no_at t f st v = if v == 0 then Moved no_at (record st { node = f }) else Moved yes_at (record st { node = t })

  went : (ho : Held) (node z at v : ℕ) (Reach : ℕ → Store → State → Type 0) (s : Store) (st : State) → Related c ho node s st → next (parts_of c) c.input st ≡ Moved at (record st { node = z }) → ((to : State) → Related c ho z s to → Reach v s to)
      → Follows (parts_of c) c.input st s.turns s.turns Reach (Gives v s)
  went ho node z at v Reach s st h goes reach =
      record { moves = 1; to = record st { node = z }; path = ap state_moved goes; there = reach _ (record { node = refl; frames = h.frames; size = h.size; cells = h.cells; answers = h.answers }); enough = omega arith; few = omega arith }

  picked_does : (ho : Held) (node yes_at no_at t f : ℕ) (s : Store) (st : State) → Related c ho node s st → (r : Result ℕ Trap) → next (parts_of c) c.input st ≡ unless_trapped r (pick yes_at no_at t f st)
      → Follows (parts_of c) c.input st s.turns s.turns (Chosen c ho t f) (unless_trap r (λ v. Gives v s))
  picked_does ho node yes_at no_at t f s st at (Err trap) goes = record { moves = 0; to = st; path = refl; stops = goes }
  picked_does ho node yes_at no_at t f s st at (Ok v) goes = by (v == 0) refl goes
    where
      by : (b : Bool) → (v == 0) ≡ b → next (parts_of c) c.input st ≡ (if b then Moved no_at (record st { node = f }) else Moved yes_at (record st { node = t })) → Follows (parts_of c) c.input st s.turns s.turns (Chosen c ho t f) (Gives v s)
      by true e goes = went ho node f no_at v (Chosen c ho t f) s st at goes (λ to h. subst (λ q. Related c ho (if not q then t else f) s to) (sym e) h)
      by false e goes = went ho node t yes_at v (Chosen c ho t f) s st at goes (λ to h. subst (λ q. Related c ho (if not q then t else f) s to) (sym e) h)

  pub guards_do : (held : Held) (u : Around) (span : Span) (o : Operand) (b t f n e k : ℕ) → Sits (parts_of c) (guards u span o.value o.reads b t f n e k) n e k
      → (s : Store) (st : State) → Related c held b s st → (r : Result ℕ Trap) → value_in st o.value ≡ r → Follows (parts_of c) c.input st s.turns s.turns (Chosen c held t f) (unless_trap r (λ v. Gives v s))
  guards_do held u span o b t f n e k sits s st at r given =
      let S = all_sit (parts_of c) _ n e k sits in
      let goes = next_two (parts_of c) (good c) c.input st o.value e (e + 1) _ _ S.0.edges.0 S.1.0.edges.0 refl refl (sym at.node) (sym at.node) in
      picked_does held b e (e + 1) t f s st at r (goes ∙ ap (λ r. unless_trapped r (pick e (e + 1) t f st)) given)

  chosen_less : (more less : Held) (t f : ℕ) → Drops more less → (v : ℕ) (s : Store) (to : State) → Chosen c more t f v s to → Chosen c less t f v s to
  chosen_less more less t f d v s to h = related_less c more less _ s to d h

  -- an expression that no condition splits
  pub other_decides : (ho : Held) (low high : ℕ) (m : Meant) (span : Span) (x : Around → Flow Operand) → Proper c ho → Clear c ho low high → ((u : Around) → Flows c ho low high m.parts m.first (HasRest c m.kind m.rest) (x u)) → Decides c ho (evaluate m) (other_cond span x)
  other_decides ho low high m span x proper clear hx u a t f n e k sits s st at =
      value_then c ho low high m (x u) (λ v n. guards u span v.value v.reads n t f) (Chosen c ho t f) (λ v s. Gives v s) proper clear (hx u)
      (λ held d pr out o b n e k sits s st at r given. follows_less (parts_of c) c.input (Chosen c held t f) (Chosen c ho t f) st s.turns s.turns (unless_trap r (λ v. Gives v s)) (chosen_less held ho t f d)
      (guards_do held u span o b t f n e k sits s st at r given)) a n e k sits s st at

  pub unsplit_does : (ho : Held) (low high : ℕ) (m : Meant) (span : Span) (kind : Kind) (x : Around → Flow Operand) → Proper c ho → Clear c ho low high → kind ≡ m.kind → ((u : Around) → Flows c ho low high m.parts m.first (HasRest c m.kind m.rest) (x u))
      → Does c ho low high m (record { span = span; kind = kind; pure = x; cond = other_cond span x })
  unsplit_does ho low high m span kind x proper clear same hx = record { kind = same; pure = hx; cond = other_decides ho low high m span x proper clear hx }

  -- ---- conditions that are split

  -- a condition whose value is 1 or 0
  abbrev pub Truly : Held → ℕ → ℕ → ℕ → Store → State → Type 0
  Truly ho t f v s st = (b : Bool) × (v ≡ truth b) × Related c ho (if b then t else f) s st

  abbrev pub DecidesTruth : Held → Evaluation → (Around → ℕ → ℕ → ℕ → Builder) → Type 0
  DecidesTruth ho does cond = (u : Around) (a t f n e k : ℕ) → Sits (parts_of c) (cond u a t f n e k) n e k
      → (s : Store) (st : State) → Related c ho a s st → Follows (parts_of c) c.input st s.turns s.turns (Truly ho t f) (does s)

  right_does : (ho : Held) (right : Evaluation) (t f : ℕ) (s : Store) (st : State) → Follows (parts_of c) c.input st s.turns s.turns (Chosen c ho t f) (right s)
      → Follows (parts_of c) c.input st s.turns s.turns (Truly ho t f) (right s andthen λ v s'. Gives (truth (is_true v)) s')
  right_does ho right t f s st h = follows_then (parts_of c) c.input (Chosen c ho t f) (Truly ho t f) st s.turns s.turns (right s) (λ v s'. Gives (truth (is_true v)) s') h
      (λ v s' to there few. follows_give (parts_of c) c.input (Truly ho t f) to (truth (is_true v)) s' (is_true v, refl, there))

  pub both_decides : (ho : Held) (left right : Evaluation) (x y : Value) → Decides c ho left x.cond → Decides c ho right y.cond → DecidesTruth ho (both_does left right) (both_cond x y)
  both_decides ho left right x y hx hy u a t f n e k sits s st at =
      let S = all_sit (parts_of c) _ n e k sits in
      follows_then (parts_of c) c.input (Chosen c ho n f) (Truly ho t f) st s.turns s.turns (left s) (λ v s'. if_true right (is_true v) s') (hx u a n f _ _ _ S.1.0 s st at)
      (λ v s' to there few. by (λ s st at. hy u n t f _ _ _ S.1.1.0 s st at) (is_true v) s' to there)
    where
      by : ((s : Store) (st : State) → Related c ho n s st → Follows (parts_of c) c.input st s.turns s.turns (Chosen c ho t f) (right s)) → (b : Bool) (s : Store) (to : State) → Related c ho (if b then n else f) s to → Follows (parts_of c) c.input to s.turns s.turns (Truly ho t f) (if_true right b s)
      by go true s to there = right_does ho right t f s to (go s to there)
      by go false s to there = follows_give (parts_of c) c.input (Truly ho t f) to 0 s (false, refl, there)

  pub either_decides : (ho : Held) (left right : Evaluation) (x y : Value) → Decides c ho left x.cond → Decides c ho right y.cond → DecidesTruth ho (either_does left right) (either_cond x y)
  either_decides ho left right x y hx hy u a t f n e k sits s st at =
      let S = all_sit (parts_of c) _ n e k sits in
      follows_then (parts_of c) c.input (Chosen c ho t n) (Truly ho t f) st s.turns s.turns (left s) (λ v s'. if_false right (is_true v) s') (hx u a t n _ _ _ S.1.0 s st at)
      (λ v s' to there few. by (λ s st at. hy u n t f _ _ _ S.1.1.0 s st at) (is_true v) s' to there)
    where
      by : ((s : Store) (st : State) → Related c ho n s st → Follows (parts_of c) c.input st s.turns s.turns (Chosen c ho t f) (right s)) → (b : Bool) (s : Store) (to : State) → Related c ho (if b then t else n) s to → Follows (parts_of c) c.input to s.turns s.turns (Truly ho t f) (if_false right b s)
      by go true s to there = follows_give (parts_of c) c.input (Truly ho t f) to 1 s (true, refl, there)
      by go false s to there = right_does ho right t f s to (go s to there)

  -- the value of a part, alone
  pub part_evaluates : (does : Evaluation) (kind : Kind) (s : Store) → evaluate (part_meant does kind) s ≡ (does s andthen λ v s'. Gives (as_kind kind v) s')
  part_evaluates does kind s = by (does s)
    where
      by : (d : Done ℕ) → ((d andthen λ v s'. Gives (([] ++ v ∷ [])) s') andthen λ vs s'. unless_trap (let r : Result ℕ Trap = Ok (as_kind kind (slice_index vs 0)) in r) (λ v. Gives v s')) ≡ (d andthen λ v s'. Gives (as_kind kind v) s')
      by (Gives v s') = refl
      by (Ends end) = refl
      by OutOfTurns = refl

  pub truth_decides : (ho : Held) (does : Evaluation) (kind : Kind) (cond : Around → ℕ → ℕ → ℕ → Builder) → kind ≡ int → DecidesTruth ho does cond → Decides c ho (evaluate (part_meant does kind)) cond
  truth_decides ho does kind cond is h u a t f n e k sits s st at =
      subst (Follows (parts_of c) c.input st s.turns s.turns (Chosen c ho t f)) (sym (part_evaluates does kind s))
      (follows_then (parts_of c) c.input (Truly ho t f) (Chosen c ho t f) st s.turns s.turns (does s) (λ v s'. Gives (as_kind kind v) s') (h u a t f n e k sits s st at)
      (λ v s' to T few. follows_give (parts_of c) c.input (Chosen c ho t f) to (as_kind kind v) s' (subst (λ q. Related c ho (if q then t else f) s' to) (sym (known v T.0 T.1)) T.2)))
    where
      known : (v : ℕ) (b : Bool) → v ≡ truth b → is_true (as_kind kind v) ≡ b
      known v b e = ap (λ q. is_true (as_kind q v)) is ∙ ap (λ w. is_true (as_kind int w)) e ∙ ap is_true (truth_kept b) ∙ truth_is b

  -- `!`
  pub not_decides : (ho : Held) (m : Meant) (kind : Kind) (x : Value) → ((vs cells : List ℕ) (v : ℕ) → m.rest vs cells ≡ Ok v → IsValue m.kind v) → Decides c ho (evaluate m) x.cond → Decides c ho (evaluate (unary_meant unary.Not m kind)) (not_cond x)
  not_decides ho m kind x values h u a t f n e k sits s st at = by (m.first [] s) (h u a f t n e k sits s st at)
    where
      turned : (q : Bool) (v : ℕ) (w : ℕ) (s : Store) (to : State) → (v == 0) ≡ q → is_true w ≡ (v == 0) → Chosen c ho f t v s to → Chosen c ho t f w s to
      turned true v w s to e i h = subst (λ b. Related c ho (if b then t else f) s to) (sym (i ∙ e)) (subst (λ b. Related c ho (if not b then f else t) s to) e h)
      turned false v w s to e i h = subst (λ b. Related c ho (if b then t else f) s to) (sym (i ∙ e)) (subst (λ b. Related c ho (if not b then f else t) s to) e h)

      rest : (r : Result ℕ Trap) (s' : Store) → ((v : ℕ) → r ≡ Ok v → IsValue m.kind v) → Follows (parts_of c) c.input st s.turns s.turns (Chosen c ho f t) (unless_trap r (λ v. Gives v s'))
          → Follows (parts_of c) c.input st s.turns s.turns (Chosen c ho t f) (unless_trap (after_value r (λ v. Ok (unary_value unary.Not m.kind v))) (λ v. Gives v s'))
      rest (Ok v) s' value g = record { moves = g.moves; to = g.to; path = g.path; there = turned (v == 0) v (unary_value unary.Not m.kind v) s' g.to refl (not_is m.kind v (value v refl)) g.there; enough = g.enough; few = g.few }
      rest (Err trap) s' value g = g

      by : (d : Done (List ℕ)) → Follows (parts_of c) c.input st s.turns s.turns (Chosen c ho f t) (d andthen λ vs s'. unless_trap (m.rest vs s'.cells) (λ v. Gives v s'))
          → Follows (parts_of c) c.input st s.turns s.turns (Chosen c ho t f) (d andthen λ vs s'. unless_trap (after_value (m.rest vs s'.cells) (λ v. Ok (unary_value unary.Not m.kind v))) (λ v. Gives v s'))
      by (Gives vs s') g = rest (m.rest vs s'.cells) s' (values vs s'.cells) g
      by (Ends end) g = g
      by OutOfTurns g = g

  -- ---- temporaries

  abbrev pub In : Held → ℕ → ℕ → ℕ → Store → State → Type 0
  In ho cell z v s st = Related c (holding ho ((own_frame c).base + cell) v) z s st

  -- a value, or its trap, goes into a temporary
  pub put_does : (ho : Held) (cell z at : ℕ) (e : Edge) (value : Expr) (s : Store) (st : State) (r : Result ℕ Trap) → Spare c ho cell
      → slice_get (parts_of c).edges at ≡ Some e → e.operation ≡ Assign (place.Local cell) value → e.target ≡ z → Related c ho e.source s st → value_in st value ≡ r
      → Follows (parts_of c) c.input st s.turns s.turns (In ho cell z) (unless_trap r (λ v. Gives v s))
  put_does ho cell z at e value s st r spare there is target h given = by r goes
    where
      place_is : cell_in st (place.Local cell) ≡ Ok ((own_frame c).base + cell)
      place_is = ap (λ f. cell_of st.cells f (place.Local cell)) (frame_is c ho e.source s st h) ∙ local_cell st.cells (own_frame c) cell

      goes : next (parts_of c) c.input st ≡ unless_trapped r (λ v. moved at e st (slice_set st.cells ((own_frame c).base + cell) v))
      goes = next_one (parts_of c) (good c) c.input st at e there (ap is_return is) (ap is_guard is) (sym h.node) ∙ ap (operated (parts_of c) c.input st at e) is
          ∙ ap (λ r. unless_trapped r (λ cell. unless_trapped (value_in st value) (λ v. moved at e st (slice_set st.cells cell v)))) place_is
          ∙ ap (λ r. unless_trapped r (λ v. moved at e st (slice_set st.cells ((own_frame c).base + cell) v))) given

      by : (r : Result ℕ Trap) → next (parts_of c) c.input st ≡ unless_trapped r (λ v. moved at e st (slice_set st.cells ((own_frame c).base + cell) v)) → Follows (parts_of c) c.input st s.turns s.turns (In ho cell z) (unless_trap r (λ v. Gives v s))
      by (Err trap) goes = record { moves = 0; to = st; path = refl; stops = goes }
      by (Ok v) goes =
          let to : State = record st { node = e.target; cells = slice_set st.cells ((own_frame c).base + cell) v } in
          record {
            moves = 1;
            to = to;
            path = ap state_moved goes;
            there = record {
              node = target;
              frames = h.frames;
              size = length-set st.cells ((own_frame c).base + cell) v ∙ h.size;
              cells = agree_put c.keeps ho s.cells st.cells ((own_frame c).base + cell) v h.cells spare.temporary (omega (arith, spare.within, h.size));
              answers = h.answers;
            };
            enough = omega arith;
            few = omega arith;
          }

  constant_in : (ho : Held) (v node : ℕ) (kind : Kind) (s : Store) (st : State) → Related c ho node s st → value_in st (expr.Constant v kind) ≡ Ok v
  constant_in ho v node kind s st h = ap (λ f. value_of st.cells f (expr.Constant v kind)) (frame_is c ho node s st h) ∙ ap (λ q. q.value) (constant_value st.cells (own_frame c) v kind)

  other_cell : (low high cell i : ℕ) → low ≤ cell → cell < high → Outside c low high i → i ≡ (own_frame c).base + cell → ⊥
  other_cell low high cell i l h o is = ⊎_elim (λ less. omega (arith, less, l, is)) (λ more. omega (arith, more, h, is)) o

  -- a part whose value lands in its temporary
  pub part_flows : (ho : Held) (low high cell : ℕ) (kind : Kind) (does : Evaluation) (x : Flow Operand) → low ≤ cell → cell < high
      → ((a n e k : ℕ) → Sits (parts_of c) (x a n e k).made n e k → (s : Store) (st : State) → Related c ho a s st → Follows (parts_of c) c.input st s.turns s.turns (In ho cell (x a n e k).end) (does s))
      → ((a n e k : ℕ) → (x a n e k).gives ≡ record { value = temporary cell kind; reads = [] })
      → Flows c ho low high 1 (part_meant does kind).first (HasRest c kind (part_meant does kind).rest) x
  part_flows ho low high cell kind does x l h lands gives vs a n e k sits s st at =
      follows_then (parts_of c) c.input (In ho cell (x a n e k).end) _ st s.turns s.turns (does s) (λ v s'. Gives (vs ++ v ∷ []) s') (lands a n e k sits s st at)
      (λ v s' to there few. follows_give (parts_of c) c.input (Ended c ho low high 1 (HasRest c kind (part_meant does kind).rest) vs (x a n e k).end (x a n e k).gives) to (vs ++ v ∷ []) s' (record {
        held = holding ho ((own_frame c).base + cell) v;
        news = v ∷ [];
        are = refl;
        long = refl;
        outside = λ i o. holds_other ho ((own_frame c).base + cell) v i (other_cell low high cell i l h o);
        related = there;
        means = subst (HasRest c kind (part_meant does kind).rest (holding ho ((own_frame c).base + cell) v) (v ∷ [])) (sym (gives a n e k))
            (temporary_has c ok cell v kind ho (holding ho ((own_frame c).base + cell) v) [] (holds_own ho ((own_frame c).base + cell) v));
      }))

  -- `&&` and `||` as values
  pub truth_lands : (ho : Held) (cell : ℕ) (kind : Kind) (does : Evaluation) (cond : Around → ℕ → ℕ → ℕ → Builder) (u : Around) → Spare c ho cell → DecidesTruth ho does cond
      → (a n e k : ℕ) → Sits (parts_of c) (truth_pure cond cell kind u a n e k).made n e k → (s : Store) (st : State) → Related c ho a s st → Follows (parts_of c) c.input st s.turns s.turns (In ho cell (n + 2)) (does s)
  truth_lands ho cell kind does cond u spare decides a n e k sits s st at =
      let S = all_sit (parts_of c) _ n e k sits in
      follows_onto (parts_of c) c.input (Truly ho n (n + 1)) (In ho cell (n + 2)) st s.turns s.turns (does s) (decides (deciding u n (n + 1)) a n (n + 1) _ _ _ S.1.1.1.0 s st at)
      (λ v s to T few. by
      (λ s st h. put_does ho cell (n + 2) _ _ (expr.Constant 1 int) s st (Ok 1) spare S.1.1.1.1.0.edges.0 refl refl h (constant_in ho 1 n int s st h))
      (λ s st h. put_does ho cell (n + 2) _ _ (expr.Constant 0 int) s st (Ok 0) spare S.1.1.1.1.1.0.edges.0 refl refl h (constant_in ho 0 (n + 1) int s st h)) v s to T.0 T.1 T.2)
    where
      by : ((s : Store) (st : State) → Related c ho n s st → Follows (parts_of c) c.input st s.turns s.turns (In ho cell (n + 2)) (Gives 1 s)) → ((s : Store) (st : State) → Related c ho (n + 1) s st → Follows (parts_of c) c.input st s.turns s.turns (In ho cell (n + 2)) (Gives 0 s))
          → (v : ℕ) (s : Store) (to : State) (b : Bool) → v ≡ truth b → Related c ho (if b then n else n + 1) s to → Follows (parts_of c) c.input to s.turns s.turns (In ho cell (n + 2)) (Gives v s)
      by one none v s to true e there = subst (λ w. Follows (parts_of c) c.input to s.turns s.turns (In ho cell (n + 2)) (Gives w s)) (sym e) (one s to there)
      by one none v s to false e there = subst (λ w. Follows (parts_of c) c.input to s.turns s.turns (In ho cell (n + 2)) (Gives w s)) (sym e) (none s to there)

  -- the second and the third part of `?:`
  pub chosen_lands : (ho : Held) (low high cell : ℕ) (m : Meant) (x : Value) (u : Around) (z : ℕ) → cell < low → Proper c ho → Clear c ho low high → Spare c ho cell → Does c ho low high m x
      → (a n e k : ℕ) → Sits (parts_of c) (part_row x cell u a z n e k) n e k → (s : Store) (st : State) → Related c ho a s st → Follows (parts_of c) c.input st s.turns s.turns (In ho cell z) (evaluate m s)
  chosen_lands ho low high cell m x u z before proper clear spare hx a n e k sits s st at =
      value_then c ho low high m (x.pure u) (λ v b. put u cell v.value v.reads b z) (In ho cell z) (λ v s. Gives v s) proper clear (hx.pure u)
      (λ held d pr out o b n e k sits s st at r given.
      follows_less (parts_of c) c.input (In held cell z) (In ho cell z) st s.turns s.turns (unless_trap r (λ v. Gives v s)) (λ v s to h. related_less c (holding held ((own_frame c).base + cell) v) (holding ho ((own_frame c).base + cell) v) z s to (drops_both held ho ((own_frame c).base + cell) v d) h)
      (put_does held cell z e _ o.value s st r (spare_after c ho held low high proper clear out cell before spare) sits.edges.0 refl refl at given)) a n e k sits s st at

  pub choice_lands : (ho : Held) (cell low mid more high : ℕ) (kind : Kind) (mt mx my : Meant) (t x y : Value) (u : Around) → cell < low → low ≤ mid → mid ≤ more → more ≤ high → Proper c ho → Clear c ho low high → Spare c ho cell
      → Does c ho low mid mt t → Does c ho mid more mx x → Does c ho more high my y
      → (a n e k : ℕ) → Sits (parts_of c) (choice_pure t x y cell kind u a n e k).made n e k → (s : Store) (st : State) → Related c ho a s st → Follows (parts_of c) c.input st s.turns s.turns (In ho cell (n + 2)) (choice_does (evaluate mt) (evaluate mx) (evaluate my) s)
  choice_lands ho cell low mid more high kind mt mx my t x y u before l m h proper clear spare ht hx hy a n e k sits s st at =
      let S = all_sit (parts_of c) _ n e k sits in
      follows_then (parts_of c) c.input (Chosen c ho n (n + 1)) (In ho cell (n + 2)) st s.turns s.turns (evaluate mt s) (λ v s'. chosen (evaluate mx) (evaluate my) (is_true v) s') (ht.cond (deciding u n (n + 1)) a n (n + 1) _ _ _ S.1.1.1.0 s st at)
      (λ v s to there few. by
      (λ s st g. chosen_lands ho mid more cell mx x u (n + 2) (omega (arith, before, l)) proper (λ i j q. clear i (omega (arith, j, l)) (omega (arith, q, h))) spare hx n _ _ _ S.1.1.1.1.0 s st g)
      (λ s st g. chosen_lands ho more high cell my y u (n + 2) (omega (arith, before, l, m)) proper (λ i j q. clear i (omega (arith, j, l, m)) q) spare hy (n + 1) _ _ _ S.1.1.1.1.1.0 s st g) (is_true v) s to there)
    where
      by : ((s : Store) (st : State) → Related c ho n s st → Follows (parts_of c) c.input st s.turns s.turns (In ho cell (n + 2)) (evaluate mx s)) → ((s : Store) (st : State) → Related c ho (n + 1) s st → Follows (parts_of c) c.input st s.turns s.turns (In ho cell (n + 2)) (evaluate my s))
          → (b : Bool) (s : Store) (to : State) → Related c ho (if b then n else n + 1) s to → Follows (parts_of c) c.input to s.turns s.turns (In ho cell (n + 2)) (chosen (evaluate mx) (evaluate my) b s)
      by first second true s to there = first s to there
      by first second false s to there = second s to there
