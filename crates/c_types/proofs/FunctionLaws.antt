-- What functions do to the state of typing.
use Rattle.std.proofs.Common.{◌≡◌, ℕ, ◌+◌, ◌<◌, ◌≤◌, Bool, true, false, not, List, [], ◌∷◌, ◌++◌, map, length, take, drop, get_or, Option, Some, None, refl, sym, ap, subst, ◌∙◌, append_assoc, append-nil, arith}
use Rattle.std.specs.Prelude.{nat_le}
use Rattle.std.specs.Option.{is_some}
use Rattle.std.proofs.lemmas.Bool.Decides.{nat_tests}
use Rattle.std.proofs.lemmas.List.{take_at, drop_more, drop_all}
use Rattle.fq_core.specs.declared.span.Span.{Span}
use Rattle.c_values.specs.declared.kinds.Kind.{Kind}
use Rattle.c_parse.specs.declared.expr.Ident.{Ident}
use Rattle.c_parse.specs.declared.unit.Body.{Body}
use Rattle.c_parse.specs.declared.unit.Parameter.{Parameter}
use Rattle.cfa.specs.declared.parts.Variable.{Variable}
use Rattle.c_typed_trees.specs.declared.expression.Callee.{Callee}
use Rattle.c_typed_trees.specs.declared.unit.TypedFunction.{TypedFunction}
use Rattle.c_type_rules.specs.declared.scopes.Bound.{Bound}
use Rattle.c_type_rules.specs.declared.scopes.ParameterKind.{ParameterKind}
use Rattle.c_type_rules.specs.declared.scopes.Signature.{Signature}
use Rattle.c_type_rules.specs.declared.typer.Typer.{Typer}
use Rattle.c_type_rules.specs.Faults.{first_with}
use Rattle.c_type_rules.specs.Scopes.{newest}
use Rattle.c_type_rules.specs.Rule.{Rule, expect, with_fault, bind, entered, left, at, made_by, after}
use Rattle.c_type_rules.proofs.RuleLaws.{first_with-append, pure_made, pure_after, then_made, then_after, look_made, look_after, here_made, here_after, scope_made, scope_after}
use Rattle.c_types.specs.declared.parameters.Parameters.{Parameters}
use Rattle.c_types.specs.Statements.{statements_typing}
use Rattle.c_types.specs.Functions.{taken, parameters_rule, signature_of, may_declare, bound_function, declare, too_large, framed, bind_parameters, in_function, body_rule, function_of, defined_rule, function_rule, frame_state, limited, unframed}

module _ (d : Ident) (f : Signature) (s : Typer) where
  pub declare_after : after (declare d f) s
      ≡ (let found = newest d.name s.bound in let s1 = after (expect 31 d.span (may_declare f found)) s in after (bind (bound_function d.name s1.level f found)) s1)
  unfolding declare
  declare_after = simp (then_after, look_made, look_after, here_made, here_after)

pub ruleset declare_laws = (declare_after)

-- ---- parameters of a signature

module _ (all : List Variable) (i : ℕ) where
  pub taken_end : (list : List ParameterKind) → length all ≤ i → list ++ map taken (drop i all) ≡ map taken all → list ≡ map taken all
  taken_end list h e = sym (append-nil list) ∙ ap (λ zs. list ++ map taken zs) (sym (drop_all i all h)) ∙ e

  pub taken_more : (list list' : List ParameterKind) (v : Variable) → i < length all → v ≡ get_or all i v → list' ≡ list ++ taken v ∷ [] → list ++ map taken (drop i all) ≡ map taken all
      → list' ++ map taken (drop (i + 1) all) ≡ map taken all
  taken_more list list' v h is e l =
      let here : drop i all ≡ v ∷ drop (i + 1) all = subst (λ (y : Variable). drop i all ≡ y ∷ drop (i + 1) all) (sym is) (drop_more all i v h) in
      ap (λ zs. zs ++ map taken (drop (i + 1) all)) e ∙ append_assoc list (taken v ∷ []) (map taken (drop (i + 1) all)) ∙ ap (λ zs. list ++ map taken zs) (sym here) ∙ l

-- ---- bodies

module _ (kind : Option Kind) (ps : Parameters) (b : Body) (s : Typer) where
  pub body_made : made_by (body_rule kind ps b) s ≡ made_by (statements_typing (in_function kind) b.statements) (after (bind_parameters ps.variables) (entered s))
  unfolding body_rule
  body_made = simp (scope_made, then_made)

  pub body_after : after (body_rule kind ps b) s ≡ left (length s.bound) (after (statements_typing (in_function kind) b.statements) (after (bind_parameters ps.variables) (entered s)))
  unfolding body_rule
  body_after = simp (scope_after, then_after)

pub ruleset body_laws = (body_made, body_after)

-- ---- frames

module _ (span : Span) (cells : ℕ) (s : Typer) where
  pub within_limit : cells ≤ 16384 → limited span cells s ≡ s
  unfolding first_with
  within_limit h =
      let t : nat_le cells 16384 ≡ true = grind (arith, nat_tests) in
      rw t refl

  pub past_limit : 16384 < cells → limited span cells s ≡ with_fault 37 span s
  unfolding first_with with_fault
  past_limit h =
      let t : nat_le cells 16384 ≡ false = grind (arith, nat_tests) in
      rw t refl

pub ruleset limit_laws = (within_limit, past_limit)

module _ {A : Type 0} (m : Rule A) (s : Typer) where
  -- names that were bound before are bound behind a rule
  pub names_stay : take (length s.bound) (after m s).bound ≡ s.bound
  unfolding after
  names_stay = take_at s.bound (m (at s)).bound (length s.bound) refl

  pub level_stays : (after m s).level ≡ s.level
  unfolding after
  level_stays = refl

module _ {A : Type 0} (span : Span) (first : ℕ) (m : Rule A) (s : Typer) where
  pub framed_made : made_by (framed span first m) s ≡ (let t = frame_state first (after m (frame_state first 0 s)).local s in ((after m t).temporary, made_by m t))
  unfolding made_by after framed
  framed_made = refl

  pub framed_after : after (framed span first m) s
      ≡ (let t = frame_state first (after m (frame_state first 0 s)).local s in let r = after m t in unframed s (limited span r.temporary r))
  unfolding made_by after framed
  framed_after =
      let t = frame_state first (after m (frame_state first 0 s)).local s in
      let d = m (at t) in
      let cells = (after m t).temporary in
      λ i. record {
        bound = s.bound ++ d.bound;
        labels = append-nil s.labels i;
        cases = append-nil s.cases i;
        level = s.level;
        local = plus_zero s.local i;
        temporary = plus_zero s.temporary i;
        fault = first_with-append s.fault d.faults (too_large span cells) i;
      }
    where
      plus_zero : (a : ℕ) → a + 0 ≡ a
      plus_zero a = omega arith

-- two walks over a body, with the names and the fault put back between them
module _ {A : Type 0} (span : Span) (first : ℕ) (m : Rule A) (s s0 s1 r0 s2 r1 r2 r3 : Typer) (mark : ℕ) (b : List Bound) (made : A)
    (es : frame_state first 0 s0 ≡ frame_state first 0 s)
    (e0 : s1 ≡ frame_state first 0 s0) (e1 : r0 ≡ after m s1) (em : mark ≡ length s.bound) (eb : b ≡ take mark r0.bound)
    (e2 : s2 ≡ record { bound = b; labels = []; cases = []; level = r0.level; local = first; temporary = r0.local; fault = s.fault })
    (e3 : r1 ≡ after m s2) (ev : made ≡ made_by m s2) (e4 : r2 ≡ limited span r1.temporary r1) (e5 : r3 ≡ unframed s r2) where
  second_walk : s2 ≡ frame_state first (after m (frame_state first 0 s)).local s
  second_walk =
      let er : r0 ≡ after m (frame_state first 0 s) = e1 ∙ ap (after m) (e0 ∙ es) in
      let hb : b ≡ s.bound = eb ∙ ap (λ k. take k r0.bound) em ∙ ap (λ (r : Typer). take (length s.bound) r.bound) er ∙ names_stay m (frame_state first 0 s) in
      let hl : r0.level ≡ s.level = ap (λ (r : Typer). r.level) er ∙ level_stays m (frame_state first 0 s) in
      let ht : r0.local ≡ (after m (frame_state first 0 s)).local = ap (λ (r : Typer). r.local) er in
      e2 ∙ (λ i. record { bound = hb i; labels = []; cases = []; level = hl i; local = first; temporary = ht i; fault = s.fault })

  pub walks_made : (r1.temporary, made) ≡ made_by (framed span first m) s
  walks_made = rw (e3, ev, second_walk) (sym (framed_made span first m s))

  pub walks_after : r3 ≡ after (framed span first m) s
  walks_after = e5 ∙ ap (unframed s) e4 ∙ rw (e3, second_walk) (sym (framed_after span first m s))

-- ---- functions

module _ (span : Span) (kind : Option Kind) (d : Ident) (ps : Parameters) (s : Typer) where
  pub prototype_made : (body : Option Body) → body ≡ None → made_by (defined_rule span kind d ps body) s ≡ []
  prototype_made body e = rw e (pure_made [] s)

  pub prototype_after : (body : Option Body) → body ≡ None → after (defined_rule span kind d ps body) s ≡ s
  prototype_after body e = rw e (pure_after {A = List TypedFunction} [] s)

  pub defined_made : (body : Option Body) (b : Body) → body ≡ Some b
      → made_by (defined_rule span kind d ps body) s ≡ function_of span kind d ps b (made_by (framed span ps.cells (body_rule kind ps b)) s) ∷ []
  defined_made body b e = rw e (simp (then_made, pure_made))

  pub defined_after : (body : Option Body) (b : Body) → body ≡ Some b → after (defined_rule span kind d ps body) s ≡ after (framed span ps.cells (body_rule kind ps b)) s
  defined_after body b e = rw e (simp (then_after, pure_after))

pub ruleset defined_laws = (prototype_made, prototype_after, defined_made, defined_after, append-nil)

module _ (callee : Option Callee) (span : Span) (kind : Option Kind) (d : Ident) (trees : List Parameter) (body : Option Body) (s : Typer) where
  pub function_made : made_by (function_rule callee span kind d trees body) s
      ≡ (let ps = made_by (parameters_rule (is_some body) trees) (entered s) in let s1 = left (length s.bound) (after (parameters_rule (is_some body) trees) (entered s)) in
      made_by (defined_rule span kind d ps body) (after (declare d (signature_of callee (is_some body) kind ps)) s1))
  unfolding function_rule
  function_made = simp (then_made, scope_made, scope_after)

  pub function_after : after (function_rule callee span kind d trees body) s
      ≡ (let ps = made_by (parameters_rule (is_some body) trees) (entered s) in let s1 = left (length s.bound) (after (parameters_rule (is_some body) trees) (entered s)) in
      after (defined_rule span kind d ps body) (after (declare d (signature_of callee (is_some body) kind ps)) s1))
  unfolding function_rule
  function_after = simp (then_after, scope_made, scope_after)

pub ruleset function_laws = (function_made, function_after)
