-- What a name stands for as a function stays as it is to the end of an accepted unit.
use Rattle.std.proofs.Common.{◌≡◌, ℕ, zero, suc, ◌<◌, Bool, true, false, not, List, [], ◌∷◌, ◌++◌, length, Option, Some, None, refl, sym, ap, subst, ◌∙◌, arith}
use Rattle.std.specs.Prelude.{slice_get, IsTrue, ◌&&◌, ◌||◌, cond}
use Rattle.std.specs.Option.{is_some}
use Rattle.std.specs.Str.{bytes_eq}
use Rattle.std.proofs.lemmas.List.{append-nil, append_assoc}
use Rattle.std.proofs.lemmas.Slice.Eq.{bytes_eq-Decides}
use Rattle.std.proofs.lemmas.Bool.Decides.{Decides-eqb}
use Rattle.fq_core.specs.declared.span.Span.{Span}
use Rattle.c_values.specs.declared.kinds.Kind.{Kind}
use Rattle.c_values.proofs.Fitting.{and_left, and_right, and_both}
use Rattle.c_parse.specs.declared.expr.ExprTree.{ExprTree}
use Rattle.c_parse.specs.declared.expr.Ident.{Ident}
use Rattle.c_parse.specs.declared.statement.Declarator.{Declarator}
use Rattle.c_parse.specs.declared.statement.Initial.{Initial}
use Rattle.c_parse.specs.declared.statement.Initial.TheVariants as initials
use Rattle.c_parse.specs.declared.unit.Body.{Body}
use Rattle.c_parse.specs.declared.unit.Item.{Item}
use Rattle.c_parse.specs.declared.unit.Item.TheVariants as items
use Rattle.c_parse.specs.declared.unit.Parameter.{Parameter}
use Rattle.cfa.specs.declared.parts.Variable.{Variable}
use Rattle.cfa.specs.declared.parts.VariablePlace.TheVariants as places
use Rattle.cfa.specs.Each.{matched}
use Rattle.cfa.specs.Kinds.{same_kind}
use Rattle.c_typed_trees.specs.declared.expression.Callee.{Callee}
use Rattle.c_typed_trees.specs.declared.unit.TypedFunction.{TypedFunction}
use Rattle.c_type_rules.specs.declared.scopes.Bound.{Bound}
use Rattle.c_type_rules.specs.declared.scopes.ParameterKind.{ParameterKind}
use Rattle.c_type_rules.specs.declared.scopes.Signature.{Signature}
use Rattle.c_type_rules.specs.declared.scopes.Meaning.{Meaning}
use Rattle.c_type_rules.specs.declared.scopes.Meaning.TheVariants as meanings
use Rattle.c_type_rules.specs.Rule.{At, Rule, behind, pure, ◌then◌, fault, expect, look, here, local, bind, in_scope, each, alone_in}
use Rattle.c_type_rules.specs.Scopes.{last_place, or_first, bound_at, newest}
use Rattle.c_type_rules.proofs.ScopeLaws.{placed}
use Rattle.c_types.specs.declared.parameters.Parameters.{Parameters}
use Rattle.c_types.specs.declared.program.Program.{Program}
use Rattle.c_types.specs.Declarations.{same_level, unused, variable_of, bound_as, bind_variable, is_array_length, length_if, length_within, length_at, cells_of, first_value, first_values, begun_global, global_rule, globals_rule, enumerated, bound_constant, constant_rule, constants_from}
use Rattle.c_types.specs.Functions.{signature_of, same_optional, same_result, same_parameter, same_signature, agrees, may_declare, is_defined, bound_function, declare, framed, body_rule, defined_rule, parameters_rule, function_rule}
use Rattle.c_types.specs.Units.{callee_of, item_rule, items_rule}
use Rattle.c_types_laws.proofs.typing_fits.Silent.{Silent, then_silent, pure_silent, fault_silent, expect_silent, constant_silent}
use Rattle.c_types_laws.proofs.typing_fits.Sound.{is_false, some_fault, left_empty, right_empty, Any}
use Rattle.c_types_laws.proofs.typing_fits.Fine.{same_is}

-- ---- the newest of a name

abbrev Inside : List Bound → Option ℕ → Type 0
Inside bs None = Unit {0}
Inside bs (Some i) = i < length bs

or_first_inside : (b : Bound) (bs : List Bound) (o : Option ℕ) (t : Bool) → Inside bs o → Inside (b ∷ bs) (or_first o t)
or_first_inside b bs (Some i) t h = omega arith
or_first_inside b bs None true h = omega arith
or_first_inside b bs None false h = tt

inside : (bs : List Bound) (w : List ℕ) → Inside bs (last_place bs w)
unfolding last_place
inside [] w = tt
inside (b ∷ bs) w = or_first_inside b bs (last_place bs w) (bytes_eq b.name w) (inside bs w)

get_front : (bs cs : List Bound) (i : ℕ) → i < length bs → slice_get (bs ++ cs) i ≡ slice_get bs i
get_front [] cs i h = absurd (omega arith)
get_front (b ∷ bs) cs zero h = refl
get_front (b ∷ bs) cs (suc i) h = get_front bs cs i (omega arith)

get_last : (bs : List Bound) (b : Bound) → slice_get (bs ++ b ∷ []) (length bs) ≡ Some b
get_last [] b = refl
get_last (x ∷ bs) b = get_last bs b

place_front : (bs cs : List Bound) (o : Option ℕ) → Inside bs o → bound_at (bs ++ cs) o ≡ bound_at bs o
place_front bs cs None h = refl
place_front bs cs (Some i) h = get_front bs cs i h

by_test : (w : List ℕ) (bs : List Bound) (b : Bound) (t : Bool) → bound_at (bs ++ b ∷ []) (cond t (Some (length bs)) (last_place bs w)) ≡ cond t (Some b) (newest w bs)
by_test w bs b true = get_last bs b
by_test w bs b false = place_front bs (b ∷ []) (last_place bs w) (inside bs w)

newest_more : (w : List ℕ) (bs : List Bound) (b : Bound) → newest w (bs ++ b ∷ []) ≡ cond (bytes_eq b.name w) (Some b) (newest w bs)
newest_more w bs b = ap (bound_at (bs ++ b ∷ [])) (placed w bs b) ∙ by_test w bs b (bytes_eq b.name w)

pub same_bytes : (v w : List ℕ) → bytes_eq v w ≡ true → v ≡ w
same_bytes v w h = (bytes_eq-Decides v w).0 h

pub bytes_same : (w : List ℕ) → bytes_eq w w ≡ true
bytes_same w = (bytes_eq-Decides w w).1 refl

-- ---- signatures

equal_options : (a b : Option ℕ) → IsTrue (same_optional a b) → a ≡ b
equal_options None None h = refl
equal_options (Some x) (Some y) h = ap Some ((Decides-eqb x y).0 h)
equal_options None (Some y) h = absurd (is_false h)
equal_options (Some x) None h = absurd (is_false h)

equal_results : (a b : Option Kind) → IsTrue (same_result a b) → a ≡ b
equal_results None None h = refl
equal_results (Some x) (Some y) h = ap Some (same_is x y h)
equal_results None (Some y) h = absurd (is_false h)
equal_results (Some x) None h = absurd (is_false h)

equal_parameter : (p q : ParameterKind) → IsTrue (same_parameter p q) → p ≡ q
equal_parameter p q h =
    let e = same_is p.kind q.kind (and_left (same_kind p.kind q.kind) (same_optional p.length q.length) h) in
    let f = equal_options p.length q.length (and_right (same_kind p.kind q.kind) (same_optional p.length q.length) h) in
    λ i. record { kind = e i; length = f i }

equal_parameters : (ps qs : List ParameterKind) → IsTrue (matched same_parameter ps qs) → ps ≡ qs
equal_parameters [] [] h = refl
equal_parameters [] (q ∷ qs) h = absurd (is_false h)
equal_parameters (p ∷ ps) [] h = absurd (is_false h)
equal_parameters (p ∷ ps) (q ∷ qs) h =
    let e = equal_parameter p q (and_left (same_parameter p q) (matched same_parameter ps qs) h) in
    let f = equal_parameters ps qs (and_right (same_parameter p q) (matched same_parameter ps qs) h) in
    λ i. e i ∷ f i

-- ---- what is known of a name

-- a function with this result and these parameters, that is defined if this is
pub record MeansLike (f g : Signature) : Type 0 where
  pub result : g.result ≡ f.result
  pub parameters : g.parameters ≡ f.parameters
  pub defined : f.defined ≡ true → g.defined ≡ true

abbrev pub Means : Signature → Meaning → Type 0
Means f (meanings.Variable v) = ⊥
Means f (meanings.Constant n) = ⊥
Means f (meanings.Function g) = MeansLike f g

abbrev pub KnownIs : Signature → Option Bound → Type 0
KnownIs f None = ⊥
KnownIs f (Some b) = (b.level ≡ 0) × Means f b.meaning

-- the name's newest binding is such a function of the file
abbrev pub Known : List Bound → List ℕ → Signature → Type 0
Known bs w f = KnownIs f (newest w bs)

both_mean : (f g : Signature) (m : Meaning) → Means f m → Means g m → (f.result ≡ g.result) × (f.parameters ≡ g.parameters)
both_mean f g (meanings.Variable v) h k = absurd h
both_mean f g (meanings.Constant n) h k = absurd h
both_mean f g (meanings.Function m) h k = (sym h.result ∙ k.result, sym h.parameters ∙ k.parameters)

both_are : (f g : Signature) (o : Option Bound) → KnownIs f o → KnownIs g o → (f.result ≡ g.result) × (f.parameters ≡ g.parameters)
both_are f g None h k = absurd h
both_are f g (Some b) h k = both_mean f g b.meaning h.1 k.1

-- a name is one function
pub known_once : (bs : List Bound) (w : List ℕ) (f g : Signature) → Known bs w f → Known bs w g → (f.result ≡ g.result) × (f.parameters ≡ g.parameters)
known_once bs w f g h k = both_are f g (newest w bs) h k

-- ---- rules that keep it

module _ (w : List ℕ) (f : Signature) where
  pub record Keeps {A : Type 0} (P : A → Type 0) (m : Rule A) : Type 0 where
    pub run : (at : At) → at.level ≡ 0 → Known at.bound w f → (m at).faults ≡ [] → P (m at).made × Known (at.bound ++ (m at).bound) w f

  pub then_keeps : {A B : Type 0} {P : A → Type 0} {Q : B → Type 0} {m : Rule A} {k : A → Rule B} → Keeps P m → ((x : A) → P x → Keeps Q (k x)) → Keeps Q (m then k)
  unfolding ◌then◌
  then_keeps {P = P} {Q = Q} {m = m} {k = k} h g = record {
    run = λ at level known none.
        let d = m at in
        let e = k d.made (behind at d) in
        let first : P d.made × Known (at.bound ++ d.bound) w f = h.run at level known (left_empty d.faults e.faults none) in
        let second : Q e.made × Known ((at.bound ++ d.bound) ++ e.bound) w f = (g d.made first.0).run (behind at d) level first.1 (right_empty d.faults e.faults none) in
        (second.0, subst (λ bs. Known bs w f) (append_assoc at.bound d.bound e.bound) second.1);
  }

  pub weaken_keeps : {A : Type 0} {P Q : A → Type 0} {m : Rule A} → ((x : A) → P x → Q x) → Keeps P m → Keeps Q m
  weaken_keeps g h = record { run = λ at level known none. (let r = h.run at level known none in (g _ r.0, r.1)) }

  -- a rule that adds no name
  pub silent_keeps : {A : Type 0} {P : A → Type 0} {m : Rule A} → ((at : At) → (m at).bound ≡ []) → ((at : At) → at.level ≡ 0 → Known at.bound w f → (m at).faults ≡ [] → P (m at).made) → Keeps P m
  silent_keeps quiet h = record {
    run = λ at level known none. (h at level known none, subst (λ bs. Known bs w f) (sym (ap (λ bs. at.bound ++ bs) (quiet at) ∙ append-nil at.bound)) known);
  }

  pub quiet_keeps : {A : Type 0} {m : Rule A} → Silent m → Keeps Any m
  quiet_keeps h = silent_keeps h.bound (λ at level known none. tt)

  pub pure_keeps : {A : Type 0} {P : A → Type 0} (x : A) → P x → Keeps P (pure x)
  unfolding pure
  pure_keeps x p = silent_keeps (λ at. refl) (λ at level known none. p)

  here_keeps : Keeps (λ level. level ≡ 0) here
  unfolding here
  here_keeps = silent_keeps (λ at. refl) (λ at level known none. level)

  look_keeps : (v : List ℕ) → Keeps (λ found. bytes_eq v w ≡ true → KnownIs f found) (look v)
  unfolding look
  look_keeps v = silent_keeps (λ at. refl) (λ at level known none same. subst (λ u. Known at.bound u f) (sym (same_bytes v w same)) known)

  expect_keeps : (code : ℕ) (span : Span) (b : Bool) → Keeps (λ (u : Unit {0}). IsTrue b) (expect code span b)
  unfolding expect fault
  expect_keeps code span true = pure_keeps tt refl
  expect_keeps code span false = silent_keeps (λ at. refl) (λ at level known none. absurd (some_fault (record { span = span; code = code }) none))

  bind_keeps : (b : Bound) → (bytes_eq b.name w ≡ true → KnownIs f (Some b)) → Keeps Any (bind b)
  unfolding bind
  bind_keeps b h = record { run = λ at level known none. (tt, subst (KnownIs f) (sym (newest_more w at.bound b)) (by (bytes_eq b.name w) h (newest w at.bound) known)) }
    where
      by : (t : Bool) → (t ≡ true → KnownIs f (Some b)) → (o : Option Bound) → KnownIs f o → KnownIs f (cond t (Some b) o)
      by true h o known = h refl
      by false h o known = known

  pub scope_keeps : {A : Type 0} (m : Rule A) → Keeps Any (in_scope m)
  unfolding in_scope
  scope_keeps m = silent_keeps (λ at. refl) (λ at level known none. tt)

  pub each_keeps : {X A : Type 0} (g : X → Rule (List A)) → ((x : X) → Keeps Any (g x)) → (xs : List X) → Keeps Any (each g xs)
  unfolding each
  each_keeps g h [] = pure_keeps [] tt
  each_keeps g h (x ∷ xs) = then_keeps (h x) (λ ys p. then_keeps (each_keeps g h xs) (λ zs q. pure_keeps (ys ++ zs) tt))

  pub alone_keeps : {A : Type 0} {m : Rule A} → Keeps Any m → Keeps Any (alone_in m)
  alone_keeps h = then_keeps h (λ x p. pure_keeps (x ∷ []) tt)

  -- ---- declarations of the file

  same_level_is : (level : ℕ) (found : Option Bound) → level ≡ 0 → KnownIs f found → same_level level found ≡ true
  same_level_is level None e h = absurd h
  same_level_is level (Some b) e h = (Decides-eqb b.level level).1 (h.0 ∙ sym e)

  not_named : (t : Bool) (level : ℕ) (found : Option Bound) → level ≡ 0 → (t ≡ true → KnownIs f found) → IsTrue (not (same_level level found)) → t ≡ false
  not_named false level found e h k = refl
  not_named true level found e h k = absurd (is_false (subst (λ b. IsTrue (not b)) (same_level_is level found e (h refl)) k))

  unused_keeps : (d : Ident) → Keeps (λ (u : Unit {0}). bytes_eq d.name w ≡ false) (unused d)
  unfolding unused
  unused_keeps d =
      then_keeps here_keeps (λ level e. then_keeps (look_keeps d.name) (λ found h. weaken_keeps (λ u k. not_named (bytes_eq d.name w) level found e h k) (expect_keeps 31 d.span (not (same_level level found)))))

  never : {P : Type 0} (t : Bool) → t ≡ false → t ≡ true → P
  never true e g = absurd (is_false (sym e))
  never false e g = absurd (is_false g)

  variable_keeps : (v : Variable) → bytes_eq v.name w ≡ false → Keeps Any (bind_variable v)
  unfolding bind_variable
  variable_keeps v h = then_keeps here_keeps (λ level e. bind_keeps (bound_as level v) (λ same. never (bytes_eq v.name w) h same))

  local_keeps : (cells : ℕ) → Keeps Any (local cells)
  unfolding local
  local_keeps cells = silent_keeps (λ at. refl) (λ at level known none. tt)

-- ---- what constants add

pub length_silent : (span : Span) (t : Option ExprTree) → Silent (length_at span t)
unfolding length_at
length_silent span None = pure_silent None
length_silent span (Some t) = then_silent (constant_silent None t) within
  where
    if_silent : (m : ℕ) (b : Bool) → Silent (length_if span m b)
    if_silent m true = pure_silent _
    if_silent m false = fault_silent 34 span _

    within : (o : Option ℕ) → Silent (length_within span o)
    within None = pure_silent _
    within (Some m) = if_silent m (is_array_length m)

pub first_silent : (kind : Kind) (t : ExprTree) → Silent (first_value kind t)
unfolding first_value
first_silent kind t = then_silent (constant_silent (Some kind) t) (λ v. pure_silent _)

pub each_silent : {X A : Type 0} (g : X → Rule (List A)) → ((x : X) → Silent (g x)) → (xs : List X) → Silent (each g xs)
unfolding each
each_silent g h [] = pure_silent _
each_silent g h (x ∷ xs) = then_silent (h x) (λ ys. then_silent (each_silent g h xs) (λ zs. pure_silent _))

pub firsts_silent : (kind : Kind) (ts : List ExprTree) → Silent (first_values kind ts)
unfolding first_values
firsts_silent kind ts = each_silent (λ t. alone_in (first_value kind t)) (λ t. then_silent (first_silent kind t) (λ v. pure_silent _)) ts

pub begun_silent : (d : Ident) (kind : Kind) (length : Option ℕ) (first : Option Initial) → Silent (begun_global d kind length first)
begun_silent d kind None None = pure_silent _
begun_silent d kind None (Some (initials.One t)) = then_silent (first_silent kind t) (λ v. pure_silent _)
begun_silent d kind None (Some (initials.List ts)) = then_silent (expect_silent 33 d.span false) (λ u. then_silent (firsts_silent kind ts) (λ vs. pure_silent _))
begun_silent d kind (Some n) None = pure_silent _
begun_silent d kind (Some n) (Some (initials.One t)) = then_silent (expect_silent 33 d.span false) (λ u. then_silent (first_silent kind t) (λ v. pure_silent _))
begun_silent d kind (Some n) (Some (initials.List ts)) = then_silent (expect_silent 34 d.span _) (λ u. then_silent (firsts_silent kind ts) (λ vs. pure_silent _))

module _ (w : List ℕ) (f : Signature) where
  global_keeps : (kind : Kind) (d : Declarator) → Keeps w f Any (global_rule kind d)
  unfolding global_rule
  global_keeps kind d =
      then_keeps w f (unused_keeps w f d.name) (λ u h. then_keeps w f (quiet_keeps w f (length_silent d.name.span d.length)) (λ length p. then_keeps w f (local_keeps w f (cells_of length)) (λ cell q.
      then_keeps w f (quiet_keeps w f (expect_silent 37 d.name.span _)) (λ v r. then_keeps w f (variable_keeps w f (variable_of d.name.name kind length (places.Global cell)) h) (λ x s.
      then_keeps w f (quiet_keeps w f (begun_silent d.name kind length d.first)) (λ first t. pure_keeps w f _ tt))))))

  enumerated_silent : (next : ℕ) (t : Option ExprTree) → Silent (enumerated next t)
  enumerated_silent next None = pure_silent _
  enumerated_silent next (Some t) = first_silent _ t

  constant_keeps : (next : ℕ) (c : Ident × Option ExprTree) → Keeps w f Any (constant_rule next c)
  unfolding constant_rule
  constant_keeps next c =
      then_keeps w f (quiet_keeps w f (enumerated_silent next c.1)) (λ v p. then_keeps w f (unused_keeps w f c.0) (λ u h. then_keeps w f (here_keeps w f) (λ level e.
      then_keeps w f (bind_keeps w f (bound_constant c.0.name level v) (λ same. never w f (bytes_eq c.0.name w) h same)) (λ x q. pure_keeps w f _ tt))))

  constants_keep : (next : ℕ) (cs : List (Ident × Option ExprTree)) → Keeps w f Any (constants_from next cs)
  unfolding constants_from
  constants_keep next [] = pure_keeps w f tt tt
  constants_keep next (c ∷ cs) = then_keeps w f (constant_keeps next c) (λ more p. constants_keep more cs)

  -- ---- functions

  declared_again : (s : Signature) (m : Meaning) (level : ℕ) (d : Ident) (b : Bound) → Means f m → IsTrue (agrees s m) → b.meaning ≡ m → Means f (bound_function d.name level s (Some b)).meaning
  declared_again s (meanings.Variable v) level d b h k e = absurd h
  declared_again s (meanings.Constant n) level d b h k e = absurd h
  declared_again s (meanings.Function g) level d b h k e =
      let same = and_left (same_signature s g) (not (s.defined && g.defined)) k in
      let results = equal_results s.result g.result (and_left (same_result s.result g.result) (matched same_parameter s.parameters g.parameters) same) in
      let parameters = equal_parameters s.parameters g.parameters (and_right (same_result s.result g.result) (matched same_parameter s.parameters g.parameters) same) in
      record {
        result = results ∙ h.result;
        parameters = parameters ∙ h.parameters;
        defined = λ t. last s.defined (is_defined b.meaning) (ap is_defined e ∙ h.defined t);
      }
    where
      last : (a b : Bool) → b ≡ true → (a || b) ≡ true
      last true b h = refl
      last false b h = h

  again : (s : Signature) (found : Option Bound) (level : ℕ) (d : Ident) → level ≡ 0 → KnownIs f found → IsTrue (may_declare s found) → KnownIs f (Some (bound_function d.name level s found))
  again s None level d e h k = absurd h
  again s (Some b) level d e h k = (e, declared_again s b.meaning level d b h.1 k refl)

  not_twice : (s : Signature) (m : Meaning) → Means f m → IsTrue (agrees s m) → s.defined ≡ true → f.defined ≡ true → ⊥
  not_twice s (meanings.Variable v) h k a b = h
  not_twice s (meanings.Constant n) h k a b = h
  not_twice s (meanings.Function g) h k a b =
      is_false (subst (λ (x : Bool). IsTrue (not x)) (and_both s.defined g.defined a (h.defined b)) (and_right (same_signature s g) (not (s.defined && g.defined)) k))

  once : (s : Signature) (found : Option Bound) → KnownIs f found → IsTrue (may_declare s found) → s.defined ≡ true → f.defined ≡ true → ⊥
  once s None h k a b = h
  once s (Some x) h k a b = not_twice s x.meaning h.1 k a b

  -- a function that is defined isn't defined again
  pub declare_keeps : (d : Ident) (s : Signature) → Keeps w f (λ (u : Unit {0}). bytes_eq d.name w ≡ true → s.defined ≡ true → f.defined ≡ true → ⊥) (declare d s)
  unfolding declare
  declare_keeps d s =
      then_keeps w f (look_keeps w f d.name) (λ found h. then_keeps w f (expect_keeps w f 31 d.span (may_declare s found)) (λ u k. then_keeps w f (here_keeps w f) (λ level e.
      weaken_keeps w f (λ v p same. once s found (h same) k) (bind_keeps w f (bound_function d.name level s found) (λ same. again s found level d e (h same) k)))))

  pub defined_bound : (span : Span) (result : Option Kind) (d : Ident) (ps : Parameters) (body : Option Body) (at : At) → (defined_rule span result d ps body at).bound ≡ []
  unfolding ◌then◌ pure framed body_rule in_scope
  defined_bound span result d ps None at = refl
  defined_bound span result d ps (Some b) at = refl

  pub function_keeps : (callee : Option Callee) (span : Span) (result : Option Kind) (d : Ident) (ps : List Parameter) (body : Option Body)
      → Keeps w f (λ (fs : List TypedFunction). bytes_eq d.name w ≡ true → is_some body ≡ true → f.defined ≡ true → ⊥) (function_rule callee span result d ps body)
  unfolding function_rule
  function_keeps callee span result d ps body =
      then_keeps w f (scope_keeps w f (parameters_rule (is_some body) ps)) (λ vs p. then_keeps w f (declare_keeps d (signature_of callee (is_some body) result vs)) (λ u h.
      silent_keeps w f (defined_bound span result d vs body) (λ at level known none. h)))

  pub item_keeps : (p : Program) (i : Item) → Keeps w f Any (item_rule p i)
  unfolding item_rule globals_rule
  item_keeps p (items.Function span result d ps body) = then_keeps w f (function_keeps (callee_of p d.name) span result d ps body) (λ fs h. pure_keeps w f _ tt)
  item_keeps p (items.Variables span kind list) = then_keeps w f (each_keeps w f (λ d. alone_in (global_rule kind d)) (λ d. alone_keeps w f (global_keeps kind d)) list) (λ gs h. pure_keeps w f _ tt)
  item_keeps p (items.Constants span list) = then_keeps w f (constants_keep 0 list) (λ u h. pure_keeps w f _ tt)

  pub items_keep : (p : Program) (is : List Item) → Keeps w f Any (items_rule p is)
  unfolding items_rule
  items_keep p [] = pure_keeps w f _ tt
  items_keep p (i ∷ is) = then_keeps w f (item_keeps p i) (λ x h. then_keeps w f (items_keep p is) (λ y k. pure_keeps w f _ tt))

-- ---- a function is known from its declaration on

pub declared_at : (d : Ident) (s : Signature) (at : At) → (declare d s at).bound ≡ bound_function d.name at.level s (newest d.name at.bound) ∷ []
unfolding declare ◌then◌ look here bind
declared_at d s at = ap (λ bs. bs ++ bound_function d.name at.level s (newest d.name at.bound) ∷ []) ((expect_silent 31 d.span (may_declare s (newest d.name at.bound))).bound _)

first_or : (a b : Bool) → a ≡ true → (a || b) ≡ true
first_or true b h = refl
first_or false b h = absurd (is_false h)

pub declares : (d : Ident) (s : Signature) (at : At) → at.level ≡ 0 → Known (at.bound ++ (declare d s at).bound) d.name s
declares d s at level =
    let b = bound_function d.name at.level s (newest d.name at.bound) in
    let known : KnownIs s (Some b) = (level, record { result = refl; parameters = refl; defined = λ t. first_or s.defined _ t }) in
    subst (λ bs. Known (at.bound ++ bs) d.name s) (sym (declared_at d s at))
    (subst (KnownIs s) (sym (newest_more d.name at.bound b ∙ ap (λ t. cond t (Some b) (newest d.name at.bound)) (bytes_same d.name))) known)
