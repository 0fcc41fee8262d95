-- Rules that make what fits, where nothing is wrong and the frame has room: each name that is in scope fits, and so does
-- what is made.
use Rattle.std.proofs.Common.{◌≡◌, ℕ, zero, suc, ◌+◌, ◌<◌, ◌≤◌, Bool, true, false, List, [], ◌∷◌, ◌++◌, map, length, Option, Some, None, refl, sym, subst, arith}
use Rattle.std.specs.Prelude.{slice_get, IsTrue, nat_le}
use Rattle.std.specs.List.{AllByRecursion, list_all}
use Rattle.std.proofs.lemmas.Bool.{leb-true, le-leb}
use Rattle.fq_core.specs.declared.span.Span.{Span}
use Rattle.c_values.specs.Kind.{int, IsKind, is_kind, IsValue}
use Rattle.c_values.proofs.Fitting.{and_left, and_right, and_both}
use Rattle.cfa.specs.declared.parts.InputFunction.{InputFunction}
use Rattle.cfa.specs.declared.parts.VariablePlace.{VariablePlace}
use Rattle.cfa.specs.declared.parts.VariablePlace.TheVariants as places
use Rattle.cfa.specs.Graph.{variable_fits, result_kind_fits}
use Rattle.cfa.specs.Rules.{cell_count}
use Rattle.c_typed_trees.specs.declared.expression.Callee.{Callee}
use Rattle.c_typed_trees.specs.declared.expression.Callee.TheVariants as callees
use Rattle.c_typed_trees.specs.declared.unit.TypedFunction.{TypedFunction}
use Rattle.c_typed_trees.specs.Fitting.{Nameable, is_variable}
use Rattle.c_type_rules.specs.declared.faults.Found.{Found}
use Rattle.c_type_rules.specs.declared.scopes.Bound.{Bound}
use Rattle.c_type_rules.specs.declared.scopes.ParameterKind.{ParameterKind}
use Rattle.c_type_rules.specs.declared.scopes.Signature.{Signature}
use Rattle.c_type_rules.specs.declared.scopes.Meaning.{Meaning}
use Rattle.c_type_rules.specs.declared.scopes.Meaning.TheVariants as meanings
use Rattle.c_type_rules.specs.Rule.{At, Done, Rule, behind, pure, ◌then◌, fault, expect, look, is_label, is_case, here, temporary, local, bind, bind_label, bind_case, in_scope, in_switch, uncounted, each, alone_in}
use Rattle.c_type_rules.specs.Scopes.{bound_at}
use Rattle.c_types.specs.Functions.{taken}
use Rattle.c_types_laws.proofs.typing_fits.Silent.{Silent}

-- ---- lists

pub left_empty : {A : Type 0} (xs ys : List A) → xs ++ ys ≡ [] → xs ≡ []
left_empty [] ys e = refl
left_empty (x ∷ xs) ys e = absurd (cc)

pub right_empty : {A : Type 0} (xs ys : List A) → xs ++ ys ≡ [] → ys ≡ []
right_empty [] ys e = e
right_empty (x ∷ xs) ys e = absurd (cc)

pub some_fault : (f : Found) → f ∷ [] ≡ [] → ⊥
some_fault f e = cc

pub is_false : IsTrue false → ⊥
is_false e = cc

pub all_append : {A : Type 0} (P : A → Type 0) (xs ys : List A) → AllByRecursion P xs → AllByRecursion P ys → AllByRecursion P (xs ++ ys)
all_append P [] ys h k = k
all_append P (x ∷ xs) ys h k = (h.0, all_append P xs ys h.1 k)

pub all_test : {A : Type 0} (f : A → Bool) (xs : List A) → AllByRecursion (λ x. IsTrue (f x)) xs → IsTrue (list_all f xs)
all_test f [] h = refl
all_test f (x ∷ xs) h = and_both (f x) (list_all f xs) h.0 (all_test f xs h.1)

pub test_all : {A : Type 0} (f : A → Bool) (xs : List A) → IsTrue (list_all f xs) → AllByRecursion (λ x. IsTrue (f x)) xs
test_all f [] h = tt
test_all f (x ∷ xs) h = (and_left (f x) (list_all f xs) h, test_all f xs (and_right (f x) (list_all f xs) h))

pub all_weaken : {A : Type 0} (P Q : A → Type 0) → ((x : A) → P x → Q x) → (xs : List A) → AllByRecursion P xs → AllByRecursion Q xs
all_weaken P Q f [] h = tt
all_weaken P Q f (x ∷ xs) h = (f x h.0, all_weaken P Q f xs h.1)

-- a list is the rest of another from a place on
abbrev pub StandsFrom : {A : Type 0} → List A → ℕ → List A → Type 0
StandsFrom all i rest = (j : ℕ) → slice_get all (i + j) ≡ slice_get rest j

-- ---- what names stand for

abbrev pub DefinedAs : Signature → Option TypedFunction → Type 0
DefinedAs f None = ⊥
DefinedAs f (Some g) = (g.result ≡ f.result) × (map taken g.parameters ≡ f.parameters)

abbrev pub InputAs : Signature → Option InputFunction → Type 0
InputAs f None = ⊥
InputAs f (Some g) = (Some g.result ≡ f.result) × (f.parameters ≡ [])

abbrev pub CalleeIs : List TypedFunction → List InputFunction → Signature → Option Callee → Type 0
CalleeIs functions inputs f None = Unit {0}
CalleeIs functions inputs f (Some (callees.Defined i)) = DefinedAs f (slice_get functions i)
CalleeIs functions inputs f (Some (callees.Input i)) = InputAs f (slice_get inputs i)

-- a function is called as it is defined, and its kinds are kinds
pub record SignatureFits (functions : List TypedFunction) (inputs : List InputFunction) (f : Signature) : Type 0 where
  pub callee : CalleeIs functions inputs f f.callee
  pub result : IsTrue (result_kind_fits f.result)
  pub parameters : AllByRecursion (λ (p : ParameterKind). IsKind p.kind) f.parameters

abbrev pub MeaningFits : Nameable → Meaning → Type 0
MeaningFits n (meanings.Variable v) = IsTrue (is_variable n v)
MeaningFits n (meanings.Constant k) = IsValue int k
MeaningFits n (meanings.Function f) = SignatureFits n.functions n.inputs f

abbrev pub NamesFit : Nameable → List Bound → Type 0
NamesFit n bs = AllByRecursion (λ (b : Bound). MeaningFits n b.meaning) bs

abbrev pub FoundFits : Nameable → Option Bound → Type 0
FoundFits n None = Unit {0}
FoundFits n (Some b) = MeaningFits n b.meaning

module _ (n : Nameable) where
  pub names_append : (xs ys : List Bound) → NamesFit n xs → NamesFit n ys → NamesFit n (xs ++ ys)
  names_append = all_append (λ (b : Bound). MeaningFits n b.meaning)

  at_place : (bs : List Bound) (i : ℕ) → NamesFit n bs → FoundFits n (slice_get bs i)
  at_place [] i h = tt
  at_place (b ∷ bs) zero h = h.0
  at_place (b ∷ bs) (suc i) h = at_place bs i h.1

  at_any : (bs : List Bound) (o : Option ℕ) → NamesFit n bs → FoundFits n (bound_at bs o)
  at_any bs None h = tt
  at_any bs (Some i) h = at_place bs i h

-- ---- rooms

-- the same names in a frame of more cells
abbrev pub roomier : ℕ → Nameable → Nameable
roomier cells n = record {
  files = n.files;
  functions = n.functions;
  inputs = n.inputs;
  room = record { globals = n.room.globals; cells = n.room.cells + cells; arrays = n.room.arrays };
}

le_more : (a b c : ℕ) → b ≤ c → IsTrue (nat_le a b) → IsTrue (nat_le a c)
le_more a b c h e = le-leb a c (let l : a ≤ b = leb-true a b e in omega arith)

roomier_place : (cells : ℕ) (n : Nameable) (length : Option ℕ) (place : VariablePlace) → IsTrue (variable_fits n.room length place) → IsTrue (variable_fits (roomier cells n).room length place)
roomier_place cells n length (places.Global first) h = h
roomier_place cells n length (places.Local first) h = le_more (first + cell_count length) n.room.cells (n.room.cells + cells) (omega arith) h
roomier_place cells n length (places.Lent parameter) h = h

roomier_meaning : (cells : ℕ) (n : Nameable) (m : Meaning) → MeaningFits n m → MeaningFits (roomier cells n) m
roomier_meaning cells n (meanings.Variable v) h =
    and_both (is_kind v.kind) _ (and_left (is_kind v.kind) (variable_fits n.room v.length v.place) h) (roomier_place cells n v.length v.place (and_right (is_kind v.kind) (variable_fits n.room v.length v.place) h))
roomier_meaning cells n (meanings.Constant k) h = h
roomier_meaning cells n (meanings.Function f) h = h

pub roomier_names : (cells : ℕ) (n : Nameable) (bs : List Bound) → NamesFit n bs → NamesFit (roomier cells n) bs
roomier_names cells n bs h = all_weaken (λ (b : Bound). MeaningFits n b.meaning) (λ (b : Bound). MeaningFits (roomier cells n) b.meaning) (λ b k. roomier_meaning cells n b.meaning k) bs h

-- ---- rules

-- the cells that locals, and temporaries, lie below
pub record Limits : Type 0 where
  pub locals : ℕ
  pub temporaries : ℕ

pub record Proved {A : Type 0} (n : Nameable) (P : A → Type 0) (d : Done A) : Type 0 where
  pub made : P d.made
  pub bound : NamesFit n d.bound

pub record Sound {A : Type 0} (n : Nameable) (l : Limits) (P : A → Type 0) (m : Rule A) : Type 0 where
  pub run : (at : At) → NamesFit n at.bound → (m at).faults ≡ [] → at.local + (m at).locals ≤ l.locals → at.temporary + (m at).temporaries ≤ l.temporaries → Proved n P (m at)

abbrev pub Any : {A : Type 0} → A → Type 0
Any x = Unit {0}

module _ {A B : Type 0} {n : Nameable} {l : Limits} {P : A → Type 0} {Q : B → Type 0} {m : Rule A} {k : A → Rule B} where
  pub then_sound : Sound n l P m → ((x : A) → P x → Sound n l Q (k x)) → Sound n l Q (m then k)
  unfolding ◌then◌
  then_sound h g = record {
    run = λ at names none locals temporaries.
        let d = m at in
        let e = k d.made (behind at d) in
        let first : Proved n P d = h.run at names (left_empty d.faults e.faults none) (omega arith) (omega arith) in
        let second : Proved n Q e = (g d.made first.made).run (behind at d) (names_append n at.bound d.bound names first.bound) (right_empty d.faults e.faults none) (omega arith) (omega arith) in
        record { made = second.made; bound = names_append n d.bound e.bound first.bound second.bound };
  }

module _ {n : Nameable} {l : Limits} where
  pub pure_sound : {A : Type 0} {P : A → Type 0} (x : A) → P x → Sound n l P (pure x)
  unfolding pure
  pure_sound x p = record { run = λ at names none locals temporaries. record { made = p; bound = tt } }

  pub fault_sound : {A : Type 0} {P : A → Type 0} (code : ℕ) (span : Span) (x : A) → Sound n l P (fault code span x)
  unfolding fault
  fault_sound code span x = record { run = λ at names none locals temporaries. absurd (some_fault (record { span = span; code = code }) none) }

  pub expect_sound : (code : ℕ) (span : Span) (b : Bool) → Sound n l (λ (u : Unit {0}). IsTrue b) (expect code span b)
  unfolding expect
  expect_sound code span true = pure_sound tt refl
  expect_sound code span false = fault_sound code span tt

  pub look_sound : (w : List ℕ) → Sound n l (FoundFits n) (look w)
  unfolding look
  look_sound w = record { run = λ at names none locals temporaries. record { made = at_any n at.bound _ names; bound = tt } }

  pub is_label_sound : (w : List ℕ) → Sound n l Any (is_label w)
  unfolding is_label
  is_label_sound w = record { run = λ at names none locals temporaries. record { made = tt; bound = tt } }

  pub is_case_sound : (v : Option ℕ) → Sound n l Any (is_case v)
  unfolding is_case
  is_case_sound v = record { run = λ at names none locals temporaries. record { made = tt; bound = tt } }

  pub here_sound : Sound n l Any here
  unfolding here
  here_sound = record { run = λ at names none locals temporaries. record { made = tt; bound = tt } }

  pub temporary_sound : Sound n l (λ cell. cell < l.temporaries) temporary
  unfolding temporary
  temporary_sound = record { run = λ at names none locals temporaries. record { made = omega arith; bound = tt } }

  pub local_sound : (cells : ℕ) → Sound n l (λ cell. cell + cells ≤ l.locals) (local cells)
  unfolding local
  local_sound cells = record { run = λ at names none locals temporaries. record { made = locals; bound = tt } }

  pub bind_sound : (b : Bound) → MeaningFits n b.meaning → Sound n l Any (bind b)
  unfolding bind
  bind_sound b h = record { run = λ at names none locals temporaries. record { made = tt; bound = (h, tt) } }

  pub bind_label_sound : (w : List ℕ) → Sound n l Any (bind_label w)
  unfolding bind_label
  bind_label_sound w = record { run = λ at names none locals temporaries. record { made = tt; bound = tt } }

  pub bind_case_sound : (v : Option ℕ) → Sound n l Any (bind_case v)
  unfolding bind_case
  bind_case_sound v = record { run = λ at names none locals temporaries. record { made = tt; bound = tt } }

module _ {A : Type 0} {n : Nameable} {l : Limits} {P : A → Type 0} {m : Rule A} (h : Sound n l P m) where
  pub scope_sound : Sound n l P (in_scope m)
  unfolding in_scope
  scope_sound = record {
    run = λ at names none locals temporaries.
        let d : Proved n P (m (record { bound = at.bound; labels = at.labels; cases = at.cases; level = at.level + 1; local = at.local; temporary = at.temporary })) = h.run _ names none locals temporaries in
        record { made = d.made; bound = tt };
  }

  pub switch_sound : Sound n l P (in_switch m)
  unfolding in_switch
  switch_sound = record {
    run = λ at names none locals temporaries.
        let d : Proved n P (m (record { bound = at.bound; labels = at.labels; cases = []; level = at.level; local = at.local; temporary = at.temporary })) = h.run _ names none locals temporaries in
        record { made = d.made; bound = d.bound };
  }

-- what has no temporaries is read in a frame that has room for its own
pub uncounted_sound : {A : Type 0} {n : Nameable} {l : Limits} {P : A → Type 0} {m : Rule A} → Silent m
    → ((cells : ℕ) → Sound (roomier cells n) (record { locals = l.locals; temporaries = (roomier cells n).room.cells }) P m) → Sound n l P (uncounted m)
unfolding uncounted
uncounted_sound {n = n} {l = l} {P = P} {m = m} quiet h = record {
  run = λ at names none locals temporaries.
      let within : At = record { bound = at.bound; labels = at.labels; cases = at.cases; level = at.level; local = at.local; temporary = 0 } in
      let cells = (m within).temporaries in
      let d : Proved (roomier cells n) P (m within) = (h cells).run within (roomier_names cells n at.bound names) none locals (omega arith) in
      record { made = d.made; bound = subst (NamesFit n) (sym (quiet.bound within)) tt };
}

pub alone_sound : {A : Type 0} {n : Nameable} {l : Limits} {Q : A → Type 0} {m : Rule A} → Sound n l Q m → Sound n l (AllByRecursion Q) (alone_in m)
alone_sound h = then_sound h (λ x q. pure_sound _ (q, tt))

pub each_sound : {X A : Type 0} {n : Nameable} {l : Limits} {P : X → Type 0} {Q : A → Type 0} (f : X → Rule (List A)) → ((x : X) → P x → Sound n l (AllByRecursion Q) (f x))
    → (xs : List X) → AllByRecursion P xs → Sound n l (AllByRecursion Q) (each f xs)
unfolding each
each_sound f h [] ps = pure_sound [] tt
each_sound {Q = Q} f h (x ∷ xs) ps = then_sound (h x ps.0) (λ ys p. then_sound (each_sound f h xs ps.1) (λ zs q. pure_sound _ (all_append Q ys zs p q)))

-- what is known of what a rule makes where nothing is wrong in it
pub also_sound : {A : Type 0} {n : Nameable} {l : Limits} {P Q : A → Type 0} {m : Rule A} → Sound n l P m → ((at : At) → (m at).faults ≡ [] → Q (m at).made) → Sound n l (λ x. P x × Q x) m
also_sound h q = record { run = λ at names none locals temporaries. (let d = h.run at names none locals temporaries in record { made = (d.made, q at none); bound = d.bound }) }

pub weaken : {A : Type 0} {n : Nameable} {l : Limits} {P Q : A → Type 0} {m : Rule A} → ((x : A) → P x → Q x) → Sound n l P m → Sound n l Q m
weaken f h = record { run = λ at names none locals temporaries. (let d = h.run at names none locals temporaries in record { made = f _ d.made; bound = d.bound }) }
