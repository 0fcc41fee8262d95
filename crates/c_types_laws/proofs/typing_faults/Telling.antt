-- Rules whose faults have codes of typing and places that pass a test.
use Rattle.std.proofs.Common.{ℕ, ◌+◌, Bool, true, false, List, [], ◌∷◌, ◌++◌, map, Option, inl, inr, sym, subst}
use Rattle.std.specs.Prelude.{IsTrue}
use Rattle.std.specs.List.{AllByRecursion, list_all}
use Rattle.fq_core.specs.declared.span.Span.{Span}
use Rattle.c_values.proofs.Fitting.{and_left, and_right}
use Rattle.c_type_rules.specs.declared.faults.Found.{Found}
use Rattle.c_type_rules.specs.declared.scopes.Bound.{Bound}
use Rattle.c_type_rules.specs.Faults.{Among}
use Rattle.c_type_rules.specs.Rule.{At, Rule, behind, pure, ◌then◌, fault, expect, look, is_label, is_case, here, temporary, local, bind, bind_label, bind_case, in_scope, in_switch, uncounted, each, alone_in}
use Rattle.c_types_laws.specs.typing_faults.Laws.{IsTypingCode}

pub all_append : {A : Type 0} (P : A → Type 0) (xs ys : List A) → AllByRecursion P xs → AllByRecursion P ys → AllByRecursion P (xs ++ ys)
all_append P [] ys h k = k
all_append P (x ∷ xs) ys h k = (h.0, all_append P xs ys h.1 k)

pub test_all : {A : Type 0} (f : A → Bool) (xs : List A) → IsTrue (list_all f xs) → AllByRecursion (λ x. IsTrue (f x)) xs
test_all f [] h = tt
test_all f (x ∷ xs) h = (and_left (f x) (list_all f xs) h, test_all f xs (and_right (f x) (list_all f xs) h))

pub all_mapped : {A B : Type 0} (P : B → Type 0) (f : A → B) → ((x : A) → P (f x)) → (xs : List A) → AllByRecursion P (map f xs)
all_mapped P f h [] = tt
all_mapped P f h (x ∷ xs) = (h x, all_mapped P f h xs)

module _ (place : Span → Bool) where
  abbrev pub Lies : Found → Type 0
  Lies f = IsTypingCode f.code × IsTrue (place f.span)

  pub among_all : (f : Found) (fs : List Found) → AllByRecursion Lies fs → Among f fs → Lies f
  among_all f [] h a = absurd a
  among_all f (g ∷ gs) h (inl e) = subst Lies (sym e) h.0
  among_all f (g ∷ gs) h (inr a) = among_all f gs h.1 a

  -- each fault of a rule, wherever it is used
  pub record Tells {A : Type 0} (m : Rule A) : Type 0 where
    pub faults : (at : At) → AllByRecursion Lies (m at).faults

  pub then_tells : {A B : Type 0} {m : Rule A} {k : A → Rule B} → Tells m → ((x : A) → Tells (k x)) → Tells (m then k)
  unfolding ◌then◌
  then_tells {m = m} {k = k} h g = record {
    faults = λ at. all_append Lies (m at).faults (k (m at).made (behind at (m at))).faults (h.faults at) ((g (m at).made).faults (behind at (m at)));
  }

  pub pure_tells : {A : Type 0} (x : A) → Tells (pure x)
  unfolding pure
  pure_tells x = record { faults = λ at. tt }

  pub fault_tells : {A : Type 0} (code : ℕ) (span : Span) (x : A) → IsTypingCode code → IsTrue (place span) → Tells (fault code span x)
  unfolding fault
  fault_tells code span x c s = record { faults = λ at. ((c, s), tt) }

  pub expect_tells : (code : ℕ) (span : Span) (b : Bool) → IsTypingCode code → IsTrue (place span) → Tells (expect code span b)
  unfolding expect
  expect_tells code span true c s = pure_tells tt
  expect_tells code span false c s = fault_tells code span tt c s

  pub look_tells : (w : List ℕ) → Tells (look w)
  unfolding look
  look_tells w = record { faults = λ at. tt }

  pub is_label_tells : (w : List ℕ) → Tells (is_label w)
  unfolding is_label
  is_label_tells w = record { faults = λ at. tt }

  pub is_case_tells : (v : Option ℕ) → Tells (is_case v)
  unfolding is_case
  is_case_tells v = record { faults = λ at. tt }

  pub here_tells : Tells here
  unfolding here
  here_tells = record { faults = λ at. tt }

  pub temporary_tells : Tells temporary
  unfolding temporary
  temporary_tells = record { faults = λ at. tt }

  pub local_tells : (cells : ℕ) → Tells (local cells)
  unfolding local
  local_tells cells = record { faults = λ at. tt }

  pub bind_tells : (b : Bound) → Tells (bind b)
  unfolding bind
  bind_tells b = record { faults = λ at. tt }

  pub bind_label_tells : (w : List ℕ) → Tells (bind_label w)
  unfolding bind_label
  bind_label_tells w = record { faults = λ at. tt }

  pub bind_case_tells : (v : Option ℕ) → Tells (bind_case v)
  unfolding bind_case
  bind_case_tells v = record { faults = λ at. tt }

  module _ {A : Type 0} {m : Rule A} (h : Tells m) where
    pub scope_tells : Tells (in_scope m)
    unfolding in_scope
    scope_tells = record { faults = λ at. h.faults (record { bound = at.bound; labels = at.labels; cases = at.cases; level = at.level + 1; local = at.local; temporary = at.temporary }) }

    pub switch_tells : Tells (in_switch m)
    unfolding in_switch
    switch_tells = record { faults = λ at. h.faults (record { bound = at.bound; labels = at.labels; cases = []; level = at.level; local = at.local; temporary = at.temporary }) }

    pub uncounted_tells : Tells (uncounted m)
    unfolding uncounted
    uncounted_tells = record { faults = λ at. h.faults (record { bound = at.bound; labels = at.labels; cases = at.cases; level = at.level; local = at.local; temporary = 0 }) }

    pub alone_tells : Tells (alone_in m)
    alone_tells = then_tells h (λ x. pure_tells (x ∷ []))

  pub each_tells : {X A : Type 0} {Q : X → Type 0} (f : X → Rule (List A)) → ((x : X) → Q x → Tells (f x)) → (xs : List X) → AllByRecursion Q xs → Tells (each f xs)
  unfolding each
  each_tells f h [] ps = pure_tells []
  each_tells f h (x ∷ xs) ps = then_tells (h x ps.0) (λ ys. then_tells (each_tells f h xs ps.1) (λ zs. pure_tells (ys ++ zs)))
