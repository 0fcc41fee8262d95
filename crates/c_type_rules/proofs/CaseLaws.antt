-- The values of `case`, and the set of them.
use Rattle.std.proofs.Common.{◌≡◌, ℕ, Bool, true, false, List, [], ◌∷◌, ◌++◌, Option, Some, None, refl, ap, sym, ◌∙◌, nat_cmp, arith}
use Rattle.std.proofs.lemmas.Bool.Decides.{nat_tests}
use Rattle.std.specs.Prelude.{◌||◌, ◌==◌, cond}
use Rattle.std.specs.Ordering.{is_eq}
use Rattle.std.specs.BTreeSet.{BTreeSet, contains, Updates}
use Rattle.c_type_rules.specs.Scopes.{same_case, has_case}
use Rattle.c_type_rules.specs.Indexed.{AreCases}

or_more : (a b c : Bool) → (a || (b || c)) ≡ ((a || b) || c)
or_more true b c = refl
or_more false b c = refl

or_false : (a : Bool) → (a || false) ≡ a
or_false true = refl
or_false false = refl

or_comm : (a b : Bool) → (a || b) ≡ (b || a)
or_comm true true = refl
or_comm true false = refl
or_comm false true = refl
or_comm false false = refl

case_more : (vs : List (Option ℕ)) (v w : Option ℕ) → has_case (vs ++ v ∷ []) w ≡ (has_case vs w || same_case v w)
unfolding has_case
case_more [] v w = or_false (same_case v w)
case_more (x ∷ vs) v w = ap (λ b. same_case x w || b) (case_more vs v w) ∙ or_more (same_case x w) (has_case vs w) (same_case v w)

pub no_cases : (list : List (Option ℕ)) (values : BTreeSet ℕ) → values.keys ≡ [] → list ≡ [] → AreCases list false values
unfolding has_case
no_cases list values e f = rw f (record { default = refl; found = λ v. rw e refl })

pub default_more : (list all : List (Option ℕ)) (d : Bool) (values : BTreeSet ℕ) → AreCases list d values → all ≡ list ++ None ∷ [] → AreCases all true values
default_more list all d values h e = record {
  default = sym (ap (λ l. has_case l None) e ∙ case_more list None None ∙ or_comm (has_case list None) true);
  found = λ v. h.found v ∙ sym (ap (λ l. has_case l (Some v)) e ∙ case_more list None (Some v) ∙ or_false (has_case list (Some v)));
}

test_eq : (v w : ℕ) → is_eq (nat_cmp v w) ≡ (v == w)
test_eq v w = grind (arith, nat_tests)

pub value_more : (list all : List (Option ℕ)) (d : Bool) (old new : BTreeSet ℕ) (v : ℕ) → AreCases list d old → Updates nat_cmp old new v true → all ≡ list ++ Some v ∷ [] → AreCases all d new
value_more list all d old new v h u e = record {
  default = h.default ∙ sym (ap (λ l. has_case l None) e ∙ case_more list (Some v) None ∙ or_false (has_case list None));
  found = λ w. u.0 w ∙ ap (λ t. cond t true (contains nat_cmp old w)) (test_eq v w) ∙ ap (λ o. cond (v == w) true o) (h.found w) ∙ either (v == w) (has_case list (Some w))
      ∙ sym (ap (λ l. has_case l (Some w)) e ∙ case_more list (Some v) (Some w));
}
  where
    either : (t o : Bool) → cond t true o ≡ (o || t)
    either true o = or_comm true o
    either false o = sym (or_false o)
