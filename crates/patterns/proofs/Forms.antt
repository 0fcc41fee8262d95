-- A pattern as plain data, by cases.
use Rattle.std.proofs.Common.{◌≡◌, ℕ, Option}
use Rattle.patterns.specs.Match as form
use Rattle.patterns.specs.Letters as plain
use Rattle.patterns.specs.declared.pattern.Pattern.{Pattern, the_lemmas}
use Rattle.patterns.specs.declared.pattern.Pattern.TheVariants.{Nothing, Letter, Dot, Either, Repeat}

pub form_nothing : {A : Type 0} → plain.form {L = A} Nothing ≡ form.nothing
unfolding plain.form
form_nothing = simp the_lemmas

pub form_letter : {A : Type 0} (l : A) → plain.form (Letter l) ≡ form.letter l
unfolding plain.form
form_letter l = simp the_lemmas

pub form_dot : {A : Type 0} (a b : Pattern A) → plain.form (Dot a b) ≡ form.dot (plain.form a) (plain.form b)
unfolding plain.form
form_dot a b = simp the_lemmas

pub form_either : {A : Type 0} (a b : Pattern A) → plain.form (Either a b) ≡ form.either (plain.form a) (plain.form b)
unfolding plain.form
form_either a b = simp the_lemmas

pub form_repeat : {A : Type 0} (a : Pattern A) (least : ℕ) (most : Option ℕ) → plain.form (Repeat a least most) ≡ form.repeat (plain.form a) least most
unfolding plain.form
form_repeat a least most = simp the_lemmas

pub ruleset forms = (form_nothing, form_letter, form_dot, form_either, form_repeat)
