-- Where matches of a pattern end, by the pattern's cases.
use Rattle.std.proofs.Common.{◌≡◌, ℕ, ◌<◌, Bool, false, Option, Some, List, length, Result, Ok, Err, IfOk, refl, sym, ◌∙◌, ap, subst, All}
use Rattle.patterns.specs.Match as m
use Rattle.patterns.specs.Match.{Step, Form, Match, LetterMatch, Turns}
use Rattle.patterns.specs.Letters.{form}
use Rattle.patterns.specs.Places.{EndsOf, Rounds, union}
use Rattle.patterns.specs.declared.pattern.Pattern.{Pattern}
use Rattle.patterns.specs.declared.pattern.Pattern.TheVariants.{Nothing, Letter, Dot, Either, Repeat}
use Rattle.patterns.proofs.Forms.{form_nothing, form_letter, form_dot, form_either, form_repeat}
use Rattle.patterns.proofs.PlacesLaws.{match_forward, ends_after, ends_either, ends_never}
use Rattle.patterns.proofs.Rounds.{no_rounds}

pub on_ok : {A E : Type 0} {P Q : A → Type 0} (r : Result A E) → ((v : A) → P v → Q v) → IfOk r P → IfOk r Q
on_ok (Ok v) f h = f v h
on_ok (Err e) f h = tt

pub on_ok_both : {A E : Type 0} {P R Q : A → Type 0} (r : Result A E) → ((v : A) → P v → R v → Q v) → IfOk r P → IfOk r R → IfOk r Q
on_ok_both (Ok v) f h k = f v h k
on_ok_both (Err e) f h k = tt

module _ {L : Type 0} (path : ℕ → Step L) (p : Pattern L) where
  as_form : (f : Form L) (s e : List Bool) → form p ≡ f → EndsOf (Match path f) s e → EndsOf (Match path (form p)) s e
  as_form f s e same h = subst (λ g. EndsOf (Match path g) s e) (sym same) h

  pub at_nothing : (s e : List Bool) → p ≡ Nothing → length e ≡ length s → All (λ x. x ≡ false) e → EndsOf (Match path (form p)) s e
  at_nothing s e is size none = as_form m.nothing s e (ap form is ∙ form_nothing) (ends_never (Match path m.nothing) (λ i j h. h) s e size none)

  pub at_letter : (l : L) (s e : List Bool) → p ≡ Letter l → EndsOf (LetterMatch path l) s e → EndsOf (Match path (form p)) s e
  at_letter l s e is h = as_form (m.letter l) s e (ap form is ∙ form_letter l) h

  pub at_dot : (a b x y : Pattern L) (s k e : List Bool) → p ≡ Dot a b → x ≡ a → y ≡ b → EndsOf (Match path (form x)) s k → EndsOf (Match path (form y)) k e → EndsOf (Match path (form p)) s e
  at_dot a b x y s k e is ex ey h g =
      as_form (m.dot (form x) (form y)) s e (ap form is ∙ form_dot a b ∙ (λ i. m.dot (form (sym ex i)) (form (sym ey i))))
      (ends_after (Match path (form x)) (Match path (form y)) (match_forward path (form y)) s k e h g)

  pub at_either : (a b x y : Pattern L) (s u v : List Bool) → p ≡ Either a b → x ≡ a → y ≡ b → EndsOf (Match path (form x)) s u → EndsOf (Match path (form y)) s v → EndsOf (Match path (form p)) s (union u v)
  at_either a b x y s u v is ex ey h g =
      as_form (m.either (form x) (form y)) s (union u v) (ap form is ∙ form_either a b ∙ (λ i. m.either (form (sym ex i)) (form (sym ey i))))
      (ends_either (Match path (form x)) (Match path (form y)) s u v h g)

  pub at_repeat : (a x : Pattern L) (least : ℕ) (o most : Option ℕ) (s e : List Bool) → p ≡ Repeat a least o → o ≡ most → x ≡ a → EndsOf (Rounds (Match path (form x)) least most) s e → EndsOf (Match path (form p)) s e
  at_repeat a x least o most s e is om ex h =
      as_form (m.repeat (form x) least most) s e (ap form is ∙ form_repeat a least o ∙ (λ i. m.repeat (form (sym ex i)) least (om i))) h

  pub at_empty_repeat : (a : Pattern L) (least most : ℕ) (o : Option ℕ) (s e : List Bool) → p ≡ Repeat a least o → o ≡ Some most → most < least → length e ≡ length s → All (λ x. x ≡ false) e → EndsOf (Match path (form p)) s e
  at_empty_repeat a least most o s e is om lt size none = at_repeat a a least o (Some most) s e is om refl (no_rounds (Match path (form a)) least most s e lt size none)
