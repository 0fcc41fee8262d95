-- Tokens that pass, and the places of forms.
use Rattle.std.proofs.Common.{◌≢◌, Bool, ℕ, List, [], ◌∷◌, ◌++◌, refl}
use Rattle.std.specs.Prelude.{IsTrue}
use Rattle.std.specs.List.{list_all}
use Rattle.fq_core.specs.declared.span.Span.{Span}
use Rattle.c_values.specs.declared.kinds.Kind.{Kind}
use Rattle.c_values.proofs.Fitting.{and_left, and_right, and_both}
use Rattle.c_parse.specs.declared.sign.Terminal.{Terminal}
use Rattle.c_parse.specs.Grammar.{first_span}
use Rattle.c_types_laws.specs.tree_contents.Contents.{token_passes, sign_passes}

module _ (number : ℕ → Kind → Bool) (place : Span → Bool) where
  abbrev pub Good : List Terminal → Type 0
  Good ts = IsTrue (list_all (token_passes number place) ts)

  pub good_left : (xs ys : List Terminal) → Good (xs ++ ys) → Good xs
  good_left [] ys h = refl
  good_left (x ∷ xs) ys h =
      let rest = list_all (token_passes number place) (xs ++ ys) in
      and_both (token_passes number place x) (list_all (token_passes number place) xs) (and_left (token_passes number place x) rest h)
      (good_left xs ys (and_right (token_passes number place x) rest h))

  pub good_right : (xs ys : List Terminal) → Good (xs ++ ys) → Good ys
  good_right [] ys h = h
  good_right (x ∷ xs) ys h = good_right xs ys (and_right (token_passes number place x) (list_all (token_passes number place) (xs ++ ys)) h)

  pub good_append : (xs ys : List Terminal) → Good xs → Good ys → Good (xs ++ ys)
  good_append [] ys h k = k
  good_append (x ∷ xs) ys h k =
      let rest = list_all (token_passes number place) xs in
      and_both (token_passes number place x) (list_all (token_passes number place) (xs ++ ys)) (and_left (token_passes number place x) rest h)
      (good_append xs ys (and_right (token_passes number place x) rest h) k)

  pub good_tail : (t : Terminal) (ts : List Terminal) → Good (t ∷ ts) → Good ts
  good_tail t ts h = and_right (token_passes number place t) (list_all (token_passes number place) ts) h

  pub good_span : (t : Terminal) (ts : List Terminal) → Good (t ∷ ts) → IsTrue (place t.span)
  good_span t ts h = and_left (place t.span) (sign_passes number place t.sign) (and_left (token_passes number place t) (list_all (token_passes number place) ts) h)

  pub good_sign : (t : Terminal) (ts : List Terminal) → Good (t ∷ ts) → IsTrue (sign_passes number place t.sign)
  good_sign t ts h = and_right (place t.span) (sign_passes number place t.sign) (and_left (token_passes number place t) (list_all (token_passes number place) ts) h)

  -- the place of a form with some token is the first one's
  pub good_place : (ts : List Terminal) → ts ≢ [] → Good ts → IsTrue (place (first_span ts))
  good_place [] some h = absurd (some refl)
  good_place (t ∷ ts) some h = good_span t ts h

pub some_behind : (xs : List Terminal) (t : Terminal) (ts : List Terminal) → xs ++ (t ∷ ts) ≢ []
some_behind [] t ts e = absurd (cc)
some_behind (x ∷ xs) t ts e = absurd (cc)
