-- What the tokens of a form begin with.
use Rattle.std.proofs.Common.{◌≡◌, ◌<◌, Bool, true, false, List, ◌∷◌, ◌++◌, length, refl, sym, ap, ◌∙◌, arith}
use Rattle.c_parse.specs.declared.sign.Terminal.{Terminal}
use Rattle.c_parse.specs.declared.sign.Sign.{Sign}
use Rattle.c_parse.specs.declared.sign.Sign.TheVariants as sign
use Rattle.c_parse.specs.declared.sign.Symbol.{Symbol}
use Rattle.c_parse.specs.Grammar.{symbol}
use Rattle.c_parse.specs.Reading.{starts, tail}
use Rattle.c_parse.proofs.Steps.{starts-true}

-- there is a first token, and it is one of these
pub record BeginsBy (fits_first : Sign → Bool) (xs : List Terminal) : Type 0 where
  pub head : Terminal
  pub others : List Terminal
  pub is : xs ≡ head ∷ others
  pub fits : fits_first head.sign ≡ true

pub BeginsBy-append : {f : Sign → Bool} (xs ys : List Terminal) → BeginsBy f xs → BeginsBy f (xs ++ ys)
BeginsBy-append xs ys b = record { head = b.head; others = b.others ++ ys; is = ap (λ (us : List Terminal). us ++ ys) b.is; fits = b.fits }

pub some_first : {f : Sign → Bool} (xs : List Terminal) → BeginsBy f xs → 0 < length xs
some_first xs b = rw b.is (omega arith)

-- a symbol that is none of them does not come first
pub not_first : {f : Sign → Bool} (m : Symbol) → f (sign.Symbol m) ≡ false → (xs ys : List Terminal) → BeginsBy f xs → starts m (xs ++ ys) ≡ false
not_first {f} m other xs ys b = at (starts m (xs ++ ys)) refl
  where
    at : (o : Bool) → starts m (xs ++ ys) ≡ o → starts m (xs ++ ys) ≡ false
    at false e = e
    at true e =
        let h = starts-true m (xs ++ ys) e in
        let whole : b.head ∷ (b.others ++ ys) ≡ symbol m h.0 ∷ tail (xs ++ ys) = sym (ap (λ us. us ++ ys) b.is) ∙ h.1 in
        let same : b.head ≡ symbol m h.0 = cc in
        let no_more : true ≡ false = sym b.fits ∙ ap (λ u. f u.sign) same ∙ other in
        absurd cc
