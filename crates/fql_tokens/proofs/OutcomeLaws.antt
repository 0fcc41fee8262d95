-- What is answered, and why.
use Rattle.std.proofs.Common.{◌≡◌, ℕ, ◌≤◌, ◌<◌, Bool, true, false, List, length, Result, Ok, Err, refl, sym, subst, ◌∙◌}
use Rattle.std.specs.Prelude.{nat_le}
use Rattle.std.proofs.lemmas.Bool.{le-leb, lt-leb, leb-true, leb-false}
use Rattle.fq_core.specs.declared.refusal.Place.{Place}
use Rattle.fq_core.specs.declared.refusal.Place.TheVariants as place
use Rattle.fq_core.specs.declared.refusal.Fault.{Fault}
use Rattle.fq_core.specs.declared.refusal.Fault.TheVariants as fault
use Rattle.fql_tokens.specs.declared.token.Token.{Token}
use Rattle.fql_tokens.specs.Cuts.{Cutting, accepted, stopped, IsCut}
use Rattle.fql_tokens.specs.Limits.{most_bytes, most_brackets, is_too_deep}
use Rattle.fq_core.specs.Refusals.{refusal}
use Rattle.fq_core.proofs.RefusalLaws.{same_refusal}
use Rattle.fql_tokens.specs.Accepted.{AreTokens, IsRefusedText, too_long, no_token, too_deep}
use Rattle.fql_tokens.specs.Outcome.{cutting, by_depth, text_outcome}
use Rattle.fql_tokens.proofs.Cutting.{whole_is_cut, cutting_cuts}

is_short : (text : List ℕ) → nat_le (length text) most_bytes ≡ true → length text ≤ most_bytes
is_short text e = leb-true (length text) most_bytes e

is_long : (text : List ℕ) → nat_le (length text) most_bytes ≡ false → most_bytes < length text
is_long text e = leb-false (length text) most_bytes e

short_is : (text : List ℕ) → length text ≤ most_bytes → nat_le (length text) most_bytes ≡ true
short_is text h = le-leb (length text) most_bytes h

long_is : (text : List ℕ) → most_bytes < length text → nat_le (length text) most_bytes ≡ false
long_is text h = lt-leb (length text) most_bytes h

is_cutting : (text : List ℕ) (o : Cutting) → cutting text ≡ o → IsCut text o
is_cutting text o e = rw (← e) (cutting_cuts text)

pub text_accepted : (text : List ℕ) (ts : List Token) → text_outcome text ≡ Ok ts → AreTokens text ts
unfolding text_outcome
text_accepted text ts e = at (nat_le (length text) most_bytes) (cutting text) refl refl e
  where
    deep : (us : List Token) (v : Bool) → is_too_deep us ≡ v → length text ≤ most_bytes → cutting text ≡ accepted us → by_depth (Ok us) ≡ Ok ts → AreTokens text ts
    deep us true d short g e = absurd (let none : by_depth (Ok us) ≡ Err (refusal 63 (place.Limit most_brackets)) = rw d refl in cc)
    deep us false d short g e =
        let some : by_depth (Ok us) ≡ Ok us = rw d refl in
        let same : us ≡ ts = cc in
        subst (λ (vs : List Token). AreTokens text vs) same (record { short = short; cut = is_cutting text (accepted us) g; shallow = d })

    at : (v : Bool) (o : Cutting) → nat_le (length text) most_bytes ≡ v → cutting text ≡ o → text_outcome text ≡ Ok ts → AreTokens text ts
    at false o f g e = absurd (let none : text_outcome text ≡ Err (refusal 63 (place.Limit most_bytes)) = rw f refl in cc)
    at true (stopped c) f g e = absurd (let none : text_outcome text ≡ Err (refusal 60 (place.Query c)) = rw (f, g) refl in cc)
    at true (accepted us) f g e = deep us (is_too_deep us) refl (is_short text f) g (let some : text_outcome text ≡ by_depth (Ok us) = rw (f, g) refl in sym some ∙ e)

pub text_accepts : (text : List ℕ) (ts : List Token) → AreTokens text ts → text_outcome text ≡ Ok ts
unfolding text_outcome
text_accepts text ts a = rw (short_is text a.short, whole_is_cut text (accepted ts) a.cut, a.shallow) refl

pub text_refuses : {text : List ℕ} {code : ℕ} {p : Place} → IsRefusedText text code p → text_outcome text ≡ Err (refusal code p)
unfolding text_outcome
text_refuses {text} (too_long long) = rw (long_is text long) refl
text_refuses {text} (no_token c short d) = rw (short_is text short, whole_is_cut text (stopped c) d) refl
text_refuses {text} (too_deep ts short d deep) = rw (short_is text short, whole_is_cut text (accepted ts) d, deep) refl

pub text_refused : (text : List ℕ) (code : ℕ) (p : Place) → text_outcome text ≡ Err (refusal code p) → IsRefusedText text code p
unfolding text_outcome
text_refused text code p e = at (nat_le (length text) most_bytes) (cutting text) refl refl
  where
    deep : (us : List Token) (v : Bool) → is_too_deep us ≡ v → length text ≤ most_bytes → cutting text ≡ accepted us → by_depth (Ok us) ≡ Err (refusal code p) → IsRefusedText text code p
    deep us false d short g e = absurd (let some : by_depth (Ok us) ≡ Ok us = rw d refl in cc)
    deep us true d short g e =
        let is : by_depth (Ok us) ≡ Err (refusal 63 (place.Limit most_brackets)) = rw d refl in
        same_refusal {X = List Token} 63 code (place.Limit most_brackets) p (IsRefusedText text) (sym is ∙ e) (too_deep us short (is_cutting text (accepted us) g) d)

    at : (v : Bool) (o : Cutting) → nat_le (length text) most_bytes ≡ v → cutting text ≡ o → IsRefusedText text code p
    at false o f g =
        let is : text_outcome text ≡ Err (refusal 63 (place.Limit most_bytes)) = rw f refl in
        same_refusal {X = List Token} 63 code (place.Limit most_bytes) p (IsRefusedText text) (sym is ∙ e) (too_long (is_long text f))
    at true (stopped c) f g =
        let is : text_outcome text ≡ Err (refusal 60 (place.Query c)) = rw (f, g) refl in
        same_refusal {X = List Token} 60 code (place.Query c) p (IsRefusedText text) (sym is ∙ e) (no_token c (is_short text f) (is_cutting text (stopped c) g))
    at true (accepted us) f g =
        let is : text_outcome text ≡ by_depth (Ok us) = rw (f, g) refl in
        deep us (is_too_deep us) refl (is_short text f) g (sym is ∙ e)

pub one_list : (text : List ℕ) (ts us : List Token) → AreTokens text ts → AreTokens text us → ts ≡ us
one_list text ts us a b = let e : Ok ts ≡ Ok us = sym (text_accepts text ts a) ∙ text_accepts text us b in same_ok ts us e
  where
    same_ok : (ts us : List Token) → (let x : Result (List Token) Fault = Ok ts in let y : Result (List Token) Fault = Ok us in x ≡ y) → ts ≡ us
    same_ok ts us e = cc
