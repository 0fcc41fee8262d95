-- Where quoted letters are found.
use Rattle.std.proofs.Common.{◌≡◌, ℕ, zero, suc, ◌<◌, List, [], ◌∷◌, ◌++◌, length, get_or, ◌||◌, if◌then◌else◌, true, false, refl, sym, ap, ◌∙◌, arith}
use Rattle.goals.specs.Quotes.{quotes_in}
use Rattle.goals.specs.Words.{Quote, same_text, texts}
use Rattle.indexmap.specs.IndexSet.{insert_all, insert_key}
use Rattle.std.specs.List.{list_any}
use Rattle.std.specs.Str.{bytes_eq}
use Rattle.std.proofs.lemmas.Grind.{fold-append}
use Rattle.goals.specs.declared.quotes.QuotedLetter.{QuotedLetter}

pub text_at : (qs : List QuotedLetter) (i : ℕ) (q : QuotedLetter) → i < length qs → q ≡ get_or qs i q → get_or (texts (quotes_in qs)) i [] ≡ q.text.now
text_at [] i q lt e = absurd (omega arith)
text_at (x ∷ xs) zero q lt e = ap (λ (v : QuotedLetter). v.text.now) (sym e)
text_at (x ∷ xs) (suc i) q lt e = text_at xs i q (omega arith) e

pub any_text : (q : Quote) (qs : List QuotedLetter) → list_any (λ (p : QuotedLetter). bytes_eq q.text p.text.now) qs ≡ list_any (same_text q) (quotes_in qs)
any_text q [] = refl
any_text q (x ∷ xs) = ap (λ b. bytes_eq q.text x.text.now || b) (any_text q xs)

pub insert_two : (ks xs ys : List Quote) → insert_all same_text (insert_all same_text ks xs) ys ≡ insert_all same_text ks (xs ++ ys)
insert_two ks xs ys = sym (fold-append _ ks xs ys)

pub length-texts : (qs : List QuotedLetter) → length (texts (quotes_in qs)) ≡ length qs
length-texts [] = refl
length-texts (x ∷ xs) = let rest = length-texts xs in omega arith

-- a quoted letter whose text is there already, and one whose text isn't
pub quote_kept : (q : Quote) (qs : List QuotedLetter) → list_any (λ (p : QuotedLetter). bytes_eq q.text p.text.now) qs ≡ true → insert_key same_text (quotes_in qs) q ≡ quotes_in qs
quote_kept q qs h = ap (λ b. if b then quotes_in qs else quotes_in qs ++ q ∷ []) (sym (any_text q qs) ∙ h)

pub quote_added : (q : Quote) (qs : List QuotedLetter) → list_any (λ (p : QuotedLetter). bytes_eq q.text p.text.now) qs ≡ false → insert_key same_text (quotes_in qs) q ≡ quotes_in qs ++ q ∷ []
quote_added q qs h = ap (λ b. if b then quotes_in qs else quotes_in qs ++ q ∷ []) (sym (any_text q qs) ∙ h)
