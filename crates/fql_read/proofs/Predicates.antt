-- The texts of predicates, from token to token.
use Rattle.std.proofs.Common.{◌≡◌, ℕ, suc, ◌+◌, ◌<◌, ◌≤◌, Bool, true, false, Option, Some, None, arith, List, [], ◌∷◌, ◌++◌, length, take, get_or, refl}
use Rattle.std.specs.Prelude.{fold, AllPairs, is_some, if◌then◌else◌, nat_lt}
use Rattle.std.specs.List.{position_or_len}
use Rattle.std.specs.Str.{bytes_eq}
use Rattle.std.proofs.lemmas.Bool.{leb-false}
use Rattle.std.proofs.lemmas.List.Quantifiers.{all_pairs_push}
use Rattle.std.proofs.lemmas.List.Sums.{fails_before_first}
use Rattle.std.proofs.lemmas.Slice.Eq.{bytes_eq-Decides}
use Rattle.std.proofs.lemmas.List.{take_more}
use Rattle.fql_tokens.specs.declared.token.Token.{Token}
use Rattle.fql_read.specs.Forms.{Text, place_in}
use Rattle.fql_read.specs.Tables.{predicate_in}
use Rattle.fql_read.specs.QueryForm.{with_text, predicates_of}

fold_push : {A B : Type 0} (f : B → A → B) (b : B) (xs : List A) (x : A) → fold f b (xs ++ x ∷ []) ≡ f (fold f b xs) x
fold_push f b [] x = refl
fold_push f b (y ∷ xs) x = fold_push f (f b y) xs x

pub one_more : (ts : List Token) (i : ℕ) (t : Token) → i < length ts → t ≡ get_or ts i t → predicates_of (take (i + 1) ts) ≡ with_text (predicates_of (take i ts)) (predicate_in t.sign)
unfolding predicates_of
one_more ts i t lt is =
    rw (take_more ts i t lt, ← is) (fold_push (λ (ps : List Text) (u : Token). with_text ps (predicate_in u.sign)) [] (take i ts) t)

-- ---- each text is listed once

-- no two of them are equal
abbrev pub Differ : List Text → Type 0
Differ ps = AllPairs (λ (v w : Text). v ≡ w → ⊥) ps

past_all : (ps : List Text) (w : Text) → place_in ps w ≡ None → length ps ≤ position_or_len (λ v. bytes_eq v w) ps
past_all ps w e = at (nat_lt (position_or_len (λ v. bytes_eq v w) ps) (length ps)) refl e
  where
    at : (v : Bool) → nat_lt (position_or_len (λ v. bytes_eq v w) ps) (length ps) ≡ v → (if v then Some (position_or_len (λ v. bytes_eq v w) ps) else None) ≡ None → length ps ≤ position_or_len (λ v. bytes_eq v w) ps
    at true h e = absurd cc
    at false h e =
        omega (arith, leb-false (suc (position_or_len (λ v. bytes_eq v w) ps)) (length ps) h)

not_among : (ps : List Text) (w : Text) → place_in ps w ≡ None → (k : ℕ) (d : Text) → k < length ps → get_or ps k d ≡ w → ⊥
not_among ps w e k d lt same =
    let far = past_all ps w e in
    let no : bytes_eq (get_or ps k d) w ≡ false = fails_before_first (λ v. bytes_eq v w) ps k d (omega arith) in
    let yes : bytes_eq (get_or ps k d) w ≡ true = (bytes_eq-Decides (get_or ps k d) w).1 same in
    cc

with_text_differ : (ps : List Text) (o : Option Text) → Differ ps → Differ (with_text ps o)
with_text_differ ps None h = h
with_text_differ ps (Some w) h = at (place_in ps w) refl
  where
    at : (o : Option ℕ) → place_in ps w ≡ o → Differ (if is_some o then ps else ps ++ w ∷ [])
    at (Some i) e = h
    at None e = all_pairs_push (λ (v w : Text). v ≡ w → ⊥) ps w h (not_among ps w e)

all_differ : (ts : List Token) (ps : List Text) → Differ ps → Differ (fold (λ (ps : List Text) (u : Token). with_text ps (predicate_in u.sign)) ps ts)
all_differ [] ps h = h
all_differ (t ∷ ts) ps h = all_differ ts (with_text ps (predicate_in t.sign)) (with_text_differ ps (predicate_in t.sign) h)

pub predicates_differ : (ts : List Token) → Differ (predicates_of ts)
unfolding predicates_of
predicates_differ ts = all_differ ts [] (λ i j d lt few. absurd (omega arith))
