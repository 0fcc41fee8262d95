-- A query is cut in one way.
use Rattle.std.proofs.Common.{◌≡◌, ℕ, zero, suc, ◌+◌, ◌-◌, ◌<◌, ◌≤◌, List, [], ◌∷◌, ◌++◌, length, length-drop, drop, refl, sym, ap, ◌∙◌, append_assoc, arith}
use Rattle.std.proofs.lemmas.List.{append-nil}
use Rattle.fql_tokens.specs.declared.token.Sign.{Sign}
use Rattle.fql_tokens.specs.declared.token.Token.{Token}
use Rattle.fql_tokens.specs.declared.first.Mode.{Mode}
use Rattle.fql_tokens.specs.declared.first.Mode.TheVariants as modes
use Rattle.fql_tokens.specs.declared.first.Beginning.{Beginning}
use Rattle.fql_tokens.specs.declared.first.Beginning.TheVariants as begins
use Rattle.fql_tokens.specs.First.{beginning}
use Rattle.fql_tokens.specs.Cuts.{Cutting, accepted, stopped, after, with_token, Cuts, ends, a_blank, a_token, unknown, IsCut}
use Rattle.fql_tokens.specs.Outcome.{cut_by, cut_at, cutting}
use Rattle.fql_tokens.proofs.Sizes.{token_fits, blank_fits, empty_ends}

-- what is cut off leaves less
less : (k n : ℕ) (bs : List ℕ) → 1 ≤ k → k ≤ length bs → length bs ≤ suc n → length (drop k bs) ≤ n
less k n bs some fits small = omega (arith, length-drop k bs)

no_length : (bs : List ℕ) → length bs ≤ 0 → bs ≡ []
no_length [] h = refl
no_length (b ∷ bs) h = absurd (omega arith)

-- cutting from left to right cuts
pub cut_is : (n c : ℕ) (m : Mode) (bs : List ℕ) → length bs ≤ n → Cuts c m bs (cut_at n c m bs)
unfolding cut_at
cut_is zero c m bs small = let e = no_length bs small in rw e (ends (empty_ends m))
cut_is (suc n) c m bs small =
    at (beginning m bs) refl
    (λ k some fits. cut_is n (c + 1) m (drop 1 bs) (less 1 n bs some fits small))
    (λ s k some fits. cut_is n (c + k) (after m s) (drop k bs) (less k n bs some fits small))
  where
    at : (b : Beginning) → beginning m bs ≡ b
        → ((k : ℕ) → 1 ≤ 1 → 1 ≤ length bs → Cuts (c + 1) m (drop 1 bs) (cut_at n (c + 1) m (drop 1 bs)))
        → ((s : Sign) (k : ℕ) → 1 ≤ k → k ≤ length bs → Cuts (c + k) (after m s) (drop k bs) (cut_at n (c + k) (after m s) (drop k bs)))
        → Cuts c m bs (cut_by (cut_at n) b c m bs)
    at begins.End e blank token = ends e
    at begins.Blank e blank token = a_blank e (blank 0 (omega arith) (blank_fits m bs e))
    at (begins.Token s k) e blank token = let f = token_fits m bs s k e in a_token s k e (token s k f.0 f.1)
    at begins.Unknown e blank token = unknown e

-- there is no other way
pub is_cut : {c : ℕ} {m : Mode} {bs : List ℕ} {o : Cutting} → Cuts c m bs o → (n : ℕ) → length bs ≤ n → cut_at n c m bs ≡ o
unfolding cut_at
is_cut (ends e) zero small = refl
is_cut {m = m} {bs = bs} (a_blank e d) zero small = absurd (omega (arith, blank_fits m bs e))
is_cut {m = m} {bs = bs} (a_token s k e d) zero small = let f = token_fits m bs s k e in absurd (omega (arith, f.0, f.1))
is_cut {m = m} {bs = bs} (unknown e) zero small = let none : begins.End ≡ begins.Unknown = sym (empty_ends m) ∙ ap (beginning m) (sym (no_length bs small)) ∙ e in absurd cc
is_cut (ends e) (suc n) small = rw e refl
is_cut {m = m} {bs = bs} (a_blank e d) (suc n) small = rw e (is_cut d n (less 1 n bs (omega arith) (blank_fits m bs e) small))
is_cut {c = c} {m = m} {bs = bs} (a_token s k e d) (suc n) small =
    let f = token_fits m bs s k e in
    rw e (ap (with_token (record { sign = s; column = c })) (is_cut d n (less k n bs f.0 f.1 small)))
is_cut (unknown e) (suc n) small = rw e refl

pub whole_is_cut : (text : List ℕ) (o : Cutting) → IsCut text o → cutting text ≡ o
unfolding cutting
whole_is_cut text o d = is_cut d (length text) (omega arith)

pub cutting_cuts : (text : List ℕ) → IsCut text (cutting text)
unfolding cutting
cutting_cuts text = cut_is (length text) 1 modes.Plain text (omega arith)

-- ---- the loop

-- the tokens so far, and what comes of the rest
abbrev pub with_front : List Token → Cutting → Cutting
with_front made (accepted ts) = accepted (made ++ ts)
with_front made (stopped c) = stopped c

with_front_more : (made : List Token) (t : Token) (o : Cutting) → with_front made (with_token t o) ≡ with_front (made ++ t ∷ []) o
with_front_more made t (accepted ts) = ap accepted (sym (append_assoc made (t ∷ []) ts))
with_front_more made t (stopped c) = refl

pub none_yet : (o : Cutting) → with_front [] o ≡ o
none_yet (accepted ts) = refl
none_yet (stopped c) = refl

pub begin : (text : List ℕ) → with_front [] (cut_at (length text - 0) 1 modes.Plain text) ≡ cutting text
unfolding cutting
begin text = let e : length text - 0 ≡ length text = omega arith in rw e (none_yet (cut_at (length text) 1 modes.Plain text))

module _ (len i c : ℕ) (m : Mode) (made : List Token) (rest : List ℕ) (total : Cutting) (so_far : with_front made (cut_at (len - i) c m rest) ≡ total) where
  step : i < len → (b : Beginning) → b ≡ beginning m rest → with_front made (cut_by (cut_at (len - (i + 1))) b c m rest) ≡ total
  unfolding cut_at
  step lt b e = let k : len - i ≡ suc (len - (i + 1)) = omega arith in rw e (rw k at so_far)

  pub over_blank : i < len → begins.Blank ≡ beginning m rest → with_front made (cut_at (len - (i + 1)) (c + 1) m (drop 1 rest)) ≡ total
  over_blank lt e = step lt begins.Blank e

  pub over_token : i < len → (s : Sign) (k : ℕ) → begins.Token s k ≡ beginning m rest → with_front (made ++ record { sign = s; column = c } ∷ []) (cut_at (len - (i + 1)) (c + k) (after m s) (drop k rest)) ≡ total
  over_token lt s k e = sym (with_front_more made (record { sign = s; column = c }) (cut_at (len - (i + 1)) (c + k) (after m s) (drop k rest))) ∙ step lt (begins.Token s k) e

  pub at_end : i < len → begins.End ≡ beginning m rest → total ≡ accepted made
  at_end lt e = sym (step lt begins.End e) ∙ ap accepted (append-nil made)

  pub at_unknown : i < len → begins.Unknown ≡ beginning m rest → total ≡ stopped c
  at_unknown lt e = sym (step lt begins.Unknown e)

  pub at_last : len ≤ i → total ≡ accepted made
  unfolding cut_at
  at_last le = let k : len - i ≡ 0 = omega arith in sym so_far ∙ rw k (ap accepted (append-nil made))
