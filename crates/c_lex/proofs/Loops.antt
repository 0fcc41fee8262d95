-- Steps of loops that look for a place.
use Rattle.std.proofs.Common.{◌≡◌, ℕ, suc, ◌+◌, ◌<◌, ◌≤◌, List, [], ◌∷◌, length, drop, get_or, refl, ap, arith, ◌∙◌, sym, Bool, true, false, eq-eqb}
use Rattle.std.proofs.lemmas.Bool.{ne_eqb}
use Rattle.std.proofs.lemmas.List.{at_drop_more, at_drop_all}
use Rattle.c_lex.specs.Pieces.{closing, closes}
use Rattle.c_lex.specs.Bytes.{is_escaped_byte, is_string_byte}
use Rattle.c_lex.specs.Scans.{string_length, header_length}
use Rattle.std.specs.Prelude.{Option, Some, None, option_map, IfSome, if◌then◌else◌}

-- a place, counted from i bytes before
abbrev pub shifted : ℕ → Option ℕ → Option ℕ
shifted i found = option_map (λ n. i + n) found

pub shifted_more : (i : ℕ) (found : Option ℕ) → shifted i (option_map suc found) ≡ shifted (i + 1) found
shifted_more i None = refl
shifted_more i (Some n) = let e : i + suc n ≡ i + 1 + n = omega arith in ap Some e

-- a scan F that has come to place i of a text, where `whole` is what it finds in all
module _ (F : List ℕ → Option ℕ) (text : List ℕ) (i : ℕ) (whole : Option ℕ) (so : whole ≡ shifted i (F (drop i text))) where
  pub goes_on_at : (G : List ℕ → Option ℕ) → i < length text → F (get_or text i 0 ∷ drop (i + 1) text) ≡ option_map suc (G (drop (i + 1) text))
      → whole ≡ shifted (i + 1) (G (drop (i + 1) text))
  goes_on_at G lt e = so ∙ ap (shifted i) (at_drop_more F text i 0 lt ∙ e) ∙ shifted_more i (G (drop (i + 1) text))

  pub found_at : (k : ℕ) → i < length text → F (get_or text i 0 ∷ drop (i + 1) text) ≡ Some k → Some (i + k) ≡ whole
  found_at k lt e = sym (so ∙ ap (shifted i) (at_drop_more F text i 0 lt ∙ e))

  pub none_at : i < length text → F (get_or text i 0 ∷ drop (i + 1) text) ≡ None → None ≡ whole
  none_at lt e = sym (so ∙ ap (shifted i) (at_drop_more F text i 0 lt ∙ e))

  pub none_after : length text ≤ i → F [] ≡ None → None ≡ whole
  none_after le e = sym (so ∙ ap (shifted i) (at_drop_all F text i le ∙ e))

-- ---- the end of a comment

within_suc : (o : Option ℕ) (m : ℕ) → IfSome o (λ n. n ≤ m) → IfSome (option_map suc o) (λ n. n ≤ suc m)
within_suc None m h = tt
within_suc (Some n) m h = omega arith

closes_two : (b : ℕ) (bs : List ℕ) → closes (b ∷ bs) ≡ true → 2 ≤ suc (length bs)
closes_two b [] h = absurd (grind arith)
closes_two b (c ∷ cs) h = omega arith

closing_within_step : (b : ℕ) (bs : List ℕ) (v : Bool) → closes (b ∷ bs) ≡ v → IfSome (closing bs) (λ n. n ≤ length bs)
    → IfSome (if v then Some 2 else option_map suc (closing bs)) (λ n. n ≤ suc (length bs))
closing_within_step b bs true e h = closes_two b bs e
closing_within_step b bs false e h = within_suc (closing bs) (length bs) h

closing_fits : (text : List ℕ) → IfSome (closing text) (λ n. n ≤ length text)
unfolding closing
closing_fits [] = tt
closing_fits (b ∷ bs) = closing_within_step b bs (closes (b ∷ bs)) refl (closing_fits bs)

pub closing_within : (text : List ℕ) (n : ℕ) → closing text ≡ Some n → n ≤ length text
closing_within text n e = rw e at (closing_fits text)

module _ (text : List ℕ) (i : ℕ) (lt : i < length text) where
  pub closing_here : closes (drop i text) ≡ true → closing (get_or text i 0 ∷ drop (i + 1) text) ≡ Some 2
  unfolding closing
  closing_here here =
      let first : closes (get_or text i 0 ∷ drop (i + 1) text) ≡ true = sym (at_drop_more closes text i 0 lt) ∙ here in rw first refl

  pub closing_later : closes (drop i text) ≡ false → closing (get_or text i 0 ∷ drop (i + 1) text) ≡ option_map suc (closing (drop (i + 1) text))
  unfolding closing
  closing_later here =
      let first : closes (get_or text i 0 ∷ drop (i + 1) text) ≡ false = sym (at_drop_more closes text i 0 lt) ∙ here in rw first refl

pub closing_nothing : closing [] ≡ None
unfolding closing
closing_nothing = refl

-- ---- the names of headers

module _ (b : ℕ) (bs : List ℕ) where
  pub header_end : b ≡ 62 → header_length (b ∷ bs) ≡ Some 1
  unfolding header_length
  header_end e = rw (eq-eqb b 62 e) refl

  pub header_break : (b ≡ 62 → ⊥) → b ≡ 10 → header_length (b ∷ bs) ≡ None
  unfolding header_length
  header_break n e = rw (ne_eqb b 62 n, eq-eqb b 10 e) refl

  pub header_more : (b ≡ 62 → ⊥) → (b ≡ 10 → ⊥) → header_length (b ∷ bs) ≡ option_map suc (header_length bs)
  unfolding header_length
  header_more n m = rw (ne_eqb b 62 n, ne_eqb b 10 m) refl

pub header_nothing : header_length [] ≡ None
unfolding header_length
header_nothing = refl

-- ---- strings

module _ (b : ℕ) (bs : List ℕ) where
  pub string_bad_escape : (s v : Bool) → s ≡ true → v ≡ false → v ≡ is_escaped_byte b → string_length s (b ∷ bs) ≡ None
  unfolding string_length
  string_bad_escape s v e f g = rw (e, ← g, f) refl

  pub string_escape : (s v : Bool) → s ≡ true → v ≡ true → v ≡ is_escaped_byte b → string_length s (b ∷ bs) ≡ option_map suc (string_length false bs)
  unfolding string_length
  string_escape s v e f g = rw (e, ← g, f) refl

  pub string_end : (s : Bool) → s ≡ false → b ≡ 34 → string_length s (b ∷ bs) ≡ Some 1
  unfolding string_length
  string_end s e f = rw (e, eq-eqb b 34 f) refl

  pub string_backslash : (s : Bool) → s ≡ false → (b ≡ 34 → ⊥) → b ≡ 92 → string_length s (b ∷ bs) ≡ option_map suc (string_length true bs)
  unfolding string_length
  string_backslash s e f g = rw (e, ne_eqb b 34 f, eq-eqb b 92 g) refl

  pub string_bad : (s v : Bool) → s ≡ false → (b ≡ 34 → ⊥) → (b ≡ 92 → ⊥) → v ≡ false → v ≡ is_string_byte b → string_length s (b ∷ bs) ≡ None
  unfolding string_length
  string_bad s v e f g h k = rw (e, ← k, h, ne_eqb b 34 f, ne_eqb b 92 g) refl

  pub string_more : (s v : Bool) → s ≡ false → (b ≡ 34 → ⊥) → (b ≡ 92 → ⊥) → v ≡ true → v ≡ is_string_byte b → string_length s (b ∷ bs) ≡ option_map suc (string_length s bs)
  unfolding string_length
  string_more s v e f g h k = rw (e, ← k, h, ne_eqb b 34 f, ne_eqb b 92 g) refl

pub string_nothing : (s : Bool) → string_length s [] ≡ None
unfolding string_length
string_nothing true = refl
string_nothing false = refl
