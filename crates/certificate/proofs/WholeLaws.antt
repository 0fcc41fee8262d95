-- Which lines begin a certificate, and the first one that isn't allowed.
use Rattle.std.proofs.Common.{◌≡◌, ℕ, zero, suc, ◌+◌, ◌-◌, ◌<◌, ◌≤◌, ◌^◌, List, [], ◌∷◌, ◌++◌, length, map, refl, sym, ◌∙◌, ap, subst, arith, append_assoc, append-nil, length-append, Some}
use Rattle.std.specs.Prelude.{ℤ, slice_get, codes, replicate}
use Rattle.std.specs.Fmt.{decimal}
use Rattle.std.proofs.lemmas.Fmt.{decimal_injective}
use Rattle.std.proofs.lemmas.Grind.{flat_map-append}
use Rattle.std.proofs.lemmas.List.{length-map, length-replicate, map-append}
use Rattle.cnf.specs.declared.formula.Formula.{Formula}
use Rattle.cnf.specs.declared.derivation.DerivationLine.{DerivationLine}
use Rattle.cnf.specs.declared.derivation.Derivation.{Derivation}
use Rattle.cnf.specs.Dimacs.{clause_text, head_text, text_of_lines}
use Rattle.certificate.specs.Certificates.{IsClauseOver, AreClausesOver, IsLineOver, AreLinesOver, IsPair, title, derivation_head, line_text, certificate_lines, Begins, IsWhole, IsFirstBadLine}
use Rattle.certificate.specs.Reading.{ClausesRead, NoClause, NoLine}
use Rattle.certificate.proofs.RowLaws.{cut_once, decimal_lacks}
use Rattle.certificate.proofs.HeadLaws.{same_tail}

-- ---- texts of lines

pub text_line : (text line rest : List ℕ) (lines : List (List ℕ)) (end : List ℕ) → text ≡ line ++ 10 ∷ rest → rest ≡ text_of_lines lines ++ end → text ≡ text_of_lines (line ∷ lines) ++ end
text_line text line rest lines end e f = e ∙ ap (λ (r : List ℕ). line ++ 10 ∷ r) f ∙ again line (text_of_lines lines) end
  where
    again : (a b c : List ℕ) → a ++ 10 ∷ (b ++ c) ≡ ((a ++ 10 ∷ []) ++ b) ++ c
    again a b c = simp append_assoc

pub text_join : (text rest end : List ℕ) (front bs : List (List ℕ)) → text ≡ text_of_lines front ++ rest → rest ≡ text_of_lines bs ++ end → text ≡ text_of_lines (front ++ bs) ++ end
text_join text rest end front bs e f =
    e ∙ ap (λ (r : List ℕ). text_of_lines front ++ r) f
    ∙ sym (append_assoc (text_of_lines front) (text_of_lines bs) end)
    ∙ ap (λ (r : List ℕ). r ++ end) (sym (flat_map-append (λ line. line ++ 10 ∷ []) front bs))

-- ---- heads

head_same : (v c w d : ℕ) → v ≤ 2 ^ 30 → c < 2 ^ 32 → w ≤ 2 ^ 30 → d < 2 ^ 32 → head_text v c ≡ head_text w d → (v ≡ w) × (c ≡ d)
head_same v c w d h s g t e =
    let tails = same_tail (codes "p cnf ") (decimal v ++ 32 ∷ decimal c) (decimal w ++ 32 ∷ decimal d) e in
    let parts = cut_once 32 (decimal v) (decimal c) (decimal w) (decimal d) (decimal_lacks 32 v (omega arith) (omega arith)) (decimal_lacks 32 w (omega arith) (omega arith)) tails in
    (decimal_injective v w (omega arith) (omega arith) parts.0, decimal_injective c d (omega arith) (omega arith) parts.1)

derivation_head_same : (n m : ℕ) → n < 2 ^ 32 → m < 2 ^ 32 → derivation_head n ≡ derivation_head m → n ≡ m
derivation_head_same n m h s e = decimal_injective n m (omega arith) (omega arith) (same_tail (codes "derivation ") (decimal n) (decimal m) e)

-- ---- lists of lines

record Row {X : Type 0} (text_of : X → List ℕ) (xs : List X) (next : List ℕ) : Type 0 where
  at : ℕ
  item : X
  there : slice_get xs at ≡ Some item
  is : next ≡ text_of item

next_row : {X : Type 0} (text_of : X → List ℕ) (xs : List X) (tail front more : List (List ℕ)) (next : List ℕ) → length front < length xs → map text_of xs ++ tail ≡ (front ++ next ∷ []) ++ more
    → Row text_of xs next
next_row text_of [] tail front more next h e = absurd (omega arith)
next_row text_of (x ∷ xs) tail [] more next h e = record { at = 0; item = x; there = refl; is = cc }
next_row text_of (x ∷ xs) tail (a ∷ front) more next h e =
    let tails : map text_of xs ++ tail ≡ (front ++ next ∷ []) ++ more = cc in
    let rest = next_row text_of xs tail front more next (omega arith) tails in
    record { at = suc rest.at; item = rest.item; there = rest.there; is = rest.is }

pub skip_rows : {X : Type 0} (text_of : X → List ℕ) (xs : List X) (front : List (List ℕ)) (b c : List ℕ) (r s : List (List ℕ)) → length front ≡ length xs → map text_of xs ++ b ∷ r ≡ front ++ c ∷ s → (b ≡ c) × (r ≡ s)
skip_rows text_of [] [] b c r s h e = (cc, cc)
skip_rows text_of [] (a ∷ front) b c r s h e = absurd (omega arith)
skip_rows text_of (x ∷ xs) [] b c r s h e = absurd (omega arith)
skip_rows text_of (x ∷ xs) (a ∷ front) b c r s h e =
    let tails : map text_of xs ++ b ∷ r ≡ front ++ c ∷ s = cc in
    skip_rows text_of xs front b c r s (omega arith) tails

clause_over_at : (variables : ℕ) (clauses : List (List ℤ)) (i : ℕ) (clause : List ℤ) → AreClausesOver variables clauses → slice_get clauses i ≡ Some clause → IsClauseOver variables clause
clause_over_at variables [] i clause o e = absurd cc
clause_over_at variables (c ∷ cs) zero clause o e = let same : c ≡ clause = cc in rw (← same) o.0
clause_over_at variables (c ∷ cs) (suc i) clause o e = clause_over_at variables cs i clause o.1 e

line_over_at : (variables : ℕ) (lines : List DerivationLine) (i : ℕ) (line : DerivationLine) → AreLinesOver variables lines → slice_get lines i ≡ Some line → IsLineOver variables line
line_over_at variables [] i line o e = absurd cc
line_over_at variables (l ∷ ls) zero line o e = let same : l ≡ line = cc in rw (← same) o.0
line_over_at variables (l ∷ ls) (suc i) line o e = line_over_at variables ls i line o.1 e

-- ---- what begins a certificate

empty_clauses_over : (variables n : ℕ) → AreClausesOver variables (replicate n [])
empty_clauses_over variables zero = tt
empty_clauses_over variables (suc n) = (tt, empty_clauses_over variables n)

clauses_over_append : (variables : ℕ) (cs ds : List (List ℤ)) → AreClausesOver variables cs → AreClausesOver variables ds → AreClausesOver variables (cs ++ ds)
clauses_over_append variables [] ds o p = p
clauses_over_append variables (c ∷ cs) ds o p = (o.0, clauses_over_append variables cs ds o.1 p)

-- a line with the empty clause
blank : DerivationLine
blank = record { clause = []; first = 1; steps = [] }

blank_lines_over : (variables n : ℕ) → AreLinesOver variables (replicate n blank)
unfolding blank
blank_lines_over variables zero = tt
blank_lines_over variables (suc n) = ((tt, (omega arith, omega arith), tt), blank_lines_over variables n)

lines_over_append : (variables : ℕ) (ls ms : List DerivationLine) → AreLinesOver variables ls → AreLinesOver variables ms → AreLinesOver variables (ls ++ ms)
lines_over_append variables [] ms o p = p
lines_over_append variables (l ∷ ls) ms o p = (o.0, lines_over_append variables ls ms o.1 p)

filled : {X : Type 0} (xs : List X) (x : X) (n : ℕ) → length xs ≤ n → length (xs ++ replicate (n - length xs) x) ≡ n
filled xs x n h = simp (length-append, length-replicate) (omega arith)

begins_clauses : (variables count : ℕ) (clauses : List (List ℤ)) → variables ≤ 2 ^ 30 → count < 2 ^ 32 → AreClausesOver variables clauses → length clauses ≤ count
    → Begins (title ∷ head_text variables count ∷ map clause_text clauses)
begins_clauses variables count clauses h s over fewer =
    let whole : List (List ℤ) = clauses ++ replicate (count - length clauses) [] in
    let number : length whole ≡ count = filled clauses [] count fewer in
    record {
      formula = record { variables = variables; clauses = whole };
      derivation = record { lines = [] };
      more = map clause_text (replicate (count - length clauses) []) ++ derivation_head 0 ∷ [];
      pair = record {
        variables = h;
        clause_count = omega arith;
        clauses = clauses_over_append variables clauses (replicate (count - length clauses) []) over (empty_clauses_over variables (count - length clauses));
        line_count = omega arith;
        lines = tt;
      };
      whole = rw number (ap (λ (ls : List (List ℕ)). title ∷ head_text variables count ∷ ls) (again clauses (replicate (count - length clauses) [])));
    }
  where
    again : (cs ds : List (List ℤ)) → map clause_text (cs ++ ds) ++ derivation_head 0 ∷ [] ≡ map clause_text cs ++ (map clause_text ds ++ derivation_head 0 ∷ [])
    again cs ds = simp (map-append, append_assoc)

begins_lines : (variables : ℕ) (clauses : List (List ℤ)) (count : ℕ) (lines : List DerivationLine) → variables ≤ 2 ^ 30 → length clauses < 2 ^ 32 → AreClausesOver variables clauses → count < 2 ^ 32
    → AreLinesOver variables lines → length lines ≤ count → Begins (title ∷ head_text variables (length clauses) ∷ (map clause_text clauses ++ derivation_head count ∷ map line_text lines))
begins_lines variables clauses count lines h s over t lines_over fewer =
    let whole : List DerivationLine = lines ++ replicate (count - length lines) blank in
    let number : length whole ≡ count = filled lines blank count fewer in
    record {
      formula = record { variables = variables; clauses = clauses };
      derivation = record { lines = whole };
      more = map line_text (replicate (count - length lines) blank);
      pair = record {
        variables = h;
        clause_count = s;
        clauses = over;
        line_count = omega arith;
        lines = lines_over_append variables lines (replicate (count - length lines) blank) lines_over (blank_lines_over variables (count - length lines));
      };
      whole = rw number (ap (λ (ls : List (List ℕ)). title ∷ head_text variables (length clauses) ∷ ls) (again (map clause_text clauses) (derivation_head count) lines (replicate (count - length lines) blank)));
    }
  where
    again : (front : List (List ℕ)) (b : List ℕ) (ls ms : List DerivationLine) → front ++ b ∷ map line_text (ls ++ ms) ≡ (front ++ b ∷ map line_text ls) ++ map line_text ms
    again front b ls ms = simp (map-append, append_assoc)

begins_first : (rest : List (List ℕ)) (lines : List (List ℕ)) → certificate_lines (record { variables = 0; clauses = [] }) (record { lines = [] }) ≡ lines ++ rest → Begins lines
begins_first rest lines e = record {
  formula = record { variables = 0; clauses = [] };
  derivation = record { lines = [] };
  more = rest;
  pair = record { variables = omega arith; clause_count = omega arith; clauses = tt; line_count = omega arith; lines = tt };
  whole = e;
}

-- ---- the first line that isn't allowed

pub bad_title : (bytes : List ℕ) → ((more : List ℕ) → bytes ≡ title ++ 10 ∷ more → ⊥) → IsFirstBadLine bytes 1
bad_title bytes other = record {
  before = [];
  rest = bytes;
  count = refl;
  text = refl;
  good = begins_first _ [] refl;
  bad = λ next more e begins. other more (e ∙ ap (λ (line : List ℕ). line ++ 10 ∷ more) (first next begins));
  ended = λ e whole. nothing whole;
}
  where
    first : (next : List ℕ) → Begins (next ∷ []) → next ≡ title
    first next begins = let whole = begins.whole in cc

    nothing : IsWhole [] → ⊥
    nothing whole = let e = whole.whole in absurd cc

pub bad_head : (bytes rest : List ℕ) → bytes ≡ title ++ 10 ∷ rest → ((v c : ℕ) (more : List ℕ) → v ≤ 2 ^ 30 → c < 2 ^ 32 → rest ≡ head_text v c ++ 10 ∷ more → ⊥) → IsFirstBadLine bytes 2
bad_head bytes rest e other = record {
  before = title ∷ [];
  rest = rest;
  count = refl;
  text = text_line bytes title rest [] rest e refl;
  good = begins_first _ (title ∷ []) refl;
  bad = λ next more f begins.
      let second = second next begins in
      other begins.formula.variables (length begins.formula.clauses) more begins.pair.variables begins.pair.clause_count (f ∙ ap (λ (line : List ℕ). line ++ 10 ∷ more) second);
  ended = λ f whole. only whole;
}
  where
    second : (next : List ℕ) (begins : Begins (title ∷ next ∷ [])) → next ≡ head_text begins.formula.variables (length begins.formula.clauses)
    second next begins = let whole = begins.whole in cc

    only : IsWhole (title ∷ []) → ⊥
    only whole = let e = whole.whole in absurd cc

-- the lines of a certificate that begins so
pub clause_lines : (variables count : ℕ) (clauses : List (List ℤ)) (formula : Formula) (derivation : Derivation) (more : List (List ℕ)) → variables ≤ 2 ^ 30 → count < 2 ^ 32 → IsPair formula derivation
    → certificate_lines formula derivation ≡ (title ∷ head_text variables count ∷ more)
    → (formula.variables ≡ variables) × (length formula.clauses ≡ count)
    × (map clause_text formula.clauses ++ derivation_head (length derivation.lines) ∷ map line_text derivation.lines ≡ more)
clause_lines variables count clauses formula derivation more small fits pair e =
    let heads : head_text formula.variables (length formula.clauses) ≡ head_text variables count = cc in
    let rest : map clause_text formula.clauses ++ derivation_head (length derivation.lines) ∷ map line_text derivation.lines ≡ more = cc in
    let same = head_same formula.variables (length formula.clauses) variables count pair.variables pair.clause_count small fits heads in
    (same.0, same.1, rest)

too_short : (variables count : ℕ) (clauses : List (List ℤ)) → variables ≤ 2 ^ 30 → count < 2 ^ 32 → length clauses ≤ count → IsWhole (title ∷ head_text variables count ∷ map clause_text clauses) → ⊥
too_short variables count clauses small fits fewer whole =
    let parts = clause_lines variables count clauses whole.formula whole.derivation (map clause_text clauses) small fits whole.pair whole.whole in
    let lengths = simp (length-append, length-map) at (ap length parts.2) in
    omega (arith, parts.1, lengths)

pub bad_clause : (bytes : List ℕ) (variables count : ℕ) (clauses : List (List ℤ)) (rest : List ℕ) → ClausesRead bytes variables count clauses rest → length clauses < count → NoClause variables rest
    → IsFirstBadLine bytes (length clauses + 3)
bad_clause bytes variables count clauses rest read fewer other = record {
  before = title ∷ head_text variables count ∷ map clause_text clauses;
  rest = rest;
  count = simp length-map (omega arith);
  text = read.text;
  good = begins_clauses variables count clauses read.small read.fits read.over read.fewer;
  bad = λ next more e begins. refused next more e begins;
  ended = λ e whole. too_short variables count clauses read.small read.fits read.fewer whole;
}
  where
    refused : (next more : List ℕ) → rest ≡ next ++ 10 ∷ more → Begins (title ∷ head_text variables count ∷ (map clause_text clauses ++ next ∷ [])) → ⊥
    refused next more e begins =
        let parts = clause_lines variables count clauses begins.formula begins.derivation ((map clause_text clauses ++ next ∷ []) ++ begins.more) read.small read.fits begins.pair begins.whole in
        let shorter : length (map clause_text clauses) < length begins.formula.clauses = simp length-map (omega (arith, parts.1)) in
        let row = next_row clause_text begins.formula.clauses _ (map clause_text clauses) begins.more next shorter parts.2 in
        other row.item more (subst (λ (v : ℕ). IsClauseOver v row.item) parts.0 (clause_over_at begins.formula.variables begins.formula.clauses row.at row.item begins.pair.clauses row.there))
        (e ∙ ap (λ (line : List ℕ). line ++ 10 ∷ more) row.is)

pub bad_derivation_head : (bytes : List ℕ) (variables count : ℕ) (clauses : List (List ℤ)) (rest : List ℕ) → ClausesRead bytes variables count clauses rest → length clauses ≡ count
    → ((n : ℕ) (more : List ℕ) → n < 2 ^ 32 → rest ≡ derivation_head n ++ 10 ∷ more → ⊥) → IsFirstBadLine bytes (count + 3)
bad_derivation_head bytes variables count clauses rest read all other = record {
  before = title ∷ head_text variables count ∷ map clause_text clauses;
  rest = rest;
  count = simp length-map (omega arith);
  text = read.text;
  good = begins_clauses variables count clauses read.small read.fits read.over read.fewer;
  bad = λ next more e begins. refused next more e begins;
  ended = λ e whole. too_short variables count clauses read.small read.fits read.fewer whole;
}
  where
    refused : (next more : List ℕ) → rest ≡ next ++ 10 ∷ more → Begins (title ∷ head_text variables count ∷ (map clause_text clauses ++ next ∷ [])) → ⊥
    refused next more e begins =
        let parts = clause_lines variables count clauses begins.formula begins.derivation ((map clause_text clauses ++ next ∷ []) ++ begins.more) read.small read.fits begins.pair begins.whole in
        let same_length : length (map clause_text clauses) ≡ length begins.formula.clauses = simp length-map (omega (arith, parts.1)) in
        let heads = skip_rows clause_text begins.formula.clauses (map clause_text clauses) _ next _ begins.more same_length (parts.2 ∙ append_assoc (map clause_text clauses) (next ∷ []) begins.more) in
        other (length begins.derivation.lines) more begins.pair.line_count (e ∙ ap (λ (line : List ℕ). line ++ 10 ∷ more) (sym heads.0))

-- the head of the derivation and lines have been read too
pub record LinesRead (bytes : List ℕ) (variables : ℕ) (clauses : List (List ℤ)) (count : ℕ) (lines : List DerivationLine) (rest : List ℕ) : Type 0 where
  pub small : variables ≤ 2 ^ 30
  pub clauses_fit : length clauses < 2 ^ 32
  pub over : AreClausesOver variables clauses
  pub fits : count < 2 ^ 32
  pub lines_over : AreLinesOver variables lines
  pub fewer : length lines ≤ count
  pub text : bytes ≡ text_of_lines (title ∷ head_text variables (length clauses) ∷ (map clause_text clauses ++ derivation_head count ∷ map line_text lines)) ++ rest

derivation_lines : (variables : ℕ) (clauses : List (List ℤ)) (count : ℕ) (formula : Formula) (derivation : Derivation) (more : List (List ℕ)) → variables ≤ 2 ^ 30 → length clauses < 2 ^ 32 → count < 2 ^ 32
    → IsPair formula derivation → certificate_lines formula derivation ≡ (title ∷ head_text variables (length clauses) ∷ (map clause_text clauses ++ derivation_head count ∷ more))
    → (formula.variables ≡ variables) × (length derivation.lines ≡ count) × (map line_text derivation.lines ≡ more)
derivation_lines variables clauses count formula derivation more small clauses_fit fits pair e =
    let parts = clause_lines variables (length clauses) clauses formula derivation (map clause_text clauses ++ derivation_head count ∷ more) small clauses_fit pair e in
    let same_length : length (map clause_text clauses) ≡ length formula.clauses = simp length-map (omega (arith, parts.1)) in
    let heads = skip_rows clause_text formula.clauses (map clause_text clauses) _ (derivation_head count) _ more same_length parts.2 in
    (parts.0, derivation_head_same (length derivation.lines) count pair.line_count fits heads.0, heads.1)

regroup : (front : List (List ℕ)) (b : List ℕ) (lines : List (List ℕ)) (next : List ℕ) (more : List (List ℕ)) → ((front ++ b ∷ lines) ++ next ∷ []) ++ more ≡ front ++ b ∷ ((lines ++ next ∷ []) ++ more)
regroup front b lines next more = simp append_assoc

lines_count : (front : List (List ℕ)) (b : List ℕ) (lines : List (List ℕ)) → length (front ++ b ∷ lines) ≡ length front + suc (length lines)
lines_count front b lines = length-append front (b ∷ lines)

module _ (bytes : List ℕ) (variables : ℕ) (clauses : List (List ℤ)) (count : ℕ) (lines : List DerivationLine) (rest : List ℕ) (read : LinesRead bytes variables clauses count lines rest) where
  -- a certificate that begins with the lines that were read and a further one
  further : (next : List ℕ) (begins : Begins (title ∷ head_text variables (length clauses) ∷ ((map clause_text clauses ++ derivation_head count ∷ map line_text lines) ++ next ∷ [])))
      → (begins.formula.variables ≡ variables) × (length begins.derivation.lines ≡ count) × (map line_text begins.derivation.lines ≡ (map line_text lines ++ next ∷ []) ++ begins.more)
  further next begins =
      derivation_lines variables clauses count begins.formula begins.derivation ((map line_text lines ++ next ∷ []) ++ begins.more) read.small read.clauses_fit read.fits begins.pair
      (begins.whole ∙ ap (λ (ls : List (List ℕ)). title ∷ head_text variables (length clauses) ∷ ls) (regroup (map clause_text clauses) (derivation_head count) (map line_text lines) next begins.more))

  number : length lines + length clauses + 4 ≡ length (title ∷ head_text variables (length clauses) ∷ (map clause_text clauses ++ derivation_head count ∷ map line_text lines)) + 1
  number = simp (length-append, length-map) (omega arith)

  pub bad_line : length lines < count → NoLine variables rest → IsFirstBadLine bytes (length lines + length clauses + 4)
  bad_line fewer other = record {
    before = title ∷ head_text variables (length clauses) ∷ (map clause_text clauses ++ derivation_head count ∷ map line_text lines);
    rest = rest;
    count = number;
    text = read.text;
    good = begins_lines variables clauses count lines read.small read.clauses_fit read.over read.fits read.lines_over read.fewer;
    bad = λ next more e begins. refused next more e begins;
    ended = λ e whole. unfinished whole;
  }
    where
      refused : (next more : List ℕ) → rest ≡ next ++ 10 ∷ more → Begins (title ∷ head_text variables (length clauses) ∷ ((map clause_text clauses ++ derivation_head count ∷ map line_text lines) ++ next ∷ [])) → ⊥
      refused next more e begins =
          let parts = further next begins in
          let shorter : length (map line_text lines) < length begins.derivation.lines = simp length-map (omega (arith, parts.1)) in
          let row = next_row line_text begins.derivation.lines [] (map line_text lines) begins.more next shorter (append-nil (map line_text begins.derivation.lines) ∙ parts.2) in
          other row.item more (subst (λ (v : ℕ). IsLineOver v row.item) parts.0 (line_over_at begins.formula.variables begins.derivation.lines row.at row.item begins.pair.lines row.there))
          (e ∙ ap (λ (line : List ℕ). line ++ 10 ∷ more) row.is)

      unfinished : IsWhole (title ∷ head_text variables (length clauses) ∷ (map clause_text clauses ++ derivation_head count ∷ map line_text lines)) → ⊥
      unfinished whole =
          let parts = derivation_lines variables clauses count whole.formula whole.derivation (map line_text lines) read.small read.clauses_fit read.fits whole.pair whole.whole in
          let lengths = simp length-map at (ap length parts.2) in
          omega (arith, parts.1, lengths)

  pub bad_end : length lines ≡ count → (rest ≡ [] → ⊥) → IsFirstBadLine bytes (length lines + length clauses + 4)
  bad_end all other = record {
    before = title ∷ head_text variables (length clauses) ∷ (map clause_text clauses ++ derivation_head count ∷ map line_text lines);
    rest = rest;
    count = number;
    text = read.text;
    good = begins_lines variables clauses count lines read.small read.clauses_fit read.over read.fits read.lines_over read.fewer;
    bad = λ next more e begins. refused next begins;
    ended = λ e whole. other e;
  }
    where
      refused : (next : List ℕ) → Begins (title ∷ head_text variables (length clauses) ∷ ((map clause_text clauses ++ derivation_head count ∷ map line_text lines) ++ next ∷ [])) → ⊥
      refused next begins =
          let parts = further next begins in
          let lengths = simp (length-append, length-map) at (ap length parts.2) in
          omega (arith, parts.1, lengths)
