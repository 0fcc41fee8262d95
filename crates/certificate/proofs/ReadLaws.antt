-- What has been read of a certificate, and where the reading stops.
use Rattle.std.proofs.Common.{◌≡◌, Bool, true, false, ℕ, suc, ◌+◌, ◌<◌, ◌≤◌, ◌^◌, List, [], ◌∷◌, ◌++◌, length, map, refl, sym, ◌∙◌, ap, arith, append_assoc, append-nil, length-append}
use Rattle.std.specs.Prelude.{ℤ, pos, nat_eq, codes}
use Rattle.std.specs.Fmt.{decimal, signed_decimal}
use Rattle.std.proofs.lemmas.Fmt.{decimal_digit}
use Rattle.std.proofs.lemmas.Grind.{flat_map-append}
use Rattle.cnf.specs.declared.formula.Formula.{Formula}
use Rattle.cnf.specs.declared.derivation.DerivationLine.{DerivationLine}
use Rattle.cnf.specs.declared.derivation.Derivation.{Derivation}
use Rattle.cnf.specs.Dimacs.{clause_text, dimacs_text, head_text, text_of_lines}
use Rattle.certificate.specs.declared.stop.Stop.{Stop}
use Rattle.certificate.specs.declared.stop.Stop.TheVariants as stop
use Rattle.certificate.specs.Certificates.{IsCertificate, IsFirstBadLine, title, derivation_head, line_text, certificate_text, numbers_of_steps}
use Rattle.certificate.specs.Numbers.{numbers_text}
use Rattle.certificate.specs.Reading.{ClausesRead, IsClauses, ClausesStop, IsClausesStop, IsLines, LinesStop, IsLinesStop}
use Rattle.certificate.specs.Refusals.{IsRefusal, IsStopBelow, fault_of_stop}
use Rattle.certificate.proofs.RowLaws.{differs}
use Rattle.certificate.proofs.WholeLaws.{LinesRead, text_line, text_join, bad_clause, bad_line, bad_end}

-- ---- a line's number fits 32 bits

lines_within : (lines : List (List ℕ)) → length lines ≤ length (text_of_lines lines)
lines_within [] = omega arith
lines_within (line ∷ lines) = simp length-append (omega (arith, lines_within lines))

pub number_fits : (bytes : List ℕ) (line : ℕ) → IsFirstBadLine bytes line → length bytes < 2 ^ 32 → line < 2 ^ 32
number_fits bytes line first small = by_lines first.before refl
  where
    by_lines : (lines : List (List ℕ)) → first.before ≡ lines → line < 2 ^ 32
    by_lines [] e = omega (arith, first.count, ap length e)
    by_lines (l ∷ ls) e =
        let whole = first.good.whole in
        let head : title ≡ l = cc in
        let bytes_is : bytes ≡ text_of_lines (l ∷ ls) ++ first.rest = first.text ∙ ap (λ (xs : List (List ℕ)). text_of_lines xs ++ first.rest) e in
        let lengths = simp length-append at (ap length bytes_is) in
        let title_length : length l ≡ 20 = ap length (sym head) in
        omega (arith, lengths, title_length, lines_within ls, first.count, ap length e)

-- ---- what has been read

pub clauses_read : (bytes after_title after_head : List ℕ) (variables count n : ℕ) (clauses : List (List ℤ)) (rest : List ℕ) → bytes ≡ title ++ 10 ∷ after_title → variables ≤ 2 ^ 30 → count < 2 ^ 32
    → after_title ≡ head_text variables count ++ 10 ∷ after_head → IsClauses variables after_head n clauses rest → n ≤ count → ClausesRead bytes variables count clauses rest
clauses_read bytes after_title after_head variables count n clauses rest e small fits f read fewer = record {
  small = small;
  fits = fits;
  over = read.over;
  fewer = omega (arith, read.number);
  text = text_line bytes title after_title (head_text variables count ∷ map clause_text clauses) rest e (text_line after_title (head_text variables count) after_head (map clause_text clauses) rest f read.text_is);
}

pub lines_read : (bytes : List ℕ) (variables count : ℕ) (clauses : List (List ℤ)) (rest after_head : List ℕ) (line_count n : ℕ) (lines : List DerivationLine) (end : List ℕ) → ClausesRead bytes variables count clauses rest
    → length clauses ≡ count → line_count < 2 ^ 32 → rest ≡ derivation_head line_count ++ 10 ∷ after_head → IsLines variables after_head n lines end → n ≤ line_count → LinesRead bytes variables clauses line_count lines end
lines_read bytes variables count clauses rest after_head line_count n lines end before all fits e read fewer = record {
  small = before.small;
  clauses_fit = omega (arith, before.fits, all);
  over = before.over;
  fits = fits;
  lines_over = read.over;
  fewer = omega (arith, read.number);
  text = rw all (text_join bytes rest end (title ∷ head_text variables count ∷ map clause_text clauses) (derivation_head line_count ∷ map line_text lines) before.text
      (text_line rest (derivation_head line_count) after_head (map line_text lines) end e read.text_is));
}

pub whole_read : (bytes : List ℕ) (variables : ℕ) (clauses : List (List ℤ)) (count : ℕ) (lines : List DerivationLine) (rest : List ℕ) → LinesRead bytes variables clauses count lines rest → length lines ≡ count → rest ≡ []
    → IsCertificate bytes (record { variables = variables; clauses = clauses }) (record { lines = lines })
whole_read bytes variables clauses count lines rest read all e = (
  record { variables = read.small; clause_count = read.clauses_fit; clauses = read.over; line_count = omega (arith, read.fits, all); lines = read.lines_over },
  read.text ∙ rw (e, all) (append-nil (text_of_lines (title ∷ head_text variables (length clauses) ∷ (map clause_text clauses ++ derivation_head count ∷ map line_text lines)))),
)

-- ---- where the reading stops

pub clauses_stop : (bytes after_title after_head : List ℕ) (variables count at : ℕ) → bytes ≡ title ++ 10 ∷ after_title → variables ≤ 2 ^ 30 → count < 2 ^ 32 → after_title ≡ head_text variables count ++ 10 ∷ after_head
    → ClausesStop variables after_head count at → IsFirstBadLine bytes (at + 3)
clauses_stop bytes after_title after_head variables count at e small fits f s =
    let fewer = s.fewer in
    let read = clauses_read bytes after_title after_head variables count at s.clauses s.rest e small fits f s.read (omega arith) in
    rw s.read.number at (bad_clause bytes variables count s.clauses s.rest read (omega (arith, s.read.number)) s.bad)

pub lines_stop : (bytes : List ℕ) (variables count : ℕ) (clauses : List (List ℤ)) (rest after_head : List ℕ) (line_count at : ℕ) → ClausesRead bytes variables count clauses rest → length clauses ≡ count → line_count < 2 ^ 32
    → rest ≡ derivation_head line_count ++ 10 ∷ after_head → LinesStop variables after_head line_count at → IsFirstBadLine bytes (at + (count + 4))
lines_stop bytes variables count clauses rest after_head line_count at before all fits e s =
    let fewer = s.fewer in
    let read = lines_read bytes variables count clauses rest after_head line_count at s.lines s.rest before all fits e s.read (omega arith) in
    let bad = bad_line bytes variables clauses line_count s.lines s.rest read (omega (arith, s.read.number)) s.bad in
    let number : length s.lines + length clauses + 4 ≡ at + (count + 4) = omega (arith, s.read.number, all) in
    rw number at bad

pub clauses_refused : (bytes after_title after_head : List ℕ) (variables count : ℕ) (s : Stop) → bytes ≡ title ++ 10 ∷ after_title → variables ≤ 2 ^ 30 → count < 2 ^ 32 → after_title ≡ head_text variables count ++ 10 ∷ after_head
    → IsClausesStop variables after_head count s → length bytes < 2 ^ 32 → IsRefusal bytes (fault_of_stop 3 s) × IsStopBelow 3 s
clauses_refused bytes after_title after_head variables count (stop.BadLine at) e small fits f s short =
    let first = clauses_stop bytes after_title after_head variables count at e small fits f s in
    (record { line = at + 3; is = refl; first = first }, number_fits bytes (at + 3) first short)
clauses_refused bytes after_title after_head variables count stop.Memory e small fits f s short = (tt, tt)

pub lines_refused : (bytes : List ℕ) (variables count : ℕ) (clauses : List (List ℤ)) (rest after_head : List ℕ) (line_count : ℕ) (s : Stop) → ClausesRead bytes variables count clauses rest → length clauses ≡ count → line_count < 2 ^ 32
    → rest ≡ derivation_head line_count ++ 10 ∷ after_head → IsLinesStop variables after_head line_count s → length bytes < 2 ^ 32 → IsRefusal bytes (fault_of_stop (count + 4) s) × IsStopBelow (count + 4) s
lines_refused bytes variables count clauses rest after_head line_count (stop.BadLine at) before all fits e s short =
    let first = lines_stop bytes variables count clauses rest after_head line_count at before all fits e s in
    (record { line = at + (count + 4); is = refl; first = first }, number_fits bytes (at + (count + 4)) first short)
lines_refused bytes variables count clauses rest after_head line_count stop.Memory before all fits e s short = (tt, tt)

pub end_refused : (bytes : List ℕ) (variables count : ℕ) (clauses : List (List ℤ)) (rest after_head : List ℕ) (line_count : ℕ) (lines : List DerivationLine) (end : List ℕ) → ClausesRead bytes variables count clauses rest
    → length clauses ≡ count → line_count < 2 ^ 32 → rest ≡ derivation_head line_count ++ 10 ∷ after_head → IsLines variables after_head line_count lines end → (end ≡ [] → ⊥)
    → IsFirstBadLine bytes (line_count + count + 4)
end_refused bytes variables count clauses rest after_head line_count lines end before all fits e read other =
    let lines_are = lines_read bytes variables count clauses rest after_head line_count line_count lines end before all fits e read (omega arith) in
    let bad = bad_end bytes variables clauses line_count lines end lines_are read.number other in
    let number : length lines + length clauses + 4 ≡ line_count + count + 4 = omega (arith, read.number, all) in
    rw number at bad

-- ---- what is written

pub line_text_is : (line : DerivationLine) → line_text line ≡ clause_text line.clause ++ 32 ∷ (decimal line.first ++ 32 ∷ (numbers_text (numbers_of_steps line.steps) ++ codes "0"))
line_text_is line =
    ap (λ (r : List ℕ). r ++ codes "0") (flat_map-append (λ z. signed_decimal z ++ 32 ∷ []) line.clause (pos 0 ∷ pos line.first ∷ numbers_of_steps line.steps))
    ∙ rw (decimal_digit 0 (omega arith)) (again (numbers_text line.clause) (decimal line.first) (numbers_text (numbers_of_steps line.steps)))
  where
    again : (a b c : List ℕ) → (a ++ (48 ∷ 32 ∷ ((b ++ 32 ∷ []) ++ c))) ++ 48 ∷ [] ≡ (a ++ 48 ∷ []) ++ 32 ∷ (b ++ 32 ∷ (c ++ 48 ∷ []))
    again a b c = simp append_assoc

pub certificate_text_is : (formula : Formula) (derivation : Derivation)
    → certificate_text formula derivation ≡ codes "fshell certificate 1\n" ++ (dimacs_text formula ++ ((derivation_head (length derivation.lines) ++ 10 ∷ []) ++ text_of_lines (map line_text derivation.lines)))
certificate_text_is formula derivation =
    ap (λ (r : List ℕ). codes "fshell certificate 1\n" ++ r)
    (flat_map-append (λ line. line ++ 10 ∷ []) (head_text formula.variables (length formula.clauses) ∷ map clause_text formula.clauses) (derivation_head (length derivation.lines) ∷ map line_text derivation.lines))

pub line_pushed : (text : List ℕ) (line : DerivationLine)
    → (((((text ++ clause_text line.clause) ++ 32 ∷ []) ++ decimal line.first) ++ 32 ∷ []) ++ numbers_text (numbers_of_steps line.steps)) ++ 48 ∷ [] ≡ text ++ line_text line
line_pushed text line =
    again text (clause_text line.clause) (decimal line.first) (numbers_text (numbers_of_steps line.steps)) ∙ ap (λ (r : List ℕ). text ++ r) (sym (line_text_is line))
  where
    again : (t a b c : List ℕ) → (((((t ++ a) ++ 32 ∷ []) ++ b) ++ 32 ∷ []) ++ c) ++ 48 ∷ [] ≡ t ++ (a ++ 32 ∷ (b ++ 32 ∷ (c ++ 48 ∷ [])))
    again t a b c = simp append_assoc

pub certificate_pushed : (formula : Formula) (derivation : Derivation)
    → ((codes "fshell certificate 1\n" ++ dimacs_text formula) ++ (derivation_head (length derivation.lines) ++ 10 ∷ [])) ++ text_of_lines (map line_text derivation.lines) ≡ certificate_text formula derivation
certificate_pushed formula derivation =
    again (codes "fshell certificate 1\n") (dimacs_text formula) (derivation_head (length derivation.lines) ++ 10 ∷ []) (text_of_lines (map line_text derivation.lines))
    ∙ sym (certificate_text_is formula derivation)
  where
    again : (a b c d : List ℕ) → ((a ++ b) ++ c) ++ d ≡ a ++ (b ++ (c ++ d))
    again a b c d = simp append_assoc

-- ---- the end

pub not_empty : (rest : List ℕ) (b : Bool) → b ≡ nat_eq (length rest) 0 → b ≡ false → rest ≡ [] → ⊥
not_empty rest b e f g = let no_more : true ≡ false = sym (ap (λ (xs : List ℕ). nat_eq (length xs) 0) g) ∙ sym e ∙ f in absurd cc

pub is_nothing : (rest : List ℕ) (b : Bool) → b ≡ nat_eq (length rest) 0 → b ≡ true → rest ≡ []
is_nothing [] b e f = refl
is_nothing (x ∷ xs) b e f =
    let not_none : nat_eq (suc (length xs)) 0 ≡ false = differs (suc (length xs)) 0 (λ g. omega arith) in
    let no_more : true ≡ false = sym f ∙ e ∙ not_none in
    absurd cc
