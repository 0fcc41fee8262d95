-- A text is the certificate of one pair, and none where a line isn't allowed.
use Rattle.std.proofs.Common.{◌≡◌, ℕ, ◌≤◌, ◌^◌, false, List, [], ◌∷◌, ◌++◌, length, map, refl, sym, ◌∙◌, ap, subst, arith, append_assoc, append-nil}
use Rattle.std.specs.Prelude.{ℤ, pos}
use Rattle.std.proofs.lemmas.List.{length-map}
use Rattle.cnf.specs.declared.formula.Formula.{Formula}
use Rattle.cnf.specs.declared.derivation.DerivationLine.{DerivationLine}
use Rattle.cnf.specs.declared.derivation.Derivation.{Derivation}
use Rattle.cnf.specs.Dimacs.{clause_text, text_of_lines}
use Rattle.certificate.specs.Certificates.{AreClausesOver, IsLineOver, AreLinesOver, IsPair, IsCertificate, IsFirstBadLine, derivation_head, line_text, certificate_lines, numbers_of_line, numbers_of_steps}
use Rattle.certificate.specs.Numbers.{has_byte}
use Rattle.certificate.proofs.ClauseLaws.{small_clause, small_line}
use Rattle.certificate.proofs.HeadLaws.{head_lacks, derivation_head_lacks}
use Rattle.certificate.proofs.LineLaws.{line_parts, clause_lacks_zero}
use Rattle.certificate.proofs.RowLaws.{row_lacks, one_row, cut_once, no_mark}
use Rattle.certificate.proofs.WholeLaws.{clause_lines, skip_rows}

-- ---- lines without a line feed

AllLack : List (List ℕ) → Type 0
AllLack [] = Unit {0}
AllLack (line ∷ lines) = (has_byte 10 line ≡ false) × AllLack lines

lack_append : (front back : List (List ℕ)) → AllLack front → AllLack back → AllLack (front ++ back)
unfolding AllLack
lack_append [] back f b = b
lack_append (line ∷ front) back f b = (f.0, lack_append front back f.1 b)

lack_front : (front back : List (List ℕ)) → AllLack (front ++ back) → AllLack front
unfolding AllLack
lack_front [] back h = tt
lack_front (line ∷ front) back h = (h.0, lack_front front back h.1)

clauses_lack : (variables : ℕ) (clauses : List (List ℤ)) → variables ≤ 2 ^ 30 → AreClausesOver variables clauses → AllLack (map clause_text clauses)
unfolding AllLack
clauses_lack variables [] h o = tt
clauses_lack variables (clause ∷ clauses) h o = (row_lacks 10 clause (omega arith) (small_clause variables 0 clause h o.0), clauses_lack variables clauses h o.1)

lines_lack : (variables : ℕ) (lines : List DerivationLine) → variables ≤ 2 ^ 30 → AreLinesOver variables lines → AllLack (map line_text lines)
unfolding AllLack
lines_lack variables [] h o = tt
lines_lack variables (line ∷ lines) h o = (row_lacks 10 (numbers_of_line line) (omega arith) (small_line variables line h o.0), lines_lack variables lines h o.1)

pair_lacks : (formula : Formula) (derivation : Derivation) → IsPair formula derivation → AllLack (certificate_lines formula derivation)
unfolding AllLack
pair_lacks formula derivation pair =
    let fits = pair.clause_count in
    let small = pair.variables in
    let lines_fit = pair.line_count in (
      refl,
      (
        head_lacks formula.variables (length formula.clauses) (omega arith) (omega arith),
        lack_append (map clause_text formula.clauses) (derivation_head (length derivation.lines) ∷ map line_text derivation.lines) (clauses_lack formula.variables formula.clauses small pair.clauses)
            (derivation_head_lacks (length derivation.lines) (omega arith), lines_lack formula.variables derivation.lines small pair.lines),
      ),
    )

regroup : (a b c : List ℕ) → ((a ++ 10 ∷ []) ++ b) ++ c ≡ a ++ 10 ∷ (b ++ c)
regroup a b c = simp append_assoc

regroup_two : (a b : List ℕ) → (a ++ 10 ∷ []) ++ b ≡ a ++ 10 ∷ b
regroup_two a b = simp append_assoc

-- lines that go on after the first ones
record Further (front lines : List (List ℕ)) (rest : List ℕ) : Type 0 where
  more : List (List ℕ)
  all : lines ≡ front ++ more
  text : rest ≡ text_of_lines more

further : (front lines : List (List ℕ)) (rest : List ℕ) → AllLack front → AllLack lines → text_of_lines front ++ rest ≡ text_of_lines lines → Further front lines rest
unfolding AllLack
further [] lines rest f l e = record { more = lines; all = refl; text = e }
further (a ∷ front) [] rest f l e = absurd (no_mark 10 [] a (text_of_lines front ++ rest) refl (sym e ∙ regroup a (text_of_lines front) rest))
further (a ∷ front) (b ∷ lines) rest f l e =
    let parts = cut_once 10 a (text_of_lines front ++ rest) b (text_of_lines lines) f.0 l.0 (sym (regroup a (text_of_lines front) rest) ∙ e ∙ regroup_two b (text_of_lines lines)) in
    let later = further front lines rest f.1 l.1 parts.1 in
    let first : a ≡ b = parts.0 in
    let all = later.all in
    record { more = later.more; all = cc; text = later.text }

pub no_certificate : (bytes : List ℕ) (line : ℕ) → IsFirstBadLine bytes line → (formula : Formula) (derivation : Derivation) → IsCertificate bytes formula derivation → ⊥
no_certificate bytes line first formula derivation is =
    let good = first.good in
    let front_lacks = lack_front first.before good.more (subst AllLack good.whole (pair_lacks good.formula good.derivation good.pair)) in
    let later = further first.before (certificate_lines formula derivation) first.rest front_lacks (pair_lacks formula derivation is.0) (sym first.text ∙ is.1) in
    by_more later.more later.all later.text
  where
    by_more : (more : List (List ℕ)) → certificate_lines formula derivation ≡ first.before ++ more → first.rest ≡ text_of_lines more → ⊥
    by_more [] all text = first.ended text (record { formula = formula; derivation = derivation; pair = is.0; whole = all ∙ append-nil first.before })
    by_more (next ∷ more) all text =
        first.bad next (text_of_lines more) (text ∙ regroup_two next (text_of_lines more))
        (record { formula = formula; derivation = derivation; more = more; pair = is.0; whole = all ∙ sym (append_assoc first.before (next ∷ []) more) })

-- ---- one pair

same_lines : (front lines : List (List ℕ)) → AllLack front → AllLack lines → text_of_lines front ≡ text_of_lines lines → front ≡ lines
same_lines front lines f l e =
    let later = further front lines [] f l (append-nil (text_of_lines front) ∙ e) in
    sym (later.all ∙ ap (λ (ls : List (List ℕ)). front ++ ls) (no_lines later.more later.text) ∙ append-nil front)
  where
    no_lines : (more : List (List ℕ)) → [] ≡ text_of_lines more → more ≡ []
    no_lines [] g = refl
    no_lines (next ∷ more) g = absurd (no_mark 10 [] next (text_of_lines more) refl (g ∙ regroup_two next (text_of_lines more)))

same_front : (a b r s : List (List ℕ)) → length a ≡ length b → a ++ r ≡ b ++ s → a ≡ b
same_front [] [] r s h e = refl
same_front [] (y ∷ ys) r s h e = absurd (omega arith)
same_front (x ∷ xs) [] r s h e = absurd (omega arith)
same_front (x ∷ xs) (y ∷ ys) r s h e =
    let first : x ≡ y = cc in
    let tails : xs ++ r ≡ ys ++ s = cc in
    let rest = same_front xs ys r s (omega arith) tails in
    cc

same_clauses : (v w : ℕ) (cs ds : List (List ℤ)) → v ≤ 2 ^ 30 → w ≤ 2 ^ 30 → AreClausesOver v cs → AreClausesOver w ds → map clause_text cs ≡ map clause_text ds → cs ≡ ds
same_clauses v w [] [] h k o p e = refl
same_clauses v w [] (d ∷ ds) h k o p e = absurd cc
same_clauses v w (c ∷ cs) [] h k o p e = absurd cc
same_clauses v w (c ∷ cs) (d ∷ ds) h k o p e =
    let heads : clause_text c ≡ clause_text d = cc in
    let tails : map clause_text cs ≡ map clause_text ds = cc in
    let first = one_row c d (small_clause v 0 c h o.0) (small_clause w 0 d k p.0) heads in
    let rest = same_clauses v w cs ds h k o.1 p.1 tails in
    cc

same_steps : (ss ts : List (ℕ × ℤ)) → numbers_of_steps ss ≡ numbers_of_steps ts → ss ≡ ts
same_steps [] [] e = refl
same_steps [] (t ∷ ts) e = absurd cc
same_steps (s ∷ ss) [] e = absurd cc
same_steps (s ∷ ss) (t ∷ ts) e =
    let number : s.0 ≡ t.0 = cc in
    let pivot : s.1 ≡ t.1 = cc in
    let tails : numbers_of_steps ss ≡ numbers_of_steps ts = cc in
    let rest = same_steps ss ts tails in
    let first : s ≡ t = ap (λ (n : ℕ). (n, s.1)) number ∙ ap (λ (x : ℤ). (t.0, x)) pivot in
    cc

same_line : (v w : ℕ) (l m : DerivationLine) → IsLineOver v l → IsLineOver w m → numbers_of_line l ≡ numbers_of_line m → l ≡ m
same_line v w l m o p e =
    let parts = line_parts w (numbers_of_line l) l.clause (pos l.first ∷ numbers_of_steps l.steps) m refl (clause_lacks_zero v 0 l.clause o.0) p e in
    let chain = parts.1 in
    let number : l.first ≡ m.first = cc in
    let tails : numbers_of_steps l.steps ≡ numbers_of_steps m.steps = cc in
    let make : List ℤ → ℕ → List (ℕ × ℤ) → DerivationLine = λ c n ss. record { clause = c; first = n; steps = ss } in
    ap (λ (c : List ℤ). make c l.first l.steps) parts.0 ∙ ap (λ (n : ℕ). make m.clause n l.steps) number ∙ ap (λ (ss : List (ℕ × ℤ)). make m.clause m.first ss) (same_steps l.steps m.steps tails)

same_derivation_lines : (v w : ℕ) (ls ms : List DerivationLine) → v ≤ 2 ^ 30 → w ≤ 2 ^ 30 → AreLinesOver v ls → AreLinesOver w ms → map line_text ls ≡ map line_text ms → ls ≡ ms
same_derivation_lines v w [] [] h k o p e = refl
same_derivation_lines v w [] (m ∷ ms) h k o p e = absurd cc
same_derivation_lines v w (l ∷ ls) [] h k o p e = absurd cc
same_derivation_lines v w (l ∷ ls) (m ∷ ms) h k o p e =
    let heads : line_text l ≡ line_text m = cc in
    let tails : map line_text ls ≡ map line_text ms = cc in
    let numbers = one_row (numbers_of_line l) (numbers_of_line m) (small_line v l h o.0) (small_line w m k p.0) heads in
    let first = same_line v w l m o.0 p.0 numbers in
    let rest = same_derivation_lines v w ls ms h k o.1 p.1 tails in
    cc

pub one_pair : (bytes : List ℕ) (f g : Formula) (d e : Derivation) → IsCertificate bytes f d → IsCertificate bytes g e → (f ≡ g) × (d ≡ e)
one_pair bytes f g d e p q =
    let lines = same_lines (certificate_lines f d) (certificate_lines g e) (pair_lacks f d p.0) (pair_lacks g e q.0) (sym p.1 ∙ q.1) in
    let q_pair = q.0 in
    let parts = clause_lines g.variables (length g.clauses) g.clauses f d (map clause_text g.clauses ++ derivation_head (length e.lines) ∷ map line_text e.lines) q_pair.variables q_pair.clause_count p.0 lines in
    let same_length : length (map clause_text g.clauses) ≡ length f.clauses = simp length-map (sym parts.1) in
    let also : length (map clause_text f.clauses) ≡ length (map clause_text g.clauses) = simp length-map parts.1 in
    let heads = skip_rows clause_text f.clauses (map clause_text g.clauses) _ (derivation_head (length e.lines)) _ (map line_text e.lines) same_length parts.2 in
    let p_pair = p.0 in
    let clauses = same_clauses f.variables g.variables f.clauses g.clauses p_pair.variables q_pair.variables p_pair.clauses q_pair.clauses (same_front _ _ _ _ also parts.2) in
    let derivation = same_derivation_lines f.variables g.variables d.lines e.lines p_pair.variables q_pair.variables p_pair.lines q_pair.lines heads.1 in
    let make : ℕ → List (List ℤ) → Formula = λ v cs. record { variables = v; clauses = cs } in
    (ap (λ (v : ℕ). make v f.clauses) parts.0 ∙ ap (λ (cs : List (List ℤ)). make g.variables cs) clauses, ap (λ (ls : List DerivationLine). (let d' : Derivation = record { lines = ls } in d')) derivation)
