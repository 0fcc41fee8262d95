-- Loops of the reader.
use Rattle.std.proofs.Common.{◌≡◌, ℕ, suc, ◌+◌, ◌-◌, ◌≤◌, ◌<◌, zero, Option, true, false, leb, List, [], ◌∷◌, ◌++◌, Some, None, refl, sym, ap, ◌∙◌, append_assoc, arith}
use Rattle.std.proofs.lemmas.Bool.{le-leb, lt-leb}
use Rattle.fq_core.specs.declared.statement_kind.StatementKind.{StatementKind}
use Rattle.fql_tokens.specs.declared.token.Token.{Token}
use Rattle.fql_tokens.specs.declared.token.Mark.TheVariants as marks
use Rattle.fql_read.specs.declared.stop.Stop.{Stop}
use Rattle.fql_read.specs.declared.stop.Stop.TheVariants.{Memory, Syntax}
use Rattle.fql_read.specs.Gives.{Fails}
use Rattle.fql_read.specs.declared.operator.Operator.{Operator}
use Rattle.fql_read.specs.declared.operator.Part.{Part}
use Rattle.fql_read.specs.declared.cover.CoverTree.{CoverTree}
use Rattle.fql_read.specs.Tables.{kind_in, level}
use Rattle.fql_read.specs.Reading.{Read, Reader, ◌>>=◌, starts, tail, expect, column_of, one_at, kinds_at, operator_at, by_operator, behind, operators_at}
use Rattle.fql_read.proofs.Steps.{Stops}

-- what was read before, and what is still read
abbrev pub with_front : {A : Type 0} → List A → Read (List A) → Read (List A)
with_front front read = read >>= λ x. Some (front ++ x.0, x.1)

module _ (list : List StatementKind) (len i : ℕ) (rest : List Token) (total : Read (List StatementKind)) (so_far : with_front list (kinds_at (len - i) rest) ≡ total) where
  pub kind_fails : (e : Stop) → i < len → Fails e (one_at kind_in rest) → Fails e total
  unfolding kinds_at
  kind_fails Memory lt h = tt
  kind_fails Syntax lt h = let k : len - i ≡ suc (len - (i + 1)) = omega arith in sym so_far ∙ rw (k, h) refl

  pub close_fails : (e : Stop) (a : StatementKind) (after : List Token) → i < len → one_at kind_in rest ≡ Some (a, after) → starts marks.Comma after ≡ false → Fails e (expect marks.Close after) → Fails e total
  unfolding kinds_at
  close_fails Memory a after lt h comma c = tt
  close_fails Syntax a after lt h comma c = let k : len - i ≡ suc (len - (i + 1)) = omega arith in sym so_far ∙ rw (k, h, comma, c) refl

  pub kinds_end : (a : StatementKind) (after behind : List Token) → i < len → one_at kind_in rest ≡ Some (a, after) → starts marks.Comma after ≡ false → expect marks.Close after ≡ Some behind → total ≡ Some ((list ++ a ∷ []), behind)
  unfolding kinds_at
  kinds_end a after behind lt h comma c = let k : len - i ≡ suc (len - (i + 1)) = omega arith in sym so_far ∙ rw (k, h, comma, c) refl

  pub kinds_go_on : (a : StatementKind) (after : List Token) → i < len → one_at kind_in rest ≡ Some (a, after) → starts marks.Comma after ≡ true → with_front (list ++ a ∷ []) (kinds_at (len - (i + 1)) (tail after)) ≡ total
  unfolding kinds_at
  kinds_go_on a after lt h comma =
      let k : len - i ≡ suc (len - (i + 1)) = omega arith in
      let one : with_front list (kinds_at (len - i) rest) ≡ with_front (list ++ a ∷ []) (kinds_at (len - (i + 1)) (tail after)) = rw (k, h, comma) (regroup list a (kinds_at (len - (i + 1)) (tail after))) in
      sym one ∙ so_far
    where
      regroup : (list : List StatementKind) (a : StatementKind) (read : Read (List StatementKind)) → with_front list (read >>= λ x. Some (a ∷ x.0, x.1)) ≡ with_front (list ++ a ∷ []) read
      regroup list a None = refl
      regroup list a (Some x) = ap (λ (ts : List StatementKind). Some (ts, x.1)) (sym (append_assoc list (a ∷ []) x.0))

  pub kinds_run_out : len ≤ i → total ≡ None
  unfolding kinds_at
  kinds_run_out le = let k : len - i ≡ 0 = omega arith in sym so_far ∙ rw k refl

-- no operator of the level follows
pub operators_end : (r : Reader) (x : Part) (n j : ℕ) (c : CoverTree) (rest : List Token) → Stops j rest → operators_at r x n j c rest ≡ Some (c, rest)
unfolding operators_at
operators_end r x zero j c rest stops = refl
operators_end r x (suc n) j c rest stops = at (operator_at rest) refl
  where
    at : (o : Option Operator) → operator_at rest ≡ o → by_operator j o (λ op. behind r x op c (column_of rest) (tail rest) >>= λ u. operators_at r x n j u.0 u.1) (Some (c, rest)) ≡ Some (c, rest)
    at None e = refl
    at (Some op) e = let no_more : leb j (level op) ≡ false = lt-leb _ _ (stops op e) in rw no_more refl

module _ (r : Reader) (x : Part) (len i k : ℕ) (c : CoverTree) (rest : List Token) (total : Read CoverTree) (so_far : operators_at r x (len - i) k c rest ≡ total) where
  pub operand_fails : (e : Stop) (op : Operator) → i < len → Some op ≡ operator_at rest → k ≤ level op → Fails e (behind r x op c (column_of rest) (tail rest)) → Fails e total
  unfolding operators_at
  operand_fails Memory op lt o le h = tt
  operand_fails Syntax op lt o le h =
      let f : len - i ≡ suc (len - (i + 1)) = omega arith in
      let at : leb k (level op) ≡ true = le-leb _ _ le in
      sym so_far ∙ rw (f, ← o, at, h) refl

  pub operators_go_on : (op : Operator) (b : CoverTree) (after : List Token) → i < len → Some op ≡ operator_at rest → k ≤ level op → behind r x op c (column_of rest) (tail rest) ≡ Some (b, after) → operators_at r x (len - (i + 1)) k b after ≡ total
  unfolding operators_at
  operators_go_on op b after lt o le h =
      let f : len - i ≡ suc (len - (i + 1)) = omega arith in
      let at : leb k (level op) ≡ true = le-leb _ _ le in
      let one : operators_at r x (len - i) k c rest ≡ operators_at r x (len - (i + 1)) k b after = rw (f, ← o, at, h) refl in
      sym one ∙ so_far

  pub operators_run_out : len ≤ i → total ≡ Some (c, rest)
  unfolding operators_at
  operators_run_out le = let f : len - i ≡ 0 = omega arith in sym so_far ∙ rw f refl

  pub operators_stop : Stops k rest → total ≡ Some (c, rest)
  operators_stop stops = sym so_far ∙ operators_end r x (len - i) k c rest stops
