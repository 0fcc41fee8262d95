-- What is read as an expression is spelled by the tokens that were taken.
use Rattle.std.proofs.Common.{◌≡◌, ℕ, zero, suc, ◌≤◌, List, [], ◌∷◌, ◌++◌, length, Some, None, refl, ap, append_assoc, arith}
use Rattle.std.specs.Prelude.{IfSome}
use Rattle.std.proofs.lemmas.List.{length-append}
use Rattle.std.proofs.lemmas.Option.{IfSome_then}
use Rattle.fql_tokens.specs.declared.token.Mark.TheVariants as marks
use Rattle.fql_tokens.specs.declared.token.Token.{Token}
use Rattle.fql_read.specs.declared.operator.Atom.{Atom}
use Rattle.fql_read.specs.declared.operator.Atom.TheVariants as atom
use Rattle.fql_read.specs.declared.operator.Join.TheVariants as join
use Rattle.fql_read.specs.declared.operator.Operator.{Operator}
use Rattle.fql_read.specs.declared.operator.Operator.TheVariants as operator
use Rattle.fql_read.specs.declared.operator.Part.{Part}
use Rattle.fql_read.specs.declared.operator.Part.TheVariants as part
use Rattle.fql_read.specs.declared.filter.Filter.{Filter}
use Rattle.fql_read.specs.declared.cover.CoverTree.{CoverTree}
use Rattle.fql_read.specs.Forms.{Text}
use Rattle.fql_read.specs.Tables.{atom_of, operator_of, level, number_in, place_of_predicate}
use Rattle.fql_read.specs.Spelled.{mark, DerivesFilter, DerivesSplit, Derives, some_nodes, some_edges, some_paths, a_predicate, alone, in_parentheses, quoted, grouped, two, any_times, times}
use Rattle.fql_read.specs.Reading.{Read, Reader, expect, column_of, one_at, single_at, filter_in, split_in, paths_at, operator_at, closed_at, quoted_at, atom_at, operand_at, behind, operators_at, level_by, expr_at}
use Rattle.fql_read.proofs.Steps.{then_some, expect_takes, one_takes, Stops, by_operator_some}
use Rattle.fql_read.proofs.SplitLaws.{split_in_takes}
use Rattle.fql_read.proofs.TakesFilters.{Takes, single_takes, filter_in_takes}

pub level_most : (op : Operator) → level op ≤ 4
level_most (operator.Join join.Plus) = omega arith
level_most (operator.Join join.Arrow) = omega arith
level_most (operator.Join join.Dot) = omega arith
level_most operator.Star = omega arith
level_most (operator.Count c) = omega arith

length-parts : (ts front rest : List Token) → ts ≡ front ++ rest → length rest ≤ length ts
length-parts ts front rest e = omega (arith, simp length-append at (ap length e))

record Paths (f : Filter) (n : ℕ) (ts rest : List Token) : Type 0 where
  front : List Token
  inner : Token
  begin : ℕ
  comma : ℕ
  end : ℕ
  parts : ts ≡ mark marks.Open begin ∷ (front ++ mark marks.Comma comma ∷ inner ∷ mark marks.Close end ∷ rest)
  fact : DerivesFilter f front
  holds : number_in inner.sign ≡ Some n

paths_take : (ts : List Token) → IfSome (paths_at ts) (λ x. Paths x.0.0 x.0.1 ts x.1)
unfolding paths_at
paths_take ts =
    then_some (expect marks.Open ts) _ _ (expect_takes marks.Open ts) (λ a o.
    then_some (filter_in a) _ _ (filter_in_takes a) (λ x d.
    then_some (expect marks.Comma x.1) _ _ (expect_takes marks.Comma x.1) (λ b m.
    then_some (one_at number_in b) _ _ (one_takes number_in b) (λ n h.
    then_some (expect marks.Close n.1) _ _ (expect_takes marks.Close n.1) (λ rest c.
    record { front = d.front; inner = h.0; begin = o.0; comma = m.0; end = c.0; parts = let e = h.2 in let f = d.parts in cc; fact = d.fact; holds = h.1 })))))

module _ (text : List ℕ) (ps : List Text) where
  -- a reader whose answers are spelled
  abbrev pub IsSound : Reader → Type 0
  IsSound r = (x : Part) (k : ℕ) (ts : List Token) → IfSome (r x k ts) (λ u. Takes (Derives text ps x k u.0) ts u.1 × Stops k u.1)

  -- an operand stands at each level
  abbrev Operands : Part → CoverTree → List Token → Type 0
  Operands x c ts = (k : ℕ) → Derives text ps x k c ts

  -- what an operator may follow: the tree is spelled at level k, and at that of the operator in front
  record Operand (x : Part) (k : ℕ) (c : CoverTree) (all ts : List Token) : Type 0 where
    front : List Token
    parts : all ≡ front ++ ts
    here : Derives text ps x k c front
    next : (op : Operator) → operator_at ts ≡ Some op → Derives text ps x (level op) c front

  nothing_stops : (k : ℕ) (ts : List Token) → length ts ≤ 0 → Stops k ts
  nothing_stops k [] le = λ op e. absurd cc
  nothing_stops k (t ∷ ts) le = absurd (omega arith)

  -- an expression and a mark
  record Closed (m : ℕ → Token) (P : List Token → Type 0) (ts rest : List Token) : Type 0 where
    front : List Token
    end : ℕ
    parts : ts ≡ front ++ m end ∷ rest
    fact : P front

  module _ (r : Reader) (sound : IsSound r) where
    closed_takes : (x : Part) (q : ℕ) (ts : List Token) → IfSome (closed_at r x marks.Close ts) (λ u. Closed (mark marks.Close) (Derives text ps x 1 u.0) ts u.1)
    unfolding closed_at
    closed_takes x q ts =
        then_some (r x 1 ts) _ _ (sound x 1 ts) (λ t d.
        then_some (expect marks.Close t.1) _ _ (expect_takes marks.Close t.1) (λ rest c.
        record { front = d.0.front; end = c.0; parts = let e = d.0.parts in cc; fact = d.0.fact }))

    grouped_takes : (ts : List Token) → IfSome (closed_at r part.Quoted marks.Quote ts) (λ u. Closed (mark marks.Quote) (Derives text ps part.Quoted 1 u.0) ts u.1)
    unfolding closed_at
    grouped_takes ts =
        then_some (r part.Quoted 1 ts) _ _ (sound part.Quoted 1 ts) (λ t d.
        then_some (expect marks.Quote t.1) _ _ (expect_takes marks.Quote t.1) (λ rest c.
        record { front = d.0.front; end = c.0; parts = let e = d.0.parts in cc; fact = d.0.fact }))

    quoted_takes : (x : Part) (t : Token) (ts : List Token) → atom_of t.sign ≡ atom.Quote → IfSome (quoted_at text r x t.column ts) (λ u. Takes (Operands x u.0) (t ∷ ts) u.1)
    unfolding quoted_at
    quoted_takes part.Cover t ts e =
        then_some (r part.Quoted 1 ts) _ _ (sound part.Quoted 1 ts) (λ u d.
        then_some (expect marks.Quote u.1) _ _ (expect_takes marks.Quote u.1) (λ rest c.
        rw (ap column_of c.1) (record { front = t ∷ (d.0.front ++ mark marks.Quote c.0 ∷ []); parts = let h = d.0.parts in simp append_assoc cc; fact = λ k. quoted t c.0 e d.0.fact })))
    quoted_takes part.Passing t ts e =
        then_some_last (closed_at r part.Quoted marks.Quote ts) (grouped_takes ts)
        (λ u b. record { front = t ∷ (b.front ++ mark marks.Quote b.end ∷ []); parts = let h = b.parts in simp append_assoc cc; fact = λ k. grouped t b.end e b.fact })
      where
        then_some_last : (o : Read CoverTree) → IfSome o (λ u. Closed (mark marks.Quote) (Derives text ps part.Quoted 1 u.0) ts u.1)
            → ((u : CoverTree × List Token) → Closed (mark marks.Quote) (Derives text ps part.Quoted 1 u.0) ts u.1 → Takes (Operands part.Passing u.0) (t ∷ ts) u.1)
            → IfSome o (λ u. Takes (Operands part.Passing u.0) (t ∷ ts) u.1)
        then_some_last None h g = tt
        then_some_last (Some u) h g = g u h
    quoted_takes part.Quoted t ts e = tt

    atom_takes : (x : Part) (a : Atom) (t : Token) (ts : List Token) → atom_of t.sign ≡ a → IfSome (atom_at text ps r x a t ts) (λ u. Takes (Operands x u.0) (t ∷ ts) u.1)
    unfolding atom_at
    atom_takes x atom.Nodes t ts e =
        then_some (single_at (split_in ps) ts) _ _ (single_takes (DerivesSplit ps) (split_in ps) (split_in_takes ps) ts) (λ f b.
        record { front = t ∷ mark marks.Open b.begin ∷ (b.front ++ mark marks.Close b.end ∷ []); parts = let h = b.parts in simp append_assoc cc; fact = λ k. some_nodes t b.begin b.end e b.fact })
    atom_takes x atom.Edges t ts e =
        then_some (single_at (split_in ps) ts) _ _ (single_takes (DerivesSplit ps) (split_in ps) (split_in_takes ps) ts) (λ f b.
        record { front = t ∷ mark marks.Open b.begin ∷ (b.front ++ mark marks.Close b.end ∷ []); parts = let h = b.parts in simp append_assoc cc; fact = λ k. some_edges t b.begin b.end e b.fact })
    atom_takes x atom.Paths t ts e =
        then_some (paths_at ts) _ _ (paths_take ts) (λ f b.
        record {
          front = t ∷ mark marks.Open b.begin ∷ (b.front ++ mark marks.Comma b.comma ∷ b.inner ∷ mark marks.Close b.end ∷ []);
          parts = let h = b.parts in simp append_assoc cc;
          fact = λ k. some_paths t b.inner b.begin b.comma b.end e b.fact b.holds;
        })
    atom_takes x atom.Predicate t ts e =
        then_some (one_at (place_of_predicate ps) (t ∷ ts)) _ _ (one_takes (place_of_predicate ps) (t ∷ ts)) (λ i h.
        record { front = h.0 ∷ []; parts = h.2; fact = λ k. a_predicate h.0 h.1 })
    atom_takes x atom.Group t ts e =
        last (closed_at r x marks.Close ts) (closed_takes x 0 ts)
        (λ u b. record { front = t ∷ (b.front ++ mark marks.Close b.end ∷ []); parts = let h = b.parts in simp append_assoc cc; fact = λ k. in_parentheses t b.end e b.fact })
      where
        last : (o : Read CoverTree) → IfSome o (λ u. Closed (mark marks.Close) (Derives text ps x 1 u.0) ts u.1)
            → ((u : CoverTree × List Token) → Closed (mark marks.Close) (Derives text ps x 1 u.0) ts u.1 → Takes (Operands x u.0) (t ∷ ts) u.1)
            → IfSome o (λ u. Takes (Operands x u.0) (t ∷ ts) u.1)
        last None h g = tt
        last (Some u) h g = g u h
    atom_takes x atom.Quote t ts e = quoted_takes x t ts e
    atom_takes x atom.Filter t ts e =
        then_some (split_in ps (t ∷ ts)) _ _ (split_in_takes ps (t ∷ ts)) (λ f d.
        record { front = d.front; parts = d.parts; fact = λ k. alone d.fact })

    operand_takes : (x : Part) (ts : List Token) → IfSome (operand_at text ps r x ts) (λ u. Takes (Operands x u.0) ts u.1)
    unfolding operand_at
    operand_takes x [] = tt
    operand_takes x (t ∷ ts) = atom_takes x (atom_of t.sign) t ts refl

    behind_takes : (x : Part) (k : ℕ) (op : Operator) (c : CoverTree) (all : List Token) (v : Token) (us : List Token) → operator_of v.sign ≡ Some op → k ≤ level op → Operand x k c all (v ∷ us)
        → IfSome (behind r x op c v.column us) (λ u. Operand x k u.0 all u.1 × (length u.1 ≤ length us))
    unfolding behind
    behind_takes x k (operator.Join op) c all v us e le d =
        then_some (r x (suc (level (operator.Join op))) us) _ _ (sound x (suc (level (operator.Join op))) us) (λ u g. (
          record {
            front = d.front ++ v ∷ g.0.front;
            parts = let h = d.parts in let i = g.0.parts in simp append_assoc cc;
            here = two v e le (d.next (operator.Join op) e) g.0.fact;
            next = λ o h. two {k = level o} v e (omega (arith, g.1 o h)) (d.next (operator.Join op) e) g.0.fact;
          },
          length-parts us g.0.front u.1 g.0.parts,
        ))
    behind_takes x k operator.Star c all v us e le d = (
      record {
        front = d.front ++ v ∷ [];
        parts = let h = d.parts in simp append_assoc cc;
        here = any_times v e le (d.next operator.Star e);
        next = λ o h. any_times v e (level_most o) (d.next operator.Star e);
      },
      omega arith,
    )
    behind_takes x k (operator.Count n) c all v us e le d =
        then_some (one_at number_in us) _ _ (one_takes number_in us) (λ u g. (
          record {
            front = d.front ++ v ∷ g.0 ∷ [];
            parts = let h = d.parts in let i = g.2 in simp append_assoc cc;
            here = times v g.0 e g.1 le (d.next (operator.Count n) e);
            next = λ o h. times v g.0 e g.1 (level_most o) (d.next (operator.Count n) e);
          },
          omega (arith, ap length g.2),
        ))

    operators_take : (n : ℕ) (x : Part) (k : ℕ) (c : CoverTree) (all ts : List Token) → length ts ≤ n → Operand x k c all ts
        → IfSome (operators_at r x n k c ts) (λ u. Operand x k u.0 all u.1 × Stops k u.1)
    unfolding operators_at
    operators_take zero x k c all ts small d = (d, nothing_stops k ts small)
    operators_take (suc n) x k c all [] small d = (d, nothing_stops k [] (omega arith))
    operators_take (suc n) x k c all (v ∷ us) small d =
        by_operator_some k (operator_of v.sign) _ (Some (c, v ∷ us)) _
        (λ op e le. then_some (behind r x op c v.column us) _ _ (behind_takes x k op c all v us e le d) (λ u g.
        operators_take n x k u.0 all u.1 (omega (arith, g.1)) g.0))
        (λ stays. (d, stays))

    level_takes : (x : Part) (k : ℕ) (ts : List Token) → IfSome (level_by text ps r x k ts) (λ u. Takes (Derives text ps x k u.0) ts u.1 × Stops k u.1)
    unfolding level_by
    level_takes x k ts =
        then_some (operand_at text ps r x ts) _ _ (operand_takes x ts) (λ t d.
        IfSome_then (operators_at r x (length t.1) k t.0 t.1)
        (operators_take (length t.1) x k t.0 ts t.1 (omega arith) (record {
          front = d.front;
          parts = d.parts;
          here = d.fact k;
          next = λ op _. d.fact (level op);
        })) (λ u g. (record { front = g.0.front; parts = g.0.parts; fact = g.0.here }, g.1)))

  pub expr_takes : (n : ℕ) → IsSound (expr_at text ps n)
  unfolding expr_at
  expr_takes zero x k ts = tt
  expr_takes (suc n) x k ts = level_takes (expr_at text ps n) (expr_takes n) x k ts
