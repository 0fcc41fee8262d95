-- Choices that are read by a loop.
use Rattle.std.proofs.Common.{◌≡◌, true, false, List, [], ◌∷◌, ◌++◌, length, Some, None, refl, sym, ap, ◌∙◌, arith}
use Rattle.c_parse.specs.declared.sign.Terminal.{Terminal}
use Rattle.c_parse.specs.declared.sign.Symbol.TheVariants as symbols
use Rattle.c_parse.specs.declared.stop.Stop.{Stop}
use Rattle.c_parse.specs.declared.stop.Stop.TheVariants.{Memory, Syntax}
use Rattle.c_parse.specs.declared.expr.ExprTree.{ExprTree}
use Rattle.c_parse.specs.declared.expr.ExprForm.TheVariants as form
use Rattle.c_parse.specs.declared.expressions.OpenChoice.{OpenChoice}
use Rattle.c_parse.specs.Gives.{Fails}
use Rattle.c_parse.specs.Trees.{tree}
use Rattle.c_parse.specs.Grammar.{first_span}
use Rattle.c_parse.specs.Choices.{closed}
use Rattle.c_parse.specs.Reading.{Read, ◌>>=◌, starts, tail, expect, level_by, choice_by, expr_in}
use Rattle.c_parse.proofs.Agree.{choice_unbounded}

pub closed_last : (cs : List OpenChoice) (c : OpenChoice) (last : ExprTree) → closed (cs ++ c ∷ []) last ≡ closed cs (tree c.span (form.Choice c.test c.yes last))
unfolding closed
closed_last [] c last = refl
closed_last (d ∷ ds) c last = ap (λ (t : ExprTree). tree d.span (form.Choice d.test d.yes t)) (closed_last ds c last)

pub closed_none : (cs : List OpenChoice) (last : ExprTree) → length cs ≡ 0 → closed cs last ≡ last
unfolding closed
closed_none [] last e = refl
closed_none (c ∷ cs) last e = absurd (omega arith)

-- what was read before, round what is still read
abbrev pub within : List OpenChoice → Read ExprTree → Read ExprTree
within outer read = read >>= λ x. Some (closed outer x.0, x.1)

pub within_none : (read : Read ExprTree) → read ≡ within [] read
unfolding closed
within_none None = refl
within_none (Some x) = refl

module _ (outer : List OpenChoice) (rest : List Terminal) (total : Read ExprTree) (so_far : within outer (choice_by expr_in rest) ≡ total) where
  pub test_fails : (e : Stop) → Fails e (level_by expr_in 1 rest) → Fails e total
  unfolding choice_by
  test_fails Memory h = tt
  test_fails Syntax h = sym so_far ∙ rw h refl

  module _ (test : ExprTree) (after : List Terminal) (first : level_by expr_in 1 rest ≡ Some (test, after)) where
    pub no_choice : starts symbols.Question after ≡ false → total ≡ Some (closed outer test, after)
    unfolding choice_by
    no_choice q = sym so_far ∙ rw (first, q) refl

    module _ (question : starts symbols.Question after ≡ true) where
      pub second_fails : (e : Stop) → Fails e (expr_in 0 (tail after)) → Fails e total
      unfolding choice_by
      second_fails Memory h = tt
      second_fails Syntax h = sym so_far ∙ rw (first, question, h) refl

      module _ (yes : ExprTree) (behind : List Terminal) (second : expr_in 0 (tail after) ≡ Some (yes, behind)) where
        pub colon_fails : (e : Stop) → Fails e (expect symbols.Colon behind) → Fails e total
        unfolding choice_by
        colon_fails Memory h = tt
        colon_fails Syntax h = sym so_far ∙ rw (first, question, second, h) refl

        module _ (next : List Terminal) (colon : expect symbols.Colon behind ≡ Some next) where
          third : total ≡ within outer (expr_in 0 next >>= λ b. Some (tree (first_span rest) (form.Choice test yes b.0), b.1))
          unfolding choice_by
          third = sym so_far ∙ rw (first, question, second, colon) refl

          pub goes_on : within (outer ++ record { span = first_span rest; test = test; yes = yes } ∷ []) (choice_by expr_in next) ≡ total
          goes_on =
              regroup (choice_by expr_in next)
              ∙ ap (λ (o : Read ExprTree). within outer (o >>= λ b. Some (tree (first_span rest) (form.Choice test yes b.0), b.1))) (sym (choice_unbounded next))
              ∙ sym third
            where
              regroup : (read : Read ExprTree) → within (outer ++ record { span = first_span rest; test = test; yes = yes } ∷ []) read ≡ within outer (read >>= λ b. Some (tree (first_span rest) (form.Choice test yes b.0), b.1))
              regroup None = refl
              regroup (Some x) = ap (λ (t : ExprTree). Some (t, x.1)) (closed_last outer (record { span = first_span rest; test = test; yes = yes }) x.0)
