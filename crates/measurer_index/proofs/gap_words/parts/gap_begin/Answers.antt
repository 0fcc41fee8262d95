use Rattle.std.proofs.Common.{◌≡◌, ℕ, max, ◌-◌, ◌⊎◌, inl, inr, arith}
use Rattle.std.proofs.lemmas.Bool.{cases_lt}
use Rattle.measurer_index.proofs.gap_words.Begins.{no_most, with_most}
use Rattle.measurer_index.proofs.gap_words.parts.gap_begin.Goals as goal

one_of : (a b d m : ℕ) → b ≡ d → m ≡ max a b → (m ≡ a) ⊎ (m ≡ d)
one_of a b d m e h = elim (cases_lt a b) [
  | inl less ↦ inr (omega arith)
  | inr more ↦ inl (omega arith)
]

pub returns-in-None : goal.returns-in-None
returns-in-None c = no_most c.args.path.now c.args.span c.args.state c.begin_at-begin.result c.begin_at-begin.ensures c.in-None.is

pub returns-in-Some : goal.returns-in-Some
returns-in-Some c =
    with_most c.args.path.now c.args.span c.args.state c.begin_at-begin.result c.begin_at-begin.ensures c.in-Some.most c.max.result c.in-Some.is (omega arith) (omega arith) (one_of c.begin_at-begin.result c.saturating_sub.result (c.args.state - c.in-Some.most) c.max.result c.saturating_sub.ensures c.max.ensures)
