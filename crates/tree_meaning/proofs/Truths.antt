-- Values that are conditions, and where statements leave off.
use Rattle.std.proofs.Common.{◌≡◌, ℕ, Bool, true, false, refl, ap}
use Rattle.std.specs.Prelude.{◌==◌, not}
use Rattle.std.proofs.lemmas.Bool.{eqb-true}
use Rattle.tree_meaning.specs.declared.way.Way.{Way}
use Rattle.tree_meaning.specs.declared.way.Way.TheVariants.{GoesOn, Breaks, Continues, Returns}
use Rattle.tree_meaning.specs.Outcomes.{Store, Gives, Meaning, is_true}
use Rattle.tree_meaning.specs.Running.{is_on}
use Rattle.tree_meaning.specs.Statements.{then_next}

pub is_zero : (v : ℕ) → v ≡ 0 → is_true v ≡ false
is_zero v e = ap is_true e

pub is_other : (v : ℕ) → (v ≡ 0 → ⊥) → is_true v ≡ true
is_other v h = by (v == 0) refl
  where
    by : (b : Bool) → (v == 0) ≡ b → is_true v ≡ true
    by true e = absurd (h (eqb-true v 0 e))
    by false e = ap not e

pub on_goes : (way : Way) (after : Meaning) (s : Store) → is_on way ≡ true → then_next after way s ≡ after s
on_goes GoesOn after s e = refl
on_goes Breaks after s e = absurd (cc)
on_goes Continues after s e = absurd (cc)
on_goes Returns after s e = absurd (cc)

pub off_stays : (way : Way) (after : Meaning) (s : Store) → is_on way ≡ false → then_next after way s ≡ Gives way s
off_stays GoesOn after s e = absurd (cc)
off_stays Breaks after s e = refl
off_stays Continues after s e = refl
off_stays Returns after s e = refl
