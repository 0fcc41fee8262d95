use Rattle.std.proofs.Common.{◌≡◌, ◌<◌, ◌^◌, arith, sym, ◌∙◌}
use Rattle.std.proofs.lemmas.Fmt.{decimal_injective}
use Rattle.certificate.proofs.HeadLaws.{counts_parts}
use Rattle.certificate.proofs.heads.to_counts.Goals as goal

pub returns-in_default-natural_of : goal.returns-in_default-natural_of
returns-in_default-natural_of c = λ v n small fits e.
    let below : v < 2 ^ 64 = omega arith in
    let parts = counts_parts _ _ _ v n c.in-Some.ensures.0 c.in-Some.ensures.1 below e in
    c.in_default-natural_of.ensures v (omega arith) parts.0

pub returns-in_default-natural_of-2 : goal.returns-in_default-natural_of-2
returns-in_default-natural_of-2 c = λ v n small fits e.
    let below : v < 2 ^ 64 = omega arith in
    let parts = counts_parts _ _ _ v n c.in-Some.ensures.0 c.in-Some.ensures.1 below e in
    c.in_default-natural_of-2.ensures n fits parts.1

pub returns-then-variables : goal.returns-then-variables
returns-then-variables c = λ v n small fits e.
    let below : v < 2 ^ 64 = omega arith in
    let parts = counts_parts _ _ _ v n c.in-Some.ensures.0 c.in-Some.ensures.1 below e in
    let variables = c.in-Some-natural_of.ensures in
    let same : c.in-Some-natural_of.variables ≡ v = decimal_injective _ v (omega (arith, variables.0)) below (sym variables.1 ∙ parts.0) in
    omega arith
