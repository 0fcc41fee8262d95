use Rattle.std.proofs.Common.{rules, SFits, w64}
use Rattle.std.proofs.lemmas.Int.{to_z-of_z}
use Rattle.certificate.proofs.LineLaws.{line_parts, no_chain, chain_first, chain_rest}
use Rattle.certificate.proofs.line_row.to_line.Goals as goal

pub returns-in_default-first_and_rest : goal.returns-in_default-first_and_rest
returns-in_default-first_and_rest c = λ line over same.
    let parts = line_parts c.args.variables _ _ _ line c.in-Some.ensures.0 c.in-Some.ensures.1 over same in
    no_chain _ _ _ c.in_default-first_and_rest.ensures parts.1

pub returns-in_default-to_number : goal.returns-in_default-to_number
returns-in_default-to_number c = λ line over same.
    let parts = line_parts c.args.variables _ _ _ line c.in-Some.ensures.0 c.in-Some.ensures.1 over same in
    let fits : SFits w64 c.in-Some-first_and_rest.first = search rules in
    let bad = simp to_z-of_z at c.in_default-to_number.ensures in
    bad line.first over.1 (chain_first _ _ _ _ _ c.in-Some-first_and_rest.ensures parts.1)

pub returns-in_default-2 : goal.returns-in_default-2
returns-in_default-2 c = λ line over same.
    let parts = line_parts c.args.variables _ _ _ line c.in-Some.ensures.0 c.in-Some.ensures.1 over same in
    let bad = rw c.in_default-2.is at c.in_ok-clause.ensures in
    bad (rw parts.0 over.0)

pub returns-in_default-3 : goal.returns-in_default-3
returns-in_default-3 c = λ line over same.
    let parts = line_parts c.args.variables _ _ _ line c.in-Some.ensures.0 c.in-Some.ensures.1 over same in
    let bad = rw c.in_default-3.is at c.in_ok-steps.ensures in
    bad line.steps over.2 (chain_rest _ _ _ _ _ c.in-Some-first_and_rest.ensures parts.1)
