use Rattle.std.proofs.Common.{◌∷◌, [], arith}
use Rattle.std.proofs.lemmas.Int.{to_z-of_z}
use Rattle.std.proofs.lemmas.Option.{slice_get_within}
use Rattle.search.proofs.BackLaws.{literal-over}
use Rattle.search.proofs.InstallLaws.{front_clause, installing_implied, own_literal}
use Rattle.search.proofs.VisitLaws.{literal_over}
use Rattle.search.proofs.installing.make_true.Goals as goal

pub is_false-requires : goal.is_false-requires
is_false-requires c =
    let m = c.args.machine.now in
    let f = c.args.formula.now in
    let named = front_clause f m.learned c.args.place (c.args.literal ∷ []) c.requires.clause in
    let over = literal_over f m.learned c.args.place (c.args.literal ∷ []) c.args.literal c.requires.installing.at.held.sound.clauses named (own_literal c.args.literal) in
    rw (to_z-of_z _ _ c.ranges.literal) (literal-over f.variables c.args.literal c.requires.small over)

pub overflow_add-result : goal.overflow_add-result
overflow_add-result c =
    let within = slice_get_within c.args.formula.now.clauses c.args.place (c.args.literal ∷ []) c.requires.clause in
    let few = c.requires.installing.at.held.few in
    record { fits = omega (arith, within, few) }

pub returns : goal.returns
returns c =
    let implied = rw (to_z-of_z _ _ c.ranges.literal) at c.imply.ensures in
    installing_implied c.args.formula.now c.args.budget c.args.machine.now c.imply.new.machine c.args.watching.now c.args.literal c.args.place c.requires.installing c.imply.result implied
