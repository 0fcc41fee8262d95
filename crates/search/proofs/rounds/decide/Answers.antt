use Rattle.std.proofs.Common.{◌≡◌, ◌∙◌, ◌+◌, ◌<◌, length, vec_len, ap, arith}
use Rattle.std.proofs.lemmas.Int.{to_z-of_z}
use Rattle.cnf.proofs.literal_marks.PlacesLaws.{literal_fits}
use Rattle.search.proofs.BackLaws.{literal-over}
use Rattle.search.proofs.NextLaws.{next_decide, next_model}
use Rattle.search.proofs.ReadLaws.{quiet_all}
use Rattle.search.proofs.RoundLaws.{searching_decided}
use Rattle.search.proofs.rounds.decide.Goals as goal

pub step-requires-clause-allowed : goal.step-requires-clause-allowed
step-requires-clause-allowed c =
    let m = c.args.machine.now in
    let n = c.args.formula.now.variables in
    let is = c.requires.searching in
    let same = c.next_open.ensures.same in
    let quiet = quiet_all c.args.formula.now m.learned m.trail.items c.args.watching.now is.at.held.sound.kept c.requires.read (let full = is.full in omega (arith, full)) is.watching in
    let found = c.in-Some.ensures.some in
    let fits = literal_fits c.in-Some.literal (literal-over n c.in-Some.literal c.requires.small found.0).1 in
    rw (same.trail, same.learned, to_z-of_z _ _ fits) (next_decide c.args.formula.now m.learned m.trail.items c.in-Some.literal quiet found.0 found.1).0

pub returns-in-None : goal.returns-in-None
returns-in-None c =
    let m = c.args.machine.now in
    let is = c.requires.searching in
    let same = c.next_open.ensures.same in
    let quiet = quiet_all c.args.formula.now m.learned m.trail.items c.args.watching.now is.at.held.sound.kept c.requires.read (let full = is.full in omega (arith, full)) is.watching in
    (c.next_open.ensures.at, rw (same.trail, same.learned) (next_model c.args.formula.now m.learned m.trail.items quiet c.in-None.ensures.none))

pub returns-in_ok-step-in-Some : goal.returns-in_ok-step-in-Some
returns-in_ok-step-in-Some c =
    let m = c.args.machine.now in
    let is = c.requires.searching in
    let same = c.next_open.ensures.same in
    let step = c.in_ok-step-in-Some.ensures in
    let moves : length c.step.new.self.moves.items ≡ length m.moves.items + 1 = rw same.moves at step.moves in
    let trail = rw same.trail at step.trail in
    let paid : length m.moves.items < c.args.budget = let low = c.if-len-budget.false in let count : c.len.result ≡ vec_len m.moves = c.len.ensures ∙ ap vec_len same.moves in let ok = m.moves.ok.0 in omega (arith, low, count, ok) in
    (searching_decided c.args.formula.now c.args.budget m c.step.new.self c.args.watching.now _ is c.requires.read step.at trail (step.learned ∙ same.learned) moves paid, omega (arith, moves))
