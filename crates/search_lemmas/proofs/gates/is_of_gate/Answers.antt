use Rattle.std.proofs.Common.{rules, SFits, get_or, pos, w32}
use Rattle.std.proofs.lemmas.Int.{to_z-of_z}
use Rattle.search_lemmas.proofs.Names.{known_three, known_two}
use Rattle.search_lemmas.proofs.gates.is_of_gate.Goals as goal

pub returns-in-Some-Some : goal.returns-in-Some-Some
returns-in-Some-Some c = λ yes.
    let p : SFits w32 (get_or c.args.literals.now 0 (pos 0)) = search rules in
    let q : SFits w32 (get_or c.args.literals.now 1 (pos 0)) = search rules in
    let r : SFits w32 c.in-Some-Some.part = search rules in
    let s : SFits w32 c.in-Some-Some.whole = search rules in
    known_two c.args.circuit.now c.args.wires.now c.args.literals.now c.in-Some-Some.part c.in-Some-Some.whole c.in-len2.len_at_least c.in-len2.len_below
    (simp to_z-of_z at c.in-Some-Some.ensures) (simp to_z-of_z at c.in-Some-Some.ensures') (simp to_z-of_z at (c.is_part.ensures yes))

pub returns-in-Some-Some-Some : goal.returns-in-Some-Some-Some
returns-in-Some-Some-Some c = λ yes.
    let p : SFits w32 (get_or c.args.literals.now 0 (pos 0)) = search rules in
    let q : SFits w32 (get_or c.args.literals.now 1 (pos 0)) = search rules in
    let r : SFits w32 (get_or c.args.literals.now 2 (pos 0)) = search rules in
    let s : SFits w32 c.in-Some-Some-Some.first = search rules in
    let t : SFits w32 c.in-Some-Some-Some.second = search rules in
    let u : SFits w32 c.in-Some-Some-Some.whole = search rules in
    known_three c.args.circuit.now c.args.wires.now c.args.literals.now c.in-Some-Some-Some.first c.in-Some-Some-Some.second c.in-Some-Some-Some.whole c.in-len3.len_at_least c.in-len3.len_below
    (simp to_z-of_z at c.in-Some-Some-Some.ensures) (simp to_z-of_z at c.in-Some-Some-Some.ensures') (simp to_z-of_z at c.in-Some-Some-Some.ensures'') (simp to_z-of_z at (c.is_whole.ensures yes))
