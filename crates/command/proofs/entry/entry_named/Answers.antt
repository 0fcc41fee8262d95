use Rattle.std.proofs.Common.{refl, sym, arith}
use Rattle.command.proofs.EntryLaws.{entry_found, entry_lent, entry_missing}
use Rattle.command.proofs.entry.entry_named.Goals as goal

pub returns-in_default : goal.returns-in_default
returns-in_default c =
    (c.nowhere.ensures, entry_missing c.args.automaton.now.graph c.args.name.now (rw (c.in_default.is, c.as_bytes.ensures.value) at (sym c.function_named.ensures)))

pub returns-then-len-gt0 : goal.returns-then-len-gt0
returns-then-len-gt0 c =
    let is = rw c.functions.ensures at c.index-functions-number.is in
    let named = rw (c.in-Some.is, c.as_bytes.ensures.value) at (sym c.function_named.ensures) in
    (c.nowhere-then-len-gt0.ensures, sym (entry_lent c.args.automaton.now.graph c.args.name.now c.in-Some.number c.index-functions-number.result named is (omega (arith, c.len.ensures, c.if-len-gt0.true))))

pub returns : goal.returns
returns c =
    let is = rw c.functions.ensures at c.index-functions-number.is in
    let named = rw (c.in-Some.is, c.as_bytes.ensures.value) at (sym c.function_named.ensures) in
    (refl, sym (entry_found c.args.automaton.now.graph c.args.name.now c.in-Some.number c.index-functions-number.result named is (omega (arith, c.len.ensures, c.if-len-gt0.false))))
