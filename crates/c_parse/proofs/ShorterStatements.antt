-- What is read of statements is some of the tokens, so that fewer are left.
use Rattle.std.proofs.Common.{◌≡◌, ℕ, ◌≤◌, ◌<◌, true, List, [], ◌∷◌, length, Some, arith}
use Rattle.std.specs.Prelude.{IfSome}
use Rattle.std.proofs.lemmas.Option.{IfSome_then}
use Rattle.c_parse.specs.declared.sign.Terminal.{Terminal}
use Rattle.c_parse.specs.declared.statement.CaseLabel.{CaseLabel}
use Rattle.c_parse.specs.declared.statement.Statement.{Statement}
use Rattle.c_parse.specs.ReadingStatements.{starts_local, local_at, labels_at, one_at, ends_body, statement_in}
use Rattle.c_parse.specs.declared.unit.Item.{Item}
use Rattle.c_parse.specs.declared.open_statement.Progress.{Progress}
use Rattle.c_parse.specs.declared.open_statement.Progress.TheVariants as progress
use Rattle.c_parse.specs.OpenStatements.{parts_of}
use Rattle.c_parse.specs.ReadingItems.{item_at}
use Rattle.c_parse.proofs.Steps.{either_some}
use Rattle.c_parse.proofs.TakesItems.{item_takes}
use Rattle.c_parse.proofs.UnitLaws.{item_some}
use Rattle.c_parse.proofs.Firsts.{some_first}
use Rattle.c_parse.proofs.Shorter.{fewer}
use Rattle.c_parse.proofs.TakesStatements.{HasFirst, statement_first, local_takes, labels_take, statement_in_takes}
use Rattle.c_parse.proofs.AgainStatements.{local_begins, labels_there}

first_some : {us : List Terminal} → HasFirst us → 0 < length us
first_some f = rw f.is (omega arith)

pub statement_fewer : (ts rest : List Terminal) (s : Statement) → statement_in ts ≡ Some (s, rest) → length rest < length ts
statement_fewer ts rest s e =
    let h = statement_in_takes ts in
    let d = rw e at h in
    fewer ts d.1.front rest d.1.parts (first_some (statement_first d.1.fact))

pub one_fewer : (ts rest : List Terminal) (s : Statement) → one_at statement_in ts ≡ Some (s, rest) → length rest < length ts
one_fewer ts rest s e = let h = of_one in rw e at h
  where
    of_one : IfSome (one_at statement_in ts) (λ x. length x.1 < length ts)
    of_one =
        either_some (starts_local ts) _ _ _
        (λ _. IfSome_then (local_at ts) (local_takes ts) (λ x d. fewer ts d.front x.1 d.parts (some_first d.front (local_begins d.fact))))
        (λ _. IfSome_then (statement_in ts) (statement_in_takes ts) (λ x d. fewer ts d.1.front x.1 d.1.parts (first_some (statement_first d.1.fact))))

pub labels_fewer : (n : ℕ) (ts rest : List Terminal) (ls : List CaseLabel) → labels_at n ts ≡ Some (ls, rest) → length rest < length ts
labels_fewer n ts rest ls e =
    let h = labels_take n ts in
    let d = rw e at h in
    fewer ts d.0.front rest d.0.parts (labels_there d.0.fact)

-- nothing ends a body but a token
pub end_there : (ts : List Terminal) → ends_body ts ≡ true → 0 < length ts
end_there [] e = absurd cc
end_there (t ∷ ts) e = omega arith

pub item_fewer : (ts rest : List Terminal) (i : Item) → item_at ts ≡ Some (i, rest) → length rest < length ts
item_fewer ts rest i e =
    let h = item_takes ts in
    let d = rw e at h in
    fewer ts d.front rest d.parts (item_some d.fact)

pub parts_most : (p : Progress) → parts_of p ≤ 1
parts_most (progress.Part o) = omega arith
parts_most (progress.Whole s) = omega arith
