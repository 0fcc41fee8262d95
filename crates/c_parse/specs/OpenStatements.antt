-- Statements that are read in two steps: up to a statement in them, and from there on.
-- Only proofs rest on this: no public contract speaks of it.
use Rattle.std.specs.Prelude.{◌≡◌, ℕ, Bool, true, false, if◌then◌else◌, List, [], ◌∷◌, ◌++◌, length, Option, Some, None, Result, Ok, Err}
use Rattle.fq_core.specs.declared.span.Span.{Span}
use Rattle.c_parse.specs.declared.sign.Symbol.{Symbol}
use Rattle.c_parse.specs.declared.sign.Symbol.TheVariants as symbols
use Rattle.c_parse.specs.declared.sign.Terminal.{Terminal}
use Rattle.c_parse.specs.declared.stop.Stop.{Stop}
use Rattle.c_parse.specs.declared.expr.ExprTree.{ExprTree}
use Rattle.c_parse.specs.declared.statement.Statement.{Statement}
use Rattle.c_parse.specs.declared.statement.Form.TheVariants as form
use Rattle.c_parse.specs.declared.open_statement.OpenStatement.{OpenStatement}
use Rattle.c_parse.specs.declared.open_statement.OpenForm.{OpenForm}
use Rattle.c_parse.specs.declared.open_statement.OpenForm.TheVariants as begun
use Rattle.c_parse.specs.declared.open_statement.Progress.{Progress}
use Rattle.c_parse.specs.declared.open_statement.Progress.TheVariants as progress
use Rattle.c_parse.specs.Gives.{Fails}
use Rattle.c_parse.specs.StatementTrees.{statement}
use Rattle.c_parse.specs.Reading.{Read, ◌>>=◌, starts, tail, expect}
use Rattle.c_parse.specs.ReadingStatements.{test_at, optional_at, begin_at, next_at, Reads, arms_at, statement_in}

-- a statement that is read this far, whose first token has this span
abbrev pub open_statement : Span → OpenForm → OpenStatement
open_statement p f = record { span = p; form = f }

-- what a function of the parser returns leads on to what reading gives, unless memory ran out
abbrev pub Leads : {X Y : Type 0} → (X → Option Y) → Result X Stop → Option Y → Type 0
Leads view (Ok x) read = read ≡ view x
Leads view (Err e) read = Fails e read

-- whether a statement that begins with this symbol is read in two steps
abbrev pub opens : Symbol → Bool
opens symbols.If = true
opens symbols.While = true
opens symbols.Do = true
opens symbols.For = true
opens _ = false

-- what follows `for`, up to the body
unfoldable pub for_part : List Terminal → Read OpenForm
for_part ts =
    expect symbols.Open ts >>= λ a. begin_at a >>= λ i. optional_at i.1 >>= λ c. expect symbols.Semicolon c.1 >>= λ b. next_at b >>= λ j. expect symbols.Close j.1 >>= λ d.
    Some (begun.For i.0 c.0 j.0, d)

-- what follows a symbol that opens a statement, up to a part of the statement
abbrev pub part_of_symbol : Symbol → List Terminal → Read OpenForm
part_of_symbol symbols.If ts = test_at ts >>= λ c. Some (begun.Arm [] c.0, c.1)
part_of_symbol symbols.While ts = test_at ts >>= λ c. Some (begun.While c.0, c.1)
part_of_symbol symbols.Do ts = Some (begun.Do, ts)
part_of_symbol symbols.For ts = for_part ts
part_of_symbol _ ts = None

-- what follows the body of a `do`
unfoldable pub do_end : Span → Statement → List Terminal → Read Statement
do_end p s ts = expect symbols.While ts >>= λ a. test_at a >>= λ c. expect symbols.Semicolon c.1 >>= λ rest. Some (statement p (form.Do s c.0), rest)

-- the arms of an `if`, each with its test
abbrev pub Arms : Type 0
Arms = List (ExprTree × Statement)

-- what follows the arms of an `if`: another arm, `else`, or nothing of it
unfoldable pub behind_arms : Reads → Span → Arms → List Terminal → Read Statement
behind_arms r p arms ts =
    if starts symbols.Else ts
    then (if starts symbols.If (tail ts)
    then (arms_at r (length ts) (tail (tail ts)) >>= λ x. Some (statement p (form.If (arms ++ x.0.0) x.0.1), x.1))
    else (r (tail ts) >>= λ o. Some (statement p (form.If arms (Some o.0)), o.1)))
    else Some (statement p (form.If arms None), ts)

-- an open statement, once its part was read and these tokens follow
abbrev pub resume_form : Reads → OpenForm → Span → Statement → List Terminal → Read Statement
resume_form r (begun.Label w) p s ts = Some (statement p (form.Label w s), ts)
resume_form r (begun.While c) p s ts = Some (statement p (form.While c s), ts)
resume_form r begun.Do p s ts = do_end p s ts
resume_form r (begun.For i c j) p s ts = Some (statement p (form.For i c j s), ts)
resume_form r (begun.Arm arms c) p s ts = behind_arms r p (arms ++ (c, s) ∷ []) ts
resume_form r (begun.Otherwise arms) p s ts = Some (statement p (form.If arms (Some s)), ts)

abbrev pub resume : Reads → OpenStatement → Statement → List Terminal → Read Statement
resume r o s ts = resume_form r o.form o.span s ts

-- the statement that is read this far, where these tokens follow
abbrev pub progress_at : Reads → Progress → List Terminal → Read Statement
progress_at r (progress.Part o) ts = r ts >>= λ x. resume r o x.0 x.1
progress_at r (progress.Whole s) ts = Some (s, ts)

-- how many statements are still to be read in it
abbrev pub parts_of : Progress → ℕ
parts_of (progress.Part o) = 1
parts_of (progress.Whole s) = 0

-- statements that lie in one another, the outermost first, once the innermost is read
unfoldable pub finished : List OpenStatement → Read Statement → Read Statement
finished [] read = read
finished (o ∷ os) read = finished os read >>= λ x. resume statement_in o x.0 x.1
