-- Statements that are read in two steps, and those in one another, which are read by a loop.
use Rattle.std.proofs.Common.{◌≡◌, ℕ, zero, suc, ◌+◌, ◌-◌, ◌≤◌, Bool, true, false, cond, List, [], ◌∷◌, ◌++◌, length, Option, Some, None, refl, sym, ap, ◌∙◌, append_assoc, arith}
use Rattle.std.specs.Prelude.{IfSome}
use Rattle.std.proofs.lemmas.List.{length-append}
use Rattle.std.proofs.lemmas.Option.{IfSome_then}
use Rattle.fq_core.specs.declared.span.Span.{Span}
use Rattle.c_parse.specs.declared.sign.Terminal.{Terminal}
use Rattle.c_parse.specs.declared.sign.Symbol.{Symbol}
use Rattle.c_parse.specs.declared.sign.Symbol.TheVariants as symbols
use Rattle.c_parse.specs.declared.stop.Stop.{Stop}
use Rattle.c_parse.specs.declared.stop.Stop.TheVariants.{Memory, Syntax}
use Rattle.c_parse.specs.declared.expr.ExprTree.{ExprTree}
use Rattle.c_parse.specs.declared.statement.Statement.{Statement}
use Rattle.c_parse.specs.declared.statement.Form.TheVariants as form
use Rattle.c_parse.specs.declared.open_statement.OpenStatement.{OpenStatement}
use Rattle.c_parse.specs.declared.open_statement.OpenForm.{OpenForm}
use Rattle.c_parse.specs.declared.open_statement.OpenForm.TheVariants as begun
use Rattle.c_parse.specs.declared.open_statement.Progress.TheVariants as progress
use Rattle.c_parse.specs.Gives.{Fails}
use Rattle.c_parse.specs.Grammar.{Text, name_token}
use Rattle.c_parse.specs.StatementTrees.{statement}
use Rattle.c_parse.specs.Reading.{Read, ◌>>=◌, starts, tail, expect}
use Rattle.c_parse.specs.ReadingStatements.{named_at, test_at, optional_at, begin_at, next_at, Reads, arms_at, do_at, for_at, statement_of_symbol, statement_by, statement_in}
use Rattle.c_parse.specs.OpenStatements.{open_statement, opens, for_part, part_of_symbol, do_end, Arms, behind_arms, resume, progress_at, finished}
use Rattle.c_parse.proofs.Steps.{then_some, starts-true, expect_takes}
use Rattle.c_parse.proofs.Takes.{Takes, length-parts}
use Rattle.c_parse.proofs.TakesStatements.{optional_takes, begin_takes, next_takes, named_takes, statement_first, of_symbol_takes, statement_in_takes}
use Rattle.c_parse.proofs.Agree.{tail_most}
use Rattle.c_parse.proofs.AgreeStatements.{reads_most, arms_enough, statement_unbounded}
use Rattle.c_parse.proofs.Shorter.{test_less, test_fewer}

-- ---- what is read leaves fewer tokens

taken : {P : List Terminal → Type 0} (ts rest : List Terminal) → Takes P ts rest → length rest ≤ length ts
taken ts rest d = length-parts ts d.front rest d.parts

expect_shorter : (m : Symbol) (ts : List Terminal) → IfSome (expect m ts) (λ rest. length rest + 1 ≤ length ts)
expect_shorter m ts = IfSome_then (expect m ts) (expect_takes m ts) (λ rest e. let n = ap length e.1 in omega arith)

pub starts_shorter : (m : Symbol) (ts : List Terminal) → starts m ts ≡ true → length (tail ts) + 1 ≤ length ts
starts_shorter m ts e = let a = starts-true m ts e in let n = ap length a.1 in omega arith

for_shorter : (ts : List Terminal) → IfSome (for_part ts) (λ x. length x.1 ≤ length ts)
unfolding for_part
for_shorter ts =
    then_some (expect symbols.Open ts) _ _ (expect_shorter symbols.Open ts) (λ a e.
    then_some (begin_at a) _ _ (begin_takes a) (λ i d.
    then_some (optional_at i.1) _ _ (optional_takes i.1) (λ c f.
    then_some (expect symbols.Semicolon c.1) _ _ (expect_shorter symbols.Semicolon c.1) (λ b g.
    then_some (next_at b) _ _ (next_takes b) (λ j h.
    then_some (expect symbols.Close j.1) _ _ (expect_shorter symbols.Close j.1) (λ z k.
    omega (arith, taken a i.1 d, taken i.1 c.1 f, taken b j.1 h)))))))

part_shorter : (m : Symbol) (ts : List Terminal) → IfSome (part_of_symbol m ts) (λ x. length x.1 ≤ length ts)
part_shorter symbols.If ts = then_some (test_at ts) _ _ (test_less ts) (λ c d. omega arith)
part_shorter symbols.While ts = then_some (test_at ts) _ _ (test_less ts) (λ c d. omega arith)
part_shorter symbols.Do ts = omega arith
part_shorter symbols.For ts = for_shorter ts
part_shorter _ ts = tt

pub part_takes : (m : Symbol) (ts rest : List Terminal) (f : OpenForm) → part_of_symbol m ts ≡ Some (f, rest) → length rest ≤ length ts
part_takes m ts rest f e = let h = part_shorter m ts in rw e at h

pub whole_takes : (m : Symbol) (p : Span) (ts rest : List Terminal) (s : Statement) → statement_of_symbol statement_in m p ts ≡ Some (s, rest) → length rest ≤ length ts
whole_takes m p ts rest s e =
    let h = of_symbol_takes statement_in statement_in_takes m p ts in
    let d = rw e at h in
    let first = statement_first d.1.fact in
    let front = ap length first.is in
    let all = simp length-append at (ap length d.1.parts) in
    omega arith

pub name_takes_whole : (p : Span) (w : Text) (ts after rest : List Terminal) (s : Statement) → named_at p w ts ≡ Some (s, after) → expect symbols.Semicolon after ≡ Some rest → length rest ≤ length ts
name_takes_whole p w ts after rest s e f =
    let h = named_takes p w ts in
    let d = rw e at h in
    let g = expect_shorter symbols.Semicolon after in
    let k = rw f at g in
    omega (arith, taken (name_token w p ∷ ts) after d)

pub do_takes_end : (p : Span) (s whole : Statement) (ts rest : List Terminal) → do_end p s ts ≡ Some (whole, rest) → length rest ≤ length ts
unfolding do_end
do_takes_end p s whole ts rest e = let h = shorter in rw e at h
  where
    shorter : IfSome (do_end p s ts) (λ x. length x.1 ≤ length ts)
    shorter =
        then_some (expect symbols.While ts) _ _ (expect_shorter symbols.While ts) (λ a f.
        then_some (test_at a) _ _ (test_less a) (λ c g.
        then_some (expect symbols.Semicolon c.1) _ _ (expect_shorter symbols.Semicolon c.1) (λ b h. omega arith)))

-- ---- a statement is what is read up to a part of it, and resumed

in_steps : {A B C : Type 0} (o : Option A) (f : A → Option B) (g : B → Option C) (h : A → Option C) → ((x : A) → (f x >>= g) ≡ h x) → ((o >>= f) >>= g) ≡ (o >>= h)
in_steps None f g h e = refl
in_steps (Some x) f g h e = e x

in_branches : {A B : Type 0} (b : Bool) (x y : Option A) (g : A → Option B) (u v : Option B) → (x >>= g) ≡ u → (y >>= g) ≡ v → (cond b x y >>= g) ≡ cond b u v
in_branches true x y g u v d e = d
in_branches false x y g u v d e = e

in_steps_from : {A B C : Type 0} (o : Option A) (f : A → Option B) (g : B → Option C) (h : A → Option C) → ((x : A) → o ≡ Some x → (f x >>= g) ≡ h x) → ((o >>= f) >>= g) ≡ (o >>= h)
in_steps_from None f g h e = refl
in_steps_from (Some x) f g h e = e x refl

no_arms : (r : Reads) (n : ℕ) (ts : List Terminal) → test_at ts ≡ None → arms_at r n ts ≡ None
unfolding arms_at
no_arms r zero ts e = refl
no_arms r (suc n) ts e = rw e refl

-- an arm is read up to its test
arms_by_parts : (p : Span) (arms : Arms) (ts rest : List Terminal) (c : ExprTree) → test_at ts ≡ Some (c, rest)
    → (arms_at statement_in (length ts) ts >>= λ x. Some (statement p (form.If (arms ++ x.0.0) x.0.1), x.1)) ≡ progress_at statement_in (progress.Part (open_statement p (begun.Arm arms c))) rest
unfolding arms_at behind_arms
arms_by_parts p arms ts rest c e =
    let l = test_fewer ts rest c e in
    let k : length ts ≡ suc (length ts - 1) = omega arith in
    ap (λ (n : ℕ). arms_at statement_in n ts >>= λ x. Some (statement p (form.If (arms ++ x.0.0) x.0.1), x.1)) k ∙
    rw e (in_steps_from (statement_in rest) _ _ _ (λ s f.
    let few = reads_most statement_in statement_in_takes rest s f in
    in_branches (starts symbols.Else s.1) _ _ _ _ _
    (in_branches (starts symbols.If (tail s.1)) _ _ _ _ _
    (in_steps (arms_at statement_in (length ts - 1) (tail (tail s.1))) _ _ (λ x. Some (statement p (form.If ((arms ++ (c, s.0) ∷ []) ++ x.0.0) x.0.1), x.1)) (λ x. ap (λ (all : Arms). Some (statement p (form.If all x.0.1), x.1)) (sym (append_assoc arms ((c, s.0) ∷ []) x.0.0)))
    ∙ ap (λ (o : Read (Arms × Option Statement)). o >>= λ x. Some (statement p (form.If ((arms ++ (c, s.0) ∷ []) ++ x.0.0) x.0.1), x.1))
    (arms_enough statement_in statement_in_takes (length ts - 1) (length s.1) (tail (tail s.1)) (omega (arith, few, l, tail_most s.1, tail_most (tail s.1))) (omega (arith, tail_most s.1, tail_most (tail s.1)))))
    (in_steps (statement_in (tail s.1)) _ _ _ (λ o. refl)))
    refl))

-- behind `else if` another arm is read up to its test
pub else_if_by_parts : (p : Span) (arms : Arms) (ts rest : List Terminal) (c : ExprTree) → starts symbols.Else ts ≡ true → starts symbols.If (tail ts) ≡ true → test_at (tail (tail ts)) ≡ Some (c, rest)
    → behind_arms statement_in p arms ts ≡ progress_at statement_in (progress.Part (open_statement p (begun.Arm arms c))) rest
unfolding behind_arms
else_if_by_parts p arms ts rest c e f t =
    rw (e, f) (ap (λ (o : Read (Arms × Option Statement)). o >>= λ x. Some (statement p (form.If (arms ++ x.0.0) x.0.1), x.1))
    (arms_enough statement_in statement_in_takes (length ts) (length (tail (tail ts))) (tail (tail ts)) (omega (arith, tail_most ts, tail_most (tail ts))) (omega arith))
    ∙ arms_by_parts p arms (tail (tail ts)) rest c t)

-- behind `else if` no arm is read without a test
pub else_if_fails : (e : Stop) (p : Span) (arms : Arms) (ts : List Terminal) → starts symbols.Else ts ≡ true → starts symbols.If (tail ts) ≡ true → Fails e (test_at (tail (tail ts))) → Fails e (behind_arms statement_in p arms ts)
unfolding behind_arms
else_if_fails Memory p arms ts e f h = tt
else_if_fails Syntax p arms ts e f h = rw (e, f, no_arms statement_in (length ts) (tail (tail ts)) h) refl

pub else_if_shorter : (ts rest : List Terminal) (c : ExprTree) → starts symbols.Else ts ≡ true → test_at (tail (tail ts)) ≡ Some (c, rest) → length rest + 1 ≤ length ts
else_if_shorter ts rest c e t = omega (arith, starts_shorter symbols.Else ts e, test_fewer (tail (tail ts)) rest c t, tail_most (tail ts))

if_by_parts : (p : Span) (ts : List Terminal) → statement_of_symbol statement_in symbols.If p ts ≡ (part_of_symbol symbols.If ts >>= λ x. progress_at statement_in (progress.Part (open_statement p x.0)) x.1)
if_by_parts p ts = at (test_at ts) refl
  where
    at : (o : Read ExprTree) → test_at ts ≡ o → statement_of_symbol statement_in symbols.If p ts ≡ (part_of_symbol symbols.If ts >>= λ x. progress_at statement_in (progress.Part (open_statement p x.0)) x.1)
    at None e = rw (e, no_arms statement_in (length ts) ts e) refl
    at (Some c) e = rw e (arms_by_parts p [] ts c.1 c.0 e)

for_by_parts : (r : Reads) (p : Span) (ts : List Terminal) → (for_part ts >>= λ x. progress_at r (progress.Part (open_statement p x.0)) x.1) ≡ for_at r p ts
unfolding for_part for_at
for_by_parts r p ts =
    in_steps (expect symbols.Open ts) _ _ _ (λ a.
    in_steps (begin_at a) _ _ _ (λ i.
    in_steps (optional_at i.1) _ _ _ (λ c.
    in_steps (expect symbols.Semicolon c.1) _ _ _ (λ b.
    in_steps (next_at b) _ _ _ (λ j.
    in_steps (expect symbols.Close j.1) _ _ _ (λ d. refl))))))

by_parts : (m : Symbol) (p : Span) (ts : List Terminal) → opens m ≡ true → statement_of_symbol statement_in m p ts ≡ (part_of_symbol m ts >>= λ x. progress_at statement_in (progress.Part (open_statement p x.0)) x.1)
unfolding do_at do_end
by_parts symbols.If p ts e = if_by_parts p ts
by_parts symbols.While p ts e = sym (in_steps (test_at ts) _ _ _ (λ c. refl))
by_parts symbols.Do p ts e = refl
by_parts symbols.For p ts e = sym (for_by_parts statement_in p ts)
by_parts _ p ts e = absurd cc

pub part_begun : (m : Symbol) (p : Span) (ts rest : List Terminal) (f : OpenForm) → opens m ≡ true → part_of_symbol m ts ≡ Some (f, rest) → statement_of_symbol statement_in m p ts ≡ progress_at statement_in (progress.Part (open_statement p f)) rest
part_begun m p ts rest f two e = by_parts m p ts two ∙ rw e refl

pub part_fails : (e : Stop) (m : Symbol) (p : Span) (ts : List Terminal) → opens m ≡ true → Fails e (part_of_symbol m ts) → Fails e (statement_of_symbol statement_in m p ts)
part_fails Memory m p ts two h = tt
part_fails Syntax m p ts two h = by_parts m p ts two ∙ rw h refl

-- ---- statements in one another

finished_last : (os : List OpenStatement) (o : OpenStatement) (read : Read Statement) → finished (os ++ o ∷ []) read ≡ finished os (read >>= λ x. resume statement_in o x.0 x.1)
unfolding finished
finished_last [] o read = refl
finished_last (q ∷ os) o read = ap (λ (z : Read Statement). z >>= λ x. resume statement_in q x.0 x.1) (finished_last os o read)

finished_none : (os : List OpenStatement) → finished os None ≡ None
unfolding finished
finished_none [] = refl
finished_none (o ∷ os) = rw (finished_none os) refl

pub first_begun : (os : List OpenStatement) (ts : List Terminal) (read : Read Statement) → os ≡ [] → statement_by statement_in ts ≡ read → finished os read ≡ statement_in ts
unfolding finished
first_begun os ts read none h = rw none (sym h ∙ sym (statement_unbounded ts))

pub first_fails : (e : Stop) (ts : List Terminal) → Fails e (statement_by statement_in ts) → Fails e (statement_in ts)
first_fails Memory ts h = tt
first_fails Syntax ts h = statement_unbounded ts ∙ h

module _ (outer : List OpenStatement) (o : OpenStatement) (rest : List Terminal) (total : Read Statement) (so_far : finished outer (statement_in rest >>= λ x. resume statement_in o x.0 x.1) ≡ total) where
  pub part_goes_on : (read : Read Statement) → statement_by statement_in rest ≡ read → finished (outer ++ o ∷ []) read ≡ total
  part_goes_on read h =
      let next : statement_in rest ≡ read = statement_unbounded rest ∙ h in
      finished_last outer o read ∙ ap (λ (z : Read Statement). finished outer (z >>= λ x. resume statement_in o x.0 x.1)) (sym next) ∙ so_far

  pub part_stops : (e : Stop) → Fails e (statement_by statement_in rest) → Fails e total
  part_stops Memory h = tt
  part_stops Syntax h =
      let next : statement_in rest ≡ None = statement_unbounded rest ∙ h in
      sym so_far ∙ rw next (finished_none outer)

module _ (outer : List OpenStatement) (s : Statement) (rest : List Terminal) (total : Read Statement) (so_far : finished outer (Some (s, rest)) ≡ total) where
  pub all_read : length outer ≡ 0 → total ≡ Some (s, rest)
  unfolding finished
  all_read e = sym so_far ∙ at outer e
    where
      at : (os : List OpenStatement) → length os ≡ 0 → finished os (Some (s, rest)) ≡ Some (s, rest)
      at [] e = refl
      at (q ∷ os) e = absurd (omega arith)

  module _ (os : List OpenStatement) (o : OpenStatement) (popped : outer ≡ os ++ o ∷ []) where
    resumes : finished os (resume statement_in o s rest) ≡ total
    resumes = sym (finished_last os o (Some (s, rest))) ∙ ap (λ (qs : List OpenStatement). finished qs (Some (s, rest))) (sym popped) ∙ so_far

    pub whole_goes_on : (read : Read Statement) → resume statement_in o s rest ≡ read → finished os read ≡ total
    whole_goes_on read h = ap (λ (z : Read Statement). finished os z) (sym h) ∙ resumes

    pub whole_stops : (e : Stop) → Fails e (resume statement_in o s rest) → Fails e total
    whole_stops Memory h = tt
    whole_stops Syntax h = sym resumes ∙ rw h (finished_none os)
