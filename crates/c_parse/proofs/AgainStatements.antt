-- What derives as a statement is read again.
use Rattle.std.proofs.Common.{◌≡◌, ℕ, zero, suc, ◌+◌, ◌≤◌, ◌<◌, Bool, true, false, List, [], ◌∷◌, ◌++◌, length, Option, Some, None, refl, append_assoc, arith}
use Rattle.std.specs.Prelude.{◌||◌}
use Rattle.std.proofs.lemmas.List.{append-nil, length-append}
use Rattle.fq_core.specs.declared.span.Span.{Span}
use Rattle.c_parse.specs.declared.sign.Terminal.{Terminal}
use Rattle.c_parse.specs.declared.sign.Sign.{Sign}
use Rattle.c_parse.specs.declared.sign.Sign.TheVariants as sign
use Rattle.c_parse.specs.declared.sign.Symbol.{Symbol}
use Rattle.c_parse.specs.declared.sign.Symbol.TheVariants as symbols
use Rattle.c_parse.specs.declared.expr.ExprTree.{ExprTree}
use Rattle.c_parse.specs.declared.statement.CaseLabel.{CaseLabel}
use Rattle.c_parse.specs.declared.statement.Group.{Group}
use Rattle.c_parse.specs.declared.statement.Statement.{Statement}
use Rattle.c_parse.specs.declared.statement.Form.TheVariants as form
use Rattle.c_parse.specs.Types.{kind_of}
use Rattle.c_parse.specs.StatementTrees.{statement, ident, group, step_by}
use Rattle.c_parse.specs.Grammar.{Text, symbol, name_token, end, word, DerivesChoice}
use Rattle.c_parse.specs.Declarations.{a_type}
use Rattle.c_parse.specs.Statements.{no_const, a_const, DerivesSimple, DerivesLocal, a_local, DerivesOptional, DerivesBegin, DerivesNext, DerivesLabels, DerivesStatement, a_block, an_empty, a_simple, a_label, an_if, a_while, a_do, a_for, a_switch, a_break, a_continue, a_return, an_assert, an_assume, DerivesBody, no_more, local_then, statement_then, DerivesArms, an_arm, no_else, an_else, else_if, DerivesGroups, no_group, a_group}
use Rattle.c_parse.specs.Reading.{Read, ◌>>=◌, is_symbol, starts, expect}
use Rattle.c_parse.specs.ReadingStatements.{starts_local, local_at, stepped_at, starts_label, labels_at, Reads, one_at, ends_body, body_at, groups_at, arms_at, do_at, for_at, switch_at, return_at, assert_at, assume_at, statement_of_symbol, labelled_at, statement_by, statement_at}
use Rattle.c_parse.proofs.Steps.{starts-false}
use Rattle.c_parse.proofs.Again.{Stays_symbol}
use Rattle.c_parse.proofs.Firsts.{BeginsBy, BeginsBy-append, some_first as first_there, not_first}
use Rattle.c_parse.proofs.TakesStatements.{Closed}
use Rattle.c_parse.proofs.AgainParts.{test_again, no_local_first, local_again, local_starts, IsRead, by_name, by_step, simple_is_read, simple_begins, begins_simple_by, optional_again, begin_again, next_again, labels_again, labels_start}

-- what a statement may begin with
abbrev pub begins : Sign → Bool
begins (sign.Name w) = true
begins (sign.Symbol symbols.OpenBrace) = true
begins (sign.Symbol symbols.Semicolon) = true
begins (sign.Symbol symbols.If) = true
begins (sign.Symbol symbols.While) = true
begins (sign.Symbol symbols.Do) = true
begins (sign.Symbol symbols.For) = true
begins (sign.Symbol symbols.Switch) = true
begins (sign.Symbol symbols.Break) = true
begins (sign.Symbol symbols.Continue) = true
begins (sign.Symbol symbols.Return) = true
begins (sign.Symbol symbols.Assert) = true
begins (sign.Symbol symbols.Assume) = true
begins (sign.Symbol symbols.Increment) = true
begins (sign.Symbol symbols.Decrement) = true
begins _ = false

abbrev pub Begins : List Terminal → Type 0
Begins xs = BeginsBy begins xs

simple_too : (s : Sign) → begins_simple_by s ≡ true → begins s ≡ true
simple_too (sign.Name w) e = refl
simple_too (sign.Symbol symbols.Increment) e = refl
simple_too (sign.Symbol symbols.Decrement) e = refl
simple_too _ e = absurd cc

pub statement_begins : {o : Bool} {s : Statement} {xs : List Terminal} → DerivesStatement o s xs → Begins xs
statement_begins (a_block q d) = record { head = _; others = _; is = refl; fits = refl }
statement_begins an_empty = record { head = _; others = _; is = refl; fits = refl }
statement_begins (a_simple q d) = let b = simple_begins d in BeginsBy-append _ _ (record { head = b.head; others = b.others; is = b.is; fits = simple_too b.head.sign b.fits })
statement_begins (a_label q d) = record { head = _; others = _; is = refl; fits = refl }
statement_begins (an_if d) = record { head = _; others = _; is = refl; fits = refl }
statement_begins (a_while q r c d) = record { head = _; others = _; is = refl; fits = refl }
statement_begins (a_do q r u v d c) = record { head = _; others = _; is = refl; fits = refl }
statement_begins (a_for q r u a b c d) = record { head = _; others = _; is = refl; fits = refl }
statement_begins (a_switch q r u v c d) = record { head = _; others = _; is = refl; fits = refl }
statement_begins (a_break q) = record { head = _; others = _; is = refl; fits = refl }
statement_begins (a_continue q) = record { head = _; others = _; is = refl; fits = refl }
statement_begins (a_return q d) = record { head = _; others = _; is = refl; fits = refl }
statement_begins (an_assert q r u d) = record { head = _; others = _; is = refl; fits = refl }
statement_begins (an_assume q r u d) = record { head = _; others = _; is = refl; fits = refl }

-- what does not begin with `if` does not where more follows
no_if : (xs rest : List Terminal) → Begins xs → starts symbols.If xs ≡ false → starts symbols.If (xs ++ rest) ≡ false
no_if [] rest b e = let h = b.is in absurd cc
no_if (x ∷ xs) rest b e = e

-- what ends a body
ends_no_else : (ts : List Terminal) → ends_body ts ≡ true → starts symbols.Else ts ≡ false
ends_no_else [] e = refl
ends_no_else (t ∷ ts) e = at t.sign e
  where
    at : (s : Sign) → (is_symbol symbols.CloseBrace s || (is_symbol symbols.Case s || is_symbol symbols.Default s)) ≡ true → is_symbol symbols.Else s ≡ false
    at (sign.Symbol symbols.Else) e = absurd cc
    at (sign.Symbol _) e = refl
    at _ e = refl

no_end_first : {f : Sign → Bool} (xs ys : List Terminal) → f (sign.Symbol symbols.CloseBrace) ≡ false → f (sign.Symbol symbols.Case) ≡ false → f (sign.Symbol symbols.Default) ≡ false → BeginsBy f xs → ends_body (xs ++ ys) ≡ false
no_end_first xs ys a b c d = rw (not_first symbols.CloseBrace a xs ys d, not_first symbols.Case b xs ys d, not_first symbols.Default c xs ys d) refl

-- what a declaration begins with
abbrev pub begins_local_by : Sign → Bool
begins_local_by (sign.Type w) = true
begins_local_by (sign.Symbol symbols.Const) = true
begins_local_by _ = false

pub local_begins : {s : Statement} {xs : List Terminal} → DerivesLocal s xs → BeginsBy begins_local_by xs
unfolding kind_of
local_begins (a_local (a_const p c) t d) = record { head = _; others = _; is = refl; fits = refl }
local_begins (a_local no_const (a_type end k) d) = absurd cc
local_begins (a_local no_const (a_type (word p w) k) d) = record { head = _; others = _; is = refl; fits = refl }

-- ---- a rule at a time: r is a reader, and the premises say what it gives at the parts

block_again : (r : Reads) (p q : Span) (ss : List Statement) (ts rest : List Terminal) → body_at r (length (ts ++ symbol symbols.CloseBrace q ∷ rest)) (ts ++ symbol symbols.CloseBrace q ∷ rest) ≡ Some (ss, symbol symbols.CloseBrace q ∷ rest)
    → statement_by r (symbol symbols.OpenBrace p ∷ (ts ++ symbol symbols.CloseBrace q ∷ []) ++ rest) ≡ Some (statement p (form.Block ss), rest)
unfolding statement_by
block_again r p q ss ts rest e = rw (append_assoc, e) refl

empty_again : (r : Reads) (p : Span) (rest : List Terminal) → statement_by r (symbol symbols.Semicolon p ∷ rest) ≡ Some (statement p form.Empty, rest)
unfolding statement_by
empty_again r p rest = refl

-- a statement that begins with the symbol of a step
of_step : (r : Reads) (m : Symbol) (p : Span) (ts : List Terminal) (up : Bool) → step_by m ≡ Some up
    → statement_of_symbol r m p ts ≡ (stepped_at p m ts >>= λ s. expect symbols.Semicolon s.1 >>= λ rest. let x : Statement × List Terminal = (s.0, rest) in Some x)
of_step r symbols.Increment p ts up e = refl
of_step r symbols.Decrement p ts up e = refl
of_step r _ p ts up e = absurd cc

read_statement : (r : Reads) (q : Span) (s : Statement) (xs rest : List Terminal) → IsRead s xs (symbol symbols.Semicolon q ∷ rest) → statement_by r (xs ++ symbol symbols.Semicolon q ∷ rest) ≡ Some (s, rest)
unfolding statement_by labelled_at
read_statement r q s xs rest (by_name p w us parts no_label e) = rw (parts, no_label, e) refl
read_statement r q s xs rest (by_step p m up us parts step e) = rw (parts, of_step r m p us up step, e) refl

simple_statement_again : (r : Reads) (q : Span) (s : Statement) (ts rest : List Terminal) → DerivesSimple s ts → statement_by r (ts ++ symbol symbols.Semicolon q ∷ [] ++ rest) ≡ Some (s, rest)
simple_statement_again r q s ts rest d =
    simp append_assoc (read_statement r q s ts rest (simple_is_read d (symbol symbols.Semicolon q ∷ rest) (Stays_symbol _ _ _ refl refl refl refl) refl))

label_again : (r : Reads) (p q : Span) (w : Text) (s : Statement) (ts rest : List Terminal) → r (ts ++ rest) ≡ Some (s, rest) → statement_by r (name_token w p ∷ symbol symbols.Colon q ∷ (ts ++ rest)) ≡ Some (statement p (form.Label (ident w p) s), rest)
unfolding statement_by labelled_at
label_again r p q w s ts rest e = rw e refl

while_again : (r : Reads) (p q u : Span) (c : ExprTree) (s : Statement) (xs ys rest : List Terminal) → DerivesChoice c xs → r (ys ++ rest) ≡ Some (s, rest)
    → statement_by r (symbol symbols.While p ∷ symbol symbols.Open q ∷ (xs ++ symbol symbols.Close u ∷ ys) ++ rest) ≡ Some (statement p (form.While c s), rest)
unfolding statement_by
while_again r p q u c s xs ys rest d e = rw (append_assoc, test_again q u c xs (ys ++ rest) d, e) refl

do_again : (r : Reads) (p q a b v : Span) (s : Statement) (c : ExprTree) (xs ys rest : List Terminal) → DerivesChoice c ys
    → r (xs ++ symbol symbols.While q ∷ symbol symbols.Open a ∷ (ys ++ symbol symbols.Close b ∷ symbol symbols.Semicolon v ∷ rest)) ≡ Some (s, symbol symbols.While q ∷ symbol symbols.Open a ∷ (ys ++ symbol symbols.Close b ∷ symbol symbols.Semicolon v ∷ rest))
    → statement_by r (symbol symbols.Do p ∷ (xs ++ symbol symbols.While q ∷ symbol symbols.Open a ∷ (ys ++ symbol symbols.Close b ∷ symbol symbols.Semicolon v ∷ [])) ++ rest) ≡ Some (statement p (form.Do s c), rest)
unfolding statement_by do_at
do_again r p q a b v s c xs ys rest d e =
    let regroup : (xs ++ symbol symbols.While q ∷ symbol symbols.Open a ∷ (ys ++ symbol symbols.Close b ∷ symbol symbols.Semicolon v ∷ [])) ++ rest ≡ xs ++ symbol symbols.While q ∷ symbol symbols.Open a ∷ (ys ++ symbol symbols.Close b ∷ symbol symbols.Semicolon v ∷ rest) = simp append_assoc in
    rw (regroup, e, test_again a b c ys (symbol symbols.Semicolon v ∷ rest) d) refl

for_again : (r : Reads) (p q a b : Span) (i j : Option Statement) (c : Option ExprTree) (s : Statement) (xs ys zs us rest : List Terminal) → DerivesBegin i xs → DerivesOptional c ys → DerivesNext j zs → r (us ++ rest) ≡ Some (s, rest)
    → statement_by r (symbol symbols.For p ∷ symbol symbols.Open q ∷ (xs ++ (ys ++ symbol symbols.Semicolon a ∷ (zs ++ symbol symbols.Close b ∷ us))) ++ rest) ≡ Some (statement p (form.For i c j s), rest)
unfolding statement_by for_at
for_again r p q a b i j c s xs ys zs us rest di dc dj e =
    let regroup : (xs ++ (ys ++ symbol symbols.Semicolon a ∷ (zs ++ symbol symbols.Close b ∷ us))) ++ rest ≡ xs ++ (ys ++ symbol symbols.Semicolon a ∷ (zs ++ symbol symbols.Close b ∷ (us ++ rest))) = simp append_assoc in
    rw (regroup, begin_again di (ys ++ symbol symbols.Semicolon a ∷ (zs ++ symbol symbols.Close b ∷ (us ++ rest))), optional_again dc a (zs ++ symbol symbols.Close b ∷ (us ++ rest)), next_again dj b (us ++ rest), e) refl

switch_again : (r : Reads) (p q a b v : Span) (c : ExprTree) (gs : List Group) (xs ys rest : List Terminal) → DerivesChoice c xs
    → groups_at r (length (ys ++ symbol symbols.CloseBrace v ∷ rest)) (ys ++ symbol symbols.CloseBrace v ∷ rest) ≡ Some (gs, rest)
    → statement_by r (symbol symbols.Switch p ∷ symbol symbols.Open q ∷ (xs ++ symbol symbols.Close a ∷ symbol symbols.OpenBrace b ∷ (ys ++ symbol symbols.CloseBrace v ∷ [])) ++ rest) ≡ Some (statement p (form.Switch c gs), rest)
unfolding statement_by switch_at
switch_again r p q a b v c gs xs ys rest d e =
    let regroup : (xs ++ symbol symbols.Close a ∷ symbol symbols.OpenBrace b ∷ (ys ++ symbol symbols.CloseBrace v ∷ [])) ++ rest ≡ xs ++ symbol symbols.Close a ∷ symbol symbols.OpenBrace b ∷ (ys ++ symbol symbols.CloseBrace v ∷ rest) = simp append_assoc in
    rw (regroup, test_again q a c xs (symbol symbols.OpenBrace b ∷ (ys ++ symbol symbols.CloseBrace v ∷ rest)) d, e) refl

break_again : (r : Reads) (p q : Span) (rest : List Terminal) → statement_by r (symbol symbols.Break p ∷ symbol symbols.Semicolon q ∷ rest) ≡ Some (statement p form.Break, rest)
unfolding statement_by
break_again r p q rest = refl

continue_again : (r : Reads) (p q : Span) (rest : List Terminal) → statement_by r (symbol symbols.Continue p ∷ symbol symbols.Semicolon q ∷ rest) ≡ Some (statement p form.Continue, rest)
unfolding statement_by
continue_again r p q rest = refl

return_again : (r : Reads) (p q : Span) (t : Option ExprTree) (ts rest : List Terminal) → DerivesOptional t ts → statement_by r (symbol symbols.Return p ∷ (ts ++ symbol symbols.Semicolon q ∷ []) ++ rest) ≡ Some (statement p (form.Return t), rest)
unfolding statement_by return_at
return_again r p q t ts rest d = rw (append_assoc, optional_again d q rest) refl

assert_again : (r : Reads) (p q a b : Span) (t : ExprTree) (ts rest : List Terminal) → DerivesChoice t ts
    → statement_by r (symbol symbols.Assert p ∷ symbol symbols.Open q ∷ (ts ++ symbol symbols.Close a ∷ symbol symbols.Semicolon b ∷ []) ++ rest) ≡ Some (statement p (form.Assert t), rest)
unfolding statement_by assert_at
assert_again r p q a b t ts rest d = rw (append_assoc, test_again q a t ts (symbol symbols.Semicolon b ∷ rest) d) refl

assume_again : (r : Reads) (p q a b : Span) (t : ExprTree) (ts rest : List Terminal) → DerivesChoice t ts
    → statement_by r (symbol symbols.Assume p ∷ symbol symbols.Open q ∷ (ts ++ symbol symbols.Close a ∷ symbol symbols.Semicolon b ∷ []) ++ rest) ≡ Some (statement p (form.Assume t), rest)
unfolding statement_by assume_at
assume_again r p q a b t ts rest d = rw (append_assoc, test_again q a t ts (symbol symbols.Semicolon b ∷ rest) d) refl

if_again : (r : Reads) (p : Span) (arms : List (ExprTree × Statement)) (o : Option Statement) (ts rest : List Terminal) → arms_at r (length (ts ++ rest)) (ts ++ rest) ≡ Some ((arms, o), rest)
    → statement_by r (symbol symbols.If p ∷ (ts ++ rest)) ≡ Some (statement p (form.If arms o), rest)
unfolding statement_by
if_again r p arms o ts rest e = rw e refl

no_else_again : (r : Reads) (k : ℕ) (p q : Span) (c : ExprTree) (s : Statement) (xs ys rest : List Terminal) → DerivesChoice c xs → r (ys ++ rest) ≡ Some (s, rest) → starts symbols.Else rest ≡ false
    → arms_at r (suc k) (symbol symbols.Open p ∷ (xs ++ symbol symbols.Close q ∷ (ys ++ [])) ++ rest) ≡ Some (((c, s) ∷ [], None), rest)
unfolding arms_at
no_else_again r k p q c s xs ys rest d e last =
    let regroup : (xs ++ symbol symbols.Close q ∷ (ys ++ [])) ++ rest ≡ xs ++ symbol symbols.Close q ∷ (ys ++ rest) = simp (append_assoc, append-nil) in
    rw (regroup, test_again p q c xs (ys ++ rest) d, e, last) refl

else_again : (r : Reads) (k : ℕ) (p q u : Span) (c : ExprTree) (s o : Statement) (xs ys zs rest : List Terminal) → DerivesChoice c xs → r (ys ++ symbol symbols.Else u ∷ (zs ++ rest)) ≡ Some (s, symbol symbols.Else u ∷ (zs ++ rest))
    → starts symbols.If (zs ++ rest) ≡ false → r (zs ++ rest) ≡ Some (o, rest)
    → arms_at r (suc k) (symbol symbols.Open p ∷ (xs ++ symbol symbols.Close q ∷ (ys ++ symbol symbols.Else u ∷ zs)) ++ rest) ≡ Some (((c, s) ∷ [], Some o), rest)
unfolding arms_at
else_again r k p q u c s o xs ys zs rest d e other f =
    let regroup : (xs ++ symbol symbols.Close q ∷ (ys ++ symbol symbols.Else u ∷ zs)) ++ rest ≡ xs ++ symbol symbols.Close q ∷ (ys ++ symbol symbols.Else u ∷ (zs ++ rest)) = simp append_assoc in
    rw (regroup, test_again p q c xs (ys ++ symbol symbols.Else u ∷ (zs ++ rest)) d, e, other, f) refl

else_if_again : (r : Reads) (k : ℕ) (p q u v : Span) (c : ExprTree) (s : Statement) (arms : List (ExprTree × Statement)) (o : Option Statement) (xs ys zs rest : List Terminal) → DerivesChoice c xs
    → r (ys ++ symbol symbols.Else u ∷ symbol symbols.If v ∷ (zs ++ rest)) ≡ Some (s, symbol symbols.Else u ∷ symbol symbols.If v ∷ (zs ++ rest)) → arms_at r k (zs ++ rest) ≡ Some ((arms, o), rest)
    → arms_at r (suc k) (symbol symbols.Open p ∷ (xs ++ symbol symbols.Close q ∷ (ys ++ symbol symbols.Else u ∷ symbol symbols.If v ∷ zs)) ++ rest) ≡ Some (((c, s) ∷ arms, o), rest)
unfolding arms_at
else_if_again r k p q u v c s arms o xs ys zs rest d e f =
    let regroup : (xs ++ symbol symbols.Close q ∷ (ys ++ symbol symbols.Else u ∷ symbol symbols.If v ∷ zs)) ++ rest ≡ xs ++ symbol symbols.Close q ∷ (ys ++ symbol symbols.Else u ∷ symbol symbols.If v ∷ (zs ++ rest)) = simp append_assoc in
    rw (regroup, test_again p q c xs (ys ++ symbol symbols.Else u ∷ symbol symbols.If v ∷ (zs ++ rest)) d, e, f) refl

end_again : (r : Reads) (m : ℕ) (rest : List Terminal) → 0 < m → ends_body rest ≡ true → body_at r m rest ≡ Some ([], rest)
unfolding body_at
end_again r zero rest some e = absurd (omega arith)
end_again r (suc m) rest some e = rw e refl

then_again : (r : Reads) (m : ℕ) (s : Statement) (ss : List Statement) (xs ys rest : List Terminal) → 0 < m → ends_body (xs ++ (ys ++ rest)) ≡ false
    → one_at r (xs ++ (ys ++ rest)) ≡ Some (s, ys ++ rest) → ((k : ℕ) → suc k ≡ m → body_at r k (ys ++ rest) ≡ Some (ss, rest)) → body_at r m (xs ++ ys ++ rest) ≡ Some (s ∷ ss, rest)
unfolding body_at
then_again r zero s ss xs ys rest some more e f = absurd (omega arith)
then_again r (suc m) s ss xs ys rest some more e f = rw (append_assoc, more, e, f m refl) refl

one_local : (r : Reads) (ts : List Terminal) (x : Read Statement) → starts_local ts ≡ true → local_at ts ≡ x → one_at r ts ≡ x
one_local r ts x e f = rw e f

one_statement : (r : Reads) (ts : List Terminal) (x : Read Statement) → starts_local ts ≡ false → r ts ≡ x → one_at r ts ≡ x
one_statement r ts x e f = rw e f

close_again : (r : Reads) (m : ℕ) (q : Span) (rest : List Terminal) → 0 < m → groups_at r m (symbol symbols.CloseBrace q ∷ rest) ≡ Some ([], rest)
unfolding groups_at
close_again r zero q rest some = absurd (omega arith)
close_again r (suc m) q rest some = refl

group_again : (r : Reads) (m : ℕ) (q : Span) (ls : List CaseLabel) (ss : List Statement) (gs : List Group) (xs ys zs rest : List Terminal) → 0 < m
    → starts symbols.CloseBrace (xs ++ (ys ++ (zs ++ symbol symbols.CloseBrace q ∷ rest))) ≡ false
    → labels_at (length (xs ++ (ys ++ (zs ++ symbol symbols.CloseBrace q ∷ rest)))) (xs ++ (ys ++ (zs ++ symbol symbols.CloseBrace q ∷ rest))) ≡ Some (ls, ys ++ (zs ++ symbol symbols.CloseBrace q ∷ rest))
    → body_at r (length (ys ++ (zs ++ symbol symbols.CloseBrace q ∷ rest))) (ys ++ (zs ++ symbol symbols.CloseBrace q ∷ rest)) ≡ Some (ss, zs ++ symbol symbols.CloseBrace q ∷ rest)
    → ((k : ℕ) → suc k ≡ m → groups_at r k (zs ++ symbol symbols.CloseBrace q ∷ rest) ≡ Some (gs, rest))
    → groups_at r m (xs ++ (ys ++ zs) ++ symbol symbols.CloseBrace q ∷ rest) ≡ Some (group ls ss ∷ gs, rest)
unfolding groups_at
group_again r zero q ls ss gs xs ys zs rest some a b c d = absurd (omega arith)
group_again r (suc m) q ls ss gs xs ys zs rest some a b c d =
    let regroup : (xs ++ (ys ++ zs)) ++ symbol symbols.CloseBrace q ∷ rest ≡ xs ++ (ys ++ (zs ++ symbol symbols.CloseBrace q ∷ rest)) = simp append_assoc in
    rw (regroup, a, b, c, d m refl) refl

at_statement : (n : ℕ) (ts : List Terminal) (x : Read Statement) → 0 < n → ((m : ℕ) → suc m ≡ n → statement_by (statement_at m) ts ≡ x) → statement_at n ts ≡ x
unfolding statement_at
at_statement zero ts x some d = absurd (omega arith)
at_statement (suc m) ts x some d = d m refl

at_arms : (r : Reads) (m : ℕ) (ts : List Terminal) (x : Read (List (ExprTree × Statement) × Option Statement)) → 0 < m → ((k : ℕ) → suc k ≡ m → arms_at r (suc k) ts ≡ x) → arms_at r m ts ≡ x
at_arms r zero ts x some d = absurd (omega arith)
at_arms r (suc k) ts x some d = d k refl

-- ---- what follows the parts of a body

body_no_else : {ss : List Statement} {ys : List Terminal} → DerivesBody ss ys → (rest : List Terminal) → ends_body rest ≡ true → starts symbols.Else (ys ++ rest) ≡ false
body_no_else no_more rest e = ends_no_else rest e
body_no_else (local_then {xs = xs} d ds) rest e = rw append_assoc (not_first symbols.Else refl xs _ (local_begins d))
body_no_else (statement_then {xs = xs} d ds) rest e = rw append_assoc (not_first symbols.Else refl xs _ (statement_begins d))

no_label_first : {f : Sign → Bool} (xs ys : List Terminal) → f (sign.Symbol symbols.Case) ≡ false → f (sign.Symbol symbols.Default) ≡ false → BeginsBy f xs → starts_label (xs ++ ys) ≡ false
no_label_first xs ys b c d = rw (not_first symbols.Case b xs ys d, not_first symbols.Default c xs ys d) refl

body_no_label : {ss : List Statement} {ys : List Terminal} → DerivesBody ss ys → (zs : List Terminal) (q : Span) (rest : List Terminal) → (ys ≡ [] → zs ≡ []) → starts_label (ys ++ (zs ++ symbol symbols.CloseBrace q ∷ rest)) ≡ false
body_no_label no_more zs q rest none = let h = none refl in rw h refl
body_no_label (local_then {xs = xs} d ds) zs q rest none = rw append_assoc (no_label_first xs _ refl refl (local_begins d))
body_no_label (statement_then {xs = xs} d ds) zs q rest none = rw append_assoc (no_label_first xs _ refl refl (statement_begins d))

label_ends : (ts : List Terminal) → starts_label ts ≡ true → ends_body ts ≡ true
label_ends ts e = at (starts symbols.CloseBrace ts) (starts_label ts) e
  where
    at : (a b : Bool) → b ≡ true → (a || b) ≡ true
    at true b e = refl
    at false b e = e

groups_end : {gs : List Group} {zs : List Terminal} → DerivesGroups gs zs → (q : Span) (rest : List Terminal) → ends_body (zs ++ symbol symbols.CloseBrace q ∷ rest) ≡ true
groups_end no_group q rest = refl
groups_end (a_group {xs = xs} {ys = ys} {zs = zs} d ds none gs) q rest =
    let behind : List Terminal = (ys ++ zs) ++ symbol symbols.CloseBrace q ∷ rest in
    rw append_assoc (label_ends (xs ++ behind) (labels_start d behind))

label_no_close : (ts : List Terminal) → starts_label ts ≡ true → starts symbols.CloseBrace ts ≡ false
label_no_close [] e = refl
label_no_close (t ∷ ts) e = at t.sign e
  where
    at : (s : Sign) → (is_symbol symbols.Case s || is_symbol symbols.Default s) ≡ true → is_symbol symbols.CloseBrace s ≡ false
    at (sign.Symbol symbols.CloseBrace) e = absurd cc
    at (sign.Symbol _) e = refl
    at _ e = refl

pub labels_there : {ls : List CaseLabel} {xs : List Terminal} → DerivesLabels ls xs → 0 < length xs
labels_there {xs = xs} d = at xs (labels_start d [])
  where
    at : (xs : List Terminal) → starts_label (xs ++ []) ≡ true → 0 < length xs
    at [] e = absurd cc
    at (x ∷ xs) e = omega arith

mutual
  pub statement_by_again : {o : Bool} {s : Statement} {xs : List Terminal} → DerivesStatement o s xs → (n : ℕ) (rest : List Terminal) → length xs + length rest ≤ n → Closed o rest → statement_by (statement_at n) (xs ++ rest) ≡ Some (s, rest)
  statement_by_again (a_block {ts = ts} q d) n rest le closed = block_again (statement_at n) _ q _ ts rest (body_again d n (length (ts ++ symbol symbols.CloseBrace q ∷ rest)) (symbol symbols.CloseBrace q ∷ rest) (omega (arith, length-append {A = Terminal})) (omega (arith, length-append {A = Terminal})) refl)
  statement_by_again an_empty n rest le closed = empty_again (statement_at n) _ rest
  statement_by_again (a_simple {ts = ts} q d) n rest le closed = simple_statement_again (statement_at n) q _ ts rest d
  statement_by_again (a_label {ts = ts} q d) n rest le closed = label_again (statement_at n) _ q _ _ ts rest (at_statement n _ _ (omega arith) (λ m e. statement_by_again d m rest (omega arith) closed))
  statement_by_again (an_if {ts = ts} d) n rest le closed = if_again (statement_at n) _ _ _ ts rest (arms_again d n (length (ts ++ rest)) rest (omega arith) (omega (arith, length-append ts rest)) closed)
  statement_by_again (a_while {xs = xs} {ys = ys} q r c d) n rest le closed = while_again (statement_at n) _ q r _ _ xs ys rest c (at_statement n _ _ (omega arith) (λ m e. statement_by_again d m rest (omega (arith, length-append {A = Terminal})) closed))
  statement_by_again (a_do {xs = xs} {ys = ys} q a b v d c) n rest le closed =
      do_again (statement_at n) _ q a b v _ _ xs ys rest c (at_statement n _ _ (omega arith) (λ m e. statement_by_again d m _ (omega (arith, length-append {A = Terminal})) (λ opens. refl)))
  statement_by_again (a_for {xs = xs} {ys = ys} {zs = zs} {us = us} q a b di dc dj d) n rest le closed =
      for_again (statement_at n) _ q a b _ _ _ _ xs ys zs us rest di dc dj (at_statement n _ _ (omega arith) (λ m e. statement_by_again d m rest (omega (arith, length-append {A = Terminal})) closed))
  statement_by_again (a_switch {xs = xs} {ys = ys} q a b v c d) n rest le closed =
      switch_again (statement_at n) _ q a b v _ _ xs ys rest c (groups_again d n (length (ys ++ symbol symbols.CloseBrace v ∷ rest)) v rest (omega (arith, length-append {A = Terminal})) (omega (arith, length-append {A = Terminal})))
  statement_by_again (a_break q) n rest le closed = break_again (statement_at n) _ q rest
  statement_by_again (a_continue q) n rest le closed = continue_again (statement_at n) _ q rest
  statement_by_again (a_return {ts = ts} q d) n rest le closed = return_again (statement_at n) _ q _ ts rest d
  statement_by_again (an_assert {ts = ts} q a b d) n rest le closed = assert_again (statement_at n) _ q a b _ ts rest d
  statement_by_again (an_assume {ts = ts} q a b d) n rest le closed = assume_again (statement_at n) _ q a b _ ts rest d

  pub body_again : {ss : List Statement} {xs : List Terminal} → DerivesBody ss xs → (n m : ℕ) (rest : List Terminal) → length xs + length rest < n → length xs < m → ends_body rest ≡ true
      → body_at (statement_at n) m (xs ++ rest) ≡ Some (ss, rest)
  body_again no_more n m rest le lm ends = end_again (statement_at n) m rest (omega arith) ends
  body_again (local_then {xs = xs} {ys = ys} d ds) n m rest le lm ends =
      then_again (statement_at n) m _ _ xs ys rest (omega arith) (no_end_first xs _ refl refl refl (local_begins d)) (one_local (statement_at n) _ _ (local_starts d (ys ++ rest)) (local_again d (ys ++ rest)))
      (λ k e. body_again ds n k rest (omega (arith, length-append {A = Terminal})) (omega (arith, length-append {A = Terminal}, first_there xs (local_begins d))) ends)
  body_again (statement_then {xs = xs} {ys = ys} d ds) n m rest le lm ends =
      then_again (statement_at n) m _ _ xs ys rest (omega arith) (no_end_first xs _ refl refl refl (statement_begins d))
      (one_statement (statement_at n) _ _ (no_local_first (λ w. refl) refl xs (ys ++ rest) (statement_begins d))
      (at_statement n _ _ (omega (arith, length-append {A = Terminal}, first_there xs (statement_begins d))) (λ k e. statement_by_again d k (ys ++ rest) (omega (arith, length-append {A = Terminal})) (λ opens. body_no_else ds rest ends))))
      (λ k e. body_again ds n k rest (omega (arith, length-append {A = Terminal})) (omega (arith, length-append {A = Terminal}, first_there xs (statement_begins d))) ends)

  pub groups_again : {gs : List Group} {xs : List Terminal} → DerivesGroups gs xs → (n m : ℕ) (q : Span) (rest : List Terminal) → length xs + suc (length rest) < n → length xs < m
      → groups_at (statement_at n) m (xs ++ symbol symbols.CloseBrace q ∷ rest) ≡ Some (gs, rest)
  groups_again no_group n m q rest le lm = close_again (statement_at n) m q rest (omega arith)
  groups_again (a_group {xs = xs} {ys = ys} {zs = zs} d ds none gs) n m q rest le lm =
      group_again (statement_at n) m q _ _ _ xs ys zs rest (omega arith) (label_no_close (xs ++ (ys ++ (zs ++ symbol symbols.CloseBrace q ∷ rest))) (labels_start d (ys ++ (zs ++ symbol symbols.CloseBrace q ∷ rest))))
      (labels_again d (length (xs ++ (ys ++ (zs ++ symbol symbols.CloseBrace q ∷ rest)))) (ys ++ (zs ++ symbol symbols.CloseBrace q ∷ rest)) (omega (arith, length-append xs (ys ++ (zs ++ symbol symbols.CloseBrace q ∷ rest)))) (body_no_label ds zs q rest none))
      (body_again ds n (length (ys ++ (zs ++ symbol symbols.CloseBrace q ∷ rest))) (zs ++ symbol symbols.CloseBrace q ∷ rest) (omega (arith, length-append {A = Terminal})) (omega (arith, length-append {A = Terminal})) (groups_end gs q rest))
      (λ k e. groups_again gs n k q rest (omega (arith, length-append {A = Terminal})) (omega (arith, length-append {A = Terminal}, labels_there d)))

  pub arms_again : {o : Bool} {arms : List (ExprTree × Statement)} {other : Option Statement} {xs : List Terminal} → DerivesArms o arms other xs → (n m : ℕ) (rest : List Terminal) → length xs + length rest < n → length xs ≤ m → Closed o rest
      → arms_at (statement_at n) m (xs ++ rest) ≡ Some ((arms, other), rest)
  arms_again (an_arm {xs = xs} {ys = ys} p q c d fits no_else) n m rest le lm closed =
      at_arms (statement_at n) m _ _ (omega arith) (λ k e. no_else_again (statement_at n) k p q _ _ xs ys rest c (at_statement n _ _ (omega arith) (λ h f. statement_by_again d h rest (omega (arith, length-append {A = Terminal})) (λ opens. closed refl))) (closed refl))
  arms_again (an_arm {xs = xs} {ys = ys} p q c d fits (an_else {ts = ts} u other o)) n m rest le lm closed =
      at_arms (statement_at n) m _ _ (omega arith) (λ k e. else_again (statement_at n) k p q u _ _ _ xs ys ts rest c
      (at_statement n _ _ (omega arith) (λ h f. statement_by_again d h (symbol symbols.Else u ∷ (ts ++ rest)) (omega (arith, length-append {A = Terminal})) (λ opens. let h = fits opens in absurd cc))) (no_if ts rest (statement_begins o) (starts-false symbols.If ts other)) (at_statement n _ _ (omega arith) (λ h f. statement_by_again o h rest (omega (arith, length-append {A = Terminal})) closed)))
  arms_again (an_arm {xs = xs} {ys = ys} p q c d fits (else_if {ts = ts} u v ds)) n m rest le lm closed =
      at_arms (statement_at n) m _ _ (omega arith) (λ k e. else_if_again (statement_at n) k p q u v _ _ _ _ xs ys ts rest c
      (at_statement n _ _ (omega arith) (λ h f. statement_by_again d h (symbol symbols.Else u ∷ symbol symbols.If v ∷ (ts ++ rest)) (omega (arith, length-append {A = Terminal})) (λ opens. let h = fits opens in absurd cc))) (arms_again ds n k rest (omega (arith, length-append {A = Terminal})) (omega (arith, length-append {A = Terminal})) closed))
