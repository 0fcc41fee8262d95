use Rattle.std.proofs.Common.{◌∙◌, ap, subst, refl, Some, arith}
use Rattle.bit_words.specs.Words.{IsWord}
use Rattle.bit_words.proofs.Steps.{grows_within}
use Rattle.sym_expr.proofs.WordLemmas.{sure_outcome}
use Rattle.sym_expr.proofs.operators.binary.Goals as goal

pub add-requires-clause-room : goal.add-requires-clause-room
add-requires-clause-room c = let room = rw c.in-Add.is at c.requires.room in omega arith

pub add-requires-clause-right : goal.add-requires-clause-right
add-requires-clause-right c = subst (λ k. IsWord c.args.circuit.now k c.args.b.now) (c.requires.same (rw c.in-Add.is refl)) c.requires.right

pub returns-in_err-add-in-Add-clause-grows : goal.returns-in_err-add-in-Add-clause-grows
returns-in_err-add-in-Add-clause-grows c = rw c.in-Add.is (grows_within _ c.add.ensures.grows (omega arith))

pub returns-in_ok-add-in-Add-clause-grows : goal.returns-in_ok-add-in-Add-clause-grows
returns-in_ok-add-in-Add-clause-grows c = rw c.in-Add.is (grows_within _ c.add.ensures.grows (omega arith))

pub returns-in_ok-add-in-Add-clause-word : goal.returns-in_ok-add-in-Add-clause-word
returns-in_ok-add-in-Add-clause-word c = rw c.in-Add.is c.in_ok-add-in-Add.ensures.word

pub returns-in_ok-add-in-Add-clause-value : goal.returns-in_ok-add-in-Add-clause-value
returns-in_ok-add-in-Add-clause-value c = λ w. rw c.in-Add.is (sure_outcome c.add.new.circuit c.in_ok-add-in-Add.field-0 w ∙ ap Some (c.in_ok-add-in-Add.ensures.value w))

pub sub-requires-clause-room : goal.sub-requires-clause-room
sub-requires-clause-room c = let room = rw c.in-Sub.is at c.requires.room in omega arith

pub sub-requires-clause-right : goal.sub-requires-clause-right
sub-requires-clause-right c = subst (λ k. IsWord c.args.circuit.now k c.args.b.now) (c.requires.same (rw c.in-Sub.is refl)) c.requires.right

pub returns-in_err-sub-in-Sub-clause-grows : goal.returns-in_err-sub-in-Sub-clause-grows
returns-in_err-sub-in-Sub-clause-grows c = rw c.in-Sub.is (grows_within _ c.sub.ensures.grows (omega arith))

pub returns-in_ok-sub-in-Sub-clause-grows : goal.returns-in_ok-sub-in-Sub-clause-grows
returns-in_ok-sub-in-Sub-clause-grows c = rw c.in-Sub.is (grows_within _ c.sub.ensures.grows (omega arith))

pub returns-in_ok-sub-in-Sub-clause-word : goal.returns-in_ok-sub-in-Sub-clause-word
returns-in_ok-sub-in-Sub-clause-word c = rw c.in-Sub.is c.in_ok-sub-in-Sub.ensures.word

pub returns-in_ok-sub-in-Sub-clause-value : goal.returns-in_ok-sub-in-Sub-clause-value
returns-in_ok-sub-in-Sub-clause-value c = λ w. rw c.in-Sub.is (sure_outcome c.sub.new.circuit c.in_ok-sub-in-Sub.field-0 w ∙ ap Some (c.in_ok-sub-in-Sub.ensures.value w))

pub mul-requires-clause-room : goal.mul-requires-clause-room
mul-requires-clause-room c = let room = rw c.in-Mul.is at c.requires.room in omega arith

pub mul-requires-clause-right : goal.mul-requires-clause-right
mul-requires-clause-right c = subst (λ k. IsWord c.args.circuit.now k c.args.b.now) (c.requires.same (rw c.in-Mul.is refl)) c.requires.right

pub returns-in_err-mul-in-Mul-clause-grows : goal.returns-in_err-mul-in-Mul-clause-grows
returns-in_err-mul-in-Mul-clause-grows c = rw c.in-Mul.is (grows_within _ c.mul.ensures.grows (omega arith))

pub returns-in_ok-mul-in-Mul-clause-grows : goal.returns-in_ok-mul-in-Mul-clause-grows
returns-in_ok-mul-in-Mul-clause-grows c = rw c.in-Mul.is (grows_within _ c.mul.ensures.grows (omega arith))

pub returns-in_ok-mul-in-Mul-clause-word : goal.returns-in_ok-mul-in-Mul-clause-word
returns-in_ok-mul-in-Mul-clause-word c = rw c.in-Mul.is c.in_ok-mul-in-Mul.ensures.word

pub returns-in_ok-mul-in-Mul-clause-value : goal.returns-in_ok-mul-in-Mul-clause-value
returns-in_ok-mul-in-Mul-clause-value c = λ w. rw c.in-Mul.is (sure_outcome c.mul.new.circuit c.in_ok-mul-in-Mul.field-0 w ∙ ap Some (c.in_ok-mul-in-Mul.ensures.value w))

pub div-requires-clause-room : goal.div-requires-clause-room
div-requires-clause-room c = let room = rw c.in-Div.is at c.requires.room in omega arith

pub div-requires-clause-right : goal.div-requires-clause-right
div-requires-clause-right c = subst (λ k. IsWord c.args.circuit.now k c.args.b.now) (c.requires.same (rw c.in-Div.is refl)) c.requires.right

pub returns-in-Div-clause-grows : goal.returns-in-Div-clause-grows
returns-in-Div-clause-grows c = rw c.in-Div.is (grows_within _ c.div.ensures.grows (omega arith))

pub returns-in-Div-clause-word : goal.returns-in-Div-clause-word
returns-in-Div-clause-word c = rw c.in-Div.is c.div.ensures.word

pub returns-in-Div-clause-value : goal.returns-in-Div-clause-value
returns-in-Div-clause-value c = rw c.in-Div.is c.div.ensures.value

pub rem-requires-clause-room : goal.rem-requires-clause-room
rem-requires-clause-room c = let room = rw c.in-Rem.is at c.requires.room in omega arith

pub rem-requires-clause-right : goal.rem-requires-clause-right
rem-requires-clause-right c = subst (λ k. IsWord c.args.circuit.now k c.args.b.now) (c.requires.same (rw c.in-Rem.is refl)) c.requires.right

pub returns-in-Rem-clause-grows : goal.returns-in-Rem-clause-grows
returns-in-Rem-clause-grows c = rw c.in-Rem.is (grows_within _ c.rem.ensures.grows (omega arith))

pub returns-in-Rem-clause-word : goal.returns-in-Rem-clause-word
returns-in-Rem-clause-word c = rw c.in-Rem.is c.rem.ensures.word

pub returns-in-Rem-clause-value : goal.returns-in-Rem-clause-value
returns-in-Rem-clause-value c = rw c.in-Rem.is c.rem.ensures.value

pub shl-requires-clause-room : goal.shl-requires-clause-room
shl-requires-clause-room c = let room = rw c.in-Shl.is at c.requires.room in omega arith

pub returns-in-Shl-clause-grows : goal.returns-in-Shl-clause-grows
returns-in-Shl-clause-grows c = rw c.in-Shl.is (grows_within _ c.shl.ensures.grows (omega arith))

pub returns-in-Shl-clause-word : goal.returns-in-Shl-clause-word
returns-in-Shl-clause-word c = rw c.in-Shl.is c.shl.ensures.word

pub returns-in-Shl-clause-value : goal.returns-in-Shl-clause-value
returns-in-Shl-clause-value c = rw c.in-Shl.is c.shl.ensures.value

pub shr-requires-clause-room : goal.shr-requires-clause-room
shr-requires-clause-room c = let room = rw c.in-Shr.is at c.requires.room in omega arith

pub returns-in-Shr-clause-grows : goal.returns-in-Shr-clause-grows
returns-in-Shr-clause-grows c = rw c.in-Shr.is (grows_within _ c.shr.ensures.grows (omega arith))

pub returns-in-Shr-clause-word : goal.returns-in-Shr-clause-word
returns-in-Shr-clause-word c = rw c.in-Shr.is c.shr.ensures.word

pub returns-in-Shr-clause-value : goal.returns-in-Shr-clause-value
returns-in-Shr-clause-value c = rw c.in-Shr.is c.shr.ensures.value

pub and-requires-clause-room : goal.and-requires-clause-room
and-requires-clause-room c = let room = rw c.in-And.is at c.requires.room in omega arith

pub and-requires-clause-right : goal.and-requires-clause-right
and-requires-clause-right c = subst (λ k. IsWord c.args.circuit.now k c.args.b.now) (c.requires.same (rw c.in-And.is refl)) c.requires.right

pub returns-in_err-and-in-And-clause-grows : goal.returns-in_err-and-in-And-clause-grows
returns-in_err-and-in-And-clause-grows c = rw c.in-And.is (grows_within _ c.and.ensures.grows (omega arith))

pub returns-in_ok-and-in-And-clause-grows : goal.returns-in_ok-and-in-And-clause-grows
returns-in_ok-and-in-And-clause-grows c = rw c.in-And.is (grows_within _ c.and.ensures.grows (omega arith))

pub returns-in_ok-and-in-And-clause-word : goal.returns-in_ok-and-in-And-clause-word
returns-in_ok-and-in-And-clause-word c = rw c.in-And.is c.in_ok-and-in-And.ensures.word

pub returns-in_ok-and-in-And-clause-value : goal.returns-in_ok-and-in-And-clause-value
returns-in_ok-and-in-And-clause-value c = λ w. rw c.in-And.is (sure_outcome c.and.new.circuit c.in_ok-and-in-And.field-0 w ∙ ap Some (c.in_ok-and-in-And.ensures.value w))

pub or-requires-clause-room : goal.or-requires-clause-room
or-requires-clause-room c = let room = rw c.in-Or.is at c.requires.room in omega arith

pub or-requires-clause-right : goal.or-requires-clause-right
or-requires-clause-right c = subst (λ k. IsWord c.args.circuit.now k c.args.b.now) (c.requires.same (rw c.in-Or.is refl)) c.requires.right

pub returns-in_err-or-in-Or-clause-grows : goal.returns-in_err-or-in-Or-clause-grows
returns-in_err-or-in-Or-clause-grows c = rw c.in-Or.is (grows_within _ c.or.ensures.grows (omega arith))

pub returns-in_ok-or-in-Or-clause-grows : goal.returns-in_ok-or-in-Or-clause-grows
returns-in_ok-or-in-Or-clause-grows c = rw c.in-Or.is (grows_within _ c.or.ensures.grows (omega arith))

pub returns-in_ok-or-in-Or-clause-word : goal.returns-in_ok-or-in-Or-clause-word
returns-in_ok-or-in-Or-clause-word c = rw c.in-Or.is c.in_ok-or-in-Or.ensures.word

pub returns-in_ok-or-in-Or-clause-value : goal.returns-in_ok-or-in-Or-clause-value
returns-in_ok-or-in-Or-clause-value c = λ w. rw c.in-Or.is (sure_outcome c.or.new.circuit c.in_ok-or-in-Or.field-0 w ∙ ap Some (c.in_ok-or-in-Or.ensures.value w))

pub xor-requires-clause-room : goal.xor-requires-clause-room
xor-requires-clause-room c = let room = rw c.in-Xor.is at c.requires.room in omega arith

pub xor-requires-clause-right : goal.xor-requires-clause-right
xor-requires-clause-right c = subst (λ k. IsWord c.args.circuit.now k c.args.b.now) (c.requires.same (rw c.in-Xor.is refl)) c.requires.right

pub returns-in_err-xor-in-Xor-clause-grows : goal.returns-in_err-xor-in-Xor-clause-grows
returns-in_err-xor-in-Xor-clause-grows c = rw c.in-Xor.is (grows_within _ c.xor.ensures.grows (omega arith))

pub returns-in_ok-xor-in-Xor-clause-grows : goal.returns-in_ok-xor-in-Xor-clause-grows
returns-in_ok-xor-in-Xor-clause-grows c = rw c.in-Xor.is (grows_within _ c.xor.ensures.grows (omega arith))

pub returns-in_ok-xor-in-Xor-clause-word : goal.returns-in_ok-xor-in-Xor-clause-word
returns-in_ok-xor-in-Xor-clause-word c = rw c.in-Xor.is c.in_ok-xor-in-Xor.ensures.word

pub returns-in_ok-xor-in-Xor-clause-value : goal.returns-in_ok-xor-in-Xor-clause-value
returns-in_ok-xor-in-Xor-clause-value c = λ w. rw c.in-Xor.is (sure_outcome c.xor.new.circuit c.in_ok-xor-in-Xor.field-0 w ∙ ap Some (c.in_ok-xor-in-Xor.ensures.value w))

pub less_word-requires-clause-room : goal.less_word-requires-clause-room
less_word-requires-clause-room c = let room = rw c.in-Less.is at c.requires.room in omega arith

pub less_word-requires-clause-right : goal.less_word-requires-clause-right
less_word-requires-clause-right c = subst (λ k. IsWord c.args.circuit.now k c.args.b.now) (c.requires.same (rw c.in-Less.is refl)) c.requires.right

pub returns-in_err-less_word-in-Less-clause-grows : goal.returns-in_err-less_word-in-Less-clause-grows
returns-in_err-less_word-in-Less-clause-grows c = rw c.in-Less.is (grows_within _ c.less_word.ensures.grows (omega arith))

pub returns-in_ok-less_word-in-Less-clause-grows : goal.returns-in_ok-less_word-in-Less-clause-grows
returns-in_ok-less_word-in-Less-clause-grows c = rw c.in-Less.is (grows_within _ c.less_word.ensures.grows (omega arith))

pub returns-in_ok-less_word-in-Less-clause-word : goal.returns-in_ok-less_word-in-Less-clause-word
returns-in_ok-less_word-in-Less-clause-word c = rw c.in-Less.is c.in_ok-less_word-in-Less.ensures.word

pub returns-in_ok-less_word-in-Less-clause-value : goal.returns-in_ok-less_word-in-Less-clause-value
returns-in_ok-less_word-in-Less-clause-value c = λ w. rw c.in-Less.is (sure_outcome c.less_word.new.circuit c.in_ok-less_word-in-Less.field-0 w ∙ ap Some (c.in_ok-less_word-in-Less.ensures.value w))

pub less_word-requires-in-LessEqual-clause-room : goal.less_word-requires-in-LessEqual-clause-room
less_word-requires-in-LessEqual-clause-room c = let room = rw c.in-LessEqual.is at c.requires.room in omega arith

pub less_word-requires-in-LessEqual-clause-left : goal.less_word-requires-in-LessEqual-clause-left
less_word-requires-in-LessEqual-clause-left c = subst (λ k. IsWord c.args.circuit.now k c.args.b.now) (c.requires.same (rw c.in-LessEqual.is refl)) c.requires.right

pub returns-in_err-less_word-in-LessEqual-clause-grows : goal.returns-in_err-less_word-in-LessEqual-clause-grows
returns-in_err-less_word-in-LessEqual-clause-grows c = rw c.in-LessEqual.is (grows_within _ c.less_word-in-LessEqual.ensures.grows (omega arith))

pub returns-in_ok-less_word-in-LessEqual-clause-grows : goal.returns-in_ok-less_word-in-LessEqual-clause-grows
returns-in_ok-less_word-in-LessEqual-clause-grows c = rw c.in-LessEqual.is (grows_within _ c.less_word-in-LessEqual.ensures.grows (omega arith))

pub returns-in_ok-less_word-in-LessEqual-clause-word : goal.returns-in_ok-less_word-in-LessEqual-clause-word
returns-in_ok-less_word-in-LessEqual-clause-word c = rw c.in-LessEqual.is c.in_ok-less_word-in-LessEqual.ensures.word

pub returns-in_ok-less_word-in-LessEqual-clause-value : goal.returns-in_ok-less_word-in-LessEqual-clause-value
returns-in_ok-less_word-in-LessEqual-clause-value c = λ w. rw c.in-LessEqual.is (sure_outcome c.less_word-in-LessEqual.new.circuit c.in_ok-less_word-in-LessEqual.field-0 w ∙ ap Some (c.in_ok-less_word-in-LessEqual.ensures.value w))

pub less_word-requires-in-Greater-clause-room : goal.less_word-requires-in-Greater-clause-room
less_word-requires-in-Greater-clause-room c = let room = rw c.in-Greater.is at c.requires.room in omega arith

pub less_word-requires-in-Greater-clause-left : goal.less_word-requires-in-Greater-clause-left
less_word-requires-in-Greater-clause-left c = subst (λ k. IsWord c.args.circuit.now k c.args.b.now) (c.requires.same (rw c.in-Greater.is refl)) c.requires.right

pub returns-in_err-less_word-in-Greater-clause-grows : goal.returns-in_err-less_word-in-Greater-clause-grows
returns-in_err-less_word-in-Greater-clause-grows c = rw c.in-Greater.is (grows_within _ c.less_word-in-Greater.ensures.grows (omega arith))

pub returns-in_ok-less_word-in-Greater-clause-grows : goal.returns-in_ok-less_word-in-Greater-clause-grows
returns-in_ok-less_word-in-Greater-clause-grows c = rw c.in-Greater.is (grows_within _ c.less_word-in-Greater.ensures.grows (omega arith))

pub returns-in_ok-less_word-in-Greater-clause-word : goal.returns-in_ok-less_word-in-Greater-clause-word
returns-in_ok-less_word-in-Greater-clause-word c = rw c.in-Greater.is c.in_ok-less_word-in-Greater.ensures.word

pub returns-in_ok-less_word-in-Greater-clause-value : goal.returns-in_ok-less_word-in-Greater-clause-value
returns-in_ok-less_word-in-Greater-clause-value c = λ w. rw c.in-Greater.is (sure_outcome c.less_word-in-Greater.new.circuit c.in_ok-less_word-in-Greater.field-0 w ∙ ap Some (c.in_ok-less_word-in-Greater.ensures.value w))

pub less_word-requires-in-GreaterEqual-clause-room : goal.less_word-requires-in-GreaterEqual-clause-room
less_word-requires-in-GreaterEqual-clause-room c = let room = rw c.in-GreaterEqual.is at c.requires.room in omega arith

pub less_word-requires-in-GreaterEqual-clause-right : goal.less_word-requires-in-GreaterEqual-clause-right
less_word-requires-in-GreaterEqual-clause-right c = subst (λ k. IsWord c.args.circuit.now k c.args.b.now) (c.requires.same (rw c.in-GreaterEqual.is refl)) c.requires.right

pub returns-in_err-less_word-in-GreaterEqual-clause-grows : goal.returns-in_err-less_word-in-GreaterEqual-clause-grows
returns-in_err-less_word-in-GreaterEqual-clause-grows c = rw c.in-GreaterEqual.is (grows_within _ c.less_word-in-GreaterEqual.ensures.grows (omega arith))

pub returns-in_ok-less_word-in-GreaterEqual-clause-grows : goal.returns-in_ok-less_word-in-GreaterEqual-clause-grows
returns-in_ok-less_word-in-GreaterEqual-clause-grows c = rw c.in-GreaterEqual.is (grows_within _ c.less_word-in-GreaterEqual.ensures.grows (omega arith))

pub returns-in_ok-less_word-in-GreaterEqual-clause-word : goal.returns-in_ok-less_word-in-GreaterEqual-clause-word
returns-in_ok-less_word-in-GreaterEqual-clause-word c = rw c.in-GreaterEqual.is c.in_ok-less_word-in-GreaterEqual.ensures.word

pub returns-in_ok-less_word-in-GreaterEqual-clause-value : goal.returns-in_ok-less_word-in-GreaterEqual-clause-value
returns-in_ok-less_word-in-GreaterEqual-clause-value c = λ w. rw c.in-GreaterEqual.is (sure_outcome c.less_word-in-GreaterEqual.new.circuit c.in_ok-less_word-in-GreaterEqual.field-0 w ∙ ap Some (c.in_ok-less_word-in-GreaterEqual.ensures.value w))

pub equal_word-requires-clause-room : goal.equal_word-requires-clause-room
equal_word-requires-clause-room c = let room = rw c.in-Equal.is at c.requires.room in omega arith

pub equal_word-requires-clause-right : goal.equal_word-requires-clause-right
equal_word-requires-clause-right c = subst (λ k. IsWord c.args.circuit.now k c.args.b.now) (c.requires.same (rw c.in-Equal.is refl)) c.requires.right

pub returns-in_err-equal_word-in-Equal-clause-grows : goal.returns-in_err-equal_word-in-Equal-clause-grows
returns-in_err-equal_word-in-Equal-clause-grows c = rw c.in-Equal.is (grows_within _ c.equal_word.ensures.grows (omega arith))

pub returns-in_ok-equal_word-in-Equal-clause-grows : goal.returns-in_ok-equal_word-in-Equal-clause-grows
returns-in_ok-equal_word-in-Equal-clause-grows c = rw c.in-Equal.is (grows_within _ c.equal_word.ensures.grows (omega arith))

pub returns-in_ok-equal_word-in-Equal-clause-word : goal.returns-in_ok-equal_word-in-Equal-clause-word
returns-in_ok-equal_word-in-Equal-clause-word c = rw c.in-Equal.is c.in_ok-equal_word-in-Equal.ensures.word

pub returns-in_ok-equal_word-in-Equal-clause-value : goal.returns-in_ok-equal_word-in-Equal-clause-value
returns-in_ok-equal_word-in-Equal-clause-value c = λ w. rw c.in-Equal.is (sure_outcome c.equal_word.new.circuit c.in_ok-equal_word-in-Equal.field-0 w ∙ ap Some (c.in_ok-equal_word-in-Equal.ensures.value w))

pub equal_word-requires-in-NotEqual-clause-room : goal.equal_word-requires-in-NotEqual-clause-room
equal_word-requires-in-NotEqual-clause-room c = let room = rw c.in-NotEqual.is at c.requires.room in omega arith

pub equal_word-requires-in-NotEqual-clause-right : goal.equal_word-requires-in-NotEqual-clause-right
equal_word-requires-in-NotEqual-clause-right c = subst (λ k. IsWord c.args.circuit.now k c.args.b.now) (c.requires.same (rw c.in-NotEqual.is refl)) c.requires.right

pub returns-in_err-equal_word-in-NotEqual-clause-grows : goal.returns-in_err-equal_word-in-NotEqual-clause-grows
returns-in_err-equal_word-in-NotEqual-clause-grows c = rw c.in-NotEqual.is (grows_within _ c.equal_word-in-NotEqual.ensures.grows (omega arith))

pub returns-in_ok-equal_word-in-NotEqual-clause-grows : goal.returns-in_ok-equal_word-in-NotEqual-clause-grows
returns-in_ok-equal_word-in-NotEqual-clause-grows c = rw c.in-NotEqual.is (grows_within _ c.equal_word-in-NotEqual.ensures.grows (omega arith))

pub returns-in_ok-equal_word-in-NotEqual-clause-word : goal.returns-in_ok-equal_word-in-NotEqual-clause-word
returns-in_ok-equal_word-in-NotEqual-clause-word c = rw c.in-NotEqual.is c.in_ok-equal_word-in-NotEqual.ensures.word

pub returns-in_ok-equal_word-in-NotEqual-clause-value : goal.returns-in_ok-equal_word-in-NotEqual-clause-value
returns-in_ok-equal_word-in-NotEqual-clause-value c = λ w. rw c.in-NotEqual.is (sure_outcome c.equal_word-in-NotEqual.new.circuit c.in_ok-equal_word-in-NotEqual.field-0 w ∙ ap Some (c.in_ok-equal_word-in-NotEqual.ensures.value w))
