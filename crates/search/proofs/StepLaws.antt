-- The moves of steps, the last one apart.
use Rattle.std.proofs.Common.{◌≡◌, ℕ, ◌+◌, List, [], ◌∷◌, ◌++◌, length, reverse, refl, sym, ◌∙◌, ap, arith, Some}
use Rattle.std.specs.Prelude.{IsSomeAnd}
use Rattle.std.proofs.lemmas.List.{append_assoc, length-append, reverse-append}
use Rattle.cnf.specs.declared.derivation.DerivationLine.{DerivationLine}
use Rattle.search.specs.declared.moves.Move.{Move}
use Rattle.search.specs.declared.moves.Move.TheVariants as move
use Rattle.search.specs.declared.moves.Step.{Step}
use Rattle.search.specs.declared.moves.Step.TheVariants as step
use Rattle.search.specs.Steps.{jump_count, move_of, moves_of}

-- the last step isn't a jump
pub moves-step : (steps : List Step) (lines : List DerivationLine) (made : Step) (last : Move) → jump_count steps ≡ length lines → move_of made ≡ Some last
    → moves_of (steps ++ made ∷ []) lines ≡ moves_of steps lines ++ last ∷ []
moves-step [] lines (step.Propagate clause) last h e = let same : move.Propagate clause ≡ last = cc in ap (λ x. x ∷ []) same
moves-step [] lines (step.Decide x) last h e = let same : move.Decide x ≡ last = cc in ap (λ y. y ∷ []) same
moves-step [] lines (step.Jump cut) last h e = absurd cc
moves-step (step.Propagate clause ∷ steps) lines made last h e = ap (λ moves. move.Propagate clause ∷ moves) (moves-step steps lines made last h e)
moves-step (step.Decide x ∷ steps) lines made last h e = ap (λ moves. move.Decide x ∷ moves) (moves-step steps lines made last h e)
moves-step (step.Jump cut ∷ steps) [] made last h e = absurd (omega (arith, h))
moves-step (step.Jump cut ∷ steps) (line ∷ lines) made last h e = ap (λ moves. move.Jump line cut ∷ moves) (moves-step steps lines made last (omega (arith, h)) e)

pub jump_count-step : (steps : List Step) (made : Step) (last : Move) → move_of made ≡ Some last → jump_count (steps ++ made ∷ []) ≡ jump_count steps
jump_count-step [] (step.Propagate clause) last e = refl
jump_count-step [] (step.Decide x) last e = refl
jump_count-step [] (step.Jump cut) last e = absurd cc
jump_count-step (step.Propagate clause ∷ steps) made last e = jump_count-step steps made last e
jump_count-step (step.Decide x ∷ steps) made last e = jump_count-step steps made last e
jump_count-step (step.Jump cut ∷ steps) made last e = ap (λ k. k + 1) (jump_count-step steps made last e)

-- it is a jump, which learned the last line
pub moves-jump : (steps : List Step) (lines : List DerivationLine) (cut : ℕ) (line : DerivationLine) → jump_count steps ≡ length lines
    → moves_of (steps ++ step.Jump cut ∷ []) (lines ++ line ∷ []) ≡ moves_of steps lines ++ move.Jump line cut ∷ []
moves-jump [] [] cut line h = refl
moves-jump [] (other ∷ lines) cut line h = absurd (omega (arith, h))
moves-jump (step.Propagate clause ∷ steps) lines cut line h = ap (λ moves. move.Propagate clause ∷ moves) (moves-jump steps lines cut line h)
moves-jump (step.Decide x ∷ steps) lines cut line h = ap (λ moves. move.Decide x ∷ moves) (moves-jump steps lines cut line h)
moves-jump (step.Jump other ∷ steps) [] cut line h = absurd (omega (arith, h))
moves-jump (step.Jump other ∷ steps) (first ∷ lines) cut line h = ap (λ moves. move.Jump first other ∷ moves) (moves-jump steps lines cut line (omega (arith, h)))

pub jump_count-jump : (steps : List Step) (cut : ℕ) → jump_count (steps ++ step.Jump cut ∷ []) ≡ jump_count steps + 1
jump_count-jump [] cut = refl
jump_count-jump (step.Propagate clause ∷ steps) cut = jump_count-jump steps cut
jump_count-jump (step.Decide x ∷ steps) cut = jump_count-jump steps cut
jump_count-jump (step.Jump other ∷ steps) cut = ap (λ k. k + 1) (jump_count-jump steps cut)

pub length-moves_of : (steps : List Step) (lines : List DerivationLine) → jump_count steps ≡ length lines → length (moves_of steps lines) ≡ length steps
length-moves_of [] lines h = refl
length-moves_of (step.Propagate clause ∷ steps) lines h = let rest = length-moves_of steps lines h in omega (arith, rest)
length-moves_of (step.Decide x ∷ steps) lines h = let rest = length-moves_of steps lines h in omega (arith, rest)
length-moves_of (step.Jump cut ∷ steps) [] h = absurd (omega (arith, h))
length-moves_of (step.Jump cut ∷ steps) (line ∷ lines) h = let rest = length-moves_of steps lines (omega (arith, h)) in omega (arith, rest)

-- ---- the last step taken away

-- what is left, and the move
abbrev IsPopped : List Step → List DerivationLine → List Step → List DerivationLine → Move → Type 0
IsPopped steps lines rest left last = (jump_count rest ≡ length left) × (moves_of steps lines ≡ moves_of rest left ++ last ∷ []) × (length rest + 1 ≡ length steps)

pub popped_step : (steps rest : List Step) (lines : List DerivationLine) (made : Step) (last : Move) → steps ≡ rest ++ made ∷ [] → move_of made ≡ Some last → jump_count steps ≡ length lines
    → IsPopped steps lines rest lines last
popped_step steps rest lines made last is e count =
    let less : jump_count rest ≡ length lines = sym (jump_count-step rest made last e) ∙ sym (ap jump_count is) ∙ count in
    let grown = length-append rest (made ∷ []) in
    (less, ap (λ s. moves_of s lines) is ∙ moves-step rest lines made last less e, rw is (omega (arith, grown)))

pub popped_jump : (steps rest : List Step) (lines left : List DerivationLine) (cut : ℕ) (line : DerivationLine) → steps ≡ rest ++ step.Jump cut ∷ [] → lines ≡ left ++ line ∷ [] → jump_count steps ≡ length lines
    → IsPopped steps lines rest left (move.Jump line cut)
popped_jump steps rest lines left cut line is has count =
    let one : jump_count steps ≡ jump_count rest + 1 = ap jump_count is ∙ jump_count-jump rest cut in
    let two : length lines ≡ length left + 1 = ap length has ∙ length-append left (line ∷ []) in
    let less : jump_count rest ≡ length left = omega (arith, one, two, count) in
    let grown = length-append rest (step.Jump cut ∷ []) in
    (less, ap (λ s. moves_of s lines) is ∙ ap (moves_of (rest ++ step.Jump cut ∷ [])) has ∙ moves-jump rest left cut line less, rw is (omega (arith, grown)))

pub popped_none : (steps rest : List Step) (lines : List DerivationLine) (cut : ℕ) → steps ≡ rest ++ step.Jump cut ∷ [] → lines ≡ [] → jump_count steps ≡ length lines → ⊥
popped_none steps rest lines cut is none count =
    let one : jump_count steps ≡ jump_count rest + 1 = ap jump_count is ∙ jump_count-jump rest cut in
    let two : length lines ≡ 0 = ap length none in
    omega (arith, one, two, count)

-- a step that isn't a jump has a move
pub plain_some : (made : Step) → ((cut : ℕ) → made ≡ step.Jump cut → ⊥) → (last : Move) × (move_of made ≡ Some last)
plain_some (step.Propagate clause) other = (move.Propagate clause, refl)
plain_some (step.Decide x) other = (move.Decide x, refl)
plain_some (step.Jump cut) other = absurd (other cut refl)

-- the moves so far, the last one first, and what is left
pub moves_next : (all before rest moves : List Move) (last : Move) → all ≡ before ++ reverse moves → before ≡ rest ++ last ∷ [] → all ≡ rest ++ reverse (moves ++ last ∷ [])
moves_next all before rest moves last is left =
    is ∙ ap (λ a. a ++ reverse moves) left ∙ append_assoc rest (last ∷ []) (reverse moves) ∙ ap (λ r. rest ++ r) (sym (reverse-append moves (last ∷ [])))

pub moves_end : (all moves : List Move) (steps : List Step) (lines : List DerivationLine) → steps ≡ [] → all ≡ moves_of steps lines ++ reverse moves → reverse moves ≡ all
moves_end all moves steps lines none is = sym (is ∙ ap (λ s. moves_of s lines ++ reverse moves) none)

-- ---- one more step

-- the move of a step that isn't a jump
pub some_move : (made : Step) (P : Move → Type 0) → IsSomeAnd (move_of made) P → (last : Move) × (move_of made ≡ Some last) × P last
some_move (step.Propagate clause) P h = (move.Propagate clause, refl, h)
some_move (step.Decide x) P h = (move.Decide x, refl, h)
some_move (step.Jump cut) P h = absurd h
