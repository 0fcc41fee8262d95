-- The moves of a search as the code keeps them: each line that was learned once, among the learned lines.
use Rattle.std.specs.Prelude.{ℕ, ◌+◌, List, [], ◌∷◌, Option, None, Some}
use Rattle.cnf.specs.declared.derivation.DerivationLine.{DerivationLine}
use Rattle.search.specs.declared.moves.Move.{Move}
use Rattle.search.specs.declared.moves.Move.TheVariants as move
use Rattle.search.specs.declared.moves.Step.{Step}
use Rattle.search.specs.declared.moves.Step.TheVariants as step

-- how many of them are jumps
abbrev pub jump_count : List Step → ℕ
jump_count [] = 0
jump_count (step.Propagate clause ∷ steps) = jump_count steps
jump_count (step.Decide x ∷ steps) = jump_count steps
jump_count (step.Jump cut ∷ steps) = jump_count steps + 1

-- the moves, whose jumps learned these lines in turn
abbrev pub moves_of : List Step → List DerivationLine → List Move
moves_of [] lines = []
moves_of (step.Propagate clause ∷ steps) lines = move.Propagate clause ∷ moves_of steps lines
moves_of (step.Decide x ∷ steps) lines = move.Decide x ∷ moves_of steps lines
moves_of (step.Jump cut ∷ steps) [] = []
moves_of (step.Jump cut ∷ steps) (line ∷ lines) = move.Jump line cut ∷ moves_of steps lines

-- the move of a step that isn't a jump
abbrev pub move_of : Step → Option Move
move_of (step.Propagate clause) = Some (move.Propagate clause)
move_of (step.Decide x) = Some (move.Decide x)
move_of (step.Jump cut) = None
