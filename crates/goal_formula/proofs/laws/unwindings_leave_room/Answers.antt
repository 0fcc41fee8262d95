use Rattle.goal_formula.proofs.Rooms.{unwindings_leave_room_law}
use Rattle.goal_formula.proofs.laws.unwindings_leave_room.Goals as goal

pub returns : goal.returns
returns c = unwindings_leave_room_law
