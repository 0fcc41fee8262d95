-- A function that runs, by its tree and in the automaton of its unit.
use Rattle.std.specs.Prelude.{◌≡◌, ◌⊎◌, ℕ, ◌+◌, ◌*◌, ◌<◌, ◌≤◌, Bool, false, ◌==◌, if◌then◌else◌, List, [], drop, length, Option, Some, None, slice_index, IsTrue}
use Rattle.cfa.specs.declared.parts.GraphParts.{GraphParts}
use Rattle.cfa.specs.declared.state.Frame.{Frame}
use Rattle.cfa.specs.declared.state.State.{State}
use Rattle.cfa.specs.States.{running_frame}
use Rattle.c_meaning.specs.declared.input.Input.{Input}
use Rattle.c_typed_trees.specs.declared.unit.Typed.{Typed}
use Rattle.c_typed_trees.specs.declared.unit.TypedFunction.{TypedFunction}
use Rattle.c_typed_trees.specs.Fitting.{IsFitting, Nameable, nameable}
use Rattle.c_lower_rules.specs.graph_of.GraphOf.{graph_of}
use Rattle.tree_meaning_laws.specs.temporaries_apart.Reads.{IsOwn}
use Rattle.tree_meaning.specs.declared.activation.Activation.{Activation}
use Rattle.tree_meaning.specs.Outcomes.{Store}

-- A unit, what is put in, the function that runs, and the frames that stand: how many cells they have, how many of the last
-- one's come before its temporaries, and which of all are no temporaries.
pub record Context : Type 0 where
  pub typed : Typed
  pub files : List (List ℕ)
  pub fitting : IsFitting typed (length files)
  pub input : Input
  pub own : TypedFunction
  pub frames : List Frame
  pub size : ℕ
  pub locals : ℕ
  pub keeps : ℕ → Bool

abbrev pub parts_of : Context → GraphParts
parts_of c = graph_of c.typed c.files

-- what the trees of the function may name
abbrev pub names_of : Context → Nameable
names_of c = nameable c.typed (length c.files) c.own

-- the frame that runs, and the activation that it is in the tree's meaning
abbrev pub own_frame : Context → Frame
own_frame c = running_frame (record { node = 0; frames = c.frames; cells = []; taken = 0 })

abbrev pub own_activation : Context → Activation
own_activation c = record { depth = length c.frames; base = (own_frame c).base; arrays = (own_frame c).arrays }

-- The cells of variables are no temporaries, and lie within the cells that stand.
pub record IsContext (c : Context) : Type 0 where
  pub some_frame : 1 ≤ length c.frames
  pub most_frames : length c.frames ≤ 64
  pub small : c.size ≤ 16384 * (length c.frames + 1)
  pub result : 1 ≤ c.locals
  pub kept : (cell : ℕ) → IsOwn (names_of c).room (own_frame c) c.locals cell → IsTrue (c.keeps cell)
  pub within : (cell : ℕ) → IsTrue (c.keeps cell) → cell < c.size

-- the temporaries whose values are still wanted, with these
abbrev pub Held : Type 0
Held = ℕ → Option ℕ

-- and one more
abbrev pub holding : Held → ℕ → ℕ → Held
holding ho cell v i = if i == cell then Some v else ho i

-- The cells of a store and of a state agree: those that are no temporaries hold the same, and those that are held hold these
-- values.
pub record Agree (keeps : ℕ → Bool) (held : Held) (xs ys : List ℕ) : Type 0 where
  pub long : length xs ≡ length ys
  pub same : (i : ℕ) → IsTrue (keeps i) → slice_index xs i ≡ slice_index ys i
  pub holds : (i v : ℕ) → held i ≡ Some v → slice_index ys i ≡ v

-- the run is at a node, and its state agrees with a store
pub record Related (c : Context) (ho : Held) (at : ℕ) (s : Store) (st : State) : Type 0 where
  pub node : st.node ≡ at
  pub frames : st.frames ≡ c.frames
  pub size : length st.cells ≡ c.size
  pub cells : Agree c.keeps ho s.cells st.cells
  pub answers : s.answers ≡ drop st.taken c.input.answers

-- what is held are temporaries
abbrev pub Proper : Context → Held → Type 0
Proper c ho = (i v : ℕ) → ho i ≡ Some v → (i < c.size) × (c.keeps i ≡ false)

-- the cell of a temporary of the frame that runs, whose value nobody wants
pub record Spare (c : Context) (ho : Held) (cell : ℕ) : Type 0 where
  pub temporary : c.keeps ((own_frame c).base + cell) ≡ false
  pub free : ho ((own_frame c).base + cell) ≡ None
  pub within : (own_frame c).base + cell < c.size

abbrev pub Clear : Context → Held → ℕ → ℕ → Type 0
Clear c ho low high = (cell : ℕ) → low ≤ cell → cell < high → Spare c ho cell

-- other cells than those from one to another of the frame that runs
abbrev pub Outside : Context → (low high : ℕ) → ℕ → Type 0
Outside c low high i = (i < (own_frame c).base + low) ⊎ ((own_frame c).base + high ≤ i)
