-- Paths, a move at a time.
use Rattle.std.proofs.Common.{◌≡◌, ℕ, ◌+◌, ◌≤◌, zero, suc, List, [], ◌∷◌, ◌++◌, Some, None, refl, sym, ap, subst, ◌∙◌, append_assoc}
use Rattle.std.proofs.lemmas.List.{append-nil}
use Rattle.std.specs.Prelude.{Option, Ok, Err}
use Rattle.std.specs.List.{cons_option}
use Rattle.std.specs.Option.{option_to_list}
use Rattle.c_values.specs.declared.kinds.Kind.{Kind}
use Rattle.cfa.specs.declared.parts.GraphParts.{GraphParts}
use Rattle.cfa.specs.declared.state.Predicates.{Predicates}
use Rattle.cfa.specs.declared.state.State.{State}
use Rattle.cfa.specs.States.{IsState}
use Rattle.c_meaning.specs.declared.input.Input.{Input}
use Rattle.c_meaning.specs.declared.stepped.Stepped.{Stepped}
use Rattle.c_meaning.specs.declared.stepped.Stepped.TheVariants.{Moved, Returned, Trapped, Blocked, TooDeep}
use Rattle.c_meaning.specs.Runs.{Move}
use Rattle.c_meaning.specs.Steps.{next, IfMoved}
use Rattle.path_runner.specs.declared.path.Path.{Path}
use Rattle.path_runner.specs.declared.path.PathRecord.{PathRecord}
use Rattle.path_runner.specs.declared.path.RunEnd.{RunEnd}
use Rattle.path_runner.specs.declared.path.RunEnd.TheVariants as ended
use Rattle.path_runner.specs.Fits.{further}
use Rattle.path_runner.specs.Masks.{mask_of}
use Rattle.path_runner.specs.Paths.{moves_by, moves_of, answer_along, end_at, path_along, path_of}
use Rattle.path_runner.proofs.Taken.{next_takes}

-- what is recorded so far, and the rest of the path
abbrev pub behind : Path → PathRecord → PathRecord
behind path rest = record {
  nodes = path.nodes ++ rest.nodes;
  edges = path.edges ++ rest.edges;
  masks = path.masks ++ rest.masks;
  taken = path.taken ++ rest.taken;
  end = rest.end;
}

-- what is recorded, where the run ends
abbrev pub finished : Path → RunEnd → PathRecord
finished path end = record { nodes = path.nodes; edges = path.edges; masks = path.masks; taken = path.taken; end = end }

further_moved : (x : Stepped) (edge : ℕ) (to : State) → further x ≡ Ok (edge, to) → x ≡ Moved edge to
further_moved (Moved at s) edge to h =
    let one : ℕ × State = (at, s) in
    let other : ℕ × State = (edge, to) in
    let pair : one ≡ other = cc in
    ap (λ (q : ℕ × State). Moved q.0 q.1) pair
further_moved (Returned v) edge to h = absurd cc
further_moved (Trapped t) edge to h = absurd cc
further_moved Blocked edge to h = absurd cc
further_moved TooDeep edge to h = absurd cc

-- one more of each
same_path : (a a' b b' c c' : List ℕ) (d d' : List (Kind × ℕ)) (end : RunEnd) → a ≡ a' → b ≡ b' → c ≡ c' → d ≡ d' → let left : PathRecord = record { nodes = a; edges = b; masks = c; taken = d; end = end } in let right : PathRecord = record { nodes = a'; edges = b'; masks = c'; taken = d'; end = end } in left ≡ right
same_path a a' b b' c c' d d' end p q r t = cc

more : {X : Type 0} (xs : List X) (x : X) (ys : List X) → xs ++ x ∷ ys ≡ (xs ++ x ∷ []) ++ ys
more xs x ys = sym (append_assoc xs (x ∷ []) ys)

more_option : {X : Type 0} (xs : List X) (o : Option X) (ys : List X) → xs ++ cons_option o ys ≡ (xs ++ option_to_list o) ++ ys
more_option xs None ys = ap (λ zs. zs ++ ys) (sym (append-nil xs))
more_option xs (Some x) ys = more xs x ys

module _ (parts : GraphParts) (input : Input) (p : Predicates) where
  abbrev reached : Path → State → Path
  reached path s = record path { nodes = path.nodes ++ s.node ∷ []; masks = path.masks ++ mask_of parts p s ∷ [] }

  -- the path after an edge
  abbrev passed : Path → State → ℕ → Path
  passed path s edge = record (reached path s) { edges = path.edges ++ edge ∷ []; taken = path.taken ++ option_to_list (answer_along parts input edge s.taken) }

  pub visited : (path now : Path) (s : State) (mask : ℕ) → mask ≡ mask_of parts p s → now ≡ record path { nodes = path.nodes ++ s.node ∷ []; masks = path.masks ++ mask ∷ [] } → now ≡ reached path s
  visited path now s mask e h =
      let with_mask : ℕ → Path = λ m. record path { nodes = path.nodes ++ s.node ∷ []; masks = path.masks ++ m ∷ [] } in
      h ∙ ap with_mask e

  pub crossed : (path here now : Path) (s : State) (edge : ℕ) (answer : Option (Kind × ℕ)) → here ≡ reached path s → answer ≡ answer_along parts input edge s.taken → now ≡ record here { edges = here.edges ++ edge ∷ []; taken = here.taken ++ option_to_list answer } → now ≡ passed path s edge
  crossed path here now s edge answer v e h =
      let behind_it : Path → Path = λ q. record q { edges = q.edges ++ edge ∷ []; taken = q.taken ++ option_to_list answer } in
      let with_answer : Option (Kind × ℕ) → Path = λ a. record (reached path s) { edges = path.edges ++ edge ∷ []; taken = path.taken ++ option_to_list a } in
      h ∙ ap behind_it v ∙ ap with_answer e

  -- the run goes on
  pub went_on : (left rest : ℕ) (s to : State) (edge : ℕ) (path : Path) (whole : PathRecord) → whole ≡ behind path (path_of parts input p left s) → further (next parts input s) ≡ Ok (edge, to) → left ≡ suc rest → whole ≡ behind (passed path s edge) (path_of parts input p rest to)
  unfolding path_of
  went_on left rest s to edge path whole h on is =
      let step : Move = record { edge = edge; source = s; target = to } in
      let moves : moves_of parts input left s ≡ step ∷ moves_of parts input rest to =
      ap (λ n. moves_of parts input n s) is ∙ ap (moves_by parts input (suc rest) s) (further_moved (next parts input s) edge to on) in
      let after : PathRecord = path_along parts input p to (moves_of parts input rest to) in
      h ∙ ap (λ ms. behind path (path_along parts input p s ms)) moves
      ∙ same_path _ _ _ _ _ _ _ _ after.end (more path.nodes s.node after.nodes) (more path.edges edge after.edges) (more path.masks (mask_of parts p s) after.masks) (more_option path.taken (answer_along parts input edge s.taken) after.taken)

  closed : (left : ℕ) (s : State) (path : Path) (whole : PathRecord) (end : RunEnd) → whole ≡ behind path (path_of parts input p left s) → moves_of parts input left s ≡ [] → end_at (next parts input s) ≡ end → whole ≡ finished (reached path s) end
  unfolding path_of
  closed left s path whole end h none is =
      h ∙ ap (λ ms. behind path (path_along parts input p s ms)) none
      ∙ same_path _ _ _ _ _ _ _ _ (end_at (next parts input s)) refl (append-nil path.edges) refl (append-nil path.taken)
      ∙ ap (λ e. finished (reached path s) e) is

  over : (left : ℕ) (s : State) (x : Stepped) (end : RunEnd) → further x ≡ Err end → (moves_by parts input left s x ≡ []) × (end_at x ≡ end)
  over zero s (Moved at to) end h = absurd cc
  over zero s (Returned v) end h = (refl, cc)
  over zero s (Trapped t) end h = (refl, cc)
  over zero s Blocked end h = (refl, cc)
  over zero s TooDeep end h = (refl, cc)
  over (suc n) s (Moved at to) end h = absurd cc
  over (suc n) s (Returned v) end h = (refl, cc)
  over (suc n) s (Trapped t) end h = (refl, cc)
  over (suc n) s Blocked end h = (refl, cc)
  over (suc n) s TooDeep end h = (refl, cc)

  -- the run ends
  pub ended_so : (left : ℕ) (s : State) (path : Path) (whole : PathRecord) (end : RunEnd) → whole ≡ behind path (path_of parts input p left s) → further (next parts input s) ≡ Err end → whole ≡ finished (reached path s) end
  ended_so left s path whole end h is =
      let o = over left s (next parts input s) end is in closed left s path whole end h o.0 o.1

  -- the run is cut
  pub cut_here : (left : ℕ) (s to : State) (edge : ℕ) (path : Path) (whole : PathRecord) → whole ≡ behind path (path_of parts input p left s) → further (next parts input s) ≡ Ok (edge, to) → left ≡ 0 → whole ≡ finished (reached path s) ended.Cut
  cut_here left s to edge path whole h on is =
      closed left s path whole ended.Cut h (ap (λ n. moves_of parts input n s) is) (ap end_at (further_moved (next parts input s) edge to on))

  -- the state that the run goes on in
  pub kept_on : (s to : State) (edge : ℕ) → IfMoved (next parts input s) (IsState parts) → further (next parts input s) ≡ Ok (edge, to) → IsState parts to × (to.taken ≤ s.taken + 1)
  kept_on s to edge kept on =
      let is = further_moved (next parts input s) edge to on in
      (subst (λ x. IfMoved x (IsState parts)) is kept, subst (λ x. IfMoved x (λ t. t.taken ≤ s.taken + 1)) is (next_takes parts input s))
