-- Lists of steps and recorded paths that tell the same have the same matches.
use Rattle.std.proofs.Common.{◌≡◌, ℕ, zero, suc, ◌≤◌, ◌↔◌, inl, inr, Bool, true, false, List, length, refl, sym, ◌∙◌, subst, arith}
use Rattle.patterns.specs.Match.{Step, Form, nothing, letter, dot, either, repeat, Turns, Match}
use Rattle.patterns.specs.Paths.{step_of}
use Rattle.patterns.specs.Segments.{HasSegment}
use Rattle.patterns.specs.declared.letter.Letter.{Letter}
use Rattle.patterns.specs.declared.path_view.PathView.{PathView}
use Rattle.automata.specs.Reach.{MayBegin, MayEnd}
use Rattle.automata.specs.Standing.{HasMatch, step_at}
use Rattle.measurer_hits.proofs.run_match.Matches.{forward}

-- they tell the same of the states up to one, and of the edges between them
pub record AreSame {L : Type 0} (n : ℕ) (p q : ℕ → Step L) : Type 0 where
  pub states : (k : ℕ) (l : L) → k ≤ n → (p k).state l ≡ (q k).state l
  pub edges : (k : ℕ) (l : L) → suc k ≤ n → (p (suc k)).edge l ≡ (q (suc k)).edge l

same_back : {L : Type 0} (n : ℕ) (p q : ℕ → Step L) → AreSame n p q → AreSame n q p
same_back n p q h = record { states = λ k l le. sym (h.states k l le); edges = λ k l le. sym (h.edges k l le) }

turns_same : (One Other : ℕ → ℕ → Type 0) (n : ℕ) → ((i j : ℕ) → One i j → i ≤ j) → ((i j : ℕ) → j ≤ n → One i j → Other i j) → (c i j : ℕ) → j ≤ n → Turns One c i j → Turns Other c i j
turns_same One Other n f same zero i j le h = h
turns_same One Other n f same (suc c) i j le (m, (g, h)) =
    let x = f m j h in
    let y : m ≤ n = omega arith in
    (m, (turns_same One Other n f same c i m y g, same m j le h))

match_same : {L : Type 0} (p q : ℕ → Step L) (n : ℕ) → AreSame n p q → (f : Form L) (i j : ℕ) → j ≤ n → Match p f i j → Match q f i j
match_same p q n same nothing i j le h = absurd h
match_same p q n same (letter l) i j le (inl h) = inl (h.0, sym (same.states j l le) ∙ h.1)
match_same p q n same (letter l) i j le (inr h) =
    let e = h.0 in
    let told : (p (suc i)).edge l ≡ true = subst (λ m. (p m).edge l ≡ true) e h.1 in
    inr (e, subst (λ m. (q m).edge l ≡ true) (sym e) (sym (same.edges i l (omega arith)) ∙ told))
match_same p q n same (dot a b) i j le (m, (g, h)) =
    let x = forward p b m j h in
    let y : m ≤ n = omega arith in
    (m, (match_same p q n same a i m y g, match_same p q n same b m j le h))
match_same p q n same (either a b) i j le (inl h) = inl (match_same p q n same a i j le h)
match_same p q n same (either a b) i j le (inr h) = inr (match_same p q n same b i j le h)
match_same p q n same (repeat a least most) i j le (c, (l, (u, h))) =
    (c, (l, (u, turns_same (Match p a) (Match q a) n (forward p a) (λ x y k g. match_same p q n same a x y k g) c i j le h)))

module _ (pattern : Form Letter) (steps : List (Step Letter)) (path : PathView) (size : length steps ≡ suc (length path.edges)) (same : AreSame (length path.edges) (step_at steps) (step_of path)) where
  may_begin : (first : Bool) (i : ℕ) → MayBegin first i ↔ (first ≡ true → i ≡ 0)
  may_begin true i = (λ h e. h, λ h. h refl)
  may_begin false i = (λ h e. absurd (cc), λ h. tt)

  may_end : (last : Bool) (j : ℕ) → MayEnd last (suc (length path.edges)) j ↔ ((j ≤ length path.edges) × (last ≡ true → j ≡ length path.edges))
  may_end true j = (λ h. (omega arith, λ e. omega arith), λ h. let k = h.1 refl in omega arith)
  may_end false j = (λ h. (omega arith, λ e. absurd (cc)), λ h. let k = h.0 in omega arith)

  -- among the steps some segment matches exactly where the path has one
  pub segments : (first last : Bool) → HasMatch pattern first last steps ↔ HasSegment first last pattern path
  segments first last = (
    λ (j, (end, (i, (begin, h)))).
        let here : MayEnd last (suc (length path.edges)) j = subst (λ n. MayEnd last n j) size end in
        let e = (may_end last j).0 here in
        let within : j ≤ length path.edges = e.0 in
        record {
          from = i;
          to = j;
          forward = forward (step_at steps) pattern i j h;
          within = within;
          at_first = (may_begin first i).0 begin;
          at_last = e.1;
          matches = match_same (step_at steps) (step_of path) (length path.edges) same pattern i j within h;
        },
    λ s.
        let here : MayEnd last (suc (length path.edges)) s.to = (may_end last s.to).1 (s.within, s.at_last) in
        let end : MayEnd last (length steps) s.to = subst (λ n. MayEnd last n s.to) (sym size) here in
        (s.to, (end, (s.from, ((may_begin first s.from).1 s.at_first, match_same (step_of path) (step_at steps) (length path.edges) (same_back (length path.edges) (step_at steps) (step_of path) same) pattern s.from s.to s.within s.matches)))),
  )
