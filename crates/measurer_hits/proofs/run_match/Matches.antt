-- Matches go forward, and depend on no state past their end.
use Rattle.std.proofs.Common.{◌≡◌, ℕ, zero, suc, ◌≤◌, inl, inr, true, subst, arith}
use Rattle.patterns.specs.Match.{Step, Form, nothing, letter, dot, either, repeat, Turns, Match}

pub turns_forward : (One : ℕ → ℕ → Type 0) → ((i j : ℕ) → One i j → i ≤ j) → (c i j : ℕ) → Turns One c i j → i ≤ j
turns_forward One f zero i j h = omega arith
turns_forward One f (suc c) i j (m, (g, h)) = let a = turns_forward One f c i m g in let b = f m j h in omega arith

pub forward : {L : Type 0} (path : ℕ → Step L) (f : Form L) (i j : ℕ) → Match path f i j → i ≤ j
forward path nothing i j h = absurd h
forward path (letter l) i j (inl h) = let e = h.0 in omega arith
forward path (letter l) i j (inr h) = let e = h.0 in omega arith
forward path (dot a b) i j (m, (g, h)) = let x = forward path a i m g in let y = forward path b m j h in omega arith
forward path (either a b) i j (inl h) = forward path a i j h
forward path (either a b) i j (inr h) = forward path b i j h
forward path (repeat a least most) i j (c, (l, (u, h))) = turns_forward (Match path a) (forward path a) c i j h

turns_same : (One Other : ℕ → ℕ → Type 0) (n : ℕ) → ((i j : ℕ) → One i j → i ≤ j) → ((i j : ℕ) → j ≤ n → One i j → Other i j) → (c i j : ℕ) → j ≤ n → Turns One c i j → Turns Other c i j
turns_same One Other n f same zero i j le h = h
turns_same One Other n f same (suc c) i j le (m, (g, h)) =
    let x = f m j h in
    let y : m ≤ n = omega arith in
    (m, (turns_same One Other n f same c i m y g, same m j le h))

-- a match on one path is one on each path that has the same states up to its end
pub same_so_far : {L : Type 0} (p q : ℕ → Step L) (n : ℕ) → ((k : ℕ) → k ≤ n → p k ≡ q k) → (f : Form L) (i j : ℕ) → j ≤ n → Match p f i j → Match q f i j
same_so_far p q n e nothing i j le h = absurd h
same_so_far {L} p q n e (letter l) i j le (inl h) = inl (h.0, let P : Step L → Type 0 = λ s. s.state l ≡ true in subst P (e j le) h.1)
same_so_far {L} p q n e (letter l) i j le (inr h) = inr (h.0, let P : Step L → Type 0 = λ s. s.edge l ≡ true in subst P (e j le) h.1)
same_so_far p q n e (dot a b) i j le (m, (g, h)) =
    let x = forward p b m j h in
    let y : m ≤ n = omega arith in
    (m, (same_so_far p q n e a i m y g, same_so_far p q n e b m j le h))
same_so_far p q n e (either a b) i j le (inl h) = inl (same_so_far p q n e a i j le h)
same_so_far p q n e (either a b) i j le (inr h) = inr (same_so_far p q n e b i j le h)
same_so_far p q n e (repeat a least most) i j le (c, (l, (u, h))) =
    (c, (l, (u, turns_same (Match p a) (Match q a) n (forward p a) (λ x y k g. same_so_far p q n e a x y k g) c i j le h)))
