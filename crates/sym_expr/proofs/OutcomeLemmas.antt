-- What is computed of the outcomes of an expression's parts.
use Rattle.std.proofs.Common.{◌≡◌, ℕ, Bool, true, false, ◌&&◌, cond, Option, Some, None, refl, ap, ◌∙◌}
use Rattle.std.specs.Prelude.{Result, Ok, Err, ok_or, option_and_then}
use Rattle.std.specs.Result.{result_ok}
use Rattle.cfa.specs.declared.state.Trap.{Trap}
use Rattle.cfa.specs.Values.{after_value}

-- a value, if a test holds
abbrev given : Bool → ℕ → Option ℕ
given t v = cond t (Some v) None

-- an operation that always has a value
pub after_one : (v : Result ℕ Trap) (t : Bool) (a b : ℕ) (f : ℕ → ℕ) → given t a ≡ result_ok v → b ≡ f a → given t b ≡ result_ok (after_value v (λ n. Ok (f n)))
after_one (Ok n) true a b f h e = ap Some e ∙ ap (λ (x : ℕ). Some (f x)) (let same : a ≡ n = cc in same)
after_one (Ok n) false a b f h e = absurd (cc)
after_one (Err t) true a b f h e = absurd (cc)
after_one (Err t) false a b f h e = refl

-- an operation of one value that may trap
pub after_some : (v : Result ℕ Trap) (o : Option ℕ) (f : ℕ → Option ℕ) (t : ℕ → Trap) → o ≡ result_ok v → option_and_then f o ≡ result_ok (after_value v (λ n. ok_or (f n) (t n)))
after_some (Ok n) (Some a) f t h = ap f (let same : a ≡ n = cc in same) ∙ kept (f n) (t n)
  where
    kept : (o : Option ℕ) (t : Trap) → o ≡ result_ok (ok_or o t)
    kept None t = refl
    kept (Some x) t = refl
after_some (Ok n) None f t h = absurd (cc)
after_some (Err e) (Some a) f t h = absurd (cc)
after_some (Err e) None f t h = refl

-- an operation of two values that may trap
pub after_two : (v u : Result ℕ Trap) (o p : Option ℕ) (f : ℕ → ℕ → Option ℕ) (t : ℕ → ℕ → Trap) → o ≡ result_ok v → p ≡ result_ok u
    → option_and_then (λ a. option_and_then (λ b. f a b) p) o ≡ result_ok (after_value v (λ n. after_value u (λ m. ok_or (f n m) (t n m))))
after_two (Ok n) u (Some a) p f t h g = ap (λ x. option_and_then (λ b. f x b) p) (let same : a ≡ n = cc in same) ∙ after_some u p (f n) (t n) g
after_two (Ok n) u None p f t h g = absurd (cc)
after_two (Err e) u (Some a) p f t h g = absurd (cc)
after_two (Err e) u None p f t h g = refl

-- the literals of two operands and of their operation
pub three_given : (p q n : Bool) (a b c : ℕ) (f : ℕ → ℕ → Option ℕ) → given n c ≡ f a b → given ((p && q) && n) c ≡ option_and_then (λ x. option_and_then (λ y. f x y) (given q b)) (given p a)
three_given true true n a b c f h = h
three_given true false n a b c f h = refl
three_given false q n a b c f h = refl

-- the literals of an index and of its element
pub two_given : (p n : Bool) (a c : ℕ) (f : ℕ → Option ℕ) → given n c ≡ f a → given (p && n) c ≡ option_and_then f (given p a)
two_given true n a c f h = h
two_given false n a c f h = refl
