-- How many gates a step of an unrolled pattern takes.
use Rattle.std.proofs.Common.{◌≡◌, ℕ, zero, suc, ◌+◌, ◌*◌, ◌-◌, ◌≤◌, Bool, true, false, Option, Some, None, nat_le, nat_lt, if◌then◌else◌, refl, sym, ◌∙◌, ap, arith, mul-suc, mul-zero, mul-add, mul_comm, mul-le-mul_right}
use Rattle.std.proofs.lemmas.Bool.{leb-true}
use Rattle.patterns.specs.Match.{Form}
use Rattle.patterns.specs.Match as form
use Rattle.patterns.specs.Letters.{times, letter_count}
use Rattle.automata.specs.Tree.{Tree, nothing, empty, leaf, dot, either, many, maybe, leaves, Sized}
use Rattle.automata.specs.Values.{enter_gates, pass_gates, step_gates}
use Rattle.automata.specs.Unroll.{maybe_of, many_of, dot_of, either_of, followed, repeat_of, repeat_some, repeat_leafless, has_leaves, sized_dot, row_of, places, unroll}

-- neither a repetition nor leafless
abbrev pub is_plain : Tree → Bool
is_plain nothing = false
is_plain empty = false
is_plain (leaf l) = true
is_plain (dot n a b) = true
is_plain (either n a b) = true
is_plain (many a) = false
is_plain (maybe a) = false

-- sized, with no part that is leafless, and no repetition right in another
abbrev pub Shaped : Tree → Type 0
Shaped nothing = Unit {0}
Shaped empty = Unit {0}
Shaped (leaf l) = Unit {0}
Shaped (dot n a b) = (n ≡ leaves a) × ((has_leaves a ≡ true) × ((has_leaves b ≡ true) × (Shaped a × Shaped b)))
Shaped (either n a b) = (n ≡ leaves a) × ((has_leaves a ≡ true) × ((has_leaves b ≡ true) × (Shaped a × Shaped b)))
Shaped (many a) = (is_plain a ≡ true) × Shaped a
Shaped (maybe a) = (is_plain a ≡ true) × Shaped a

pub sized_of : (t : Tree) → Shaped t → Sized t
sized_of nothing h = tt
sized_of empty h = tt
sized_of (leaf l) h = tt
sized_of (dot n a b) h = (h.0, (sized_of a h.1.1.1.0, sized_of b h.1.1.1.1))
sized_of (either n a b) h = (h.0, (sized_of a h.1.1.1.0, sized_of b h.1.1.1.1))
sized_of (many a) h = sized_of a h.1
sized_of (maybe a) h = sized_of a h.1

shaped_maybe : (t : Tree) → Shaped t → Shaped (maybe_of t)
shaped_maybe nothing h = tt
shaped_maybe empty h = tt
shaped_maybe (leaf l) h = (refl, tt)
shaped_maybe (dot n a b) h = (refl, h)
shaped_maybe (either n a b) h = (refl, h)
shaped_maybe (many a) h = h
shaped_maybe (maybe a) h = h

shaped_many : (t : Tree) → Shaped t → Shaped (many_of t)
shaped_many nothing h = tt
shaped_many empty h = tt
shaped_many (leaf l) h = (refl, tt)
shaped_many (dot n a b) h = (refl, h)
shaped_many (either n a b) h = (refl, h)
shaped_many (many a) h = h
shaped_many (maybe a) h = h

has_row : (a b : Tree) → has_leaves (row_of a b) ≡ true
has_row nothing b = refl
has_row empty b = refl
has_row (leaf l) b = refl
has_row (dot n x y) b = has_if (nat_lt (leaves y) (leaves x))
  where
    has_if : (c : Bool) → has_leaves (if c then sized_dot x (row_of y b) else sized_dot (dot n x y) b) ≡ true
    has_if true = refl
    has_if false = refl
has_row (either n x y) b = refl
has_row (many x) b = refl
has_row (maybe x) b = refl

leaves_turn : (z : Bool) (n : ℕ) (x y r b : Tree) → leaves r ≡ leaves y + leaves b → leaves (if z then sized_dot x r else sized_dot (dot n x y) b) ≡ leaves x + leaves y + leaves b
leaves_turn true n x y r b e = omega (arith, e)
leaves_turn false n x y r b e = refl

leaves_row : (a b : Tree) → leaves (row_of a b) ≡ leaves a + leaves b
leaves_row nothing b = refl
leaves_row empty b = refl
leaves_row (leaf l) b = refl
leaves_row (dot n x y) b = leaves_turn (nat_lt (leaves y) (leaves x)) n x y (row_of y b) b (leaves_row y b)
leaves_row (either n x y) b = refl
leaves_row (many x) b = refl
leaves_row (maybe x) b = refl

shaped_if : (b : Bool) (s t : Tree) → Shaped s → Shaped t → Shaped (if b then s else t)
shaped_if true s t x y = x
shaped_if false s t x y = y

new_dot : (a b : Tree) → has_leaves a ≡ true → has_leaves b ≡ true → Shaped a → Shaped b → Shaped (sized_dot a b)
new_dot a b p q x y = (refl, (p, (q, (x, y))))

shaped_row : (a b : Tree) → has_leaves a ≡ true → has_leaves b ≡ true → Shaped a → Shaped b → Shaped (row_of a b)
shaped_row nothing b p q x y = cc
shaped_row empty b p q x y = cc
shaped_row (leaf l) b p q x y = new_dot (leaf l) b refl q x y
shaped_row (dot n c d) b p q x y = shaped_if (nat_lt (leaves d) (leaves c)) (sized_dot c (row_of d b)) (sized_dot (dot n c d) b)
    (new_dot c (row_of d b) x.1.0 (has_row d b) x.1.1.1.0 (shaped_row d b x.1.1.0 q x.1.1.1.1 y)) (new_dot (dot n c d) b refl q x y)
shaped_row (either n c d) b p q x y = new_dot (either n c d) b refl q x y
shaped_row (many c) b p q x y = new_dot (many c) b refl q x y
shaped_row (maybe c) b p q x y = new_dot (maybe c) b refl q x y

shaped_dot : (a b : Tree) → Shaped a → Shaped b → Shaped (dot_of a b)
shaped_dot nothing b x y = tt
shaped_dot empty b x y = y
shaped_dot a nothing x y = tt
shaped_dot a empty x y = x
shaped_dot a b x y = shaped_row a b refl refl x y

shaped_either : (a b : Tree) → Shaped a → Shaped b → Shaped (either_of a b)
shaped_either nothing b x y = y
shaped_either empty b x y = shaped_maybe b y
shaped_either a nothing x y = x
shaped_either a empty x y = shaped_maybe a x
shaped_either a b x y = (refl, (refl, (refl, (x, y))))

shaped_followed : (a t : Tree) (n : ℕ) → Shaped a → Shaped t → Shaped (followed a t n)
shaped_followed a t zero x y = x
shaped_followed a t (suc n) x y = shaped_dot (followed a t n) t (shaped_followed a t n x y) y

shaped_leafless : (t : Tree) (least : ℕ) (most : Option ℕ) → Shaped (repeat_leafless t least most)
shaped_leafless t zero most = tt
shaped_leafless nothing (suc least) most = tt
shaped_leafless t (suc least) None = tt
shaped_leafless t (suc least) (Some most) = shaped_if (nat_le (suc least) most) empty nothing tt tt

shaped_some : (t : Tree) (least : ℕ) (most : Option ℕ) → Shaped t → Shaped (repeat_some t least most)
shaped_some t least None x = shaped_dot (followed empty t least) (many_of t) (shaped_followed empty t least tt x) (shaped_many t x)
shaped_some t least (Some most) x = shaped_if (nat_le least most) _ nothing
    (shaped_followed (followed empty t least) (maybe_of t) (most - least) (shaped_followed empty t least tt x) (shaped_maybe t x)) tt

shaped_repeat : (t : Tree) (least : ℕ) (most : Option ℕ) → Shaped t → Shaped (repeat_of t least most)
shaped_repeat t least most x = shaped_if (has_leaves t) (repeat_some t least most) (repeat_leafless t least most) (shaped_some t least most x) (shaped_leafless t least most)

pub shaped_unroll : {L : Type 0} (n : ℕ) (f : Form L) → Shaped (unroll n f)
shaped_unroll n form.nothing = tt
shaped_unroll n (form.letter l) = tt
shaped_unroll n (form.dot a b) = shaped_dot (unroll n a) (unroll (n + places a) b) (shaped_unroll n a) (shaped_unroll (n + places a) b)
shaped_unroll n (form.either a b) = shaped_either (unroll n a) (unroll (n + places a) b) (shaped_unroll n a) (shaped_unroll (n + places a) b)
shaped_unroll n (form.repeat a least most) = shaped_repeat (unroll n a) least most (shaped_unroll n a)

pub sized_unroll : {L : Type 0} (n : ℕ) (f : Form L) → Sized (unroll n f)
sized_unroll n f = sized_of (unroll n f) (shaped_unroll n f)

-- what one more turn may cost
abbrev slack : Tree → ℕ
slack nothing = 0
slack empty = 0
slack (leaf l) = 4 * 1 + 2
slack (dot n a b) = 4 * (leaves a + leaves b) + 2
slack (either n a b) = 4 * (leaves a + leaves b) + 2
slack (many a) = 0
slack (maybe a) = 4 * leaves a + 1

-- few gates for the leaves
record Few (t : Tree) : Type 0 where
  pass : pass_gates t + slack t ≤ 8 * (leaves t * leaves t) + 3 * leaves t
  entry : enter_gates t + 1 ≤ 4 * leaves t
  some : 1 ≤ leaves t

product : (m n : ℕ) → 1 ≤ m → 1 ≤ n → m + n ≤ m * n + 1
product zero n p q = absurd (omega arith)
product (suc x) zero p q = absurd (omega arith)
product (suc x) (suc y) p q = omega (arith, mul-suc (suc x) y, mul_comm (suc x) y, mul-suc y x)

square : (m n : ℕ) → (m + n) * (m + n) ≡ m * m + 2 * (m * n) + n * n
square m n = omega (arith, mul-add (m + n) m n, mul_comm (m + n) m, mul_comm (m + n) n, mul-add m m n, mul-add n m n, mul_comm n m)

-- the bound holds of two parts together
together : (p q m n : ℕ) → p ≤ 8 * (m * m) + 3 * m → q ≤ 8 * (n * n) + 3 * n → 1 ≤ m → 1 ≤ n → p + q + 1 + (4 * (m + n) + 2) ≤ 8 * ((m + n) * (m + n)) + 3 * (m + n)
together p q m n f g x y = omega (arith, square m n, product m n x y)

few_dot : (n : ℕ) (a b : Tree) → Few a → Few b → Few (dot n a b)
few_dot n a b f g = let x = f.pass in let y = g.pass in let u = f.entry in let v = g.entry in let s = f.some in record {
  pass = let h = together (pass_gates a) (pass_gates b) (leaves a) (leaves b) (omega arith) (omega arith) f.some g.some in omega arith;
  entry = omega arith;
  some = omega arith;
}

few_either : (n : ℕ) (a b : Tree) → Few a → Few b → Few (either n a b)
few_either n a b f g = let x = f.pass in let y = g.pass in let u = f.entry in let v = g.entry in let s = f.some in record {
  pass = together (pass_gates a) (pass_gates b) (leaves a) (leaves b) (omega arith) (omega arith) f.some g.some;
  entry = omega arith;
  some = omega arith;
}

plain_leaves : (t : Tree) → is_plain t ≡ true → has_leaves t ≡ true
plain_leaves nothing e = cc
plain_leaves empty e = cc
plain_leaves (leaf l) e = refl
plain_leaves (dot n a b) e = refl
plain_leaves (either n a b) e = refl
plain_leaves (many a) e = refl
plain_leaves (maybe a) e = refl

plain_slack : (t : Tree) → is_plain t ≡ true → slack t ≡ 4 * leaves t + 2
plain_slack nothing e = cc
plain_slack empty e = cc
plain_slack (leaf l) e = refl
plain_slack (dot n a b) e = refl
plain_slack (either n a b) e = refl
plain_slack (many a) e = cc
plain_slack (maybe a) e = cc

few_of : (t : Tree) → has_leaves t ≡ true → Shaped t → Few t
few_of nothing e h = cc
few_of empty e h = cc
few_of (leaf l) e h = record { pass = omega arith; entry = omega arith; some = omega arith }
few_of (dot n a b) e h = few_dot n a b (few_of a h.1.0 h.1.1.1.0) (few_of b h.1.1.0 h.1.1.1.1)
few_of (either n a b) e h = few_either n a b (few_of a h.1.0 h.1.1.1.0) (few_of b h.1.1.0 h.1.1.1.1)
few_of (many a) e h = let f = few_of a (plain_leaves a h.0) h.1 in let s = plain_slack a h.0 in let x = f.pass in let y = f.entry in record {
  pass = omega arith;
  entry = f.entry;
  some = f.some;
}
few_of (maybe a) e h = let f = few_of a (plain_leaves a h.0) h.1 in let s = plain_slack a h.0 in let x = f.pass in record {
  pass = omega arith;
  entry = f.entry;
  some = f.some;
}

few_step : (p s n : ℕ) → p + s ≤ 8 * (n * n) + 3 * n → p + 4 + 1 ≤ 8 * ((n + 2) * (n + 2))
few_step p s n h = omega (arith, square n 2)

-- the gates of a step fit the bound
pub gates_fit : {L : Type 0} (n : ℕ) (f : Form L) → step_gates (unroll n f) + 1 ≤ 8 * ((leaves (unroll n f) + 2) * (leaves (unroll n f) + 2))
gates_fit n f = by_leaves (unroll n f) (shaped_unroll n f)
  where
    by_leaves : (t : Tree) → Shaped t → step_gates t + 1 ≤ 8 * ((leaves t + 2) * (leaves t + 2))
    by_leaves nothing h = omega arith
    by_leaves empty h = omega arith
    by_leaves (leaf l) h = omega arith
    by_leaves (dot n a b) h = few_step (pass_gates (dot n a b)) (slack (dot n a b)) (leaves (dot n a b)) (few_of (dot n a b) refl h).pass
    by_leaves (either n a b) h = few_step (pass_gates (either n a b)) (slack (either n a b)) (leaves (either n a b)) (few_of (either n a b) refl h).pass
    by_leaves (many a) h = few_step (pass_gates (many a)) (slack (many a)) (leaves (many a)) (few_of (many a) refl h).pass
    by_leaves (maybe a) h = few_step (pass_gates (maybe a)) (slack (maybe a)) (leaves (maybe a)) (few_of (maybe a) refl h).pass

leaves_maybe : (t : Tree) → leaves (maybe_of t) ≡ leaves t
leaves_maybe nothing = refl
leaves_maybe t = refl

leaves_many : (t : Tree) → leaves (many_of t) ≡ leaves t
leaves_many nothing = refl
leaves_many t = refl

leaves_dot : (a b : Tree) → leaves (dot_of a b) ≤ leaves a + leaves b
leaves_dot nothing b = omega arith
leaves_dot empty b = omega arith
leaves_dot a nothing = omega arith
leaves_dot a empty = omega arith
leaves_dot a b = omega (arith, leaves_row a b)

leaves_either : (a b : Tree) → leaves (either_of a b) ≤ leaves a + leaves b
leaves_either nothing b = omega arith
leaves_either empty b = omega (arith, leaves_maybe b)
leaves_either a nothing = omega arith
leaves_either a empty = omega (arith, leaves_maybe a)
leaves_either a b = omega arith

leaves_followed : (a t : Tree) (n : ℕ) → leaves (followed a t n) ≤ leaves a + leaves t * n
leaves_followed a t zero = omega (arith, mul-zero (leaves t))
leaves_followed a t (suc n) = let x = leaves_followed a t n in let y = leaves_dot (followed a t n) t in omega (arith, mul-suc (leaves t) n)

leaves_if : (b : Bool) (s t : Tree) (n : ℕ) → (b ≡ true → leaves s ≤ n) → leaves t ≤ n → leaves (if b then s else t) ≤ n
leaves_if true s t n x y = x refl
leaves_if false s t n x y = y

leaves_leafless : (t : Tree) (least : ℕ) (most : Option ℕ) → leaves (repeat_leafless t least most) ≤ 0
leaves_leafless t zero most = omega arith
leaves_leafless nothing (suc least) most = omega arith
leaves_leafless t (suc least) None = omega arith
leaves_leafless t (suc least) (Some most) = leaves_if (nat_le (suc least) most) empty nothing 0 (λ e. omega arith) (omega arith)

leaves_some : (t : Tree) (least : ℕ) (most : Option ℕ) → leaves (repeat_some t least most) ≤ leaves t * times least most
leaves_some t least None =
    let x = leaves_followed empty t least in let y = leaves_dot (followed empty t least) (many_of t) in let z = leaves_many t in
    omega (arith, mul-add (leaves t) least 1)
leaves_some t least (Some most) = leaves_if (nat_le least most) _ nothing (leaves t * most) (λ e.
    let x = leaves_followed empty t least in let y = leaves_followed (followed empty t least) (maybe_of t) (most - least) in
    let z : leaves (maybe_of t) * (most - least) ≡ leaves t * (most - least) = ap (λ v. v * (most - least)) (leaves_maybe t) in
    let small = leb-true least most e in
    let k : leaves t * least + leaves t * (most - least) ≡ leaves t * most = sym (mul-add (leaves t) least (most - least)) ∙ ap (λ v. leaves t * v) (sum least most small) in
    omega arith) (omega arith)
  where
    sum : (a b : ℕ) → a ≤ b → a + (b - a) ≡ b
    sum a b le = omega arith

leaves_repeat : (t : Tree) (least : ℕ) (most : Option ℕ) → leaves (repeat_of t least most) ≤ leaves t * times least most
leaves_repeat t least most = leaves_if (has_leaves t) (repeat_some t least most) (repeat_leafless t least most) (leaves t * times least most) (λ e. leaves_some t least most)
    (let x = leaves_leafless t least most in omega arith)

times_more : (a b n : ℕ) → a ≤ b → a * n ≤ b * n
times_more a b n le = mul-le-mul_right n le

-- no more leaves than the pattern has letters, unrolled
pub leaves_fit : {L : Type 0} (n : ℕ) (f : Form L) → leaves (unroll n f) ≤ letter_count f
leaves_fit n form.nothing = omega arith
leaves_fit n (form.letter l) = omega arith
leaves_fit n (form.dot a b) = let x = leaves_fit n a in let y = leaves_fit (n + places a) b in let z = leaves_dot (unroll n a) (unroll (n + places a) b) in omega arith
leaves_fit n (form.either a b) = let x = leaves_fit n a in let y = leaves_fit (n + places a) b in let z = leaves_either (unroll n a) (unroll (n + places a) b) in omega arith
leaves_fit n (form.repeat a least most) =
    let x = times_more _ _ (times least most) (leaves_fit n a) in let z = leaves_repeat (unroll n a) least most in omega arith
