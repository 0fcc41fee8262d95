-- One more beginning of a part, and a part in which no match is alive, in one world.
use Rattle.std.proofs.Common.{◌≡◌, ℕ, Bool, true, false, ◌&&◌, ◌||◌, if◌then◌else◌, List, [], ◌∷◌, ◌++◌, take, drop, length, refl, sym, ◌∙◌, ap}
use Rattle.std.proofs.lemmas.List.{take_at, drop_at}
use Rattle.patterns.specs.Match.{Step}
use Rattle.automata.specs.Tree.{Tree, nothing, empty, leaf, dot, either, many, maybe, leaves, Sized, alone, ended, marks_after, marks_with, first_of_marks, AllNo}
use Rattle.automata.specs.Reach.{ends_now}
use Rattle.automata.proofs.Ends.{length-marks_after, no_take, no_drop, no_leaves, one_leaf, two_same}

leaf_again : (g b e m : Bool) → ((if g then b else m) || (g && e)) ≡ (if g then (b || e) else m)
leaf_again true b e m = refl
leaf_again false b e true = refl
leaf_again false b e false = refl

begins_again : (x b e a : Bool) → ((x || (b && a)) || (e && a)) ≡ (x || ((b || e) && a))
begins_again true b e a = refl
begins_again false true e true = refl
begins_again false true e false = both e
  where
    both : (e : Bool) → (e && false) ≡ false
    both true = refl
    both false = refl
begins_again false false e a = refl

turns_again : (b e x : Bool) → ((b || x) || e) ≡ ((b || e) || x)
turns_again true e x = refl
turns_again false true true = refl
turns_again false true false = refl
turns_again false false true = refl
turns_again false false false = refl

-- a beginning besides, after the step
pub with_again : (s : Step ℕ) (g : Bool) (t : Tree) (b e : Bool) (ms : List Bool) → Sized t → marks_with s g t e (marks_after s g t b ms) ≡ marks_after s g t (b || e) ms
with_again s g nothing b e ms sized = refl
with_again s g empty b e ms sized = refl
with_again s g (leaf l) b e ms sized = ap (λ x. x ∷ []) (leaf_again g b e (first_of_marks ms))
with_again s g (dot n x y) b e ms sized =
    let A = marks_after s g x b (take n ms) in
    let B = marks_after s g y (ended s x (take n ms) || (b && alone s x)) (drop n ms) in
    let size : length A ≡ n = length-marks_after s g x b (take n ms) ∙ sym sized.0 in
    let left : marks_with s g x e (take n (A ++ B)) ≡ marks_after s g x (b || e) (take n ms) = ap (marks_with s g x e) (take_at A B n size) ∙ with_again s g x b e (take n ms) sized.1.0 in
    let right : marks_with s g y (e && alone s x) (drop n (A ++ B)) ≡ marks_after s g y (ended s x (take n ms) || ((b || e) && alone s x)) (drop n ms) =
    ap (marks_with s g y (e && alone s x)) (drop_at A B n size)
    ∙ with_again s g y (ended s x (take n ms) || (b && alone s x)) (e && alone s x) (drop n ms) sized.1.1
    ∙ ap (λ v. marks_after s g y v (drop n ms)) (begins_again (ended s x (take n ms)) b e (alone s x)) in
    λ i. left i ++ right i
with_again s g (either n x y) b e ms sized =
    let A = marks_after s g x b (take n ms) in
    let B = marks_after s g y b (drop n ms) in
    let size : length A ≡ n = length-marks_after s g x b (take n ms) ∙ sym sized.0 in
    let left : marks_with s g x e (take n (A ++ B)) ≡ marks_after s g x (b || e) (take n ms) = ap (marks_with s g x e) (take_at A B n size) ∙ with_again s g x b e (take n ms) sized.1.0 in
    let right : marks_with s g y e (drop n (A ++ B)) ≡ marks_after s g y (b || e) (drop n ms) = ap (marks_with s g y e) (drop_at A B n size) ∙ with_again s g y b e (drop n ms) sized.1.1 in
    λ i. left i ++ right i
with_again s g (many x) b e ms sized = with_again s g x (b || ended s x ms) e ms sized ∙ ap (λ v. marks_after s g x v ms) (turns_again b e (ended s x ms))
with_again s g (maybe x) b e ms sized = with_again s g x b e ms sized

no_more : (m g : Bool) → (m || (g && false)) ≡ m
no_more true g = refl
no_more false true = refl
no_more false false = refl

-- no beginning besides
pub with_none : (s : Step ℕ) (g : Bool) (t : Tree) (e : Bool) (ms : List Bool) → e ≡ false → Sized t → length ms ≡ leaves t → marks_with s g t e ms ≡ ms
with_none s g nothing e ms never sized size = refl
with_none s g empty e ms never sized size = refl
with_none s g (leaf l) e ms never sized size = ap (λ x. (first_of_marks ms || (g && x)) ∷ []) never ∙ ap (λ x. x ∷ []) (no_more (first_of_marks ms) g) ∙ one_leaf ms size
with_none s g (dot n x y) e ms never sized size =
    two_same n (leaves x) (leaves y) ms _ _ size sized.0 (with_none s g x e (take n ms) never sized.1.0) (with_none s g y (e && alone s x) (drop n ms) (ap (λ v. v && alone s x) never) sized.1.1)
with_none s g (either n x y) e ms never sized size =
    two_same n (leaves x) (leaves y) ms _ _ size sized.0 (with_none s g x e (take n ms) never sized.1.0) (with_none s g y e (drop n ms) never sized.1.1)
with_none s g (many x) e ms never sized size = with_none s g x e ms never sized size
with_none s g (maybe x) e ms never sized size = with_none s g x e ms never sized size

first_no : (ms : List Bool) → AllNo ms → first_of_marks ms ≡ false
first_no [] h = refl
first_no (m ∷ ms) h = h.0

or_no : (x y : Bool) → x ≡ false → y ≡ false → (x || y) ≡ false
or_no true y e f = cc
or_no false y e f = f

and_no : (x y : Bool) → x ≡ false → (x && y) ≡ false
and_no true y e = cc
and_no false y e = refl

-- no match ends where none is alive
pub idle_ended : (s : Step ℕ) (t : Tree) (ms : List Bool) → AllNo ms → ended s t ms ≡ false
idle_ended s nothing ms h = refl
idle_ended s empty ms h = refl
idle_ended s (leaf l) ms h = and_no (first_of_marks ms) (s.edge l) (first_no ms h)
idle_ended s (dot n a b) ms h = or_no _ _ (idle_ended s b (drop n ms) (no_drop n ms h)) (and_no _ (alone s b) (idle_ended s a (take n ms) (no_take n ms h)))
idle_ended s (either n a b) ms h = or_no _ _ (idle_ended s a (take n ms) (no_take n ms h)) (idle_ended s b (drop n ms) (no_drop n ms h))
idle_ended s (many a) ms h = idle_ended s a ms h
idle_ended s (maybe a) ms h = idle_ended s a ms h

-- nor does one where none may begin
pub idle_end : (s : Step ℕ) (t : Tree) (b : Bool) (ms : List Bool) → b ≡ false → AllNo ms → ends_now s t b ms ≡ false
idle_end s t b ms e h = or_no _ _ (idle_ended s t ms h) (and_no b (alone s t) e)

idle_leaf : (g b m : Bool) → b ≡ false → m ≡ false → (if g then b else m) ≡ m
idle_leaf true b m e f = e ∙ sym f
idle_leaf false b m e f = refl

-- and the marks stay
pub idle_marks : (s : Step ℕ) (g : Bool) (t : Tree) (b : Bool) (ms : List Bool) → b ≡ false → AllNo ms → Sized t → length ms ≡ leaves t → marks_after s g t b ms ≡ ms
idle_marks s g nothing b ms e h sized size = no_leaves ms size
idle_marks s g empty b ms e h sized size = no_leaves ms size
idle_marks s g (leaf l) b ms e h sized size = ap (λ x. x ∷ []) (idle_leaf g b (first_of_marks ms) e (first_no ms h)) ∙ one_leaf ms size
idle_marks s g (dot n x y) b ms e h sized size =
    two_same n (leaves x) (leaves y) ms _ _ size sized.0 (idle_marks s g x b (take n ms) e (no_take n ms h) sized.1.0)
    (idle_marks s g y (ended s x (take n ms) || (b && alone s x)) (drop n ms) (idle_end s x b (take n ms) e (no_take n ms h)) (no_drop n ms h) sized.1.1)
idle_marks s g (either n x y) b ms e h sized size =
    two_same n (leaves x) (leaves y) ms _ _ size sized.0 (idle_marks s g x b (take n ms) e (no_take n ms h) sized.1.0) (idle_marks s g y b (drop n ms) e (no_drop n ms h) sized.1.1)
idle_marks s g (many x) b ms e h sized size = idle_marks s g x (b || ended s x ms) ms (or_no b _ e (idle_ended s x ms h)) h sized size
idle_marks s g (maybe x) b ms e h sized size = idle_marks s g x b ms e h sized size

-- where a match of any number of turns ends, from where one of a turn does
pub many_ends : (b x a : Bool) → (b || (x || (b && a))) ≡ (x || (b && true))
many_ends true true a = refl
many_ends true false a = refl
many_ends false true a = refl
many_ends false false a = refl

-- where a turn may begin
pub turn_begins : (b x a : Bool) → (b || (x || (b && a))) ≡ (b || x)
turn_begins true x a = refl
turn_begins false true a = refl
turn_begins false false a = refl

-- where a match of two parts ends
pub dot_ends : (x y a c b : Bool) → (y || ((x || (b && a)) && c)) ≡ ((y || (x && c)) || (b && (a && c)))
dot_ends x true a c b = refl
dot_ends true false a true b = refl
dot_ends true false a false b = by_cases b a
  where
    by_cases : (b a : Bool) → false ≡ (b && (a && false))
    by_cases true true = refl
    by_cases true false = refl
    by_cases false a = refl
dot_ends false false a c true = refl
dot_ends false false a c false = refl

-- where a match of a choice ends
pub either_ends : (x y a c b : Bool) → ((x || (b && a)) || (y || (b && c))) ≡ ((x || y) || (b && (a || c)))
either_ends true y a c b = refl
either_ends false true true c true = refl
either_ends false true false c true = refl
either_ends false true a c false = refl
either_ends false false true c true = refl
either_ends false false false c true = refl
either_ends false false a c false = refl

pub and_again : (b a c : Bool) → ((b && a) && c) ≡ (b && (a && c))
and_again true a c = refl
and_again false a c = refl

pub and_either : (b a c : Bool) → ((b && a) || (b && c)) ≡ (b && (a || c))
and_either true a c = refl
and_either false a c = refl

pub and_true : (b : Bool) → b ≡ (b && true)
and_true true = refl
and_true false = refl
