-- Tests of contexts against bounds.
use Rattle.std.proofs.Common.{◌≡◌, ℕ, zero, suc, ◌≤◌, ◌<◌, Bool, ◌^◌, List, [], ◌∷◌, length, refl, sym, ap, ◌∙◌, subst, arith}
use Rattle.std.specs.Prelude.{◌↔◌, nat_le, IsTrue}
use Rattle.std.specs.List.{list_all}
use Rattle.std.proofs.lemmas.Bool.Decides.{nat_tests}
use Rattle.std.proofs.lemmas.Option.{slice_get_read}
use Rattle.c_values.proofs.Fitting.{and_left, and_right, and_both}
use Rattle.cfa.specs.Contexts.{FrameContext, Context, IsWithin}
use Rattle.cfa.specs.Each.{Each}
use Rattle.unwinder_reach.specs.reached.Searching.{keeps_turns, ArePastBounds, IsPastBounds, frames_along, frames_along_operation}
use Rattle.cfa.specs.declared.parts.Edge.{Edge}
use Rattle.cfa.specs.declared.parts.GraphParts.{GraphParts}
use Rattle.cfa.specs.declared.parts.Operation.{Operation}
use Rattle.cfa.specs.declared.parts.Operation.TheVariants.{Skip, Assign, Clear, Guard, Call, Return, Answer, Assert, Assume}
use Rattle.cfa.specs.Contexts.{along, along_operation}

module _ {X : Type 0} (test : X → Bool) (P : X → Type 0) (tells : (x : X) → IsTrue (test x) ↔ P x) where
  all_each : (xs : List X) → IsTrue (list_all test xs) → Each xs (λ i x. P x)
  all_each [] t i y e = absurd (cc)
  all_each (x ∷ xs) t zero y e = (tells y).0 (let same : x ≡ y = cc in ap test (sym same) ∙ and_left (test x) (list_all test xs) t)
  all_each (x ∷ xs) t (suc i) y e = all_each xs (and_right (test x) (list_all test xs) t) i y e

  each_all : (xs : List X) → Each xs (λ i x. P x) → IsTrue (list_all test xs)
  each_all [] h = refl
  each_all (x ∷ xs) h = and_both (test x) (list_all test xs) ((tells x).1 (h 0 x refl)) (each_all xs (λ i y e. h (suc i) y e))

  pub all_is_each : (xs : List X) → IsTrue (list_all test xs) ↔ Each xs (λ i x. P x)
  all_is_each xs = (all_each xs, each_all xs)

le_is : (n m : ℕ) → IsTrue (nat_le n m) → n ≤ m
le_is n m t = grind (arith, nat_tests)

le_test : (n m : ℕ) → n ≤ m → IsTrue (nat_le n m)
le_test n m t = grind (arith, nat_tests)

frame_tells : (turns : ℕ) (f : FrameContext) → IsTrue (keeps_turns turns f) ↔ Each f.counters (λ j n. n ≤ turns)
frame_tells turns f = all_is_each (λ n. nat_le n turns) (λ n. n ≤ turns) (λ n. (le_is n turns, le_test n turns)) f.counters

pub turns_tell : (turns : ℕ) (fs : List FrameContext) → IsTrue (list_all (keeps_turns turns) fs) ↔ Each fs (λ i f. Each f.counters (λ j n. n ≤ turns))
turns_tell turns fs = all_is_each (keeps_turns turns) (λ f. Each f.counters (λ j n. n ≤ turns)) (frame_tells turns) fs

along_operation_frames : (parts : GraphParts) (at : ℕ) (e : Edge) (op : Operation) (c : Context) → (along_operation parts at e op c).frames ≡ frames_along_operation parts at e op c.frames
along_operation_frames parts at e Skip c = refl
along_operation_frames parts at e (Assign place value) c = refl
along_operation_frames parts at e (Clear array length) c = refl
along_operation_frames parts at e (Guard test truth) c = refl
along_operation_frames parts at e (Call callee words arrays) c = refl
along_operation_frames parts at e (Return call dest) c = refl
along_operation_frames parts at e (Answer input dest) c = refl
along_operation_frames parts at e (Assert test) c = refl
along_operation_frames parts at e (Assume test) c = refl

past_frames : (fs : List FrameContext) (turns : ℕ) → turns < 2 ^ 32 → ArePastBounds fs → Each fs (λ i f. Each f.counters (λ j n. n ≤ turns)) → ⊥
past_frames [] turns small past each = past
past_frames (f ∷ fs) turns small past each =
    let there = slice_get_read f.counters (length f.counters) past.0 (2 ^ 32) (omega arith) past.1 (sym past.2) in
    let low = each 0 f refl past.0 (2 ^ 32) there in
    omega (arith, low, small)

-- a context with a counter that is too high is within no bounds
pub frames_past : (parts : GraphParts) (at : ℕ) (e : Edge) (c : Context) → ArePastBounds (frames_along parts at e c.frames) → IsPastBounds (along parts at e c)
frames_past parts at e c past turns frames answers small few within =
    past_frames (frames_along parts at e c.frames) turns small past
    (let P : List FrameContext → Type 0 = λ fs. Each fs (λ i f. Each f.counters (λ j n. n ≤ turns)) in
    subst P (along_operation_frames parts at e e.operation c) within.turns_kept)

-- a context whose frames and answers are as many as the bounds allow is within them where the counters are
pub within_tells : (turns frames answers taken : ℕ) (fs : List FrameContext) (c : Context) (kept : Bool) → fs ≡ c.frames → taken ≡ c.taken → length fs ≤ frames → taken ≤ answers → kept ≡ list_all (keeps_turns turns) fs
    → IsTrue kept ↔ IsWithin turns frames answers c
within_tells turns frames answers taken fs c kept own_frames own_taken few answered tested =
    let Turns : List FrameContext → Type 0 = λ gs. Each gs (λ i f. Each f.counters (λ j n. n ≤ turns)) in (
      λ t. record {
        turns_kept = subst Turns own_frames ((turns_tell turns fs).0 (sym tested ∙ t));
        frames_kept = subst (λ gs. length gs ≤ frames) own_frames few;
        answers_kept = subst (λ n. n ≤ answers) own_taken answered;
      },
      λ w. tested ∙ (turns_tell turns fs).1 (subst Turns (sym own_frames) w.turns_kept),
    )
