-- Where a run stands after an edge.
use Rattle.std.proofs.Common.{◌≡◌, ℕ, zero, suc, ◌+◌, ◌≤◌, ◌<◌, List, [], ◌∷◌, length, get_or, Some, None, Option, refl, sym, ap, subst, ◌∙◌, arith, All}
use Rattle.std.specs.Prelude.{IfSome, slice_get}
use Rattle.std.proofs.lemmas.Option.{slice_get_read, slice_get_within}
use Rattle.cfa.specs.Contexts.{Context, FrameContext, along_operation, callers_of, counters_after, frames_after}
use Rattle.cfa.specs.Each.{Each}
use Rattle.cfa.specs.declared.expr.ArrayPlace.{ArrayPlace}
use Rattle.cfa.specs.declared.expr.CellPlace.{CellPlace}
use Rattle.cfa.specs.declared.expr.Expr.{Expr}
use Rattle.cfa.specs.declared.parts.Edge.{Edge}
use Rattle.cfa.specs.declared.parts.GraphParts.{GraphParts}
use Rattle.cfa.specs.declared.parts.Operation.{Operation}
use Rattle.cfa.specs.declared.parts.Operation.TheVariants.{Skip, Assign, Clear, Guard, Call, Return, Answer, Assert, Assume}
use Rattle.unwinder_reach.specs.reached.Reaching.{IsWithinBounds}
use Rattle.unwinder_reach.specs.declared.reached.bounds.Bounds.{Bounds}
use Rattle.suite.specs.candidates.Standing.{GoesOn, Stands, counters_of}
use Rattle.suite.specs.declared.candidates.standing.Standing.{Standing}

pub each_cons : {X : Type 0} (P : X → Type 0) (x : X) (xs : List X) → P x → Each xs (λ i y. P y) → Each (x ∷ xs) (λ i y. P y)
each_cons P x xs h hs zero y e = let same : x ≡ y = cc in subst P same h
each_cons P x xs h hs (suc i) y e = hs i y e

read_at : (xs : List ℕ) (k x : ℕ) → slice_get xs k ≡ Some x → get_or xs k 0 ≡ x
read_at [] k x is = absurd cc
read_at (y ∷ xs) zero x is = cc
read_at (y ∷ xs) (suc k) x is = read_at xs k x is

each_all : (P : ℕ → Type 0) (xs : List ℕ) → All P xs → Each xs (λ i x. P x)
each_all P xs h k x is = subst P (read_at xs k x is) (h k 0 (slice_get_within xs k x is))

module _ (parts : GraphParts) (bounds : Bounds) (at : ℕ) (e : Edge) (there : slice_get parts.edges at ≡ Some e) (s t : Standing) (c : Context) (stands : Stands s c) (within : IsWithinBounds bounds c) where
  abbrev Goes : Context → Type 0
  Goes d = Stands t d × IsWithinBounds bounds d

  going : (op : Operation) → e.operation ≡ op → Goes (along_operation parts at e op c) → GoesOn parts bounds at c t
  going op own h =
      let it = subst (λ (o : Operation). Goes (along_operation parts at e o c)) (sym own) h in
      record { edge = e; there = there; stands = it.0; within = it.1 }

  pub after_call : (op : Operation) → e.operation ≡ op → (along_operation parts at e op c) ≡ record { frames = record { call = Some at; counters = [] } ∷ c.frames; taken = c.taken }
      → t.frames ≡ s.frames + 1 → t.frames ≤ bounds.frames → t.taken ≡ s.taken → t.counters.items ≡ [] → t.callers ≡ s.counters.items ∷ s.callers → GoesOn parts bounds at c t
  after_call op own is count few taken none callers =
      let frame : FrameContext = record { call = Some at; counters = [] } in
      let own_count = stands.frames in
      let own_taken = stands.taken in
      going op own (subst Goes (sym is) (
        record {
          counters = (let h = stands.counters in cc);
          frames = omega (arith, count, own_count);
          taken = own_taken ∙ sym taken;
        },
        record {
          turns_kept = each_cons (λ (f : FrameContext). Each f.counters (λ j n. n ≤ bounds.turns)) frame c.frames (λ j n h. absurd cc) within.turns_kept;
          frames_kept = omega (arith, count, own_count, few);
          answers_kept = within.answers_kept;
        },
      ))

  returned_from : (frames : List FrameContext) → c.frames ≡ frames → t.frames + 1 ≡ s.frames → t.taken ≡ s.taken → s.callers ≡ t.counters.items ∷ t.callers → Goes (record { frames = callers_of frames; taken = c.taken })
  returned_from [] own count taken callers = absurd (let h : counters_of [] ≡ s.counters.items ∷ s.callers = subst (λ fs. counters_of fs ≡ s.counters.items ∷ s.callers) own stands.counters in cc)
  returned_from (f ∷ fs) own count taken callers =
      let h : f.counters ∷ counters_of fs ≡ s.counters.items ∷ s.callers = subst (λ gs. counters_of gs ≡ s.counters.items ∷ s.callers) own stands.counters in
      let own_count : suc (length fs) ≡ s.frames = ap length (sym own) ∙ stands.frames in
      let few : suc (length fs) ≤ bounds.frames = subst (λ (gs : List FrameContext). length gs ≤ bounds.frames) own within.frames_kept in
      let kept : Each (f ∷ fs) (λ i g. Each g.counters (λ j n. n ≤ bounds.turns)) = subst (λ gs. Each gs (λ i (g : FrameContext). Each g.counters (λ j n. n ≤ bounds.turns))) own within.turns_kept in (
        record {
          counters = cc;
          frames = omega (arith, count, own_count);
          taken = stands.taken ∙ sym taken;
        },
        record {
          turns_kept = λ i g at_i. kept (suc i) g at_i;
          frames_kept = omega (arith, few);
          answers_kept = within.answers_kept;
        },
      )

  pub after_return : (op : Operation) → e.operation ≡ op → (along_operation parts at e op c) ≡ record { frames = callers_of c.frames; taken = c.taken }
      → t.frames + 1 ≡ s.frames → t.taken ≡ s.taken → s.callers ≡ t.counters.items ∷ t.callers → GoesOn parts bounds at c t
  after_return op own is count taken callers = going op own (subst Goes (sym is) (returned_from c.frames refl count taken callers))

  turned_from : (frames : List FrameContext) (taken : ℕ) → c.frames ≡ frames → t.frames ≡ s.frames → taken ≡ t.taken → t.taken ≤ bounds.answers → t.counters.items ≡ counters_after parts e s.counters.items → t.callers ≡ s.callers → All (λ n. n ≤ bounds.turns) t.counters.items
      → Goes (record { frames = frames_after parts e frames; taken = taken })
  turned_from [] n own count taken few counters callers low = absurd (let h : counters_of [] ≡ s.counters.items ∷ s.callers = subst (λ fs. counters_of fs ≡ s.counters.items ∷ s.callers) own stands.counters in cc)
  turned_from (f ∷ fs) n own count taken few counters callers low =
      let h : f.counters ∷ counters_of fs ≡ s.counters.items ∷ s.callers = subst (λ gs. counters_of gs ≡ s.counters.items ∷ s.callers) own stands.counters in
      let first : f.counters ≡ s.counters.items = cc in
      let rest : counters_of fs ≡ s.callers = cc in
      let after : counters_after parts e f.counters ≡ t.counters.items = ap (counters_after parts e) first ∙ sym counters in
      let own_count : suc (length fs) ≡ s.frames = ap length (sym own) ∙ stands.frames in
      let most : suc (length fs) ≤ bounds.frames = subst (λ (gs : List FrameContext). length gs ≤ bounds.frames) own within.frames_kept in
      let kept : Each (f ∷ fs) (λ i g. Each g.counters (λ j n. n ≤ bounds.turns)) = subst (λ gs. Each gs (λ i (g : FrameContext). Each g.counters (λ j n. n ≤ bounds.turns))) own within.turns_kept in
      let frame : FrameContext = record { call = f.call; counters = counters_after parts e f.counters } in
      let low_after : Each (counters_after parts e f.counters) (λ j n. n ≤ bounds.turns) = subst (λ (xs : List ℕ). Each xs (λ j n. n ≤ bounds.turns)) (sym after) (each_all (λ n. n ≤ bounds.turns) t.counters.items low) in (
        record {
          counters = (λ i. after i ∷ rest i) ∙ ap (λ cs. t.counters.items ∷ cs) (sym callers);
          frames = omega (arith, count, own_count);
          taken = taken;
        },
        record {
          turns_kept = each_cons (λ (g : FrameContext). Each g.counters (λ j n. n ≤ bounds.turns)) frame fs low_after (λ i g at_i. kept (suc i) g at_i);
          frames_kept = omega (arith, most);
          answers_kept = omega (arith, taken, few);
        },
      )

  pub after_turn : (op : Operation) (n : ℕ) → e.operation ≡ op → (along_operation parts at e op c) ≡ record { frames = frames_after parts e c.frames; taken = n }
      → t.frames ≡ s.frames → n ≡ t.taken → t.taken ≤ bounds.answers → t.counters.items ≡ counters_after parts e s.counters.items → t.callers ≡ s.callers → All (λ n. n ≤ bounds.turns) t.counters.items → GoesOn parts bounds at c t
  after_turn op n own is count taken few counters callers low = going op own (subst Goes (sym is) (turned_from c.frames n refl count taken few counters callers low))

pub some_weaker : {X : Type 0} (o : Option X) (P Q : X → Type 0) → ((x : X) → P x → Q x) → IfSome o P → IfSome o Q
some_weaker None P Q f h = tt
some_weaker (Some x) P Q f h = f x h

-- the edge that was read is the one of its number
pub edge_there : (read edges : List Edge) (at : ℕ) (e : Edge) → read ≡ edges → at < length read → e ≡ get_or read at e → slice_get edges at ≡ Some e
edge_there read edges at e same lt is = ap (λ (es : List Edge). slice_get es at) (sym same) ∙ slice_get_read read (length read) at e refl lt is

-- neither a call nor a return nor an answer
pub plain_along : (parts : GraphParts) (at : ℕ) (e : Edge) (op : Operation) (c : Context) → ((callee : ℕ) (words : List Expr) (arrays : List ArrayPlace) → op ≡ Call callee words arrays → ⊥) → ((call : ℕ) (dest : Option CellPlace) → op ≡ Return call dest → ⊥) → ((input : ℕ) (dest : Option CellPlace) → op ≡ Answer input dest → ⊥)
    → along_operation parts at e op c ≡ record { frames = frames_after parts e c.frames; taken = c.taken }
plain_along parts at e Skip c call return answer = refl
plain_along parts at e (Assign place value) c call return answer = refl
plain_along parts at e (Clear array count) c call return answer = refl
plain_along parts at e (Guard test truth) c call return answer = refl
plain_along parts at e (Call callee words arrays) c call return answer = absurd (call callee words arrays refl)
plain_along parts at e (Return from dest) c call return answer = absurd (return from dest refl)
plain_along parts at e (Answer input dest) c call return answer = absurd (answer input dest refl)
plain_along parts at e (Assert test) c call return answer = refl
plain_along parts at e (Assume test) c call return answer = refl
