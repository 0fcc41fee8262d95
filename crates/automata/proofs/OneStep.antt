-- One more step of a reach, in each world.
use Rattle.std.proofs.Common.{◌≡◌, ℕ, ◌<◌, ◌↔◌, Bool, true, false, not, if◌then◌else◌, List, [], ◌∷◌, length, sym, ◌∙◌, ap, subst, arith, All, length-append}
use Rattle.std.proofs.lemmas.List.{length-map}
use Rattle.patterns.specs.Match.{Step}
use Rattle.circuit.specs.Truth.{World, Extends}
use Rattle.automata.specs.Tree.{Tree, Sized, leaves, marks_after}
use Rattle.automata.specs.Reach.{numbered, told, ends_now, hit_after, steps_after, MayBegin, StandsFor}
use Rattle.automata.specs.Values.{at}
use Rattle.automata.proofs.Passes.{at_same}
use Rattle.automata.proofs.Paths.{stands_after, may_begin_later}

pub still_begun : {A : Type 0} (guard : Bool) (steps : List A) (s : A) → 0 < length steps → 0 < length (steps_after guard steps s)
still_begun true steps s lt = omega (arith, length-append steps (s ∷ []))
still_begun false steps s lt = lt

module _ {T B S L : Type 0} {is_bit : T → B → Type 0} {holds : T → B → World → Bool} {t0 t1 : T} (t2 : T) (e1 : Extends is_bit holds t0 t1)
    (edge_tells : S → L → Bool) (state_tells : T → S → L → World → Bool) (step : S) (letters : List L) (tree : Tree) (last : Bool)
    (ms nm : List B) (taken begin hit nh : B) (msb : All (is_bit t0) ms) (tb : is_bit t0 taken) (hb : is_bit t0 hit)
    (tells : (l : L) (w : World) → state_tells t1 step l w ≡ state_tells t0 step l w)
    (sized : Sized tree) (size : length ms ≡ leaves tree)
    (ls : List L) (os : List B) (le : ls ≡ letters) (oe : os ≡ ms)
    (mv : (w : World) → at holds t2 nm w ≡ marks_after (numbered ls (told edge_tells state_tells t1 step w)) (holds t1 taken w) tree (holds t1 begin w) (at holds t1 os w))
    (hv : (w : World) → holds t2 nh w ≡ (if holds t1 taken w then hit_after last (holds t1 hit w) (ends_now (numbered ls (told edge_tells state_tells t1 step w)) tree (holds t1 begin w) (at holds t1 os w)) else holds t1 hit w)) where
  pub says_more : (first : Bool) (steps : List (Step L)) (w : World) → (holds t1 begin w ≡ true) ↔ MayBegin first (length steps)
      → StandsFor letters tree first last (at holds t0 ms w) (holds t0 hit w) steps
      → StandsFor letters tree first last (at holds t2 nm w) (holds t2 nh w) (steps_after (holds t0 taken w) steps (told edge_tells state_tells t0 step w))
  says_more first steps w here old =
      let same : told edge_tells state_tells t1 step w ≡ told edge_tells state_tells t0 step w = λ i. record { edge = edge_tells step; state = λ l. tells l w i } in
      let m : at holds t1 os w ≡ at holds t0 ms w = ap (λ x. at holds t1 x w) oe ∙ at_same ms w e1 msb in
      let s = told edge_tells state_tells t0 step w in
      let me : at holds t2 nm w ≡ marks_after (numbered letters s) (holds t0 taken w) tree (holds t1 begin w) (at holds t0 ms w) =
      mv w ∙ (λ i. marks_after (numbered (le i) (same i)) (e1.same taken tb w i) tree (holds t1 begin w) (m i)) in
      let he : holds t2 nh w ≡ (if holds t0 taken w then hit_after last (holds t0 hit w) (ends_now (numbered letters s) tree (holds t1 begin w) (at holds t0 ms w)) else holds t0 hit w) =
      hv w ∙ (λ i. if e1.same taken tb w i then hit_after last (e1.same hit hb w i) (ends_now (numbered (le i) (same i)) tree (holds t1 begin w) (m i)) else e1.same hit hb w i) in
      let size' : length (at holds t0 ms w) ≡ leaves tree = length-map ms (λ b. holds t0 b w) ∙ size in
      let new = stands_after letters tree first last sized steps s (holds t1 begin w) (at holds t0 ms w) (holds t0 hit w) here old (holds t0 taken w) size' in
      subst (λ x. StandsFor letters tree first last x (holds t2 nh w) (steps_after (holds t0 taken w) steps s)) (sym me)
      (subst (λ x. StandsFor letters tree first last (marks_after (numbered letters s) (holds t0 taken w) tree (holds t1 begin w) (at holds t0 ms w)) x (steps_after (holds t0 taken w) steps s)) (sym he) new)

pub begin_later : (first bit : Bool) (n : ℕ) → bit ≡ not first → 0 < n → (bit ≡ true) ↔ MayBegin first n
begin_later first bit n e lt = subst (λ b. (b ≡ true) ↔ MayBegin first n) (sym e) (may_begin_later first n lt)
