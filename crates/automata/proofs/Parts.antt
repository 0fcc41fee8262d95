-- One pass over a part, by its kind.
use Rattle.std.proofs.Common.{◌≡◌, ℕ, zero, suc, ◌+◌, ◌<◌, Bool, true, false, ◌&&◌, ◌||◌, if◌then◌else◌, List, [], ◌∷◌, ◌++◌, take, drop, length, map, get_or, slice_set, refl, sym, ◌∙◌, ap, subst, arith, All, Result, Ok, Err, IfOk, OnOk}
use Rattle.std.specs.List.{drop-map}
use Rattle.std.proofs.lemmas.List.{take-map, take_more, map-append}
use Rattle.std.proofs.lemmas.List.Elements.{All-drop, All-append}
use Rattle.patterns.specs.Match.{Step}
use Rattle.circuit.specs.Truth.{World, Extends, extends_again}
use Rattle.circuit.specs.Bits.{at, bits_stay, at_same}
use Rattle.automata.specs.Tree.{Tree, nothing, empty, leaf, dot, either, many, maybe, leaves, Sized, AllNo, alone, ended, marks_after, marks_with}
use Rattle.automata.specs.Reach.{ends_now, numbered, told}
use Rattle.automata.specs.Passing.{Silent, Passed, Entered}
use Rattle.automata.specs.Views.{view}
use Rattle.automata.specs.declared.node.Node.{Node, the_lemmas}
use Rattle.automata.specs.declared.node.Node.TheVariants.{Nothing, Empty, Leaf, Dot, Either, Many, Maybe}
use Rattle.automata.proofs.OneWorld.{with_again, with_none, idle_end, idle_marks, many_ends, turn_begins, dot_ends, either_ends, and_again, and_either, and_true}

pub view_nothing : view Nothing ≡ nothing
unfolding view
view_nothing = simp the_lemmas

pub view_empty : view Empty ≡ empty
unfolding view
view_empty = simp the_lemmas

pub view_leaf : (l : ℕ) → view (Leaf l) ≡ leaf l
unfolding view
view_leaf l = simp the_lemmas

pub view_dot : (n : ℕ) (l r : Node) → view (Dot n l r) ≡ dot n (view l) (view r)
unfolding view
view_dot n l r = simp the_lemmas

pub view_either : (n : ℕ) (l r : Node) → view (Either n l r) ≡ either n (view l) (view r)
unfolding view
view_either n l r = simp the_lemmas

pub view_many : (a : Node) → view (Many a) ≡ many (view a)
unfolding view
view_many a = simp the_lemmas

pub view_maybe : (a : Node) → view (Maybe a) ≡ maybe (view a)
unfolding view
view_maybe a = simp the_lemmas

pub ruleset viewed = (view_nothing, view_empty, view_leaf, view_dot, view_either, view_many, view_maybe)

-- the parts of a node, as the code has them
pub dot_viewed : (node left right l r : Node) (n : ℕ) → node ≡ Dot n left right → l ≡ left → r ≡ right → view node ≡ dot n (view l) (view r)
dot_viewed node left right l r n e x y = ap view e ∙ view_dot n left right ∙ (λ i. dot n (view (sym x i)) (view (sym y i)))

pub either_viewed : (node left right l r : Node) (n : ℕ) → node ≡ Either n left right → l ≡ left → r ≡ right → view node ≡ either n (view l) (view r)
either_viewed node left right l r n e x y = ap view e ∙ view_either n left right ∙ (λ i. either n (view (sym x i)) (view (sym y i)))

pub many_viewed : (node body a : Node) → node ≡ Many body → a ≡ body → view node ≡ many (view a)
many_viewed node body a e x = ap view e ∙ view_many body ∙ ap (λ b. many (view b)) (sym x)

pub maybe_viewed : (node body a : Node) → node ≡ Maybe body → a ≡ body → view node ≡ maybe (view a)
maybe_viewed node body a e x = ap view e ∙ view_maybe body ∙ ap (λ b. maybe (view b)) (sym x)

pub leaf_viewed : (node : Node) (l : ℕ) → node ≡ Leaf l → view node ≡ leaf l
leaf_viewed node l e = ap view e ∙ view_leaf l

no_append : (xs ys : List Bool) → AllNo xs → AllNo ys → AllNo (xs ++ ys)
no_append [] ys h g = g
no_append (x ∷ xs) ys h g = (h.0, no_append xs ys h.1 g)

-- one more leaf that may not begin
pub silent_more : {T B : Type 0} (holds : T → B → World → Bool) (t : T) (ms : List B) (i : ℕ) (m : B) → i < length ms → m ≡ get_or ms i m → Silent holds t (take i ms)
    → ((w : World) → holds t m w ≡ false) → Silent holds t (take (i + 1) ms)
silent_more holds t ms i m lt is quiet never w =
    let more : take (i + 1) ms ≡ take i ms ++ m ∷ [] = take_more ms i m lt ∙ ap (λ x. take i ms ++ x ∷ []) (sym is) in
    let e : at holds t (take (i + 1) ms) w ≡ at holds t (take i ms) w ++ at holds t (m ∷ []) w = ap (λ xs. at holds t xs w) more ∙ map-append (λ b. holds t b w) (take i ms) (m ∷ []) in
    subst AllNo (sym e) (no_append (at holds t (take i ms) w) (at holds t (m ∷ []) w) (quiet w) (never w, tt))

-- what a step tells of the letters, after other gates
pub told_still : {T S L : Type 0} (edge_tells : S → L → Bool) (state_tells : T → S → L → World → Bool) (old new : T) (step : S) (letters : List L)
    → ((l : L) (w : World) → state_tells new step l w ≡ state_tells old step l w) → (w : World)
    → numbered letters (told edge_tells state_tells new step w) ≡ numbered letters (told edge_tells state_tells old step w)
told_still edge_tells state_tells old new step letters tells w = λ i. numbered letters (record { edge = edge_tells step; state = λ l. tells l w i })

pub always_ok : {A E P : Type 0} (r : Result A E) → P → OnOk r P
always_ok (Ok v) h = h
always_ok (Err e) h = tt

pub if_both : {A E : Type 0} {P R Q : A → Type 0} (r : Result A E) → ((v : A) → P v → R v → Q v) → IfOk r P → IfOk r R → IfOk r Q
if_both (Ok v) f h k = f v h k
if_both (Err e) f h k = tt

length-at : {T B : Type 0} (holds : T → B → World → Bool) (t : T) (ms : List B) (w : World) → length (at holds t ms w) ≡ length ms
length-at holds t [] w = refl
length-at holds t (m ∷ ms) w = omega (arith, length-at holds t ms w)

and_never : (x y : Bool) → x ≡ false → (x && y) ≡ false
and_never true y e = cc
and_never false y e = refl

module _ {T B : Type 0} {is_bit : T → B → Type 0} {holds : T → B → World → Bool} where
  module _ {t0 t1 t2 : T} (e1 : Extends is_bit holds t0 t1) (e2 : Extends is_bit holds t1 t2) (s s' : World → Step ℕ) (same : (w : World) → s' w ≡ s w)
      (n : ℕ) (a b : Tree) (ms lm rm ln rn : List B) (guard begin next mid end : B)
      (gb : is_bit t0 guard) (bb : is_bit t0 begin) (old : All (is_bit t0) ms)
      (le : lm ≡ take n ms) (re : rm ≡ drop n ms) where
    left_marks : (w : World) → at holds t0 lm w ≡ take n (at holds t0 ms w)
    left_marks w = ap (λ xs. at holds t0 xs w) le ∙ sym (take-map (λ x. holds t0 x w) n ms)

    right_marks : (w : World) → at holds t1 rm w ≡ drop n (at holds t0 ms w)
    right_marks w = ap (λ xs. at holds t1 xs w) re ∙ at_same (drop n ms) w e1 (All-drop (is_bit t0) n ms old) ∙ sym (drop-map (λ x. holds t0 x w) n ms)

    module _ (p : Passed is_bit holds t0 t1 s a guard begin lm mid ln) where
      left_after : (w : World) → at holds t2 ln w ≡ marks_after (s w) (holds t0 guard w) a (holds t0 begin w) (take n (at holds t0 ms w))
      left_after w = at_same ln w e2 p.mark_bits ∙ p.marks_are w ∙ ap (marks_after (s w) (holds t0 guard w) a (holds t0 begin w)) (left_marks w)

      mid_is : (w : World) → holds t1 mid w ≡ ends_now (s w) a (holds t0 begin w) (take n (at holds t0 ms w))
      mid_is w = p.end_is w ∙ ap (ends_now (s w) a (holds t0 begin w)) (left_marks w)

      module _ (q : Passed is_bit holds t1 t2 s' b guard next rm end rn) where
        right_after : (w : World) → at holds t2 rn w ≡ marks_after (s w) (holds t0 guard w) b (holds t1 next w) (drop n (at holds t0 ms w))
        right_after w = q.marks_are w ∙ (λ i. marks_after (same w i) (e1.same guard gb w i) b (holds t1 next w) (right_marks w i))

        right_end : (w : World) → holds t2 end w ≡ ends_now (s w) b (holds t1 next w) (drop n (at holds t0 ms w))
        right_end w = q.end_is w ∙ (λ i. ends_now (same w i) b (holds t1 next w) (right_marks w i))

        both_after : (w : World) → at holds t2 (ln ++ rn) w ≡ marks_after (s w) (holds t0 guard w) a (holds t0 begin w) (take n (at holds t0 ms w)) ++ marks_after (s w) (holds t0 guard w) b (holds t1 next w) (drop n (at holds t0 ms w))
        both_after w = map-append (λ x. holds t2 x w) ln rn ∙ (λ i. left_after w i ++ right_after w i)

        -- one part after the other
        pub passed_dot : next ≡ mid → Passed is_bit holds t0 t2 s (dot n a b) guard begin ms end (ln ++ rn)
        passed_dot is = let m : (w : World) → holds t1 next w ≡ ends_now (s w) a (holds t0 begin w) (take n (at holds t0 ms w)) = λ w. ap (λ x. holds t1 x w) is ∙ mid_is w in record {
          mark_bits = All-append (is_bit t2) ln rn (bits_stay ln e2 p.mark_bits) q.mark_bits;
          end_bit = q.end_bit;
          end_is = λ w. right_end w ∙ ap (λ x. ends_now (s w) b x (drop n (at holds t0 ms w))) (m w)
              ∙ dot_ends (ended (s w) a (take n (at holds t0 ms w))) (ended (s w) b (drop n (at holds t0 ms w))) (alone (s w) a) (alone (s w) b) (holds t0 begin w);
          marks_are = λ w. both_after w ∙ ap (λ x. marks_after (s w) (holds t0 guard w) a (holds t0 begin w) (take n (at holds t0 ms w)) ++ marks_after (s w) (holds t0 guard w) b x (drop n (at holds t0 ms w))) (m w);
        }

        -- one part or the other
        pub passed_either : {t3 : T} (out : B) → Extends is_bit holds t2 t3 → next ≡ begin → is_bit t3 out → ((w : World) → holds t3 out w ≡ (holds t2 mid w || holds t2 end w))
            → Passed is_bit holds t0 t3 s (either n a b) guard begin ms out (ln ++ rn)
        passed_either {t3} out e3 is ob ov =
            let m : (w : World) → holds t1 next w ≡ holds t0 begin w = λ w. ap (λ x. holds t1 x w) is ∙ e1.same begin bb w in
            let whole : All (is_bit t2) (ln ++ rn) = All-append (is_bit t2) ln rn (bits_stay ln e2 p.mark_bits) q.mark_bits in record {
              mark_bits = bits_stay (ln ++ rn) e3 whole;
              end_bit = ob;
              end_is = λ w. let f : holds t2 mid w ≡ ends_now (s w) a (holds t0 begin w) (take n (at holds t0 ms w)) = e2.same mid p.end_bit w ∙ mid_is w in
                  let g : holds t2 end w ≡ ends_now (s w) b (holds t0 begin w) (drop n (at holds t0 ms w)) = right_end w ∙ ap (λ x. ends_now (s w) b x (drop n (at holds t0 ms w))) (m w) in
                  ov w ∙ (λ i. f i || g i)
                  ∙ either_ends (ended (s w) a (take n (at holds t0 ms w))) (ended (s w) b (drop n (at holds t0 ms w))) (alone (s w) a) (alone (s w) b) (holds t0 begin w);
              marks_are = λ w. at_same (ln ++ rn) w e3 whole ∙ both_after w
                  ∙ ap (λ x. marks_after (s w) (holds t0 guard w) a (holds t0 begin w) (take n (at holds t0 ms w)) ++ marks_after (s w) (holds t0 guard w) b x (drop n (at holds t0 ms w))) (m w);
            }

    module _ (p : Entered is_bit holds t0 t1 s a guard begin lm mid ln) where
      left_with : (w : World) → at holds t2 ln w ≡ marks_with (s w) (holds t0 guard w) a (holds t0 begin w) (take n (at holds t0 ms w))
      left_with w = at_same ln w e2 p.mark_bits ∙ p.marks_are w ∙ ap (marks_with (s w) (holds t0 guard w) a (holds t0 begin w)) (left_marks w)

      module _ (q : Entered is_bit holds t1 t2 s' b guard next rm end rn) where
        right_with : (w : World) → at holds t2 rn w ≡ marks_with (s w) (holds t0 guard w) b (holds t1 next w) (drop n (at holds t0 ms w))
        right_with w = q.marks_are w ∙ (λ i. marks_with (same w i) (e1.same guard gb w i) b (holds t1 next w) (right_marks w i))

        right_through : (w : World) → holds t2 end w ≡ (holds t1 next w && alone (s w) b)
        right_through w = q.end_is w ∙ ap (λ x. holds t1 next w && alone x b) (same w)

        both_with : (w : World) → at holds t2 (ln ++ rn) w ≡ marks_with (s w) (holds t0 guard w) a (holds t0 begin w) (take n (at holds t0 ms w)) ++ marks_with (s w) (holds t0 guard w) b (holds t1 next w) (drop n (at holds t0 ms w))
        both_with w = map-append (λ x. holds t2 x w) ln rn ∙ (λ i. left_with w i ++ right_with w i)

        pub entered_dot : next ≡ mid → Entered is_bit holds t0 t2 s (dot n a b) guard begin ms end (ln ++ rn)
        entered_dot is = let m : (w : World) → holds t1 next w ≡ (holds t0 begin w && alone (s w) a) = λ w. ap (λ x. holds t1 x w) is ∙ p.end_is w in record {
          mark_bits = All-append (is_bit t2) ln rn (bits_stay ln e2 p.mark_bits) q.mark_bits;
          end_bit = q.end_bit;
          end_is = λ w. right_through w ∙ ap (λ x. x && alone (s w) b) (m w) ∙ and_again (holds t0 begin w) (alone (s w) a) (alone (s w) b);
          marks_are = λ w. both_with w ∙ ap (λ x. marks_with (s w) (holds t0 guard w) a (holds t0 begin w) (take n (at holds t0 ms w)) ++ marks_with (s w) (holds t0 guard w) b x (drop n (at holds t0 ms w))) (m w);
        }

        pub entered_either : {t3 : T} (out : B) → Extends is_bit holds t2 t3 → next ≡ begin → is_bit t3 out → ((w : World) → holds t3 out w ≡ (holds t2 mid w || holds t2 end w))
            → Entered is_bit holds t0 t3 s (either n a b) guard begin ms out (ln ++ rn)
        entered_either {t3} out e3 is ob ov =
            let m : (w : World) → holds t1 next w ≡ holds t0 begin w = λ w. ap (λ x. holds t1 x w) is ∙ e1.same begin bb w in
            let whole : All (is_bit t2) (ln ++ rn) = All-append (is_bit t2) ln rn (bits_stay ln e2 p.mark_bits) q.mark_bits in record {
              mark_bits = bits_stay (ln ++ rn) e3 whole;
              end_bit = ob;
              end_is = λ w. let f : holds t2 mid w ≡ (holds t0 begin w && alone (s w) a) = e2.same mid p.end_bit w ∙ p.end_is w in
                  let g : holds t2 end w ≡ (holds t0 begin w && alone (s w) b) = right_through w ∙ ap (λ x. x && alone (s w) b) (m w) in
                  ov w ∙ (λ i. f i || g i) ∙ and_either (holds t0 begin w) (alone (s w) a) (alone (s w) b);
              marks_are = λ w. at_same (ln ++ rn) w e3 whole ∙ both_with w
                  ∙ ap (λ x. marks_with (s w) (holds t0 guard w) a (holds t0 begin w) (take n (at holds t0 ms w)) ++ marks_with (s w) (holds t0 guard w) b x (drop n (at holds t0 ms w))) (m w);
            }

  pub entered_view : {old new : T} {s : World → Step ℕ} {guard begin end : B} {before after : List B} (node : Node) (tree : Tree) → view node ≡ tree
      → Entered is_bit holds old new s tree guard begin before end after → Entered is_bit holds old new s (view node) guard begin before end after
  entered_view {old} {new} {s} {guard} {begin} {end} {before} {after} node tree e h = subst (λ x. Entered is_bit holds old new s x guard begin before end after) (sym e) h

  pub passed_view : {old new : T} {s : World → Step ℕ} {guard begin end : B} {before after : List B} (node : Node) (tree : Tree) → view node ≡ tree
      → Passed is_bit holds old new s tree guard begin before end after → Passed is_bit holds old new s (view node) guard begin before end after
  passed_view {old} {new} {s} {guard} {begin} {end} {before} {after} node tree e h = subst (λ x. Passed is_bit holds old new s x guard begin before end after) (sym e) h

  pub entered_same : {old new : T} {s : World → Step ℕ} {guard begin end : B} {before after : List B} (t u : Tree) → t ≡ u
      → Entered is_bit holds old new s t guard begin before end after → Entered is_bit holds old new s u guard begin before end after
  entered_same {old} {new} {s} {guard} {begin} {end} {before} {after} t u e h = subst (λ x. Entered is_bit holds old new s x guard begin before end after) e h

  -- a part that is passed over
  pub passed_idle : (t0 : T) (s : World → Step ℕ) (t : Tree) (guard begin : B) (ms : List B) → Sized t → length ms ≡ leaves t → All (is_bit t0) ms → is_bit t0 begin
      → ((w : World) → holds t0 begin w ≡ false) → Silent holds t0 ms → Passed is_bit holds t0 t0 s t guard begin ms begin ms
  passed_idle t0 s t guard begin ms sized size bits bb never quiet = record {
    mark_bits = bits;
    end_bit = bb;
    end_is = λ w. never w ∙ sym (idle_end (s w) t (holds t0 begin w) (at holds t0 ms w) (never w) (quiet w));
    marks_are = λ w. sym (idle_marks (s w) (holds t0 guard w) t (holds t0 begin w) (at holds t0 ms w) (never w) (quiet w) sized (length-at holds t0 ms w ∙ size));
  }

  pub entered_idle : (t0 : T) (s : World → Step ℕ) (t : Tree) (guard begin : B) (ms : List B) → Sized t → length ms ≡ leaves t → All (is_bit t0) ms → is_bit t0 begin
      → ((w : World) → holds t0 begin w ≡ false) → Entered is_bit holds t0 t0 s t guard begin ms begin ms
  entered_idle t0 s t guard begin ms sized size bits bb never = record {
    mark_bits = bits;
    end_bit = bb;
    end_is = λ w. never w ∙ sym (and_never (holds t0 begin w) (alone (s w) t) (never w));
    marks_are = λ w. sym (with_none (s w) (holds t0 guard w) t (holds t0 begin w) (at holds t0 ms w) (never w) sized (length-at holds t0 ms w ∙ size));
  }

  -- any number of turns
  pub passed_many : {t0 t1 t2 t3 : T} (e1 : Extends is_bit holds t0 t1) (e2 : Extends is_bit holds t1 t2) (e3 : Extends is_bit holds t2 t3) (s s' : World → Step ℕ) → ((w : World) → s' w ≡ s w)
      → (a : Tree) (guard begin ended_ through out : B) (ms ns os : List B) → Sized a → is_bit t0 guard → is_bit t0 begin
      → Passed is_bit holds t0 t1 s a guard begin ms ended_ ns → Entered is_bit holds t1 t2 s' a guard ended_ ns through os
      → is_bit t3 out → ((w : World) → holds t3 out w ≡ (holds t2 begin w || holds t2 ended_ w)) → Passed is_bit holds t0 t3 s (many a) guard begin ms out os
  passed_many {t0} {t1} {t2} {t3} e1 e2 e3 s s' same a guard begin ended_ through out ms ns os sized gb bb p q ob ov =
      record {
        mark_bits = bits_stay os e3 q.mark_bits;
        end_bit = ob;
        end_is = λ w. let f : holds t2 begin w ≡ holds t0 begin w = (extends_again e1 e2).same begin bb w in
            let g : holds t2 ended_ w ≡ ends_now (s w) a (holds t0 begin w) (at holds t0 ms w) = e2.same ended_ p.end_bit w ∙ p.end_is w in
            ov w ∙ (λ i. f i || g i) ∙ many_ends (holds t0 begin w) (ended (s w) a (at holds t0 ms w)) (alone (s w) a);
        marks_are = λ w.
            let g : holds t1 ended_ w ≡ ends_now (s w) a (holds t0 begin w) (at holds t0 ms w) = p.end_is w in
            at_same os w e3 q.mark_bits ∙ q.marks_are w
            ∙ (λ i. marks_with (same w i) (e1.same guard gb w i) a (g i) (p.marks_are w i))
            ∙ with_again (s w) (holds t0 guard w) a (holds t0 begin w) (ends_now (s w) a (holds t0 begin w) (at holds t0 ms w)) (at holds t0 ms w) sized
            ∙ ap (λ x. marks_after (s w) (holds t0 guard w) a x (at holds t0 ms w)) (turn_begins (holds t0 begin w) (ended (s w) a (at holds t0 ms w)) (alone (s w) a));
      }

  -- zero or one
  pub passed_maybe : {t0 t1 t2 : T} (e1 : Extends is_bit holds t0 t1) (e2 : Extends is_bit holds t1 t2) (s : World → Step ℕ)
      (a : Tree) (guard begin ended_ out : B) (ms ns : List B) → is_bit t0 begin
      → Passed is_bit holds t0 t1 s a guard begin ms ended_ ns
      → is_bit t2 out → ((w : World) → holds t2 out w ≡ (holds t1 begin w || holds t1 ended_ w)) → Passed is_bit holds t0 t2 s (maybe a) guard begin ms out ns
  passed_maybe {t0} {t1} {t2} e1 e2 s a guard begin ended_ out ms ns bb p ob ov =
      record {
        mark_bits = bits_stay ns e2 p.mark_bits;
        end_bit = ob;
        end_is = λ w. let f : holds t1 begin w ≡ holds t0 begin w = e1.same begin bb w in let g = p.end_is w in
            ov w ∙ (λ i. f i || g i) ∙ many_ends (holds t0 begin w) (ended (s w) a (at holds t0 ms w)) (alone (s w) a);
        marks_are = λ w. at_same ns w e2 p.mark_bits ∙ p.marks_are w;
      }

  -- one more beginning of turns
  pub entered_turns : {t0 t1 : T} (e1 : Extends is_bit holds t0 t1) (s : World → Step ℕ) (a : Tree) (guard begin through : B) (ms ns : List B) → is_bit t0 begin
      → Entered is_bit holds t0 t1 s a guard begin ms through ns
      → Entered is_bit holds t0 t1 s (many a) guard begin ms begin ns × Entered is_bit holds t0 t1 s (maybe a) guard begin ms begin ns
  entered_turns {t0} {t1} e1 s a guard begin through ms ns bb p = (
    record {
      mark_bits = p.mark_bits;
      end_bit = e1.bit begin bb;
      end_is = λ w. e1.same begin bb w ∙ and_true (holds t0 begin w);
      marks_are = p.marks_are;
    },
    record {
      mark_bits = p.mark_bits;
      end_bit = e1.bit begin bb;
      end_is = λ w. e1.same begin bb w ∙ and_true (holds t0 begin w);
      marks_are = p.marks_are;
    },
  )

  -- a part without leaves
  pub passed_nothing : (t0 : T) (s : World → Step ℕ) (guard begin bit : B) (ms : List B) → length ms ≡ 0 → is_bit t0 bit → ((w : World) → holds t0 bit w ≡ false) → Passed is_bit holds t0 t0 s nothing guard begin ms bit ms
  passed_nothing t0 s guard begin bit [] size bb never = record {
    mark_bits = λ k d lt. absurd (omega arith);
    end_bit = bb;
    end_is = λ w. never w ∙ sym (no_end (holds t0 begin w));
    marks_are = λ w. refl;
  }
    where
      no_end : (b : Bool) → (b && false) ≡ false
      no_end true = refl
      no_end false = refl
  passed_nothing t0 s guard begin bit (m ∷ ms) size bb never = absurd (omega arith)

  pub passed_empty : (t0 : T) (s : World → Step ℕ) (guard begin : B) (ms : List B) → length ms ≡ 0 → is_bit t0 begin → Passed is_bit holds t0 t0 s empty guard begin ms begin ms
  passed_empty t0 s guard begin [] size bb = record {
    mark_bits = λ k d lt. absurd (omega arith);
    end_bit = bb;
    end_is = λ w. and_true (holds t0 begin w);
    marks_are = λ w. refl;
  }
  passed_empty t0 s guard begin (m ∷ ms) size bb = absurd (omega arith)

  pub entered_nothing : (t0 : T) (s : World → Step ℕ) (guard begin bit : B) (ms : List B) → length ms ≡ 0 → is_bit t0 bit → ((w : World) → holds t0 bit w ≡ false) → Entered is_bit holds t0 t0 s nothing guard begin ms bit ms
  entered_nothing t0 s guard begin bit [] size bb never = record {
    mark_bits = λ k d lt. absurd (omega arith);
    end_bit = bb;
    end_is = λ w. never w ∙ sym (no_end (holds t0 begin w));
    marks_are = λ w. refl;
  }
    where
      no_end : (b : Bool) → (b && false) ≡ false
      no_end true = refl
      no_end false = refl
  entered_nothing t0 s guard begin bit (m ∷ ms) size bb never = absurd (omega arith)

  pub entered_empty : (t0 : T) (s : World → Step ℕ) (guard begin : B) (ms : List B) → length ms ≡ 0 → is_bit t0 begin → Entered is_bit holds t0 t0 s empty guard begin ms begin ms
  entered_empty t0 s guard begin [] size bb = record {
    mark_bits = λ k d lt. absurd (omega arith);
    end_bit = bb;
    end_is = λ w. and_true (holds t0 begin w);
    marks_are = λ w. refl;
  }
  entered_empty t0 s guard begin (m ∷ ms) size bb = absurd (omega arith)

  -- one leaf
  pub passed_leaf : (t0 t1 : T) (s : World → Step ℕ) (l : ℕ) (guard begin end old new : B) (ms : List B) (edge : Bool) (state : World → Bool) → length ms ≡ 1 → old ≡ get_or ms 0 old
      → is_bit t1 end → is_bit t1 new → ((w : World) → (s w).edge l ≡ edge) → ((w : World) → (s w).state l ≡ state w)
      → ((w : World) → holds t1 end w ≡ ((holds t0 old w && edge) || (holds t0 begin w && state w)))
      → ((w : World) → holds t1 new w ≡ (if holds t0 guard w then holds t0 begin w else holds t0 old w))
      → Passed is_bit holds t0 t1 s (leaf l) guard begin ms end (slice_set ms 0 new)
  passed_leaf t0 t1 s l guard begin end old new [] edge state size is eb nb ee ss ev nv = absurd (omega arith)
  passed_leaf t0 t1 s l guard begin end old new (m ∷ []) edge state size is eb nb ee ss ev nv = record {
    mark_bits = λ k d lt. one k d lt;
    end_bit = eb;
    end_is = λ w. ev w ∙ (λ i. (holds t0 (is i) w && sym (ee w) i) || (holds t0 begin w && sym (ss w) i));
    marks_are = λ w. (λ i. (nv w ∙ (λ j. if holds t0 guard w then holds t0 begin w else holds t0 (is j) w)) i ∷ []);
  }
    where
      one : All (is_bit t1) (new ∷ [])
      one zero d lt = nb
      one (suc k) d lt = absurd (omega arith)
  passed_leaf t0 t1 s l guard begin end old new (m ∷ n ∷ ms) edge state size is eb nb ee ss ev nv = absurd (omega arith)

  pub entered_leaf : (t0 t1 : T) (s : World → Step ℕ) (l : ℕ) (guard begin end old new : B) (ms : List B) (state : World → Bool) → length ms ≡ 1 → old ≡ get_or ms 0 old
      → is_bit t1 end → is_bit t1 new → ((w : World) → (s w).state l ≡ state w)
      → ((w : World) → holds t1 end w ≡ (holds t0 begin w && state w))
      → ((w : World) → holds t1 new w ≡ (holds t0 old w || (holds t0 guard w && holds t0 begin w)))
      → Entered is_bit holds t0 t1 s (leaf l) guard begin ms end (slice_set ms 0 new)
  entered_leaf t0 t1 s l guard begin end old new [] state size is eb nb ss ev nv = absurd (omega arith)
  entered_leaf t0 t1 s l guard begin end old new (m ∷ []) state size is eb nb ss ev nv = record {
    mark_bits = λ k d lt. one k d lt;
    end_bit = eb;
    end_is = λ w. ev w ∙ (λ i. holds t0 begin w && sym (ss w) i);
    marks_are = λ w. (λ i. (nv w ∙ (λ j. holds t0 (is j) w || (holds t0 guard w && holds t0 begin w))) i ∷ []);
  }
    where
      one : All (is_bit t1) (new ∷ [])
      one zero d lt = nb
      one (suc k) d lt = absurd (omega arith)
  entered_leaf t0 t1 s l guard begin end old new (m ∷ n ∷ ms) state size is eb nb ss ev nv = absurd (omega arith)

-- the letter of a leaf, by its number
pub numbered_at : {L : Type 0} (letters : List L) (l : ℕ) (x : L) (tells : L → Bool) → l < length letters → x ≡ get_or letters l x → get_or (map tells letters) l false ≡ tells x
numbered_at [] l x tells lt e = absurd (omega arith)
numbered_at (y ∷ letters) zero x tells lt e = ap tells (sym e)
numbered_at (y ∷ letters) (suc l) x tells lt e = numbered_at letters l x tells (omega arith) e
