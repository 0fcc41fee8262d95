use Rattle.std.proofs.Common.{◌≤◌, ◌+◌, ◌-◌, None, take, drop, sym, ap, subst, arith}
use Rattle.std.specs.Prelude.{count_by}
use Rattle.measurer_index.specs.gap_words.Parts.{IsFirstStart, IsFirstStartOrNone, is_edge}
use Rattle.measurer_index.proofs.gap_words.Gaps.{IsSought, begin, found, go_on, no_part, no_rest, no_rest_at_all, no_room_for_gap, part_ends, rest_kept, start_within, ends}
use Rattle.measurer_index.proofs.gap_words.gap_word.+word_start.Goals as goal
use Rattle.measurer_index.proofs.gap_words.gap_word.+word_start.Goals.{then-next-needed+in-Some-word_start-2, else-next-needed}

pub returns-in_default-word_start : goal.returns-in_default-word_start
returns-in_default-word_start t c =
    no_rest_at_all c.args.path.now c.args.last c.args.word.now c.in-Some.gap.place c.in-Some.gap.span c.in-Some.ensures c.args.start
    (subst (λ w. IsFirstStartOrNone c.args.path.now c.args.last w c.args.start None) c.rest_after-rest.ensures c.in_default-word_start.ensures)

pub loop-at-init : goal.loop-at-init
loop-at-init t c =
    begin c.args.path.now c.args.last c.args.word.now c.in-Some.gap.place c.in-Some.gap.span c.in-Some.ensures c.args.start c.in-Some-word_start.next
    (subst (λ w. IsFirstStart c.args.path.now c.args.last w c.args.start c.in-Some-word_start.next) c.rest_after-rest.ensures c.in-Some-word_start.ensures)

pub overflow_add-end : goal.overflow_add-end
overflow_add-end t c =
    let size = c.edge_count-size.ensures in
    let count = c.count-count.ensures in
    let within = part_ends c.args.path.now c.args.last c.args.word.now c.in-Some.gap.place c.in-Some.gap.span c.in-Some.ensures c.args.start c.loop-at.from c.loop-at.next c.loop-at.invariant c.in-Some-first_start.at c.in-Some-first_start.ensures in
    omega arith

pub overflow_sub-count : goal.overflow_sub-count
overflow_sub-count t c =
    let size = c.edge_count-size.ensures in
    let count = c.count-count.ensures in
    let within = part_ends c.args.path.now c.args.last c.args.word.now c.in-Some.gap.place c.in-Some.gap.span c.in-Some.ensures c.args.start c.loop-at.from c.loop-at.next c.loop-at.invariant c.in-Some-first_start.at c.in-Some-first_start.ensures in
    omega arith

pub overflow_add-needed : goal.overflow_add-needed
overflow_add-needed t c =
    let size = c.edge_count-size.ensures in
    let count = c.count-count.ensures in
    let within = part_ends c.args.path.now c.args.last c.args.word.now c.in-Some.gap.place c.in-Some.gap.span c.in-Some.ensures c.args.start c.loop-at.from c.loop-at.next c.loop-at.invariant c.in-Some-first_start.at c.in-Some-first_start.ensures in
    omega arith

pub returns-then-count-end : goal.returns-then-count-end
returns-then-count-end t c =
    let size = c.edge_count-size.ensures in
    let count = c.count-count.ensures in
    let within = part_ends c.args.path.now c.args.last c.args.word.now c.in-Some.gap.place c.in-Some.gap.span c.in-Some.ensures c.args.start c.loop-at.from c.loop-at.next c.loop-at.invariant c.in-Some-first_start.at c.in-Some-first_start.ensures in
    no_room_for_gap c.args.path.now c.args.last c.args.word.now c.in-Some.gap.place c.in-Some.gap.span c.in-Some.ensures c.args.start c.loop-at.from c.loop-at.next c.loop-at.invariant c.in-Some-first_start.at c.in-Some-first_start.ensures (omega arith)

pub returns-in-None : goal.returns-in-None
returns-in-None t c =
    let needed = ap (λ n. c.in-Some-first_start.at + n + c.in-Some.gap.span.least) c.edge_count-size.ensures in
    no_rest c.args.path.now c.args.last c.args.word.now c.in-Some.gap.place c.in-Some.gap.span c.in-Some.ensures c.args.start c.loop-at.from c.loop-at.next c.loop-at.invariant c.in-Some-first_start.at c.in-Some-first_start.ensures
    (subst (λ n. IsFirstStartOrNone c.args.path.now c.args.last (drop (c.in-Some.gap.place + 1) c.args.word.now) n None) needed
    (subst (λ w. IsFirstStartOrNone c.args.path.now c.args.last w (c.in-Some-first_start.at + c.edge_count-size.result + c.in-Some.gap.span.least) None) c.rest_after-rest.ensures c.in-None.ensures))

pub gap_begin-begin-requires : goal.gap_begin-begin-requires
gap_begin-begin-requires t c =
    let needed = ap (λ n. c.in-Some-first_start.at + n + c.in-Some.gap.span.least) c.edge_count-size.ensures in
    let rest : IsFirstStart c.args.path.now c.args.last (drop (c.in-Some.gap.place + 1) c.args.word.now) (c.in-Some-first_start.at + count_by is_edge (take c.in-Some.gap.place c.args.word.now) + c.in-Some.gap.span.least) c.if-next-needed.next =
    elim c.if-next-needed.branch [
      | then-next-needed+in-Some-word_start-2 w ↦
          subst (λ x. IsFirstStart c.args.path.now c.args.last (drop (c.in-Some.gap.place + 1) c.args.word.now) (c.in-Some-first_start.at + count_by is_edge (take c.in-Some.gap.place c.args.word.now) + c.in-Some.gap.span.least) x) (sym w.next-is)
          (subst (λ n. IsFirstStart c.args.path.now c.args.last (drop (c.in-Some.gap.place + 1) c.args.word.now) n w.in-Some-word_start-2.later) needed
          (subst (λ v. IsFirstStart c.args.path.now c.args.last v (c.in-Some-first_start.at + c.edge_count-size.result + c.in-Some.gap.span.least) w.in-Some-word_start-2.later) c.rest_after-rest.ensures w.in-Some-word_start-2.ensures))
      | else-next-needed w ↦
          subst (λ x. IsFirstStart c.args.path.now c.args.last (drop (c.in-Some.gap.place + 1) c.args.word.now) (c.in-Some-first_start.at + count_by is_edge (take c.in-Some.gap.place c.args.word.now) + c.in-Some.gap.span.least) x) (sym w.next-is)
          (rest_kept c.args.path.now c.args.last c.args.word.now c.in-Some.gap.place c.in-Some.gap.span c.in-Some.ensures c.args.start c.loop-at.from c.loop-at.next c.loop-at.invariant c.in-Some-first_start.at c.in-Some-first_start.ensures (subst (λ n. n ≤ c.loop-at.next) needed w.if-next-needed.false))
    ] in
    start_within c.args.path.now c.args.last (drop (c.in-Some.gap.place + 1) c.args.word.now) c.if-next-needed.next rest.goes

pub returns-then-begin-end : goal.returns-then-begin-end
returns-then-begin-end t c =
    let needed = ap (λ n. c.in-Some-first_start.at + n + c.in-Some.gap.span.least) c.edge_count-size.ensures in
    let rest : IsFirstStart c.args.path.now c.args.last (drop (c.in-Some.gap.place + 1) c.args.word.now) (c.in-Some-first_start.at + count_by is_edge (take c.in-Some.gap.place c.args.word.now) + c.in-Some.gap.span.least) c.if-next-needed.next =
    elim c.if-next-needed.branch [
      | then-next-needed+in-Some-word_start-2 w ↦
          subst (λ x. IsFirstStart c.args.path.now c.args.last (drop (c.in-Some.gap.place + 1) c.args.word.now) (c.in-Some-first_start.at + count_by is_edge (take c.in-Some.gap.place c.args.word.now) + c.in-Some.gap.span.least) x) (sym w.next-is)
          (subst (λ n. IsFirstStart c.args.path.now c.args.last (drop (c.in-Some.gap.place + 1) c.args.word.now) n w.in-Some-word_start-2.later) needed
          (subst (λ v. IsFirstStart c.args.path.now c.args.last v (c.in-Some-first_start.at + c.edge_count-size.result + c.in-Some.gap.span.least) w.in-Some-word_start-2.later) c.rest_after-rest.ensures w.in-Some-word_start-2.ensures))
      | else-next-needed w ↦
          subst (λ x. IsFirstStart c.args.path.now c.args.last (drop (c.in-Some.gap.place + 1) c.args.word.now) (c.in-Some-first_start.at + count_by is_edge (take c.in-Some.gap.place c.args.word.now) + c.in-Some.gap.span.least) x) (sym w.next-is)
          (rest_kept c.args.path.now c.args.last c.args.word.now c.in-Some.gap.place c.in-Some.gap.span c.in-Some.ensures c.args.start c.loop-at.from c.loop-at.next c.loop-at.invariant c.in-Some-first_start.at c.in-Some-first_start.ensures (subst (λ n. n ≤ c.loop-at.next) needed w.if-next-needed.false))
    ] in
    let size = c.edge_count-size.ensures in
    let reaches = c.if-begin-end.true in
    found c.args.path.now c.args.last c.args.word.now c.in-Some.gap.place c.in-Some.gap.span c.in-Some.ensures c.args.start c.loop-at.from c.loop-at.next c.loop-at.invariant c.in-Some-first_start.at c.in-Some-first_start.ensures c.if-next-needed.next rest c.gap_begin-begin.result c.gap_begin-begin.ensures (omega arith)

pub loop-at-smaller : goal.loop-at-smaller
loop-at-smaller t c =
    let needed = ap (λ n. c.in-Some-first_start.at + n + c.in-Some.gap.span.least) c.edge_count-size.ensures in
    let rest : IsFirstStart c.args.path.now c.args.last (drop (c.in-Some.gap.place + 1) c.args.word.now) (c.in-Some-first_start.at + count_by is_edge (take c.in-Some.gap.place c.args.word.now) + c.in-Some.gap.span.least) c.if-next-needed.next =
    elim c.if-next-needed.branch [
      | then-next-needed+in-Some-word_start-2 w ↦
          subst (λ x. IsFirstStart c.args.path.now c.args.last (drop (c.in-Some.gap.place + 1) c.args.word.now) (c.in-Some-first_start.at + count_by is_edge (take c.in-Some.gap.place c.args.word.now) + c.in-Some.gap.span.least) x) (sym w.next-is)
          (subst (λ n. IsFirstStart c.args.path.now c.args.last (drop (c.in-Some.gap.place + 1) c.args.word.now) n w.in-Some-word_start-2.later) needed
          (subst (λ v. IsFirstStart c.args.path.now c.args.last v (c.in-Some-first_start.at + c.edge_count-size.result + c.in-Some.gap.span.least) w.in-Some-word_start-2.later) c.rest_after-rest.ensures w.in-Some-word_start-2.ensures))
      | else-next-needed w ↦
          subst (λ x. IsFirstStart c.args.path.now c.args.last (drop (c.in-Some.gap.place + 1) c.args.word.now) (c.in-Some-first_start.at + count_by is_edge (take c.in-Some.gap.place c.args.word.now) + c.in-Some.gap.span.least) x) (sym w.next-is)
          (rest_kept c.args.path.now c.args.last c.args.word.now c.in-Some.gap.place c.in-Some.gap.span c.in-Some.ensures c.args.start c.loop-at.from c.loop-at.next c.loop-at.invariant c.in-Some-first_start.at c.in-Some-first_start.ensures (subst (λ n. n ≤ c.loop-at.next) needed w.if-next-needed.false))
    ] in
    let size = c.edge_count-size.ensures in
    let misses = c.if-begin-end.false in
    let within = ends c.args.path.now c.args.last c.args.word.now c.in-Some.gap.place c.in-Some.gap.span c.in-Some.ensures c.args.start c.loop-at.from c.loop-at.next c.loop-at.invariant c.in-Some-first_start.at c.in-Some-first_start.ensures c.if-next-needed.next rest c.gap_begin-begin.result c.gap_begin-begin.ensures in
    let ahead = c.in-Some-first_start.ensures.after in
    omega arith

pub loop-at-preserved : goal.loop-at-preserved
loop-at-preserved t c =
    let needed = ap (λ n. c.in-Some-first_start.at + n + c.in-Some.gap.span.least) c.edge_count-size.ensures in
    let rest : IsFirstStart c.args.path.now c.args.last (drop (c.in-Some.gap.place + 1) c.args.word.now) (c.in-Some-first_start.at + count_by is_edge (take c.in-Some.gap.place c.args.word.now) + c.in-Some.gap.span.least) c.if-next-needed.next =
    elim c.if-next-needed.branch [
      | then-next-needed+in-Some-word_start-2 w ↦
          subst (λ x. IsFirstStart c.args.path.now c.args.last (drop (c.in-Some.gap.place + 1) c.args.word.now) (c.in-Some-first_start.at + count_by is_edge (take c.in-Some.gap.place c.args.word.now) + c.in-Some.gap.span.least) x) (sym w.next-is)
          (subst (λ n. IsFirstStart c.args.path.now c.args.last (drop (c.in-Some.gap.place + 1) c.args.word.now) n w.in-Some-word_start-2.later) needed
          (subst (λ v. IsFirstStart c.args.path.now c.args.last v (c.in-Some-first_start.at + c.edge_count-size.result + c.in-Some.gap.span.least) w.in-Some-word_start-2.later) c.rest_after-rest.ensures w.in-Some-word_start-2.ensures))
      | else-next-needed w ↦
          subst (λ x. IsFirstStart c.args.path.now c.args.last (drop (c.in-Some.gap.place + 1) c.args.word.now) (c.in-Some-first_start.at + count_by is_edge (take c.in-Some.gap.place c.args.word.now) + c.in-Some.gap.span.least) x) (sym w.next-is)
          (rest_kept c.args.path.now c.args.last c.args.word.now c.in-Some.gap.place c.in-Some.gap.span c.in-Some.ensures c.args.start c.loop-at.from c.loop-at.next c.loop-at.invariant c.in-Some-first_start.at c.in-Some-first_start.ensures (subst (λ n. n ≤ c.loop-at.next) needed w.if-next-needed.false))
    ] in
    let size = c.edge_count-size.ensures in
    let misses = c.if-begin-end.false in
    subst (λ n. IsSought c.args.path.now c.args.last c.args.word.now c.in-Some.gap.place c.in-Some.gap.span c.args.start (c.gap_begin-begin.result - n) c.if-next-needed.next) (sym size)
    (go_on c.args.path.now c.args.last c.args.word.now c.in-Some.gap.place c.in-Some.gap.span c.in-Some.ensures c.args.start c.loop-at.from c.loop-at.next c.loop-at.invariant c.in-Some-first_start.at c.in-Some-first_start.ensures c.if-next-needed.next rest c.gap_begin-begin.result c.gap_begin-begin.ensures (omega arith))

pub returns : goal.returns
returns t c = no_part c.args.path.now c.args.last c.args.word.now c.in-Some.gap.place c.in-Some.gap.span c.in-Some.ensures c.args.start c.loop-at.from c.loop-at.next c.loop-at.invariant c.in_default-first_start.ensures
