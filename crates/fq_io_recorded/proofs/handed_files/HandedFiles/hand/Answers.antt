use Rattle.std.proofs.Common.{◌≤◌, ◌<◌, ℕ, Option, Some, Err, sym, ap, ◌∙◌, subst, arith}
use Rattle.fq_io.specs.declared.files.FileFault.TheVariants as fault
use Rattle.fq_io_recorded.specs.declared.handed.Handed.{Handed}
use Rattle.fq_io_recorded.specs.Answers.{IsAnswer, answer_of}
use Rattle.fq_io_recorded.proofs.Found.{its_text, nowhere, others, placed, stay_all, stay_told, there, written}
use Rattle.fq_io_recorded.proofs.Says.{of_file}
use Rattle.fq_io_recorded.proofs.handed_files.HandedFiles.hand.Goals as goal

more : {m n : ℕ} → m ≤ n → 0 < m → 0 < n
more less some = omega arith

pub returns-in-None-clause-answer : goal.returns-in-None-clause-answer
returns-in-None-clause-answer c =
    let none = nowhere c.args.self.now.files.items c.args.name.now (placed _ _ _ _ _ _ c.deref.ensures.value c.as_bytes.ensures.value c.place_of.ensures c.in-None.is) in
    subst (λ (o : Option Handed). IsAnswer (Err fault.Failed) (answer_of c.args.limit o)) (sym none) tt

pub returns-in-Some-clause-answer : goal.returns-in-Some-clause-answer
returns-in-Some-clause-answer c =
    let at = placed _ _ _ _ _ _ c.deref.ensures.value c.as_bytes.ensures.value c.place_of.ensures c.in-Some.is in
    let is = there c.args.self.now.files.items c.args.name.now c.in-Some.place c.index_mut.result.now at ∙ ap Some (sym c.index_mut.ensures.value) in
    subst (λ (o : Option Handed). IsAnswer c.hand.result (answer_of c.args.limit o)) (sym is) c.hand.ensures.answer

pub returns-in-Some-clause-times : goal.returns-in-Some-clause-times
returns-in-Some-clause-times c =
    let at = placed _ _ _ _ _ _ c.deref.ensures.value c.as_bytes.ensures.value c.place_of.ensures c.in-Some.is in
    let was = there c.args.self.now.files.items c.args.name.now c.in-Some.place c.index_mut.result.now at ∙ ap Some (sym c.index_mut.ensures.value) in
    let now = written c.args.self.now.files.items c.args.name.now c.in-Some.place c.index_mut.result.now at c.hand.new.self (c.hand.ensures.name ∙ ap (λ (h : Handed). h.name) c.index_mut.ensures.value) in
    rw (now, was) c.hand.ensures.times

pub returns-in-Some-clause-others : goal.returns-in-Some-clause-others
returns-in-Some-clause-others c other apart =
    let at = placed _ _ _ _ _ _ c.deref.ensures.value c.as_bytes.ensures.value c.place_of.ensures c.in-Some.is in
    others c.args.self.now.files.items c.args.name.now c.in-Some.place c.index_mut.result.now at c.hand.new.self (c.hand.ensures.name ∙ ap (λ (h : Handed). h.name) c.index_mut.ensures.value) other apart

pub invariant_of-self : goal.invariant_of-self
invariant_of-self c =
    let at = placed _ _ _ _ _ _ c.deref.ensures.value c.as_bytes.ensures.value c.place_of.ensures c.in-Some.is in
    let is = c.index_mut.ensures.value in
    let same = c.hand.ensures.name ∙ ap (λ (h : Handed). h.name) is in
    record {
      are_told = stay_told c.args.self.now.files.items c.args.name.now c.in-Some.place c.index_mut.result.now at c.hand.new.self same c.args.self.now.told.items
          c.args.self.now.are_told (λ some. more (subst (λ (h : Handed). c.hand.new.self.times ≤ h.times) is c.hand.ensures.fewer) some) (λ some. c.hand.ensures.text some ∙ ap (λ (h : Handed). h.text) is);
      are_all = stay_all c.args.self.now.files.items c.args.name.now c.in-Some.place c.index_mut.result.now at c.hand.new.self same c.args.self.now.told.items c.args.self.now.are_all;
    }

pub returns-in-Some-clause-bytes : goal.returns-in-Some-clause-bytes
returns-in-Some-clause-bytes c =
    let at = placed _ _ _ _ _ _ c.deref.ensures.value c.as_bytes.ensures.value c.place_of.ensures c.in-Some.is in
    let is = there c.args.self.now.files.items c.args.name.now c.in-Some.place c.index_mut.result.now at ∙ ap Some (sym c.index_mut.ensures.value) in
    (of_file c.args.limit _ c.index_mut.result.now (its_text _ _ c.args.name.now _ c.args.self.now.are_told is) c.hand.result c.hand.ensures.answer).bytes

pub returns-in-Some-clause-short : goal.returns-in-Some-clause-short
returns-in-Some-clause-short c =
    let at = placed _ _ _ _ _ _ c.deref.ensures.value c.as_bytes.ensures.value c.place_of.ensures c.in-Some.is in
    let is = there c.args.self.now.files.items c.args.name.now c.in-Some.place c.index_mut.result.now at ∙ ap Some (sym c.index_mut.ensures.value) in
    (of_file c.args.limit _ c.index_mut.result.now (its_text _ _ c.args.name.now _ c.args.self.now.are_told is) c.hand.result c.hand.ensures.answer).short

pub returns-in-Some-clause-too_long : goal.returns-in-Some-clause-too_long
returns-in-Some-clause-too_long c =
    let at = placed _ _ _ _ _ _ c.deref.ensures.value c.as_bytes.ensures.value c.place_of.ensures c.in-Some.is in
    let is = there c.args.self.now.files.items c.args.name.now c.in-Some.place c.index_mut.result.now at ∙ ap Some (sym c.index_mut.ensures.value) in
    (of_file c.args.limit _ c.index_mut.result.now (its_text _ _ c.args.name.now _ c.args.self.now.are_told is) c.hand.result c.hand.ensures.answer).too_long
