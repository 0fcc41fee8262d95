use Rattle.std.proofs.Common.{Some, ap, sym, subst, ◌<◌, ◌∙◌}
use Rattle.fq_io_recorded.specs.declared.handed.Handed.{Handed}
use Rattle.fq_io_recorded.proofs.Found.{nowhere, others, placed, stay_all, stay_told, there, written}
use Rattle.fq_io_recorded.proofs.Times.{once_more}
use Rattle.fq_io_recorded.proofs.handed_files.HandedFiles.again.Goals as goal

pub returns-in-None-clause-there : goal.returns-in-None-clause-there
returns-in-None-clause-there c =
    let none = nowhere c.args.self.now.files.items c.args.name.now (placed _ _ _ _ _ _ c.deref.ensures.value c.as_bytes.ensures.value c.place_of.ensures c.in-None.is) in
    rw none

pub returns-in-None-clause-times : goal.returns-in-None-clause-times
returns-in-None-clause-times c =
    let none = nowhere c.args.self.now.files.items c.args.name.now (placed _ _ _ _ _ _ c.deref.ensures.value c.as_bytes.ensures.value c.place_of.ensures c.in-None.is) in
    rw none

pub returns-in-Some-clause-there : goal.returns-in-Some-clause-there
returns-in-Some-clause-there c =
    let at = placed _ _ _ _ _ _ c.deref.ensures.value c.as_bytes.ensures.value c.place_of.ensures c.in-Some.is in
    let was = there c.args.self.now.files.items c.args.name.now c.in-Some.place c.index_mut.result.now at in
    rw was

pub returns-in-Some-clause-times : goal.returns-in-Some-clause-times
returns-in-Some-clause-times c =
    let at = placed _ _ _ _ _ _ c.deref.ensures.value c.as_bytes.ensures.value c.place_of.ensures c.in-Some.is in
    let was = there c.args.self.now.files.items c.args.name.now c.in-Some.place c.index_mut.result.now at ∙ ap Some (sym c.index_mut.ensures.value) in
    let now = written c.args.self.now.files.items c.args.name.now c.in-Some.place c.index_mut.result.now at c.again.new.self (c.again.ensures.name ∙ ap (λ (h : Handed). h.name) c.index_mut.ensures.value) in
    rw (now, was) c.again.ensures.times

pub returns-in-Some-clause-others : goal.returns-in-Some-clause-others
returns-in-Some-clause-others c other apart =
    let at = placed _ _ _ _ _ _ c.deref.ensures.value c.as_bytes.ensures.value c.place_of.ensures c.in-Some.is in
    others c.args.self.now.files.items c.args.name.now c.in-Some.place c.index_mut.result.now at c.again.new.self (c.again.ensures.name ∙ ap (λ (h : Handed). h.name) c.index_mut.ensures.value) other apart

pub invariant_of-self : goal.invariant_of-self
invariant_of-self c =
    let at = placed _ _ _ _ _ _ c.deref.ensures.value c.as_bytes.ensures.value c.place_of.ensures c.in-Some.is in
    let is = c.index_mut.ensures.value in
    let same = c.again.ensures.name ∙ ap (λ (h : Handed). h.name) is in
    record {
      are_told = stay_told c.args.self.now.files.items c.args.name.now c.in-Some.place c.index_mut.result.now at c.again.new.self same c.args.self.now.told.items
          c.args.self.now.are_told (λ some. subst (λ (h : Handed). 0 < h.times) is (once_more _ (subst (λ n. 0 < n) c.again.ensures.times some))) (λ some. c.again.ensures.text ∙ ap (λ (h : Handed). h.text) is);
      are_all = stay_all c.args.self.now.files.items c.args.name.now c.in-Some.place c.index_mut.result.now at c.again.new.self same c.args.self.now.told.items c.args.self.now.are_all;
    }
