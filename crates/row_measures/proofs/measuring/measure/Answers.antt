-- What is left to prove of `measure`: its clause `measure`, by those of `class_measure` and `part_measure`.
use Rattle.std.proofs.Common.{sym, subst}
use Rattle.dep_model.specs.declared.dep.Dep.{Dep}
use Rattle.dep_model.specs.Deps.{dependency_of}
use Rattle.row_measures.specs.Answers.{IsMeasure}
use Rattle.row_measures.specs.ByClass.{classes_of}
use Rattle.row_measures.proofs.measuring.measure.Goals as goal

pub returns-in_ok-sorted-in-Fd : goal.returns-in_ok-sorted-in-Fd
returns-in_ok-sorted-in-Fd c =
    let are = c.in_ok-sorted-in-Fd.ensures.sorted in
    record {
      measure = subst (λ (d : Dep). IsMeasure c.args.width c.args.rows.now (dependency_of d) c.class_measure.result) (sym c.in-Fd.is)
          (classes_of are, c.class_measure.ensures.measure _ _ _ are);
    }

pub returns-in_ok-sorted-in-Mvd : goal.returns-in_ok-sorted-in-Mvd
returns-in_ok-sorted-in-Mvd c =
    let are = c.in_ok-sorted-in-Mvd.ensures.sorted in
    record {
      measure = subst (λ (d : Dep). IsMeasure c.args.width c.args.rows.now (dependency_of d) c.part_measure.result) (sym c.in-Mvd.is)
          (are.parts, c.part_measure.ensures.measure _ _ _ _ are);
    }
