-- What is left to prove of `broken_rows`: its clause `rows`, by those of `class_rows` and `group_rows`.
use Rattle.std.proofs.Common.{sym, subst}
use Rattle.dep_model.specs.declared.dep.Dep.{Dep}
use Rattle.dep_model.specs.Deps.{dependency_of}
use Rattle.row_measures.specs.Answers.{AreBrokenRows}
use Rattle.row_measures.specs.ByClass.{classes_of}
use Rattle.row_measures.proofs.listing.broken_rows.Goals as goal

pub returns-in_ok-marked-in-Fd : goal.returns-in_ok-marked-in-Fd
returns-in_ok-marked-in-Fd c =
    let are = c.in_ok-sorted-in-Fd.ensures.sorted in
    record {
      rows = subst (λ (d : Dep). AreBrokenRows c.args.width c.args.rows.now (dependency_of d) c.in_ok-marked-in-Fd.marked.items) (sym c.in-Fd.is)
          (classes_of are, c.in_ok-marked-in-Fd.ensures.rows _ _ _ are);
    }

pub returns-in_ok-marked-in-Mvd : goal.returns-in_ok-marked-in-Mvd
returns-in_ok-marked-in-Mvd c =
    let are = c.in_ok-sorted-in-Mvd.ensures.sorted in
    record {
      rows = subst (λ (d : Dep). AreBrokenRows c.args.width c.args.rows.now (dependency_of d) c.in_ok-marked-in-Mvd.marked.items) (sym c.in-Mvd.is)
          (are.parts, c.in_ok-marked-in-Mvd.ensures.rows _ _ _ _ are);
    }
