-- What is left to prove of `broken_parts`: its clause `parts`, by those of `class_parts` and `group_parts`.
use Rattle.std.proofs.Common.{sym, subst}
use Rattle.dep_model.specs.declared.dep.Dep.{Dep}
use Rattle.dep_model.specs.Deps.{dependency_of}
use Rattle.row_measures.specs.Answers.{AreBrokenParts}
use Rattle.row_measures.specs.ByClass.{classes_of}
use Rattle.row_measures.proofs.listing.broken_parts.Goals as goal

pub returns-in_ok-parts-in-Fd : goal.returns-in_ok-parts-in-Fd
returns-in_ok-parts-in-Fd c =
    let are = c.in_ok-sorted-in-Fd.ensures.sorted in
    record {
      parts = subst (λ (d : Dep). AreBrokenParts c.args.width c.args.rows.now (dependency_of d) c.in_ok-parts-in-Fd.parts.items) (sym c.in-Fd.is)
          (classes_of are, c.in_ok-parts-in-Fd.ensures.parts _ _ _ are);
    }

pub returns-in_ok-parts-in-Mvd : goal.returns-in_ok-parts-in-Mvd
returns-in_ok-parts-in-Mvd c =
    let are = c.in_ok-sorted-in-Mvd.ensures.sorted in
    record {
      parts = subst (λ (d : Dep). AreBrokenParts c.args.width c.args.rows.now (dependency_of d) c.in_ok-parts-in-Mvd.parts.items) (sym c.in-Mvd.is)
          (are.parts, c.in_ok-parts-in-Mvd.ensures.parts _ _ _ _ are);
    }
