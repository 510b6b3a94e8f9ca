-- What is left to prove of `refused_exit`: its clause `says`, for each refusal.
use Rattle.std.proofs.Common.{inl, inr, subst}
use Rattle.attr_sets.specs.Sets.{attributes}
use Rattle.schema_model.specs.Schemas.{width_of, theory_of}
use Rattle.fd_projection.specs.Refusals.{IsRefusedProjection}
use Rattle.desk_implication.proofs.projecting.refused_exit.Goals as goal

pub returns-in-TooWide : goal.returns-in-TooWide
returns-in-TooWide c =
    let s = c.args.schema.now in
    record {
      says = λ response is. (
        c.requires.not_empty,
        inl (subst (IsRefusedProjection (width_of s) (theory_of s) (attributes c.args.set)) c.in-TooWide.is c.requires.refused, c.too_wide_exit.ensures.says response is),
      );
    }

pub returns-in-TooMany : goal.returns-in-TooMany
returns-in-TooMany c =
    let s = c.args.schema.now in
    record {
      says = λ response is. (
        c.requires.not_empty,
        inr (subst (IsRefusedProjection (width_of s) (theory_of s) (attributes c.args.set)) c.in-TooMany.is c.requires.refused, c.too_many_exit.ensures.says response is),
      );
    }
