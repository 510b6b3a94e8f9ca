-- What is left to prove of `canonical_response`: what `print_deps` requires.
use Rattle.std.proofs.Common.{List, sym, subst}
use Rattle.std.specs.Prelude.{All}
use Rattle.dep_model.specs.Deps.{IsDepWithin}
use Rattle.dep_model.specs.declared.dep.Dep.{Dep}
use Rattle.schema_model.specs.Schemas.{universe_of}
use Rattle.desk_covers.proofs.covers.canonical_response.Goals as goal

pub print_deps-requires : goal.print_deps-requires
print_deps-requires c =
    subst (λ (ds : List Dep). All (IsDepWithin (universe_of c.args.schema.now)) ds) (sym c.deref.ensures.value)
    (rw (c.theory.ensures.theory) at c.in_ok-cover.ensures.within)
