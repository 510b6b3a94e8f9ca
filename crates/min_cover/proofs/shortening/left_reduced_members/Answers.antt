-- What is left to prove of `left_reduced_members`: what `add_members` requires.
use Rattle.std.proofs.Common.{subst}
use Rattle.dep_model.specs.declared.dep.Dep.{Dep}
use Rattle.dep_model.specs.declared.dep.Dep.TheVariants.{Fd}
use Rattle.dep_model.specs.Deps.{IsDepWithin}
use Rattle.dep_model.specs.Theories.{universe_of}
use Rattle.std.specs.Prelude.{All}
use Rattle.std.proofs.Common.{List, sym}
use Rattle.min_cover.proofs.shortening.left_reduced_members.Goals as goal
use Rattle.min_cover.proofs.shortening.left_reduced_members.Goals.{In-Fd}

-- the sides of a functional member lie within the universe
sides_within : (c : In-Fd) → IsDepWithin (universe_of c.args.theory.now) (Fd c.in-Fd.lhs c.in-Fd.rhs)
sides_within c =
    let u = universe_of c.args.theory.now in
    let within : All (IsDepWithin u) c.deps-dep-items.result.now = subst (λ (es : List Dep). All (IsDepWithin u) es) (sym c.deps-dep-items.ensures.deps) c.args.theory.now.valid.deps_within in
    subst (λ (d : Dep). IsDepWithin u d) c.in-Fd.is (within c.loop-dep.dep-index _ c.loop-dep-test.true)

pub add_members-requires-clause-lhs : goal.add_members-requires-clause-lhs
add_members-requires-clause-lhs c = (sides_within (goal.at.add_members-requires-clause-lhs c).In-Fd).0

pub add_members-requires-clause-rhs : goal.add_members-requires-clause-rhs
add_members-requires-clause-rhs c = (sides_within (goal.at.add_members-requires-clause-rhs c).In-Fd).1
