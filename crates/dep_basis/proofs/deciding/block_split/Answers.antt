-- What is left to prove of `block_split`: its clauses `none` and `block`, by `split_block`.
use Rattle.std.proofs.Common.{◌≡◌, ℕ, subst, arith}
use mathlib.Core.Path.{fun_ext}
use Rattle.std.proofs.lemmas.Option.{IfSome_then}
use Rattle.std.specs.Prelude.{All}
use Rattle.attr_sets.specs.Attributes.{Attributes, below, difference, Intersects}
use Rattle.attr_sets.specs.declared.set.AttrSet.{AttrSet}
use Rattle.attr_sets.specs.Sets.{attributes}
use Rattle.dep_model.specs.Deps.{dependencies_of}
use Rattle.dep_basis.specs.Traces.{blocks_of}
use Rattle.dep_basis.specs.Firsts.{IsFirstWith}
use Rattle.attr_sets.proofs.AttributesLemmas.{same_at}
use Rattle.dep_basis.proofs.DecidingLemmas.{split_block}
use Rattle.dep_basis.proofs.deciding.block_split.Goals as goal
use Rattle.dep_basis.proofs.deciding.block_split.Goals.{After-difference}

rest_is : (c : After-difference) → attributes c.difference.result ≡ difference (below c.args.width) (attributes c.args.rhs)
rest_is c = fun_ext (λ (k : ℕ). grind (arith, same_at c.difference.ensures.members k, same_at c.full.ensures.members k))

pub returns-clause-none : goal.returns-clause-none
returns-clause-none c =
    let y = attributes c.args.rhs in
    let decides = c.basis_by-found.ensures.basis.multivalued y c.requires.rhs in
    let blocks = blocks_of c.basis_by-found.result in
    let rest = rest_is ((goal.at.returns-clause-none c).After-difference) in (
      (λ none. decides.1 (subst (λ (x : Attributes). All (λ (p : AttrSet). Intersects (attributes p) y × Intersects (attributes p) x → ⊥) blocks) rest (c.first_intersecting.ensures.none.0 none))),
      (λ implied. c.first_intersecting.ensures.none.1 (rw rest (decides.0 implied))),
    )

pub returns-clause-block : goal.returns-clause-block
returns-clause-block c =
    let y = attributes c.args.rhs in
    let rest = rest_is ((goal.at.returns-clause-block c).After-difference) in
    IfSome_then c.first_intersecting.result c.first_intersecting.ensures.first (λ (p : AttrSet) first.
    split_block c.args.width (dependencies_of c.args.deps.now) (attributes c.args.lhs) y c.basis_by-found.result c.basis_by-found.ensures.basis c.requires.rhs p
    (subst (λ (x : Attributes). IsFirstWith (λ (q : AttrSet). Intersects (attributes q) y × Intersects (attributes q) x) (blocks_of c.basis_by-found.result) p) rest first))
