-- What is left to prove of `same_dependency`: its clause `decides`.
use Rattle.std.proofs.Common.{◌≡◌, ◌↔◌, IsTrue, Bool, sym, subst}
use Rattle.dep_model.specs.Deps.{dependency_of}
use Rattle.proof_grammar.proofs.SameLemmas.{decides_same}
use Rattle.proof_text.proofs.node.same_dependency.Goals as goal

pub returns-clause-decides : goal.returns-clause-decides
returns-clause-decides c =
    let of : Bool → Type 0 = λ r. IsTrue r ↔ (dependency_of c.args.a ≡ dependency_of c.args.b) in
    subst of (sym c.same_sides.ensures.same) (decides_same c.args.a c.args.b)
