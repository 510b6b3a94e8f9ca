-- What is left to prove of `closed_beyond`: what `closure` requires, and its clause `closure`, by
-- `PartLemmas`.
use Rattle.std.proofs.Common.{◌≡◌, true, sym, ◌∙◌, inl, inr}
use Rattle.std.proofs.lemmas.Bool.{lt-ltb, or_cases}
use Rattle.attr_sets.specs.Sets.{attributes}
use Rattle.attr_sets.proofs.AttributesLemmas.{same_at}
use Rattle.dep_model.specs.Theories.{width_of, theory_of}
use Rattle.fd_projection.proofs.PartLemmas.{given_closed, closure_beyond}
use Rattle.fd_projection.proofs.closures.closed_beyond.Goals as goal

pub closure-requires : goal.closure-requires
closure-requires c =
    let s = c.args.theory.now in
    record {
      within = λ k m.
          elim (or_cases (attributes c.args.set k) (attributes c.args.given k) (sym (same_at c.union.ensures.members k) ∙ m)) [
            | inl in_set ↦ c.requires.set k in_set
            | inr in_given ↦ lt-ltb k (width_of s) (given_closed (width_of s) (theory_of s) (attributes c.args.set) (attributes c.args.given) k c.requires.given in_given).0
          ];
    }

pub returns : goal.returns
returns c =
    let s = c.args.theory.now in
    record {
      closure = closure_beyond (width_of s) (theory_of s) (attributes c.args.set) (attributes c.args.given) (attributes c.union.result) (attributes c.closure.result)
          c.requires.given c.union.ensures.members c.closure.ensures.closure;
    }
