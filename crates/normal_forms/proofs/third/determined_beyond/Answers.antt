-- What is left to prove of `determined_beyond`: its clause `beyond`, by `BreakLemmas`.
use Rattle.std.proofs.Common.{◌≡◌, ◌↔◌, ℕ, true, sym, ◌∙◌}
use Rattle.std.proofs.lemmas.Bool.{true≢false, false≢true}
use Rattle.attr_sets.specs.Sets.{attributes}
use Rattle.dep_model.specs.Dependencies.{functional_part}
use Rattle.dep_model.specs.Keys.{InClosure}
use Rattle.dep_model.specs.Theories.{width_of, theory_of}
use Rattle.attr_sets.proofs.AttributesLemmas.{same_at}
use Rattle.normal_forms.proofs.BreakLemmas.{superkey_closed, closed_superkey, right_side_at}
use Rattle.normal_forms.proofs.third.determined_beyond.Goals as goal
use Rattle.normal_forms.proofs.third.determined_beyond.Goals.{After-closure_begun-found}

-- what was found is the closure of the left side
found_is : (c : After-closure_begun-found) → (a : ℕ) → (attributes c.closure_begun-found.result a ≡ true)
    ↔ InClosure (width_of c.args.theory.now) (functional_part (theory_of c.args.theory.now)) (attributes c.args.lhs) a
found_is c =
    c.closure_begun-found.ensures.closure

pub returns-then-is_subset : goal.returns-then-is_subset
returns-then-is_subset c =
    let s = c.args.theory.now in
    let n = width_of s in
    let fs = functional_part (theory_of s) in
    let scheme = attributes c.args.scheme in
    let x = attributes c.args.lhs in
    let closed = attributes c.closure_begun-found.result in
    let exact = found_is (goal.at.returns-then-is_subset c).After-closure_begun-found in
    record {
      beyond = λ a. (
        (λ m. absurd (true≢false (sym m ∙ same_at c.empty.ensures.members a))),
        (λ h. absurd (h.0 (closed_superkey n fs scheme x closed c.requires.lhs exact (c.is_subset.ensures.subset.0 c.if-is_subset.true)))),
      );
    }

pub returns : goal.returns
returns c =
    let s = c.args.theory.now in
    let n = width_of s in
    let fs = functional_part (theory_of s) in
    let scheme = attributes c.args.scheme in
    let x = attributes c.args.lhs in
    let closed = attributes c.closure_begun-found.result in
    let exact = found_is (goal.at.returns c).After-closure_begun-found in
    let right = right_side_at n fs scheme x closed (attributes c.intersection.result) (attributes c.difference.result) c.requires.scheme c.requires.lhs exact c.intersection.ensures.members c.difference.ensures.members in
    record {
      beyond = λ a. (
        (λ m. (
          (λ superkey. false≢true (sym c.if-is_subset.false ∙ c.is_subset.ensures.subset.1 (superkey_closed n fs scheme x closed c.requires.scheme exact superkey))),
          (right a).0 m,
        )),
        (λ h. (right a).1 h.1),
      );
    }
