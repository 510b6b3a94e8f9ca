-- What is left to prove of `block_of`: what it answers, case by case, that the invariant of its
-- loop holds at first and stays, and that its loop ends, by `BlockLemmas` and `RefiningLemmas`.
use Rattle.std.proofs.Common.{◌≡◌, true, refl, sym, ◌∙◌, ⊎_elim, inl, inr, arith}
use mathlib.Core.Path.{fun_ext}
use Rattle.std.proofs.lemmas.Bool.{false≢true, true≢false, cases_Bool}
use Rattle.std.proofs.lemmas.Bool.Decides.{nat_tests}
use Rattle.attr_sets.specs.Attributes.{only, IsSubset}
use Rattle.attr_sets.specs.Sets.{attributes}
use Rattle.attr_sets.specs.declared.set.TheConstants.{MOST_ATTRIBUTES}
use Rattle.attr_sets.proofs.AttributesLemmas.{attributes_below, tell_subset, same_from_within, count_below-lt, same_at}
use Rattle.dep_model.specs.Deps.{dependencies_of}
use Rattle.dep_model.specs.Keys.{IsBlock}
use Rattle.dep_model.proofs.RuleLemmas.{reflexivity_obeyed}
use Rattle.dep_basis.specs.Refining.{IsCandidate}
use Rattle.dep_basis.proofs.RefiningLemmas.{candidate_first}
use Rattle.dep_basis.proofs.BlockLemmas.{whole_legal, candidate_block}
use Rattle.dep_basis.proofs.refining.block_of.Goals as goal

pub returns-then-contains : goal.returns-then-contains
returns-then-contains c = record {
  closed = ((λ _ r legal. reflexivity_obeyed (attributes c.args.lhs) (only c.args.attribute) r (λ k m. grind (arith, nat_tests, m, c.contains.ensures.member, c.if-contains.true))), (λ _. same_at c.empty.ensures.members));
  block = λ not_empty. absurd (not_empty (same_at c.empty.ensures.members));
  member = λ not_empty. absurd (not_empty (same_at c.empty.ensures.members));
}

pub loop-rest-init : goal.loop-rest-init
loop-rest-init c = candidate_first c.args.width (dependencies_of c.args.deps.now) (attributes c.args.lhs) (attributes c.difference-part.result) c.args.attribute c.requires.attribute
    (sym c.contains.ensures.member ∙ c.if-contains.false) (fun_ext (λ k. grind (arith, same_at c.difference-part.ensures.members k, same_at c.full.ensures.members k)))

pub loop-rest-preserved : goal.loop-rest-preserved
loop-rest-preserved c = c.cut_by_all-rest.ensures.candidate c.args.width (attributes c.args.lhs) c.requires.deps c.requires.lhs c.loop-rest.invariant

pub loop-rest-smaller : goal.loop-rest-smaller
loop-rest-smaller c =
    let part = attributes c.loop-rest.part in
    let rest = c.cut_by_all-rest in
    ⊎_elim
    (λ gone. count_below-lt MOST_ATTRIBUTES (attributes rest.result) part gone.0 rest.ensures.smaller gone.1 gone.3 gone.2)
    (λ same. absurd (false≢true (c.if-eq.ensures.same.1 (same_from_within (attributes rest.result) part rest.ensures.smaller same))))
    (tell_subset MOST_ATTRIBUTES part (attributes rest.result) (attributes_below c.loop-rest.part))

pub returns-then-eq : goal.returns-then-eq
returns-then-eq c =
    let n = c.args.width in
    let ds = dependencies_of c.args.deps.now in
    let x = attributes c.args.lhs in
    let part = attributes c.loop-rest.part in
    let a = c.args.attribute in
    let candidate : IsCandidate n ds x a part = c.loop-rest.invariant in
    let back : IsSubset part (attributes c.cut_by_all-rest.result) = λ k m. grind (arith, same_at (c.if-eq.ensures.same.0 refl) k, m) in
    let legal = whole_legal n c.args.deps.now part c.requires.deps (c.cut_by_all-rest.ensures.leaves_whole back) in
    let block : part a ≡ true → IsBlock n ds x part = λ member. candidate_block n ds x part a c.requires.lhs legal candidate member in
    elim (cases_Bool (part a)) [
      | inl member ↦ record {
        closed = ((λ none. absurd (true≢false (sym member ∙ none a))), (λ implied. absurd ((block member).outside a member (c.requires.attribute, implied))));
        block = λ _. block member;
        member = λ _. member;
      }
      | inr out ↦ record {
        closed = ((λ _. candidate.closed out), (λ _. candidate.nothing out));
        block = λ not_empty. absurd (not_empty (candidate.nothing out));
        member = λ not_empty. absurd (not_empty (candidate.nothing out));
      }
    ]
