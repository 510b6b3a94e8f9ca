-- What is left to prove of `has_two_parts_by`: what it answers, case by case, what `narrow_by_all`
-- requires, that the invariant of its loop holds at first and stays, and that its loop ends, by
-- `PartLemmas` and `PieceLemmas`.
use Rattle.std.proofs.Common.{refl, sym, ◌∙◌, ⊎_elim, arith}
use mathlib.Core.Path.{fun_ext}
use Rattle.std.proofs.lemmas.Bool.{false≢true}
use Rattle.attr_sets.specs.Attributes.{IsSubset}
use Rattle.attr_sets.specs.Sets.{attributes}
use Rattle.attr_sets.specs.declared.set.TheConstants.{MOST_ATTRIBUTES}
use Rattle.attr_sets.proofs.AttributesLemmas.{attributes_below, tell_empty, tell_subset, same_from_within, count_below-lt, same_at}
use Rattle.dep_basis.proofs.PieceLemmas.{first_refined}
use Rattle.dep_basis.proofs.PartLemmas.{two_beyond, parted_two, whole_one, none_beyond, one_beyond}
use Rattle.dep_basis.proofs.parts.has_two_parts_by.Goals as goal

pub returns-in_default : goal.returns-in_default
returns-in_default c = record {
  parts = (
    (λ no. absurd (false≢true no)),
    (λ two. absurd (none_beyond c.args.width c.args.deps.now (attributes c.args.scheme) (attributes c.args.lhs) (attributes c.difference-beyond.result) c.requires.scheme c.requires.lhs c.difference-beyond.ensures.members
        (c.in_default.ensures.none.0 refl) two)),
  );
}

pub returns-then-is_empty : goal.returns-then-is_empty
returns-then-is_empty c = record {
  parts = (
    (λ no. absurd (false≢true no)),
    (λ two. absurd (one_beyond c.args.width c.args.deps.now (attributes c.args.scheme) (attributes c.args.lhs) (attributes c.difference-beyond.result) c.requires.scheme c.requires.lhs c.difference-beyond.ensures.members
        c.in-Some.first (attributes c.without.result) c.without.ensures.members (c.is_empty.ensures.empty.0 c.if-is_empty.true) two)),
  );
}

pub loop-rest-init : goal.loop-rest-init
loop-rest-init c = record {
  can = first_refined c.args.width c.args.deps.now (attributes c.args.lhs) (attributes c.difference-piece.result) c.requires.deps (λ k m. c.requires.scheme k (c.requires.lhs k m))
      (fun_ext (λ k. grind (arith, same_at c.difference-piece.ensures.members k, same_at c.full.ensures.members k)));
  beyond = λ k m. grind (arith, same_at c.difference-piece.ensures.members k, same_at c.full.ensures.members k, same_at c.difference-beyond.ensures.members k, c.requires.scheme k, m);
}

pub narrow_by_all-requires : goal.narrow_by_all-requires
narrow_by_all-requires c = record { beyond = c.loop-rest.invariant.beyond }

pub returns-in_default-narrow_by_all : goal.returns-in_default-narrow_by_all
returns-in_default-narrow_by_all c =
    let beyond = attributes c.difference-beyond.result in
    let rest = attributes c.without.result in
    let parted = c.in_default-narrow_by_all.ensures.none refl c.args.width (attributes c.args.lhs) c.loop-rest.invariant.can in
    ⊎_elim
    (λ one. record {
      parts = (
        (λ _. parted_two c.args.width c.args.deps.now (attributes c.args.scheme) (attributes c.args.lhs) beyond c.requires.scheme c.requires.lhs c.difference-beyond.ensures.members
            (two_beyond beyond rest c.in-Some.first one.0 c.in-Some.ensures.first.member c.without.ensures.members one.2) parted),
        (λ _. refl),
      );
    })
    (λ none. absurd (false≢true (sym c.if-is_empty.false ∙ c.is_empty.ensures.empty.1 none)))
    (tell_empty MOST_ATTRIBUTES rest (attributes_below c.without.result))

pub returns-then-eq : goal.returns-then-eq
returns-then-eq c =
    let piece = attributes c.loop-rest.piece in
    let rest = attributes c.in-Some-narrow_by_all.rest in
    let back : IsSubset piece rest = λ k m. grind (arith, same_at (c.if-eq.ensures.same.0 refl) k, m) in
    record {
      parts = (
        (λ no. absurd (false≢true no)),
        (λ two. absurd (whole_one c.args.width c.args.deps.now (attributes c.args.scheme) (attributes c.args.lhs) (attributes c.difference-beyond.result) c.requires.scheme c.requires.lhs c.difference-beyond.ensures.members
            piece c.loop-rest.invariant.can c.loop-rest.invariant.beyond (c.in-Some-narrow_by_all.ensures.leaves_whole back) two)),
      );
    }

pub loop-rest-smaller : goal.loop-rest-smaller
loop-rest-smaller c =
    let piece = attributes c.loop-rest.piece in
    let rest = attributes c.in-Some-narrow_by_all.rest in
    let inside = c.in-Some-narrow_by_all.ensures.smaller in
    ⊎_elim
    (λ gone. count_below-lt MOST_ATTRIBUTES rest piece gone.0 inside gone.1 gone.3 gone.2)
    (λ same. absurd (false≢true (sym c.if-eq.false ∙ c.eq.ensures.same.1 (same_from_within rest piece inside same))))
    (tell_subset MOST_ATTRIBUTES piece rest (attributes_below c.loop-rest.piece))

pub loop-rest-preserved : goal.loop-rest-preserved
loop-rest-preserved c = record {
  can = c.in-Some-narrow_by_all.ensures.refined c.args.width (attributes c.args.lhs) c.loop-rest.invariant.can;
  beyond = c.in-Some-narrow_by_all.ensures.beyond;
}
