-- What is left to prove of `try_right`: its clauses `found` and `refusal`, by `RightLemmas`.
use Rattle.std.proofs.Common.{◌≡◌, ◌<◌, ◌+◌, ◌++◌, ◌∷◌, [], ℕ, length, refl, slice_set, ap, ◌∙◌, arith}
use Rattle.std.proofs.lemmas.List.{map-append}
use Rattle.attr_sets.specs.Attributes.{Attributes, only}
use Rattle.attr_sets.specs.Sets.{attributes}
use Rattle.row_groups.specs.Numberings.{number_at}
use Rattle.dep_model.proofs.ListLemmas.{same_default}
use Rattle.dep_model.specs.Dependencies.{fd}
use Rattle.dep_model.specs.Deps.{dependencies_of, dependency_of}
use Rattle.near_rules.specs.declared.found.TheConstants.{MOST_TRIED}
use Rattle.removal_laws.proofs.ErrorLemmas.{same_error}
use Rattle.near_rules.proofs.RightLemmas.{exceeds, near_added, not_near}
use Rattle.near_rules.proofs.searching.try_right.Goals as goal

pub returns-then-before-ge-MOST_TRIED-clause-refusal : goal.returns-then-before-ge-MOST_TRIED-clause-refusal
returns-then-before-ge-MOST_TRIED-clause-refusal c r sought grouped before must =
    let a : ℕ = c.args.attribute in
    let a_low : a < length c.args.found.now.tried.items = omega (arith, c.requires.attribute, before.one_each) in
    let count : c.index-before.result.now ≡ number_at c.args.found.now.tried.items a =
    c.index-before.ensures ∙ same_default c.args.found.now.tried.items a c.index-before.result.now 0 a_low in
    record {
      right = c.requires.attribute;
      exceeds = exceeds c.args.sought.now r (attributes c.args.set) a c.args.found.now before c.requires.attribute must
          (omega (arith, count, c.if-before-ge-MOST_TRIED.true));
    }

pub returns-then-far-clause-found : goal.returns-then-far-clause-found
returns-then-far-clause-found c r sought grouped before must =
    let a : ℕ = c.args.attribute in
    let set : Attributes = attributes c.args.set in
    let a_low : a < length c.args.found.now.tried.items = omega (arith, c.requires.attribute, before.one_each) in
    let count : c.index-before.result.now ≡ number_at c.args.found.now.tried.items a =
    c.index-before.ensures ∙ same_default c.args.found.now.tried.items a c.index-before.result.now 0 a_low in
    let few : number_at c.args.found.now.tried.items a < MOST_TRIED = omega (arith, count, c.if-before-ge-MOST_TRIED.false) in
    not_near c.args.sought.now r set a c.args.found.now _ before c.requires.attribute must few
    (ap (λ (m : ℕ). slice_set c.args.found.now.tried.items a (m + 1)) count)
    refl refl (c.in_ok-far.ensures.far r sought c.if-far.true)

pub returns-in_ok-push-2-clause-found : goal.returns-in_ok-push-2-clause-found
returns-in_ok-push-2-clause-found c r sought grouped before must =
    let a : ℕ = c.args.attribute in
    let set : Attributes = attributes c.args.set in
    let a_low : a < length c.args.found.now.tried.items = omega (arith, c.requires.attribute, before.one_each) in
    let count : c.index-before.result.now ≡ number_at c.args.found.now.tried.items a =
    c.index-before.ensures ∙ same_default c.args.found.now.tried.items a c.index-before.result.now 0 a_low in
    let few : number_at c.args.found.now.tried.items a < MOST_TRIED = omega (arith, count, c.if-before-ge-MOST_TRIED.false) in
    near_added c.args.sought.now r set a c.args.found.now _ before c.requires.attribute must few
    (ap (λ (m : ℕ). slice_set c.args.found.now.tried.items a (m + 1)) count)
    c.in_ok-error.error sought.rights (c.in_ok-error.ensures.error c.args.sought.now.width r set sought.interned grouped.by_set grouped.firsts)
    (c.if-error-sought.true)
    (ap dependencies_of c.in_ok-push.ensures.items ∙ map-append dependency_of c.args.found.now.deps.items _
    ∙ ap (λ (x : Attributes). dependencies_of c.args.found.now.deps.items ++ fd set x ∷ []) c.single.ensures.members)
    c.in_ok-push-2.ensures.items

pub returns-else-error-sought-clause-found : goal.returns-else-error-sought-clause-found
returns-else-error-sought-clause-found c r sought grouped before must =
    let a : ℕ = c.args.attribute in
    let set : Attributes = attributes c.args.set in
    let a_low : a < length c.args.found.now.tried.items = omega (arith, c.requires.attribute, before.one_each) in
    let count : c.index-before.result.now ≡ number_at c.args.found.now.tried.items a =
    c.index-before.ensures ∙ same_default c.args.found.now.tried.items a c.index-before.result.now 0 a_low in
    let few : number_at c.args.found.now.tried.items a < MOST_TRIED = omega (arith, count, c.if-before-ge-MOST_TRIED.false) in
    let error = c.in_ok-error.ensures.error c.args.sought.now.width r set sought.interned grouped.by_set grouped.firsts in
    not_near c.args.sought.now r set a c.args.found.now _ before c.requires.attribute must few
    (ap (λ (m : ℕ). slice_set c.args.found.now.tried.items a (m + 1)) count)
    refl refl
    (λ near. omega (arith, same_error c.args.sought.now.width r (fd set (only a)) near.0 c.in_ok-error.error near.1 error, near.2, c.if-error-sought.false))
