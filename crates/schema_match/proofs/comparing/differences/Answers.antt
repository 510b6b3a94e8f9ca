-- What is left to prove of `differences`: its clauses `differences`, `none` and `inside`, what
-- `is_implied` requires, and that a round of its loop keeps the invariant, by `DifferenceLemmas`.
use Rattle.std.proofs.Common.{ℕ, ◌+◌, ◌≤◌, List, length, sym, ◌∙◌, ap, subst}
use Rattle.std.proofs.lemmas.Bool.{false≢true}
use Rattle.dep_model.specs.declared.dep.Dep.{Dep}
use Rattle.dep_model.specs.Deps.{dependency_of}
use Rattle.schema_model.specs.Schemas.{deps_of}
use Rattle.schema_match.proofs.DifferenceLemmas.{AreDifferencesTo, carried_here, carried_within, implied_is}
use Rattle.schema_match.proofs.DifferenceLemmas.{follows_is, differences_follow, differences_differ}
use Rattle.schema_match.proofs.DifferenceLemmas.{differences_done, differences_inside, none_exactly}
use Rattle.schema_match.proofs.comparing.differences.Goals.{then-not-is_implied+in_ok-push, else-not-is_implied}
use Rattle.schema_match.proofs.comparing.differences.Goals as goal

pub is_implied-requires : goal.is_implied-requires
is_implied-requires c =
    let s = c.args.schema.now in
    let o = c.args.other.now in
    let e = dependency_of c.carry_dependency.result in
    let found = carried_here s o c.deps-dep-items.result.now c.deref.result.now c.in_ok-attributes.attributes.items
    c.loop-k.k _ e
    c.deps-dep-items.ensures.deps c.deref.ensures.value c.in_ok-attributes.ensures.namesakes c.loop-k-test.true
    c.carry_dependency.ensures.carried in
    record { within = rw (c.theory.ensures.theory) (carried_within s o e found.0 found.2) }

pub loop-k-preserved : goal.loop-k-preserved
loop-k-preserved c =
    let s = c.args.schema.now in
    let o = c.args.other.now in
    let k = c.loop-k.k in
    let e = dependency_of c.carry_dependency.result in
    let found = carried_here s o c.deps-dep-items.result.now c.deref.result.now c.in_ok-attributes.attributes.items k _ e
    c.deps-dep-items.ensures.deps c.deref.ensures.value c.in_ok-attributes.ensures.namesakes c.loop-k-test.true
    c.carry_dependency.ensures.carried in
    elim c.if-not-is_implied.branch [
      | then-not-is_implied+in_ok-push w ↦
          let more = differences_differ s o k c.loop-k.numbers.items found.0 c.loop-k.invariant found.1
          (λ follows. false≢true
          (sym w.if-not-is_implied.true
          ∙ (rw (c.theory.ensures.theory) at c.is_implied.ensures.implied).1 (follows_is s o e found.0 found.2 follows))) in
          let pushed = ap (λ v. v.items) w.numbers-is ∙ w.in_ok-push.ensures.items in
          subst (λ (numbers : List ℕ). AreDifferencesTo s o (k + 1) numbers) (sym pushed) more
      | else-not-is_implied w ↦
          let more = differences_follow s o k c.loop-k.numbers.items found.0 c.loop-k.invariant found.1
          (implied_is s o e found.0 found.2 ((rw (c.theory.ensures.theory) at c.is_implied.ensures.implied).0 w.if-not-is_implied.false)) in
          subst (λ (numbers : List ℕ). AreDifferencesTo s o (k + 1) numbers) (sym (ap (λ v. v.items) w.numbers-is)) more
    ]

pub returns-clause-differences : goal.returns-clause-differences
returns-clause-differences c =
    let seen : length (deps_of c.args.schema.now) ≤ c.loop-k.k =
    subst (λ (ds : List Dep). length ds ≤ c.loop-k.k) c.deps-dep-items.ensures.deps c.loop-k-test.false in
    differences_done c.args.schema.now c.args.other.now c.loop-k.k c.loop-k.numbers.items seen c.loop-k.invariant

pub returns-clause-none : goal.returns-clause-none
returns-clause-none c =
    let seen : length (deps_of c.args.schema.now) ≤ c.loop-k.k =
    subst (λ (ds : List Dep). length ds ≤ c.loop-k.k) c.deps-dep-items.ensures.deps c.loop-k-test.false in
    none_exactly c.args.schema.now c.args.other.now c.loop-k.numbers.items
    (differences_done c.args.schema.now c.args.other.now c.loop-k.k c.loop-k.numbers.items seen c.loop-k.invariant)

pub returns-clause-inside : goal.returns-clause-inside
returns-clause-inside c =
    let seen : length (deps_of c.args.schema.now) ≤ c.loop-k.k =
    subst (λ (ds : List Dep). length ds ≤ c.loop-k.k) c.deps-dep-items.ensures.deps c.loop-k-test.false in
    differences_inside c.args.schema.now c.args.other.now c.loop-k.numbers.items
    (differences_done c.args.schema.now c.args.other.now c.loop-k.k c.loop-k.numbers.items seen c.loop-k.invariant)
