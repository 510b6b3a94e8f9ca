-- What is left to prove of `needed_links`: that a round of its loop keeps the invariant, and that all links
-- that are kept are needed.
use Rattle.std.proofs.Common.{◌≡◌, ◌<◌, ◌+◌, ◌-◌, ◌∙◌, ap, sym, subst, arith, add-one, List, [], ◌∷◌, ◌++◌, length, get_or, take, take_all, drop, drop-cons, length-drop, append-nil, length-append}
use Rattle.std.specs.Prelude.{All}
use Rattle.std.proofs.lemmas.Bool.{false≢true}
use Rattle.std.proofs.lemmas.List.{drop_all}
use Rattle.std.proofs.lemmas.List.Elements.{All-push}
use Rattle.dep_model.specs.Deps.{dependency_of}
use Rattle.dep_model.specs.Implication.{Implies}
use Rattle.dep_model.specs.Theories.{width_of}
use Rattle.short_derivations.specs.declared.links.Link.{Link}
use Rattle.short_derivations.specs.Links.{IsLinkOf, IsNeeded, said_by}
use Rattle.short_derivations.proofs.NeededLemmas.{left_out, kept_more, kept_all}
use Rattle.short_derivations.proofs.needing.needed_links.Goals.{then-not-branch+in_ok-push, else-not-branch}
use Rattle.short_derivations.proofs.needing.needed_links.Goals as goal

pub loop-k-preserved : goal.loop-k-preserved
loop-k-preserved c =
    let s = c.args.theory.now in
    let n = width_of s in
    let goal_dep = dependency_of c.args.goal in
    let links = c.args.links.now in
    let k = c.loop-k.k in
    let kept = c.loop-k.kept.items in
    let first : Link = record { position = 0; lhs = record { 0 = 0 }; rhs = record { 0 = 0 } } in
    let l = get_or links k first in
    let rest = drop (k + 1) links in
    let before = c.loop-k.invariant in
    let low : k < length links = c.loop-k-test.true in
    let cut : drop k links ≡ l ∷ rest = rw add-one (drop-cons links k first low) in
    let sliced : take (length links - (k + 1)) rest ≡ rest = take_all (length links - (k + 1)) rest (omega (arith, length-drop (k + 1) links)) in
    let tested = rw (c.deref.ensures.value, sliced) at c.in_ok-follows_without.ensures.implied in
    let needed : All (IsNeeded n goal_dep (said_by (kept ++ l ∷ rest))) (said_by kept) =
    subst (λ (ds : List Link). All (IsNeeded n goal_dep (said_by (kept ++ ds))) (said_by kept)) cut before.needed in
    elim c.if-not-branch.branch [
      | then-not-branch+in_ok-push w ↦
          let items : c.if-not-branch.kept.items ≡ kept ++ l ∷ [] = ap (λ v. v.items) w.kept-is ∙ w.in_ok-push.ensures.items in
          rw items (record {
            implied = subst (λ (ds : List Link). Implies n (said_by ds) goal_dep) (ap (λ (ds : List Link). kept ++ ds) cut ∙ sym (kept_more kept rest l)) before.implied;
            needed = kept_all n goal_dep kept rest l needed (λ implied. false≢true (sym w.if-not-branch.true ∙ tested.1 implied));
            are = All-push (IsLinkOf s) kept l before.are (c.requires.links k first low);
            shorter = omega (arith, before.shorter, length-append kept (l ∷ []));
          })
      | else-not-branch w ↦
          let items : c.if-not-branch.kept.items ≡ kept = ap (λ v. v.items) w.kept-is in
          rw items (record {
            implied = tested.0 w.if-not-branch.false;
            needed = left_out n goal_dep kept rest l needed;
            are = before.are;
            shorter = omega (arith, before.shorter);
          })
    ]

pub returns-clause-needed : goal.returns-clause-needed
returns-clause-needed c =
    let n = width_of c.args.theory.now in
    let goal_dep = dependency_of c.args.goal in
    let kept = c.loop-k.kept.items in
    let none : kept ++ drop c.loop-k.k c.args.links.now ≡ kept =
    ap (λ (ds : List Link). kept ++ ds) (drop_all c.loop-k.k c.args.links.now c.loop-k-test.false) ∙ append-nil kept in
    subst (λ (ds : List Link). All (IsNeeded n goal_dep (said_by ds)) (said_by kept)) none c.loop-k.invariant.needed
