-- What is left to prove of `kept_rows`: that the invariant of its loop holds at first and stays, and what
-- `remove_outside` requires, by `KeptLemmas`.
use Rattle.std.proofs.Common.{◌≡◌, ◌<◌, ◌+◌, ◌&&◌, ◌++◌, true, ℕ, List, [], ◌∷◌, length, get_or, take, take_all, replicate, sym, ap, subst, ◌∙◌, arith}
use Rattle.std.proofs.lemmas.List.{map-append, take_more}
use Rattle.attr_sets.specs.Attributes.{below}
use Rattle.attr_sets.specs.Sets.{attributes}
use Rattle.row_groups.specs.Interning.{groups_of}
use Rattle.dep_model.specs.declared.dep.Dep.{Dep}
use Rattle.dep_model.specs.declared.dep.Dep.TheVariants.{Fd, Mvd}
use Rattle.dep_model.specs.Dependencies.{Dependency}
use Rattle.dep_model.specs.Deps.{IsDepWithin, dependencies_of, dependency_of}
use Rattle.legality.specs.Parts.{flag_at}
use Rattle.removal_laws.specs.Classes.{in_chosen}
use Rattle.row_measures.specs.Answers.{AreKeptFlags}
use Rattle.row_measures.specs.ByClass.{classes_of}
use Rattle.row_measures.proofs.KeptLemmas.{all_kept, kept_beside, kept_by_classes}
use Rattle.row_measures.proofs.SortedLemmas.{even, groups_below}
use Rattle.row_measures.proofs.keeping.kept_rows.Goals as goal
use Rattle.row_measures.proofs.keeping.kept_rows.Goals.{in-Fd+in_ok-sorted-in-Fd, in-Mvd}

abbrev nothing : Dep
nothing = Fd (record { 0 = 0 }) (record { 0 = 0 })

pub loop-dep-init : goal.loop-dep-init
loop-dep-init c = record {
  kept = all_kept c.args.rows.now c.in_ok-kept.kept.items (c.in_ok-kept.ensures.set ∙ ap (λ (n : ℕ). replicate n true) c.len.ensures.count);
}

-- one dependency more
next_one : (deps : List Dep) (i : ℕ) (dep d : Dep) → i < length deps → get_or deps i d ≡ dep
    → dependencies_of (take i deps) ++ dependency_of dep ∷ [] ≡ dependencies_of (take (i + 1) deps)
next_one deps i dep d low is =
    sym (ap dependencies_of (take_more deps i d low) ∙ map-append dependency_of (take i deps) (get_or deps i d ∷ [])
    ∙ ap (λ (e : Dep). dependencies_of (take i deps) ++ dependency_of e ∷ []) is)

pub sort_by_class-requires-clause-lhs : goal.sort_by_class-requires-clause-lhs
sort_by_class-requires-clause-lhs c =
    (subst (IsDepWithin (below c.args.width)) c.in-Fd.is (c.requires.deps c.loop-dep.dep-index nothing c.loop-dep-test.true)).0

pub sort_by_class-requires-clause-rhs : goal.sort_by_class-requires-clause-rhs
sort_by_class-requires-clause-rhs c =
    (subst (IsDepWithin (below c.args.width)) c.in-Fd.is (c.requires.deps c.loop-dep.dep-index nothing c.loop-dep-test.true)).1

pub remove_outside-requires-clause-kept : goal.remove_outside-requires-clause-kept
remove_outside-requires-clause-kept c =
    c.loop-dep.invariant.kept.one_each ∙ sym c.in_ok-sorted-in-Fd.ensures.sorted.by_left.one_each ∙ sym (ap length c.numbers.ensures.numbers)

pub remove_outside-requires-clause-same_length : goal.remove_outside-requires-clause-same_length
remove_outside-requires-clause-same_length c =
    even _ _ _ _ _ _ c.in_ok-sorted-in-Fd.ensures.sorted c.numbers-in-Fd.ensures.numbers c.numbers.ensures.numbers

pub remove_outside-requires-clause-groups : goal.remove_outside-requires-clause-groups
remove_outside-requires-clause-groups c =
    let are = c.in_ok-sorted-in-Fd.ensures.sorted in
    groups_below _ _ _ _ _ are.group_rows are.largest.one_each c.numbers.ensures.numbers c.deref.ensures.value

pub loop-dep-preserved : goal.loop-dep-preserved
loop-dep-preserved c =
    let i : ℕ = c.loop-dep.dep-index in
    let deps : List Dep = c.args.deps.now in
    let low : i < length deps = c.loop-dep-test.true in
    let before : AreKeptFlags (dependencies_of (take i deps)) c.args.rows.now c.loop-dep.kept.items = c.loop-dep.invariant.kept in
    elim c.match-dep.branch [
      | in-Fd+in_ok-sorted-in-Fd w ↦
          let are = w.in_ok-sorted-in-Fd.ensures.sorted in
          let out = w.remove_outside.ensures in
          record {
            kept = rw w.kept-is
                (subst (λ (ds : List Dependency). AreKeptFlags ds c.args.rows.now w.remove_outside.new.kept.items) (next_one deps i (Fd w.in-Fd.lhs w.in-Fd.rhs) nothing low w.in-Fd.is)
                (kept_by_classes (dependencies_of (take i deps)) c.args.rows.now c.loop-dep.kept.items w.remove_outside.new.kept.items
                (attributes w.in-Fd.lhs) (attributes w.in-Fd.rhs) (classes_of are) before out.count
                (λ k k_in.
                out.kept k (omega (arith, k_in, are.by_left.one_each, ap length w.numbers.ensures.numbers))
                ∙ ap (λ (l : List ℕ). flag_at c.loop-dep.kept.items k && in_chosen l w.numbers-in-Fd.result.now w.deref.result.now k) w.numbers.ensures.numbers
                ∙ ap (λ (l : List ℕ). flag_at c.loop-dep.kept.items k && in_chosen (groups_of w.in_ok-sorted-in-Fd.sorted.groups) l w.deref.result.now k) w.numbers-in-Fd.ensures.numbers
                ∙ ap (λ (l : List ℕ). flag_at c.loop-dep.kept.items k && in_chosen (groups_of w.in_ok-sorted-in-Fd.sorted.groups) (groups_of w.in_ok-sorted-in-Fd.sorted.classes) l k) w.deref.ensures.value)));
          }
      | in-Mvd w ↦ record {
        kept = rw w.kept-is
            (subst (λ (ds : List Dependency). AreKeptFlags ds c.args.rows.now c.loop-dep.kept.items) (next_one deps i (Mvd w.in-Mvd.lhs w.in-Mvd.rhs) nothing low w.in-Mvd.is)
            (kept_beside (dependencies_of (take i deps)) c.args.rows.now c.loop-dep.kept.items (attributes w.in-Mvd.lhs) (attributes w.in-Mvd.rhs) before));
      }
    ]

pub returns : goal.returns
returns c = record {
  kept = subst (λ (ds : List Dep). AreKeptFlags (dependencies_of ds) c.args.rows.now c.loop-dep.kept.items)
      (take_all c.loop-dep.dep-index c.args.deps.now c.loop-dep-test.false) c.loop-dep.invariant.kept;
}
