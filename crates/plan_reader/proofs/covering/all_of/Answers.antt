-- What is left to prove of `all_of`: its clause `members` and that a round of its loop keeps the
-- invariant.
use Rattle.std.proofs.Common.{◌≡◌, ℕ, ◌||◌, ◌+◌, ◌<◌, Bool, List, length, take, take_all, get_or, sym, ap, ◌∙◌}
use mathlib.Core.Path.{fun_ext}
use Rattle.std.specs.List.{list_any}
use Rattle.std.proofs.lemmas.List.Folds.{list_any_more}
use Rattle.attr_sets.specs.declared.set.AttrSet.{AttrSet}
use Rattle.attr_sets.specs.Attributes.{Attributes}
use Rattle.attr_sets.specs.Sets.{attributes}
use Rattle.dep_model.specs.Plans.{schemes_of}
use Rattle.attr_sets.proofs.AttributesLemmas.{same_at}
use Rattle.plans.proofs.PlanLemmas.{schemes_any}
use Rattle.plan_reader.proofs.covering.all_of.Goals as goal

more : (schemes : List AttrSet) (i : ℕ) (d : AttrSet) (old new : Attributes) → i < length schemes
    → old ≡ (λ k. list_any (λ (scheme : Attributes). scheme k) (schemes_of (take i schemes))) → new ≡ (λ k. old k || attributes (get_or schemes i d) k)
    → new ≡ (λ k. list_any (λ (scheme : Attributes). scheme k) (schemes_of (take (i + 1) schemes)))
more schemes i d old new lt before step = fun_ext (λ k.
    same_at step k
    ∙ ap (λ (b : Bool). b || attributes (get_or schemes i d) k) (same_at before k ∙ schemes_any k (take i schemes))
    ∙ sym (list_any_more (λ (scheme : AttrSet). attributes scheme k) schemes i d lt)
    ∙ sym (schemes_any k (take (i + 1) schemes)))

pub loop-scheme-preserved : goal.loop-scheme-preserved
loop-scheme-preserved c =
    let first : AttrSet = record { 0 = 0 } in
    more c.args.schemes.now c.loop-scheme.scheme-index first (attributes c.loop-scheme.all) (attributes c.union-all.result) c.loop-scheme-test.true c.loop-scheme.invariant c.union-all.ensures.members

pub returns : goal.returns
returns c = record { members = rw (take_all c.loop-scheme.scheme-index c.args.schemes.now c.loop-scheme-test.false) at c.loop-scheme.invariant }
