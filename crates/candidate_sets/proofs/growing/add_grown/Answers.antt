-- What is left to prove of `add_grown`: that the invariant of its loop stays, by `GrowLemmas`.
use Rattle.std.proofs.Common.{◌<◌, ◌^◌, ℕ, List, Vec, Global, sym, ap, subst, ◌∙◌, arith}
use Rattle.std.proofs.lemmas.Bool.{false≢true}
use Rattle.attr_sets.specs.Attributes.{Attributes}
use Rattle.attr_sets.specs.declared.set.AttrSet.{AttrSet}
use Rattle.attr_sets.specs.declared.set.TheConstants.{MOST_ATTRIBUTES}
use Rattle.attr_sets.specs.Sets.{attributes}
use Rattle.candidate_sets.specs.Growing.{HasWithin}
use Rattle.candidate_sets.proofs.GrowLemmas.{adds_one, adds_same}
use Rattle.candidate_sets.proofs.growing.add_grown.Goals as goal
use Rattle.candidate_sets.proofs.growing.add_grown.Goals.{then-contains+then-not-is_any_within+in_ok-push, then-contains+else-not-is_any_within, else-contains}

pub loop-column-preserved : goal.loop-column-preserved
loop-column-preserved c =
    let kept : List AttrSet = c.args.kept.now in
    let columns : Attributes = attributes c.args.columns in
    let k : ℕ = c.loop-column.column in
    let before = c.loop-column.invariant.added in
    elim c.if-contains.branch [
      | then-contains+then-not-is_any_within+in_ok-push w ↦
          let fits : w.with-larger.result.0 < 2 ^ MOST_ATTRIBUTES = omega arith in
          record {
            added = adds_one kept columns c.args.set k c.args.new.now.items c.loop-column.new.items c.if-contains.new.items
                w.with-larger.result c.requires.apart before
                (ap (λ (v : Vec AttrSet Global). v.items) w.new-is ∙ w.in_ok-push.ensures.items)
                (sym c.contains.ensures.member ∙ w.if-contains.true) w.with-larger.ensures.members
                (λ found. false≢true (sym w.if-not-is_any_within.true ∙ w.is_any_within.ensures.within.1 found)) fits;
          }
      | then-contains+else-not-is_any_within w ↦ record {
        added = adds_same kept columns c.args.set k c.args.new.now.items c.loop-column.new.items c.if-contains.new.items
            before (ap (λ (v : Vec AttrSet Global). v.items) w.new-is)
            (λ k_in none. none (subst (λ (x : Attributes). HasWithin kept x) w.with-larger.ensures.members
            (w.is_any_within.ensures.within.0 w.if-not-is_any_within.false)));
      }
      | else-contains w ↦ record {
        added = adds_same kept columns c.args.set k c.args.new.now.items c.loop-column.new.items c.if-contains.new.items
            before (ap (λ (v : Vec AttrSet Global). v.items) w.new-is)
            (λ k_in none. false≢true (sym w.if-contains.false ∙ c.contains.ensures.member ∙ k_in));
      }
    ]
