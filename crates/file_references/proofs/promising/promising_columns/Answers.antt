-- What is left to prove of `promising_columns`: that a round of its loop keeps the invariant.
use Rattle.std.proofs.Common.{◌≡◌, ℕ, true, true≢false, Some, map, ap, sym, subst, ◌∙◌}
use Rattle.attr_sets.specs.Attributes.{Attributes}
use Rattle.attr_sets.specs.Sets.{attributes}
use Rattle.attr_sets.specs.declared.set.AttrSet.{AttrSet}
use Rattle.headed_rows.specs.Headings.{headed_of}
use Rattle.schema_model.specs.Schemas.{attribute_named}
use Rattle.file_references.specs.Columns.{file_at, name_at}
use Rattle.file_references.specs.Finds.{MayRefer}
use Rattle.file_references.proofs.SetLemmas.{left_in, left_out}
use Rattle.file_references.proofs.promising.promising_columns.Goals as goal
use Rattle.file_references.proofs.promising.promising_columns.Goals.{then-contains+in_ok-may_be_referred_to+then-not-branch, then-contains+in_ok-may_be_referred_to+else-not-branch, else-contains}

pub loop-column-preserved : goal.loop-column-preserved
loop-column-preserved c =
    let files = map headed_of c.args.files.now in
    let target = c.args.target in
    let column = c.loop-column.column in
    let before = attributes c.loop-column.promising in
    record {
      within = λ k h. elim c.if-contains.branch [
        | then-contains+in_ok-may_be_referred_to+then-not-branch w ↦
            c.loop-column.invariant.within k (left_out before column k
            (subst (λ (x : Attributes). x k ≡ true) (ap attributes w.promising-is ∙ w.without-promising.ensures.members) h)).0
        | then-contains+in_ok-may_be_referred_to+else-not-branch w ↦
            c.loop-column.invariant.within k (subst (λ (s : AttrSet). attributes s k ≡ true) w.promising-is h)
        | else-contains w ↦ c.loop-column.invariant.within k (subst (λ (s : AttrSet). attributes s k ≡ true) w.promising-is h)
      ];
      promising = λ file k x inside other shared named may.
          let kept = c.loop-column.invariant.promising file k x inside other shared named may in
          elim c.if-contains.branch [
            | then-contains+in_ok-may_be_referred_to+then-not-branch w ↦
                subst (λ (y : Attributes). y k ≡ true) (sym (ap attributes w.promising-is ∙ w.without-promising.ensures.members))
                (left_in before column k kept (λ (same : k ≡ column). true≢false
                (sym (w.in_ok-may_be_referred_to.ensures.may file x inside other
                (subst (λ (j : ℕ). attribute_named (file_at files file).names (name_at (file_at files target).names j) ≡ Some x) same named)
                (subst (MayRefer (file_at files file).rows x (file_at files target).rows) same may)) ∙ w.if-not-branch.true)))
            | then-contains+in_ok-may_be_referred_to+else-not-branch w ↦
                subst (λ (s : AttrSet). attributes s k ≡ true) (sym w.promising-is) kept
            | else-contains w ↦ subst (λ (s : AttrSet). attributes s k ≡ true) (sym w.promising-is) kept
          ];
    }
