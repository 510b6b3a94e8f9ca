-- What is left to prove of `Interned::intern`: that a round of its loop keeps the invariant and the
-- invariant of its type, by `columns_even` and `one_column_more`.
use Rattle.std.proofs.Common.{All, arith, ◌≡◌, ◌+◌, ◌++◌, ◌∷◌, [], ℕ, List, length, slice_index_or, sym, ap, subst, ◌∙◌}
use Rattle.std.proofs.lemmas.List.{length-append}
use Rattle.attr_sets.specs.Attributes.{only}
use Rattle.row_groups.specs.Numberings.{AreGroups}
use Rattle.row_groups.proofs.NumberingLemmas.{columns_even, one_column_more}
use Rattle.row_groups.proofs.interning.Interned.intern.Goals as goal

pub loop-attribute-preserved : goal.loop-attribute-preserved
loop-attribute-preserved c =
    let old = c.loop-attribute.invariant in
    let pushed : c.push.new.self.items ≡ c.loop-attribute.columns.items ++ c.in_ok-numbers.numbers.items ∷ [] = c.in_ok-push.ensures.items in
    record {
      width = ap length pushed ∙ length-append c.loop-attribute.columns.items (c.in_ok-numbers.numbers.items ∷ []) ∙ ap (λ (m : ℕ). m + 1) old.width;
      codes = λ k l. subst (λ (xs : List (List ℕ)). AreGroups c.args.rows.now (only k) (slice_index_or xs k [])) (sym pushed)
          (one_column_more c.args.rows.now c.loop-attribute.columns.items c.in_ok-numbers.numbers.items c.loop-attribute.attribute old.width old.codes c.in_ok-numbers.ensures.groups k l);
    }

pub invariant_of-result : goal.invariant_of-result
invariant_of-result c = record {
  fits_u32 = omega (arith, c.requires.fits_u32, c.len.ensures.count);
  even = subst (λ (n : ℕ). All (λ (codes : List ℕ). length codes ≡ n) c.loop-attribute.columns.items) (sym c.len.ensures.count)
      (columns_even c.args.rows.now c.loop-attribute.columns.items c.loop-attribute.attribute c.loop-attribute.invariant.width c.loop-attribute.invariant.codes);
}
