-- What is left to prove of `Counts::count`: what it requires of what it calls, its clause `counts`, and that a round of
-- its loop keeps the invariant, by `TableLemmas`.
use Rattle.std.proofs.Common.{◌≡◌, ◌+◌, ◌<◌, ◌≤◌, ◌^◌, ◌++◌, ◌∷◌, [], ℕ, length, ap, sym, subst, ◌∙◌, arith}
use Rattle.std.proofs.lemmas.List.{length-append}
use Rattle.attr_sets.specs.Attributes.{Attributes, IsSubset, below}
use Rattle.attr_sets.specs.Sets.{attributes}
use Rattle.row_groups.specs.Interning.{firsts_of, groups_of}
use Rattle.row_groups.specs.Numberings.{AreFirsts, AreGroups}
use Rattle.mvd_discovery.specs.Counting.{set_of}
use Rattle.mvd_discovery.proofs.CountLemmas.{few_sets, more_sets}
use Rattle.mvd_discovery.proofs.NumberLemmas.{within_from_number}
use Rattle.legality.proofs.CountLemmas.{few_firsts}
use Rattle.mvd_discovery.proofs.TableLemmas.{different_rows, sizes_by_groups, sizes_more}
use Rattle.mvd_discovery.proofs.counts.Counts.count.Goals as goal

pub by_agreement-requires-in-loop-number : goal.by_agreement-requires-in-loop-number
by_agreement-requires-in-loop-number c =
    let few : 2 ^ c.args.width ≤ 2 ^ 10 = more_sets c.args.width 10 c.requires.width in
    let low : c.loop-number.number < 2 ^ c.args.width = omega (arith, c.loop-number-test.true, few) in
    record {
      within = subst (λ (m : ℕ). IsSubset (attributes (set_of c.loop-number.number)) (below m)) (sym c.in_ok-codes.ensures.codes.width)
          (within_from_number c.args.width (set_of c.loop-number.number) (omega (arith, c.requires.width)) (few_sets c.args.width c.requires.width) low);
    }

pub sizes_by-requires-clause-same_length : goal.sizes_by-requires-clause-same_length
sizes_by-requires-clause-same_length c =
    let all : AreGroups c.args.rows.now (below c.args.width) (groups_of c.in_ok-different.different) =
    subst (λ (x : Attributes). AreGroups c.args.rows.now x (groups_of c.in_ok-different.different)) c.full.ensures.members
    (c.in_ok-different.ensures.groups c.args.width c.args.rows.now c.in_ok-codes.ensures.codes) in
    let here : AreGroups c.args.rows.now (attributes (set_of c.loop-number.number)) (groups_of c.in_ok-groups.groups) =
    c.in_ok-groups.ensures.groups c.args.width c.args.rows.now c.in_ok-codes.ensures.codes in
    here.one_each ∙ sym all.one_each

pub sizes_by-requires-clause-groups : goal.sizes_by-requires-clause-groups
sizes_by-requires-clause-groups c = c.in_ok-groups.ensures.firsts c.args.width c.args.rows.now c.in_ok-codes.ensures.codes

pub sizes_by-requires-clause-different : goal.sizes_by-requires-clause-different
sizes_by-requires-clause-different c = c.in_ok-different.ensures.firsts c.args.width c.args.rows.now c.in_ok-codes.ensures.codes

pub sizes_by-requires-clause-fits_u32 : goal.sizes_by-requires-clause-fits_u32
sizes_by-requires-clause-fits_u32 c =
    let all : AreGroups c.args.rows.now (below c.args.width) (groups_of c.in_ok-different.different) =
    subst (λ (x : Attributes). AreGroups c.args.rows.now x (groups_of c.in_ok-different.different)) c.full.ensures.members
    (c.in_ok-different.ensures.groups c.args.width c.args.rows.now c.in_ok-codes.ensures.codes) in
    let first : AreFirsts (groups_of c.in_ok-different.different) (firsts_of c.in_ok-different.different) =
    c.in_ok-different.ensures.firsts c.args.width c.args.rows.now c.in_ok-codes.ensures.codes in
    omega (arith, few_firsts _ _ first, all.one_each, c.requires.fits_u32)

pub loop-number-preserved : goal.loop-number-preserved
loop-number-preserved c =
    let old = c.loop-number.invariant in
    let all : AreGroups c.args.rows.now (below c.args.width) (groups_of c.in_ok-different.different) =
    subst (λ (x : Attributes). AreGroups c.args.rows.now x (groups_of c.in_ok-different.different)) c.full.ensures.members
    (c.in_ok-different.ensures.groups c.args.width c.args.rows.now c.in_ok-codes.ensures.codes) in
    let first : AreFirsts (groups_of c.in_ok-different.different) (firsts_of c.in_ok-different.different) =
    c.in_ok-different.ensures.firsts c.args.width c.args.rows.now c.in_ok-codes.ensures.codes in
    let here : AreGroups c.args.rows.now (attributes (set_of c.loop-number.number)) (groups_of c.in_ok-groups.groups) =
    c.in_ok-groups.ensures.groups c.args.width c.args.rows.now c.in_ok-codes.ensures.codes in
    let each = c.in_ok-each.each.items in
    let pushed : c.push.new.self.items ≡ c.loop-number.by_set.items ++ each ∷ [] = c.in_ok-push.ensures.items in
    record {
      all = ap length pushed ∙ length-append c.loop-number.by_set.items (each ∷ []) ∙ ap (λ (m : ℕ). m + 1) old.all;
      sizes = sizes_more c.args.rows.now (firsts_of c.in_ok-different.different) c.loop-number.by_set.items c.push.new.self.items each c.loop-number.number
          old.all pushed old.sizes
          (sizes_by_groups c.args.rows.now (attributes (set_of c.loop-number.number)) (groups_of c.in_ok-groups.groups) (firsts_of c.in_ok-different.different)
          each here (λ j low. omega (arith, first.within j low, all.one_each)) c.in_ok-each.ensures.sizes);
    }

pub returns-clause-counts : goal.returns-clause-counts
returns-clause-counts c =
    let all : AreGroups c.args.rows.now (below c.args.width) (groups_of c.in_ok-different.different) =
    subst (λ (x : Attributes). AreGroups c.args.rows.now x (groups_of c.in_ok-different.different)) c.full.ensures.members
    (c.in_ok-different.ensures.groups c.args.width c.args.rows.now c.in_ok-codes.ensures.codes) in
    let first : AreFirsts (groups_of c.in_ok-different.different) (firsts_of c.in_ok-different.different) =
    c.in_ok-different.ensures.firsts c.args.width c.args.rows.now c.in_ok-codes.ensures.codes in
    let few : 2 ^ c.args.width ≤ 2 ^ 10 = more_sets c.args.width 10 c.requires.width in
    let end : c.loop-number.number ≡ 2 ^ c.args.width = omega (arith, c.loop-number-test.false, c.loop-number.auto.number-end, few) in
    record {
      narrow = c.requires.width;
      all = c.loop-number.invariant.all ∙ end;
      ones = firsts_of c.in_ok-different.different;
      different = different_rows c.args.width c.args.rows.now (groups_of c.in_ok-different.different) (firsts_of c.in_ok-different.different)
          all first;
      sizes = λ k low. c.loop-number.invariant.sizes k (omega (arith, low, end));
    }
