-- What is left to prove of `is_key`: what it answers, and that a round of its loop keeps the invariant.
use Rattle.std.proofs.Common.{◌≡◌, ℕ, true, refl, sym, ap, subst, ◌∙◌, inl, inr, arith}
use Rattle.std.proofs.lemmas.Bool.{true≢false, false≢true, cases_Bool, cases_eq, ltb-true}
use Rattle.std.proofs.lemmas.Bool.Decides.{nat_tests}
use Rattle.attr_sets.specs.Attributes.{only, difference, IsSubset}
use Rattle.attr_sets.specs.Sets.{attributes}
use Rattle.attr_sets.specs.declared.set.TheConstants.{MOST_ATTRIBUTES}
use Rattle.attr_sets.proofs.AttributesLemmas.{attributes_below, same_at}
use Rattle.dep_model.specs.Keys.{IsSuperkey}
use Rattle.dep_model.specs.Theories.{width_of}
use Rattle.dep_model.proofs.KeyLemmas.{superkey_more}
use Rattle.which_form.specs.KeyRanges.{functional_of}
use Rattle.which_form.proofs.keys.is_key.Goals as goal

pub loop-i-preserved : goal.loop-i-preserved
loop-i-preserved c a less member spare =
    let s = c.args.theory.now in
    elim (cases_eq a c.loop-i.i) [
      | inl same ↦ false≢true (sym c.if-is_spare.false ∙ c.is_spare.ensures.spare.1 (
        ap (attributes c.difference-tried.result) (sym same) ∙ member,
        subst (λ (i : ℕ). IsSuperkey (width_of s) (functional_of s) (attributes c.args.range.scheme) (difference (attributes c.args.set) (only i))) same spare,
      ))
      | inr other ↦ c.loop-i.invariant a (omega (arith, less, other)) member spare
    ]

pub returns-then-is_spare : goal.returns-then-is_spare
returns-then-is_spare c =
    let i = c.loop-i.i in
    let set = attributes c.args.set in
    let spare = c.is_spare.ensures.spare.0 c.if-is_spare.true in
    let there : difference set (attributes c.args.range.least) i ≡ true = sym (same_at c.difference-tried.ensures.members i) ∙ spare.0 in
    record {
      key = (
        (λ e. absurd (false≢true e)),
        (λ key. absurd (true≢false (sym (key.minimal (difference set (only i)) (λ k m. grind (arith, m)) spare.1 i (grind (arith, there))) ∙ grind (arith, nat_tests)))),
      );
    }

pub returns : goal.returns
returns c =
    let s = c.args.theory.now in
    let n = width_of s in
    let fs = functional_of s in
    let scheme = attributes c.args.range.scheme in
    let set = attributes c.args.set in
    let least = attributes c.args.range.least in
    record {
      key = (
        (λ _. record {
          superkey = c.requires.superkey;
          minimal = λ j inside superkey a member. elim (cases_Bool (j a)) [
            | inl there ↦ there
            | inr out ↦ elim (cases_Bool (least a)) [
              | inl needed ↦ c.requires.range.in_superkeys j superkey a needed
              | inr varying ↦
                  let tried : attributes c.difference-tried.result a ≡ true = same_at c.difference-tried.ensures.members a ∙ grind (arith, member, varying) in
                  let beside : IsSubset j (difference set (only a)) = λ k m. elim (cases_eq k a) [
                    | inl same ↦ absurd (true≢false (sym m ∙ ap j same ∙ out))
                    | inr other ↦ let there = inside k m in grind (arith, nat_tests, there, other)
                  ] in
                  let more = superkey_more n fs scheme j (difference set (only a)) beside (λ k m. c.requires.superkey.within.0 k (grind (arith, m))) superkey in
                  absurd (c.loop-i.invariant a (omega (arith, c.loop-i-test.false, ltb-true a MOST_ATTRIBUTES (attributes_below c.args.set a member))) tried more)
            ]
          ];
        }),
        (λ _. refl),
      );
    }
