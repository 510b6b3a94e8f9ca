-- What is left to prove of `holds_with_less`: its clause `holds`, and that its loop keeps the invariant.
use Rattle.std.proofs.Common.{◌≡◌, ◌<◌, ℕ, inl, inr, refl, sym, ap, subst, ◌∙◌, arith}
use Rattle.std.proofs.lemmas.Bool.{cases_lt, false≢true, ltb-true}
use Rattle.attr_sets.specs.Sets.{attributes}
use Rattle.mvd_laws.specs.Reduced.{HoldsWithLess}
use Rattle.mvd_discovery.proofs.reduced.holds_with_less.Goals as goal
use Rattle.mvd_discovery.proofs.reduced.holds_with_less.Goals.{else-contains-via-then-contains+else-holds_without, else-contains-via-else-contains}

pub returns-then-holds_without : goal.returns-then-holds_without
returns-then-holds_without c = record {
  holds = λ r are. (
    (λ t. (c.loop-attribute.attribute, (sym c.contains.ensures.member ∙ c.if-contains.true, (c.holds_without.ensures.holds r are).0 c.if-holds_without.true))),
    (λ found. refl),
  );
}

pub loop-attribute-preserved : goal.loop-attribute-preserved
loop-attribute-preserved c =
    let x = attributes c.args.left in
    let i : ℕ = c.loop-attribute.attribute in
    record {
      none = λ r are a low holds. elim (cases_lt a i) [
        | inl before ↦ c.loop-attribute.invariant.none r are a before holds
        | inr last ↦
            let at : a ≡ i = omega (arith, low, last) in
            let here = subst (λ (j : ℕ). HoldsWithLess c.args.counts.now.width r x (attributes c.args.right) j) at holds in
            elim c.else-contains.branch [
              | else-contains-via-then-contains+else-holds_without w ↦
                  false≢true (sym w.if-holds_without.false ∙ (w.holds_without.ensures.holds r are).1 here.1)
              | else-contains-via-else-contains w ↦ false≢true (sym w.if-contains.false ∙ c.contains.ensures.member ∙ here.0)
            ]
      ];
    }

pub returns : goal.returns
returns c = record {
  holds = λ r are. (
    (λ t. absurd (false≢true t)),
    (λ found.
        let low : found.0 < c.args.counts.now.width = ltb-true found.0 c.args.counts.now.width (c.requires.left found.0 found.1.0) in
        absurd (c.loop-attribute.invariant.none r are found.0 (omega (arith, low, c.loop-attribute-test.false)) found.1)),
  );
}
