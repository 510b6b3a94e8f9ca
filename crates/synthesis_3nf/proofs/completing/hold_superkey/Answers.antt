-- What is left to prove of `hold_superkey`: its clause `superkey` and that the invariant of its
-- loop holds at first and stays, by `none_more`.
use Rattle.std.proofs.Common.{List, take_all, sym, subst, ◌∙◌, arith}
use Rattle.std.proofs.lemmas.Bool.{false≢true}
use Rattle.attr_sets.specs.declared.set.AttrSet.{AttrSet}
use Rattle.attr_sets.specs.Attributes.{Attributes, below}
use Rattle.dep_model.specs.Dependencies.{functional_part}
use Rattle.dep_model.specs.Keys.{IsSuperkey}
use Rattle.dep_model.specs.Plans.{schemes_of}
use Rattle.dep_model.specs.Theories.{width_of, theory_of}
use Rattle.synthesis_3nf.specs.GroupedPlans.{HoldSuperkey}
use Rattle.synthesis_3nf.proofs.LoopLemmas.{none_more}
use Rattle.synthesis_3nf.proofs.completing.hold_superkey.Goals as goal

pub loop-scheme-init : goal.loop-scheme-init
loop-scheme-init c found = absurd (omega (arith, found.2))

pub loop-scheme-preserved : goal.loop-scheme-preserved
loop-scheme-preserved c =
    let s = c.args.theory.now in
    let n = width_of s in
    let first : AttrSet = record { 0 = 0 } in
    none_more (λ (x : Attributes). IsSuperkey n (functional_part (theory_of s)) (below n) x) c.args.schemes.now c.loop-scheme.scheme-index first c.loop-scheme-test.true c.loop-scheme.invariant
    (λ is. false≢true (sym c.if-is_superkey.false ∙ c.is_superkey.ensures.superkey.1 is))

pub returns : goal.returns
returns c =
    let s = c.args.theory.now in
    record {
      superkey = (
        λ fact. absurd (false≢true fact),
        λ found. absurd (c.loop-scheme.invariant (subst (λ (xs : List AttrSet). HoldSuperkey (width_of s) (theory_of s) (schemes_of xs)) (sym (take_all c.loop-scheme.scheme-index c.args.schemes.now c.loop-scheme-test.false)) found)),
      );
    }
