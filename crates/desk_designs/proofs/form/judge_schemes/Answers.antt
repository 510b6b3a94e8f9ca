-- What is left to prove of `judge_schemes`: its clause `response` and that a round of its loop
-- keeps the invariant, by `first_failing`.
use Rattle.std.proofs.Common.{◌≡◌, inl, inr, get_or, take_all, ap, ◌∙◌, subst, arith}
use Rattle.std.proofs.lemmas.List.{length-take, get_or-take}
use Rattle.std.proofs.lemmas.List.Elements.{All-more, All-map}
use Rattle.std.specs.Prelude.{All}
use Rattle.attr_sets.specs.declared.set.AttrSet.{AttrSet}
use Rattle.attr_sets.specs.Sets.{attributes}
use Rattle.desk_designs.specs.NormalForms.{PassesForm}
use Rattle.desk_responses.proofs.FormLemmas.{first_failing}
use Rattle.desk_designs.proofs.form.judge_schemes.Goals as goal

abbrev nothing : AttrSet
nothing = record { 0 = 0 }

pub loop-i-preserved : goal.loop-i-preserved
loop-i-preserved c = record {
  passed = All-more (λ (scheme : AttrSet). PassesForm c.args.schema.now c.args.form (attributes scheme)) c.args.schemes.now c.loop-i.i nothing
      c.loop-i-test.true c.loop-i.invariant.passed c.in-Ok.ensures.passes;
}

-- a scheme passes where one before it does that is equal
pub loop-i-preserved-then-stands_before : goal.loop-i-preserved-then-stands_before
loop-i-preserved-then-stands_before c =
    let schemes = c.args.schemes.now in
    let i = c.loop-i.i in
    let P = PassesForm c.args.schema.now c.args.form in
    let one = c.stands_before.ensures.earlier c.if-stands_before.true in
    let same : attributes (get_or schemes one.0 nothing) ≡ attributes (get_or schemes i nothing) = one.2 nothing in
    let passed = c.loop-i.invariant.passed one.0 nothing (omega (arith, one.1, length-take i schemes, c.loop-i-test.true)) in
    record {
      passed = All-more (λ (scheme : AttrSet). P (attributes scheme)) schemes i nothing c.loop-i-test.true c.loop-i.invariant.passed
          (subst P (ap attributes (get_or-take i schemes one.0 nothing one.1) ∙ same) passed);
    }

pub returns-in-Err : goal.returns-in-Err
returns-in-Err c = record {
  response = λ response is. inr (
    attributes (get_or c.args.schemes.now c.loop-i.i nothing),
    first_failing (PassesForm c.args.schema.now c.args.form) c.args.schemes.now c.loop-i.i nothing c.loop-i-test.true c.loop-i.invariant.passed,
    c.in-Err.ensures.ends response is,
  );
}

pub returns : goal.returns
returns c =
    let all : All (λ scheme. PassesForm c.args.schema.now c.args.form (attributes scheme)) c.args.schemes.now =
    (rw (take_all c.loop-i.i c.args.schemes.now c.loop-i-test.false) at c.loop-i.invariant.passed) in
    record { response = inl (All-map (PassesForm c.args.schema.now c.args.form) attributes c.args.schemes.now all, c.in_ok-in_form_response.ensures.says) }
