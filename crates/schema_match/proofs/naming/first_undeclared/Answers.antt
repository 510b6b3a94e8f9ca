-- What is left to prove of `first_undeclared`: its clauses `none` and `least` and that a round of
-- its loop keeps the invariant, by `attribute_named-name` and `undeclared_is`.
use Rattle.std.proofs.Common.{◌≡◌, ℕ, ◌<◌, true, false, ⊎_elim, sym, ◌∙◌, ap, arith}
use Rattle.std.proofs.lemmas.Bool.{cases_eq, true≢false}
use Rattle.std.specs.Prelude.{is_none}
use Rattle.schema_model.specs.Schemas.{width_of}
use Rattle.schema_match.specs.Columns.{undeclared_attributes}
use Rattle.schema_match.proofs.NameLemmas.{attribute_named-name, undeclared_is}
use Rattle.schema_match.proofs.naming.first_undeclared.Goals as goal
use Rattle.schema_match.proofs.naming.first_undeclared.Goals.{After-is_none}

-- whether the attribute is undeclared is what was looked up
looked_up : (c : After-is_none) → undeclared_attributes c.args.schema.now c.args.other.now c.loop-a.a ≡ is_none c.attribute_named.result
looked_up c =
    let s = c.args.schema.now in
    let o = c.args.other.now in
    let a = c.loop-a.a in
    let inside : a < width_of s = omega (arith, c.loop-a-test.true, c.width-width.ensures.count) in
    undeclared_is s o a c.attribute_named.result inside
    (attribute_named-name s o a c.name.result.now c.bytes.result.now c.attribute_named.result c.name.ensures.name c.bytes.ensures.value c.attribute_named.ensures.attribute)

pub returns-then-is_none-clause-none : goal.returns-then-is_none-clause-none
returns-then-is_none-clause-none c =
    let s = c.args.schema.now in
    let o = c.args.other.now in
    let a = c.loop-a.a in
    let here : undeclared_attributes s o a ≡ true = looked_up (goal.at.returns-then-is_none-clause-none c).After-is_none
    ∙ grind (arith, c.is_none.ensures, c.if-is_none.true) in
    ((λ e. absurd (true≢false e)), (λ declared. absurd (true≢false (sym here ∙ declared a))))

pub returns-then-is_none-clause-least : goal.returns-then-is_none-clause-least
returns-then-is_none-clause-least c =
    let s = c.args.schema.now in
    let o = c.args.other.now in
    let a = c.loop-a.a in
    record {
      from_on = omega arith;
      member = looked_up (goal.at.returns-then-is_none-clause-least c).After-is_none ∙ grind (arith, c.is_none.ensures, c.if-is_none.true);
      least = λ k on lt. c.loop-a.invariant k lt;
    }

pub loop-a-preserved : goal.loop-a-preserved
loop-a-preserved c b lt =
    let s = c.args.schema.now in
    let o = c.args.other.now in
    let a = c.loop-a.a in
    let here : undeclared_attributes s o a ≡ false = looked_up (goal.at.loop-a-preserved c).After-is_none
    ∙ grind (arith, c.is_none.ensures, c.if-is_none.false) in
    ⊎_elim
    (λ (last : b ≡ a). ap (λ (k : ℕ). undeclared_attributes s o k) last ∙ here)
    (λ (earlier : b ≡ a → ⊥). c.loop-a.invariant b (omega (arith, lt, earlier)))
    (cases_eq b a)
