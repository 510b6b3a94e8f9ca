-- What is left to prove of `namesakes`: what `unreachable` requires and that a round of its loop
-- keeps the invariant, by `CarryLemmas` and `NameLemmas`.
use Rattle.std.proofs.Common.{ℕ, ◌+◌, ◌<◌, List, sym, ◌∙◌, subst, arith}
use Rattle.schema_model.specs.Schemas.{width_of}
use Rattle.schema_match.proofs.NameLemmas.{attribute_named-name, not_declared}
use Rattle.schema_match.proofs.CarryLemmas.{AreNamesakesTo, namesakes_more}
use Rattle.schema_match.proofs.naming.namesakes.Goals as goal

pub unreachable-requires : goal.unreachable-requires
unreachable-requires c =
    let s = c.args.schema.now in
    let o = c.args.other.now in
    let a = c.loop-a.a in
    let inside : a < width_of s = omega (arith, c.loop-a-test.true, c.width-a-end.ensures.count) in
    let lookup = attribute_named-name s o a c.name.result.now c.bytes.result.now c.attribute_named.result c.name.ensures.name
    c.bytes.ensures.value c.attribute_named.ensures.attribute in
    not_declared s o a c.requires.declared inside (lookup ∙ c.in-None.is)

pub loop-a-preserved : goal.loop-a-preserved
loop-a-preserved c =
    let s = c.args.schema.now in
    let o = c.args.other.now in
    let a = c.loop-a.a in
    let lookup = attribute_named-name s o a c.name.result.now c.bytes.result.now c.attribute_named.result c.name.ensures.name
    c.bytes.ensures.value c.attribute_named.ensures.attribute in
    subst (λ (attributes : List ℕ). AreNamesakesTo s o (a + 1) attributes) (sym c.in_ok-push-in-Some.ensures.items)
    (namesakes_more s o a c.loop-a.attributes.items c.in-Some.b c.loop-a.invariant (lookup ∙ c.in-Some.is))
