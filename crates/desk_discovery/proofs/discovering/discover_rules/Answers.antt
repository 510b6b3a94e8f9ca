-- What is left to prove of `discover_rules`: what `rules_response` requires, and its clause `response` where rules are
-- found.
use Rattle.std.proofs.Common.{◌≡◌, ℕ, List, length, inl, sym, subst, arith}
use Rattle.std.specs.Prelude.{All}
use Rattle.attr_sets.specs.Attributes.{below}
use Rattle.dep_model.specs.Deps.{dependencies_of, IsDepWithin}
use Rattle.dep_model.specs.declared.dep.Dep.{Dep}
use Rattle.desk_responses.specs.ResponseValues.{Says}
use Rattle.desk_responses.specs.Responses.{response_value}
use Rattle.desk_responses.specs.declared.status.Status.TheVariants.{Yes}
use Rattle.desk_discovery.specs.Discoveries.{AreRulesOf, found_text}
use Rattle.desk_discovery.proofs.discovering.discover_rules.Goals as goal

pub rules_response-requires-clause-within : goal.rules_response-requires-clause-within
rules_response-requires-clause-within c =
    let width : c.len.result ≡ length c.args.headed.names.items = omega (arith, c.len.ensures, c.args.headed.names.ok) in
    subst (λ (ds : List Dep). All (IsDepWithin (below (length c.args.headed.names.items))) ds) (sym c.deref.ensures.value)
    (subst (λ (n : ℕ). All (IsDepWithin (below n)) c.in-Ok.deps.items) width c.in-Ok.ensures.within)

pub returns-in-Ok : goal.returns-in-Ok
returns-in-Ok c =
    let h = c.args.headed in
    let ds = dependencies_of c.in-Ok.deps.items in
    let width : c.len.result ≡ length h.names.items = omega (arith, c.len.ensures, c.args.headed.names.ok) in
    let rules : AreRulesOf c.len.result h.rows ds =
    record { minimal = c.in-Ok.ensures.minimal; implied = c.in-Ok.ensures.implied } in
    let response = response_value c.in_ok-rules_response-in-Ok.field-0 in
    record {
      response = inl (
        ds,
        subst (λ (n : ℕ). AreRulesOf n h.rows ds) width rules,
        subst (λ (deps : List Dep). Says Yes (found_text h.names.items (dependencies_of deps)) response)
            c.deref.ensures.value c.in_ok-rules_response-in-Ok.ensures.says,
      );
    }
