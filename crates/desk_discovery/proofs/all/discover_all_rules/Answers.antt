-- What is left to prove of `discover_all_rules`: what it requires of what it calls, and its clause `response`.
use Rattle.std.proofs.Common.{◌≡◌, ℕ, List, length, subst, sym, arith}
use Rattle.std.specs.Prelude.{All}
use Rattle.attr_sets.specs.Attributes.{below}
use Rattle.dep_model.specs.Deps.{dependencies_of, IsDepWithin}
use Rattle.dep_model.specs.declared.dep.Dep.{Dep}
use Rattle.desk_responses.specs.ResponseValues.{ResponseValue, Says}
use Rattle.desk_responses.specs.declared.status.Status.TheVariants.{Yes}
use Rattle.desk_discovery.specs.AllDiscoveries.{AreAllRulesOf}
use Rattle.desk_discovery.specs.Discoveries.{found_text}
use Rattle.desk_discovery.proofs.all.discover_all_rules.Goals as goal

pub rules_response-requires-clause-header : goal.rules_response-requires-clause-header
rules_response-requires-clause-header c = record {
  within_limit = omega (arith, c.requires.header.within_limit);
  named = c.requires.header.named;
}

pub rules_response-requires-clause-within : goal.rules_response-requires-clause-within
rules_response-requires-clause-within c =
    let width : c.len.result ≡ length c.args.headed.names.items = omega (arith, c.len.ensures, c.args.headed.names.ok) in
    subst (λ (ds : List Dep). All (IsDepWithin (below (length c.args.headed.names.items))) ds) (sym c.deref.ensures.value)
    (subst (λ (n : ℕ). All (IsDepWithin (below n)) c.in_ok-deps.deps.items) width c.in_ok-deps.ensures.within)

-- the text of the same dependencies
says_of : (names : List (List ℕ)) (deps same : List Dep) (response : ResponseValue) → deps ≡ same
    → Says Yes (found_text names (dependencies_of deps)) response → Says Yes (found_text names (dependencies_of same)) response
says_of names deps same response is says =
    subst (λ (ds : List Dep). Says Yes (found_text names (dependencies_of ds)) response) is says

pub returns : goal.returns
returns c =
    let h = c.args.headed in
    let ds = dependencies_of c.in_ok-deps.deps.items in
    let width : c.len.result ≡ length h.names.items = omega (arith, c.len.ensures, c.args.headed.names.ok) in
    let rules : AreAllRulesOf c.len.result h.rows ds = record { rules = c.in_ok-deps.ensures.rules; cover = c.in_ok-deps.ensures.cover } in
    record {
      response = (
        ds,
        subst (λ (n : ℕ). AreAllRulesOf n h.rows ds) width rules,
        says_of h.names.items _ _ _ c.deref.ensures.value c.in_ok-rules_response.ensures.says,
      );
    }
