-- What is left to prove of `discover_near_rules`: its clause `response` where rules are found.
use Rattle.std.proofs.Common.{◌≡◌, ℕ, length, inl, subst, arith}
use Rattle.dep_model.specs.Deps.{dependencies_of}
use Rattle.near_rules.specs.NearRules.{AreNearRules, IsTriedWhole}
use Rattle.desk_discovery.proofs.near.discover_near_rules.Goals as goal

pub returns-in-Ok : goal.returns-in-Ok
returns-in-Ok c =
    let h = c.args.headed in
    let ds = dependencies_of c.in-Ok.found.deps.items in
    let errors = c.in-Ok.found.errors.items in
    let width : c.len.result ≡ length h.names.items = omega (arith, c.len.ensures, c.args.headed.names.ok) in
    record {
      response = inl (
        ds,
        errors,
        subst (λ (n : ℕ). AreNearRules n c.args.most c.args.limit h.rows ds errors) width c.in-Ok.ensures.rules,
        subst (λ (n : ℕ). IsTriedWhole n c.args.most c.args.limit h.rows) width c.in-Ok.ensures.answered,
        c.in_ok-near_response-in-Ok.ensures.says,
      );
    }
