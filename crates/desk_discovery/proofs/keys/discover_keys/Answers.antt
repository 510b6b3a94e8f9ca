-- What is left to prove of `discover_keys`: its clause `response`, where keys are found and where they are too many.
use Rattle.std.proofs.Common.{◌≡◌, ℕ, List, length, inl, subst, arith}
use Rattle.attr_sets.specs.declared.set.AttrSet.{AttrSet}
use Rattle.dep_model.specs.Plans.{schemes_of}
use Rattle.fd_search.specs.Keys.{AreRowKeys}
use Rattle.desk_responses.specs.ResponseValues.{Says}
use Rattle.desk_responses.specs.Responses.{response_value}
use Rattle.desk_responses.specs.declared.status.Status.TheVariants.{Yes}
use Rattle.desk_discovery.specs.KeyDiscoveries.{row_keys_text}
use Rattle.desk_discovery.proofs.keys.discover_keys.Goals as goal

pub returns-in-Ok : goal.returns-in-Ok
returns-in-Ok c =
    let h = c.args.headed in
    let width : c.len.result ≡ length h.names.items = omega (arith, c.len.ensures, c.args.headed.names.ok) in
    let response = response_value c.in_ok-keys_response-in-Ok.field-0 in
    record {
      response = inl (
        schemes_of c.in-Ok.keys.items,
        subst (λ (n : ℕ). AreRowKeys n h.rows (schemes_of c.in-Ok.keys.items)) width c.in-Ok.ensures.keys,
        subst (λ (keys : List AttrSet). Says Yes (row_keys_text h.names.items (schemes_of keys)) response)
            c.deref.ensures.value c.in_ok-keys_response-in-Ok.ensures.says,
      );
    }
