-- What is left to prove of `test_key`: that `superkey_response` is given a superkey.
use Rattle.std.proofs.Common.{◌≡◌, refl, ap, subst, ◌∙◌}
use Rattle.attr_sets.specs.Attributes.{Attributes, below}
use Rattle.attr_sets.specs.Sets.{attributes}
use Rattle.dep_model.specs.Dependencies.{fd}
use Rattle.dep_model.specs.Implication.{Implies}
use Rattle.schema_model.specs.Schemas.{width_of, universe_of, theory_of}
use Rattle.dep_model.proofs.KeyLemmas.{superkey-from}
use Rattle.desk_keys.proofs.key_checks.test_key.Goals as goal

pub superkey_response-requires-clause-superkey : goal.superkey_response-requires-clause-superkey
superkey_response-requires-clause-superkey c =
    let s = c.args.schema.now in
    let x = attributes c.args.set in
    let full : attributes c.full.result ≡ universe_of s = c.full.ensures.members ∙ ap below c.width.ensures.count in
    superkey-from (width_of s) (theory_of s) (universe_of s) x c.requires.within
    (subst (λ (y : Attributes). Implies (width_of s) (theory_of s) (fd x y)) full ((rw (c.theory.ensures.theory) at c.in-Implied.ensures.implied).0 refl))
