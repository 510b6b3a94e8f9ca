-- What is left to prove of `known_forms`: what it answers where it finds an equal scheme.
use Rattle.std.proofs.Common.{refl, get_or, subst}
use Rattle.std.specs.Prelude.{None}
use Rattle.attr_sets.specs.Attributes.{Attributes}
use Rattle.desk_designs.specs.declared.forms.TestedScheme.{TestedScheme}
use Rattle.desk_designs.specs.TestedSchemes.{AreFormsOf}
use Rattle.desk_designs.proofs.forms.known_forms.Goals as goal

abbrev nothing : TestedScheme
nothing = record {
  scheme = record { 0 = 0 };
  forms = record { second = None; third = None; bcnf = None; fourth = None };
}

pub returns-then-eq : goal.returns-then-eq
returns-then-eq c =
    let i = c.loop-tested.tested-index in
    record {
      known = λ s all. subst (λ (x : Attributes). AreFormsOf s x (get_or c.args.found.now i nothing).forms) (c.if-eq.ensures.same.0 refl)
          (all i nothing c.loop-tested-test.true);
    }
