-- What is left to prove of `forms_of_all`: its clause, of the universe.
use Rattle.std.proofs.Common.{◌≡◌, refl, ap, subst, ◌∙◌}
use Rattle.std.proofs.lemmas.Bool.{false≢true}
use Rattle.attr_sets.specs.Attributes.{Attributes, below}
use Rattle.attr_sets.specs.Sets.{attributes}
use Rattle.fd_closure.specs.LeftSides.{IsWideScheme}
use Rattle.schema_model.specs.Schemas.{theory_of, universe_of}
use Rattle.desk_designs.specs.TestedSchemes.{AreFormsOf}
use Rattle.desk_designs.proofs.forms.forms_of_all.Goals as goal

pub returns-in-Ok : goal.returns-in-Ok
returns-in-Ok c =
    let s = c.args.schema.now in
    let whole : attributes c.full.result ≡ universe_of s = c.full.ensures.members ∙ ap below c.width.ensures.count in
    record {
      found = subst (λ (x : Attributes). AreFormsOf s x c.in-Ok.forms) whole (record {
        testable = λ wide. false≢true ((rw (c.theory.ensures.theory) at c.in-Ok.ensures.too_wide).1 wide);
        verdicts = rw (c.theory.ensures.theory) at c.in-Ok.ensures.forms;
      });
    }

pub returns-in-Err : goal.returns-in-Err
returns-in-Err c =
    let s = c.args.schema.now in
    let whole : attributes c.full.result ≡ universe_of s = c.full.ensures.members ∙ ap below c.width.ensures.count in
    record {
      found = subst (λ (x : Attributes). IsWideScheme (theory_of s) x) whole ((rw (c.theory.ensures.theory) at c.in-Err.ensures.too_wide).0 refl);
    }
