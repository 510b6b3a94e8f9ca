-- The width and the dependencies of a schema are those of its fields.
use Rattle.std.proofs.Common.{◌∙◌, ap}
use Rattle.dep_model.proofs.TheoryLemmas.{same_theory}
use Rattle.schema_model.specs.Schemas.{Schema, theory_in}
use Rattle.schema_model.proofs.schema.Schema.theory.Goals as goal

pub new-requires : goal.new-requires
new-requires c =
    record {
      theory = rw (c.width.ensures.count, c.deref.ensures.value, ap (λ (s : Schema). s.deps) c.self.view_is) (theory_in c.args.self.now).valid;
    }

pub returns : goal.returns
returns c =
    record {
      theory = same_theory c.new.result (theory_in c.args.self.now) (c.new.ensures.width ∙ c.width.ensures.count)
          (c.new.ensures.deps ∙ c.deref.ensures.value ∙ ap (λ (s : Schema). s.deps) c.self.view_is);
    }
