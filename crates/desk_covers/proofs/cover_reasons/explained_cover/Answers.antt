-- What is left to prove of `explained_cover`: what `print_cover_reasons` and `print_deps` require, and its clause.
use Rattle.std.proofs.Common.{◌≡◌, List, ℕ, ◌++◌, refl, sym, subst, ap, ◌∙◌, inl}
use Rattle.dep_model.specs.declared.dep.Dep.{Dep}
use Rattle.dep_model.specs.Deps.{dependencies_of}
use Rattle.schema_printer.specs.Printing.{schema_text}
use Rattle.desk_responses.specs.ResponseValues.{text_only}
use Rattle.desk_responses.specs.declared.status.Status.TheVariants.{Yes}
use Rattle.std.specs.Prelude.{All}
use Rattle.dep_model.specs.Deps.{IsDepWithin}
use Rattle.schema_model.specs.Schemas.{universe_of}
use Rattle.desk_covers.proofs.cover_reasons.explained_cover.Goals as goal

pub print_cover_reasons-requires : goal.print_cover_reasons-requires
print_cover_reasons-requires c = record { steps = rw (c.theory.ensures.theory) at c.in_ok-steps.ensures.steps }

pub print_deps-requires : goal.print_deps-requires
print_deps-requires c =
    subst (λ (ds : List Dep). All (IsDepWithin (universe_of c.args.schema.now)) ds) (sym c.deref.ensures.value)
    (rw (c.theory.ensures.theory) at c.in_ok-steps.ensures.within)

pub returns : goal.returns
returns c =
    let s = c.args.schema.now in
    let steps = c.in_ok-steps.steps in
    let whole = steps.whole.items in
    let reasons = c.in_ok-text.text.items in
    let plain = schema_text s (dependencies_of whole) in
    record {
      response = (
        text_only Yes plain,
        (dependencies_of whole, (rw (c.theory.ensures.theory) at c.in_ok-steps.ensures.fixed), (rw (c.theory.ensures.theory) at c.in_ok-steps.ensures.minimal), (rw (c.theory.ensures.theory) at c.in_ok-steps.ensures.whole_cover), refl),
        inl (
          refl,
          (
            reasons,
            c.in_ok-text.ensures.reasons,
            c.with_text.ensures.says
                ∙ ap (text_only Yes) (c.in_ok-add.ensures.added
                ∙ ap (λ (t : List ℕ). reasons ++ t) c.deref-2.ensures.value
                ∙ ap (λ (t : List ℕ). reasons ++ t) c.in_ok-plain.ensures.text
                ∙ ap (λ (ds : List Dep). reasons ++ schema_text s (dependencies_of ds)) c.deref.ensures.value),
          ),
        ),
      );
    }
