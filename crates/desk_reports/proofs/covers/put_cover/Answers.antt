-- What is left to prove of `put_cover`: what is required of the cover, and its clause, by what the commands allow.
use Rattle.std.proofs.Common.{◌≡◌, ℕ, List, ◌++◌, refl, sym, ap, subst, ◌∙◌, inl}
use Rattle.std.specs.Prelude.{All}
use Rattle.dep_model.specs.Deps.{IsDepWithin, dependencies_of}
use Rattle.dep_model.specs.declared.dep.Dep.{Dep}
use Rattle.schema_model.specs.Schemas.{universe_of}
use Rattle.schema_printer.specs.Printing.{schema_text}
use Rattle.desk_responses.specs.ResponseValues.{text_only}
use Rattle.desk_responses.specs.declared.status.Status.TheVariants.{Yes}
use Rattle.desk_covers.specs.Covering.{GivesCover}
use Rattle.desk_covers.specs.CoverReasons.{ExplainsCover}
use Rattle.desk_reports.proofs.PieceLemmas.{adds_explained}
use Rattle.desk_reports.proofs.covers.put_cover.Goals as goal

pub print_deps-requires : goal.print_deps-requires
print_deps-requires c =
    subst (λ (ds : List Dep). All (IsDepWithin (universe_of c.args.schema.now)) ds) (sym c.deref.ensures.value) c.requires.cover.within

pub print_cover_reasons-requires : goal.print_cover_reasons-requires
print_cover_reasons-requires c = record { steps = c.requires.cover.steps }

pub returns : goal.returns
returns c =
    let s = c.args.schema.now in
    let cover = c.requires.cover in
    let whole = dependencies_of c.args.cover.now.whole.items in
    let plain = schema_text s whole in
    let reasons = c.in_ok-explained.explained.items in
    let plain_is : c.in_ok-plain.plain.items ≡ plain =
    c.in_ok-plain.ensures.text ∙ ap (λ (ds : List Dep). schema_text s (dependencies_of ds)) c.deref.ensures.value in
    let gives : GivesCover s (text_only Yes plain) = (whole, cover.fixed, cover.minimal, cover.whole_cover, refl) in
    record {
      added = adds_explained (GivesCover s) (ExplainsCover s) c.args.title.now c.deref-3.result.now c.deref-4.result.now _ _
          (text_only Yes plain, gives, c.deref-3.ensures.value ∙ plain_is) (
            text_only Yes (reasons ++ plain),
            (text_only Yes plain, gives, inl (refl, (reasons, c.in_ok-explained.ensures.reasons, refl))),
            c.deref-4.ensures.value ∙ c.in_ok-add.ensures.added ∙ ap (λ (t : List ℕ). reasons ++ t) (c.deref-2.ensures.value ∙ plain_is),
          )
          c.in_ok-put_explained.ensures.added;
    }
