-- What is left to prove of `explained_keys`: what `set_lines` requires, and its clause.
use Rattle.std.proofs.Common.{List, ℕ, ◌++◌, refl, ap, ◌∙◌, inl}
use Rattle.std.proofs.lemmas.List.Elements.{All-weaker}
use Rattle.attr_sets.specs.Attributes.{IsSubset}
use Rattle.attr_sets.specs.Sets.{attributes}
use Rattle.attr_sets.specs.declared.set.AttrSet.{AttrSet}
use Rattle.dep_model.specs.Keys.{IsKey}
use Rattle.schema_model.specs.Schemas.{width_of, theory_of, universe_of}
use Rattle.schema_printer.specs.Spelling.{printed_names_of}
use Rattle.desk_keys.specs.Keys.{sets_text}
use Rattle.desk_responses.specs.ResponseValues.{text_only}
use Rattle.desk_responses.specs.declared.status.Status.TheVariants.{Yes}
use Rattle.desk_keys.proofs.key_reasons.explained_keys.Goals as goal

pub set_lines-requires : goal.set_lines-requires
set_lines-requires c =
    let s = c.args.schema.now in
    record {
      within = All-weaker (λ (k : AttrSet). IsKey (width_of s) (theory_of s) (universe_of s) (attributes k)) (λ (k : AttrSet). IsSubset (attributes k) (universe_of s))
          (λ k key. key.superkey.within.0) c.args.keys.now c.requires.keys.each;
    }

pub returns : goal.returns
returns c =
    let s = c.args.schema.now in
    let keys = c.args.keys.now in
    let reasons = c.in_ok-text.text.items in
    record {
      response = (
        text_only Yes (sets_text (printed_names_of s) keys),
        inl (keys, c.requires.keys, c.requires.within_limit, c.requires.narrow, refl),
        inl (
          refl,
          (
            reasons,
            c.in_ok-text.ensures.text,
            c.with_text.ensures.says
                ∙ ap (text_only Yes) (c.in_ok-add.ensures.added
                ∙ ap (λ (t : List ℕ). reasons ++ t) c.deref.ensures.value
                ∙ ap (λ (t : List ℕ). reasons ++ t) c.in_ok-plain.ensures.text),
          ),
        ),
      );
    }
