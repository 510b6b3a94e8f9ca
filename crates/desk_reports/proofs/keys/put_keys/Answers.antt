-- What is left to prove of `put_keys`: what `set_lines` requires, and its clause, by what the commands allow.
use Rattle.std.proofs.Common.{◌≡◌, ℕ, List, ◌++◌, refl, ap, ◌∙◌, inl}
use Rattle.std.proofs.lemmas.List.Elements.{All-weaker}
use Rattle.attr_sets.specs.Attributes.{IsSubset}
use Rattle.attr_sets.specs.Sets.{attributes}
use Rattle.attr_sets.specs.declared.set.AttrSet.{AttrSet}
use Rattle.dep_model.specs.Keys.{IsKey}
use Rattle.schema_model.specs.Schemas.{width_of, theory_of, universe_of}
use Rattle.schema_printer.specs.Spelling.{printed_names_of}
use Rattle.desk_responses.specs.ResponseValues.{text_only}
use Rattle.desk_responses.specs.declared.status.Status.TheVariants.{Yes}
use Rattle.desk_keys.specs.KeyReasons.{ExplainsKeys}
use Rattle.desk_keys.specs.Keys.{ListsKeys, sets_text}
use Rattle.desk_reports.proofs.PieceLemmas.{adds_explained}
use Rattle.desk_reports.proofs.keys.put_keys.Goals as goal

pub set_lines-requires : goal.set_lines-requires
set_lines-requires c =
    let s = c.args.schema.now in
    record {
      within = All-weaker (λ (k : AttrSet). IsKey (width_of s) (theory_of s) (universe_of s) (attributes k)) (λ (k : AttrSet). IsSubset (attributes k) (universe_of s))
          (λ k key. key.superkey.within.0) c.args.keys.now c.requires.keys.each;
    }

pub returns : goal.returns
returns c =
    let s = c.args.schema.now in
    let keys = c.args.keys.now in
    let plain = sets_text (printed_names_of s) keys in
    let reasons = c.in_ok-explained.explained.items in
    let plain_is : c.in_ok-plain.plain.items ≡ plain = c.in_ok-plain.ensures.text in
    let lists : ListsKeys s (text_only Yes plain) = inl (keys, c.requires.keys, c.requires.within_limit, c.requires.narrow, refl) in
    record {
      added = adds_explained (ListsKeys s) (ExplainsKeys s) c.args.title.now c.deref-2.result.now c.deref-3.result.now _ _
          (text_only Yes plain, lists, c.deref-2.ensures.value ∙ plain_is) (
            text_only Yes (reasons ++ plain),
            (text_only Yes plain, lists, inl (refl, (reasons, c.in_ok-explained.ensures.text, refl))),
            c.deref-3.ensures.value ∙ c.in_ok-add.ensures.added ∙ ap (λ (t : List ℕ). reasons ++ t) (c.deref.ensures.value ∙ plain_is),
          )
          c.in_ok-put_explained.ensures.added;
    }
