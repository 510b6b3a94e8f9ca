-- What is left to prove of `put_attributes_section`: its clause, by the members of the keys.
use Rattle.std.proofs.Common.{codes, refl}
use Rattle.attr_sets.specs.Sets.{attributes}
use Rattle.desk_reports.specs.Attributes.{ShowsAttributes, attributes_text}
use Rattle.desk_reports.proofs.PieceLemmas.{adds_just, adds_section}
use Rattle.desk_reports.proofs.attributes.put_attributes_section.Goals as goal

pub returns : goal.returns
returns c =
    let s = c.args.schema.now in
    let in_key = attributes c.listed_members-in_key.result in
    record {
      added = adds_section (codes "Attributes") (codes "Attributes") (ShowsAttributes s) _ _ _ refl c.in_ok-add_heading.ensures.added
          (adds_just (ShowsAttributes s) _ (attributes_text s in_key) _
          (in_key, c.listed_members-in_key.ensures.members s c.requires.keys, refl) c.in_ok-put_attributes.ensures.added);
    }
