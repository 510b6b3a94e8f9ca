-- What is left to prove of `has_members`: its clause, by `members_answered`.
use Rattle.std.proofs.Common.{◌≡◌, ap, subst, ◌∙◌}
use Rattle.std.specs.Prelude.{◌↔◌, IsTrue}
use Rattle.attr_sets.specs.Attributes.{Attributes, below, intersection, IsEmpty}
use Rattle.attr_sets.specs.Sets.{attributes}
use Rattle.schema_model.specs.Schemas.{width_of}
use Rattle.sql_scripts.proofs.ListingLemmas.{members_answered}
use Rattle.sql_scripts.proofs.listing.has_members.Goals as goal

pub returns : goal.returns
returns c =
    let x = attributes c.args.set in
    let all : attributes c.full.result ≡ below (width_of c.args.schema.now) = c.full.ensures.members ∙ ap below c.width.ensures.count in
    let inside = c.intersection.ensures.members ∙ ap (λ (z : Attributes). intersection x z) all in
    record {
      members = members_answered (width_of c.args.schema.now) x c.is_empty.result
          (subst (λ (z : Attributes). IsTrue c.is_empty.result ↔ IsEmpty z) inside c.is_empty.ensures.empty);
    }
