-- What is left to prove of `shared_at`: what is found in two tables, and that else nothing is.
use Rattle.std.proofs.Common.{◌≡◌, get_or, refl, ap, ◌∙◌}
use Rattle.std.proofs.lemmas.Option.{slice_get-get_or}
use Rattle.attr_sets.specs.Attributes.{Attributes, intersection}
use Rattle.attr_sets.specs.Sets.{attributes}
use Rattle.optional_tables.proofs.HomeLemmas.{no_table}
use Rattle.optional_tables.proofs.SharedLemmas.{least_shared, none_shared}
use Rattle.optional_tables.proofs.sharing.shared_at.Goals as goal

pub returns-in-Some-clause-least : goal.returns-in-Some-clause-least
returns-in-Some-clause-least c =
    let nullable = attributes c.args.nullable in
    let at = slice_get-get_or c.args.tables.now c.args.k no_table c.requires.position in (
      refl,
      least_shared nullable c.args.tables.now c.args.k (get_or c.args.tables.now c.args.k no_table) at
          (attributes c.args.before) (attributes c.beside_key.result) (attributes c.intersection.result) c.requires.before
          c.beside_key.ensures.beside
          (c.intersection.ensures.members
          ∙ ap (λ (x : Attributes). intersection x nullable) c.intersection-shared.ensures.members)
          c.in-Some.attribute c.first_home.result c.in-Some.ensures.first c.first_home.ensures.before
          c.first_home.ensures.home c.first_home.ensures.first,
    )

pub returns-in-None-clause-none : goal.returns-in-None-clause-none
returns-in-None-clause-none c =
    let nullable = attributes c.args.nullable in
    let at = slice_get-get_or c.args.tables.now c.args.k no_table c.requires.position in
    none_shared nullable c.args.tables.now c.args.k (get_or c.args.tables.now c.args.k no_table) at
    (attributes c.args.before) (attributes c.beside_key.result) (attributes c.intersection.result) c.requires.before
    c.beside_key.ensures.beside
    (c.intersection.ensures.members
    ∙ ap (λ (x : Attributes). intersection x nullable) c.intersection-shared.ensures.members)
    (c.in-None.ensures.none.0 refl)
