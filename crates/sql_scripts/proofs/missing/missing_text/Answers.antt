-- What is left to prove of `missing_text`: its clause `text`, by `missing_line`.
use Rattle.std.proofs.Common.{◌≡◌, ◌++◌, ℕ, List, sym, subst, ap, ◌∙◌}
use Rattle.std.specs.Prelude.{IfOk, codes}
use Rattle.attr_sets.specs.Attributes.{Attributes, below, difference}
use Rattle.attr_sets.specs.Sets.{attributes}
use Rattle.dep_model.specs.Projections.{members_below}
use Rattle.schema_model.specs.Schemas.{width_of, universe_of}
use Rattle.sql_check.specs.Checks.{required_of}
use Rattle.sql_scripts.specs.Checking.{missing_text}
use Rattle.sql_scripts.proofs.ListingLemmas.{missing_line}
use Rattle.sql_scripts.proofs.missing.missing_text.Goals as goal

pub returns : goal.returns
returns c =
    let s = c.args.schema.now in
    let t = c.args.table.now in
    let n = width_of s in
    let required : attributes c.difference-required.result ≡ required_of s =
    c.difference-required.ensures.members
    ∙ ap (λ (x : Attributes). difference x (attributes c.nullable.result)) (c.full.ensures.members ∙ ap below c.width.ensures.count)
    ∙ ap (difference (universe_of s)) c.nullable.ensures.nullable in
    record {
      text = subst (λ (text : List ℕ). IfOk c.line_of_query.result (λ line. line.items ≡ text))
          (ap (λ (q : List ℕ). codes "-- no value is missing\n" ++ (q ++ codes ";\n")) (c.deref.ensures.value ∙ c.in_ok-query.ensures.text)
          ∙ missing_line s t (members_below n (attributes c.difference-required.result)) (sym c.has_members.ensures.members ∙ c.if-not-has_members.false)
          ∙ ap (λ (x : Attributes). missing_text s t (members_below n x)) required)
          c.line_of_query.ensures.text;
    }
