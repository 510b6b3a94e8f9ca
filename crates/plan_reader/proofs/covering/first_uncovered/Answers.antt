-- What is left to prove of `first_uncovered`: its clauses `covers` and `least`.
use Rattle.std.proofs.Common.{◌≡◌, ◌&&◌, not, Bool, true, false, ap, subst, ◌∙◌}
use Rattle.std.specs.Prelude.{IfSome}
use Rattle.std.specs.List.{list_any}
use Rattle.std.proofs.lemmas.Bool.{lt-ltb, not-false}
use Rattle.std.proofs.lemmas.List.Folds.{Any-from_list_any}
use Rattle.attr_sets.specs.Attributes.{Attributes, below, difference, IsEmpty, IsFirstFrom}
use Rattle.attr_sets.specs.Sets.{attributes}
use Rattle.dep_model.specs.Plans.{schemes_of}
use Rattle.schema_model.specs.Schemas.{width_of}
use Rattle.plan_grammar.specs.Diagnostics.{uncovered_attributes}
use Rattle.plan_reader.proofs.covering.first_uncovered.Goals as goal

pub returns : goal.returns
returns c =
    let n = width_of c.args.schema.now in
    let schemes = schemes_of c.args.schemes.now in
    let left : attributes c.difference.result ≡ uncovered_attributes n schemes =
    c.difference.ensures.members
    ∙ ap (λ (z : Attributes). difference z (attributes c.all_of.result)) (c.full.ensures.members ∙ ap below c.width.ensures.count)
    ∙ ap (λ (z : Attributes). difference (below n) z) c.all_of.ensures.members in
    record {
      covers = λ none k low.
          let empty : IsEmpty (uncovered_attributes n schemes) = subst (λ (x : Attributes). IsEmpty x) left (c.first.ensures.none.0 none) in
          Any-from_list_any (λ (scheme : Attributes). scheme k) schemes (covered (below n k) (list_any (λ (scheme : Attributes). scheme k) schemes) (lt-ltb k n low) (empty k));
      least = subst (λ (x : Attributes). IfSome c.first.result (IsFirstFrom x 0)) left c.first.ensures.first;
    }
  where
    covered : (a b : Bool) → a ≡ true → (a && not b) ≡ false → b ≡ true
    covered a b is none = not-false b (subst (λ (x : Bool). (x && not b) ≡ false) is none)
