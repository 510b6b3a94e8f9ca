-- What is left to prove of `is_disjoint`: its clause `apart`.
use Rattle.std.proofs.Common.{◌≡◌, ℕ, not, sym, refl, ap, ◌∙◌, arith}
use Rattle.std.specs.Prelude.{Bool, Option, None, Some, IsNone, is_some, ◌↔◌}
use Rattle.std.proofs.lemmas.Bool.{true≢false, not-false}
use Rattle.std.specs.Bool.{Decides}
use Rattle.std.proofs.lemmas.Bool.Decides.{Decides-like, same_from_decides}
use Rattle.attr_sets.specs.Attributes.{Attributes, IsEmpty, Disjoint}
use Rattle.attr_sets.specs.Sets.{attributes, is_disjoint}
use Rattle.attr_sets.proofs.AttributesLemmas.{attributes_below, is_disjoint-decides, same_at}
use Rattle.derivation.proofs.table.is_disjoint.Goals as goal

-- nothing was found exactly where there is no member
emptiness : (r : Option ℕ) (b : Bool) (x : Attributes) → (IsNone r ↔ IsEmpty x) → is_some r ≡ not b → Decides b (IsEmpty x)
emptiness None b x least found = ((λ _. least.0 refl), (λ _. not-false b (sym found)))
emptiness (Some i) b x least found = ((λ e. absurd (true≢false (found ∙ ap not e))), (λ empty. absurd (true≢false (least.1 empty))))

pub returns : goal.returns
returns c =
    let x = attributes c.args.a in
    let y = attributes c.args.b in
    let empty = emptiness c.first.result c.is_none.result (attributes c.intersection.result) c.first.ensures.none c.is_none.ensures in
    let apart : Decides c.is_none.result (Disjoint x y) = Decides-like c.is_none.result
    (λ (none : IsEmpty (attributes c.intersection.result)) k m. grind (arith, none k, same_at c.intersection.ensures.members k, m))
    (λ (h : Disjoint x y) k. grind (arith, h k, same_at c.intersection.ensures.members k))
    empty in
    record { apart = same_from_decides c.is_none.result (is_disjoint x y) apart (is_disjoint-decides x y (attributes_below c.args.a)) }
