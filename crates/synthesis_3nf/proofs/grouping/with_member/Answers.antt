-- `with_member`: the right side is added exactly where the left side is the one asked for.
use Rattle.std.proofs.Common.{◌≡◌, ◌&&◌, ◌||◌, Bool, true, false, ap, sym, ◌∙◌}
use mathlib.Core.Path.{fun_ext}
use Rattle.std.proofs.Math.Bool.{or-false}
use Rattle.attr_sets.specs.Attributes.{Attributes, union}
use Rattle.attr_sets.specs.Sets.{attributes, is_same}
use Rattle.dep_model.specs.Dependencies.{left_of, right_of}
use Rattle.dep_model.specs.Deps.{dependency_of}
use Rattle.synthesis_3nf.proofs.grouping.with_member.Goals as goal

pub returns-then-eq : goal.returns-then-eq
returns-then-eq c =
    let d = dependency_of c.args.dep in
    let with_right : Bool → Attributes = λ b k. attributes c.args.scheme k || (b && right_of d k) in
    let is : is_same (attributes c.args.left) (left_of d) ≡ true = ap (is_same (attributes c.args.left)) (sym c.sides.ensures.left) ∙ sym c.if-eq.ensures.test in
    record {
      scheme = c.union.ensures.members ∙ ap (union (attributes c.args.scheme)) c.sides.ensures.right
          ∙ ap with_right (sym is);
    }

pub returns-else-eq : goal.returns-else-eq
returns-else-eq c =
    let d = dependency_of c.args.dep in
    let with_right : Bool → Attributes = λ b k. attributes c.args.scheme k || (b && right_of d k) in
    let is : is_same (attributes c.args.left) (left_of d) ≡ false = ap (is_same (attributes c.args.left)) (sym c.sides.ensures.left) ∙ sym c.if-eq.ensures.test in
    record {
      scheme = fun_ext (λ k. sym (or-false (attributes c.args.scheme k)))
          ∙ ap with_right (sym is);
    }
