-- What is left to prove of `put_parts`: its clause.
use Rattle.std.proofs.Common.{◌≡◌, ◌++◌, subst}
use Rattle.std.specs.Prelude.{OnOk}
use Rattle.attr_sets.specs.Attributes.{Attributes, union}
use Rattle.attr_sets.specs.Sets.{attributes}
use Rattle.schema_printer.specs.Spelling.{printed_names_of}
use Rattle.desk_designs.specs.SplitReasons.{pair_text}
use Rattle.desk_designs.proofs.split_reasons.put_parts.Goals as goal

pub returns : goal.returns
returns c =
    let names = printed_names_of c.args.schema.now in
    let breach = c.args.cut.breach in
    let told : Attributes → Attributes → Type 0 = λ x y.
    OnOk c.put_pair.result (c.put_pair.new.text.items ≡ c.args.text.now.items ++ pair_text names x y) in
    record {
      added = subst (λ (y : Attributes). told (union (attributes breach.lhs) (attributes breach.rhs)) y) c.difference-rest.ensures.members
          (subst (λ (x : Attributes). told x (attributes c.difference-rest.result)) c.union-both.ensures.members c.put_pair.ensures.added);
    }
