-- What is left to prove of `rule_lines`: its clause `text` and what `print_deps` requires, by
-- `RuleLemmas`.
use Rattle.std.proofs.Common.{◌≡◌, ℕ, List, length, sym, subst}
use Rattle.std.specs.Prelude.{All, IfOk}
use Rattle.attr_sets.specs.Attributes.{below}
use Rattle.dep_model.specs.Deps.{dependencies_of, IsDepWithin}
use Rattle.desk_discovery.proofs.RuleLemmas.{schema_found}
use Rattle.desk_discovery.proofs.discovering.rule_lines.Goals as goal

pub print_deps-requires : goal.print_deps-requires
print_deps-requires c = subst (λ (names : List (List ℕ)). All (IsDepWithin (below (length names))) c.args.deps.now) (sym c.in_ok-schema.ensures.columns.names) c.requires.within

pub returns : goal.returns
returns c = record {
  text = subst (λ (t : List ℕ). IfOk c.print_deps.result (λ text. text.items ≡ t))
      (schema_found c.args.names.items c.in_ok-schema.schema (dependencies_of c.args.deps.now) c.requires.any_name c.in_ok-schema.ensures.columns)
      c.print_deps.ensures.text;
}
