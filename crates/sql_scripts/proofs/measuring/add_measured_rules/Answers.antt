-- What is left to prove of `add_measured_rules`: its clause `added` and that a round of its loop keeps the
-- invariant, by `zip_more` and `zip_all`.
use Rattle.std.proofs.Common.{◌≡◌, ◌<◌, ◌≤◌, ◌+◌, ◌++◌, List, ℕ, length, take, get_or, sym, ap, ◌∙◌, arith}
use Rattle.std.specs.List.{flat_map, zip}
use Rattle.std.proofs.lemmas.List.{length-map, get_or-map}
use Rattle.std.proofs.lemmas.Option.{get_or_from_slice_get}
use Rattle.dep_model.specs.declared.dep.Dep.{Dep}
use Rattle.dep_model.specs.declared.dep.Dep.TheVariants.{Fd}
use Rattle.dep_model.specs.Dependencies.{Dependency}
use Rattle.dep_model.specs.Deps.{dependency_of}
use Rattle.schema_model.specs.Schemas.{lines_of, theory_of, deps_of}
use Rattle.sql_scripts.specs.Measuring.{measured_rule_text}
use Rattle.sql_scripts.proofs.ItemLemmas.{zip_more, zip_all}
use Rattle.sql_scripts.proofs.measuring.add_measured_rules.Goals as goal
use Rattle.ddl_text.proofs.TextLemmas.{item_more}

abbrev no_dep : Dep
no_dep = Fd (record { 0 = 0 }) (record { 0 = 0 })

pub loop-k-preserved : goal.loop-k-preserved
loop-k-preserved c =
    let s = c.args.schema.now in
    let t = c.args.table.now in
    let k = c.loop-k.k in
    let line = c.line_of.result in
    let d : Dependency = dependency_of (get_or (deps_of s) k no_dep) in
    let low : k < length (deps_of s) = omega (arith, c.loop-k-test.true, ap length c.deps-dep-items.ensures.deps) in
    let in_lines : k < length (lines_of s) = omega (arith, low, s.valid.one_line_each) in
    let in_theory : k < length (theory_of s) = omega (arith, low, length-map (deps_of s) dependency_of) in
    let is_line : line ≡ get_or (lines_of s) k line = sym (get_or_from_slice_get (lines_of s) k line line c.line_of.ensures.line) in
    let is_dep : d ≡ get_or (theory_of s) k d = sym (get_or-map dependency_of (deps_of s) k no_dep d low) in
    item_more (λ (rule : ℕ × Dependency). measured_rule_text s t rule.0 rule.1) c.args.text.now.items c.loop-k.text.items c.add.new.text.items c.deref.result.now
    (take k (zip (lines_of s) (theory_of s))) (take (k + 1) (zip (lines_of s) (theory_of s))) (line, d) c.loop-k.invariant
    (c.deref.ensures.value ∙ c.in_ok-measured_rule_text.ensures.text
    ∙ ap (λ (deps : List Dep). measured_rule_text s t line (dependency_of (get_or deps k no_dep))) c.deps-dep-items.ensures.deps)
    c.in_ok-add.ensures.added
    (zip_more (lines_of s) (theory_of s) k line d in_lines in_theory is_line is_dep)

pub returns : goal.returns
returns c =
    let s = c.args.schema.now in
    let long : length (theory_of s) ≤ c.loop-k.k = omega (arith, c.loop-k-test.false, ap length c.deps-dep-items.ensures.deps, length-map (deps_of s) dependency_of) in
    record {
      added = c.loop-k.invariant
          ∙ ap (λ (rules : List (ℕ × Dependency)). c.args.text.now.items ++ flat_map (λ rule. measured_rule_text s c.args.table.now rule.0 rule.1) rules)
          (zip_all (lines_of s) (theory_of s) c.loop-k.k long);
    }
