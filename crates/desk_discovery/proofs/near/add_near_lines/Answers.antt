-- What is left to prove of `add_near_lines`: that its loop keeps its invariant, and its clause, by `line_added`.
use Rattle.std.proofs.Common.{◌≡◌, ◌<◌, ◌+◌, ◌++◌, ℕ, List, [], suc, length, drop, get_or, drop-cons, refl, sym, ap, subst, ◌∙◌, append-nil, arith}
use Rattle.std.proofs.Math.ListN.{drop_of_length-le}
use Rattle.dep_model.specs.declared.dep.Dep.{Dep}
use Rattle.schema_printer.specs.Spelling.{printed_names_of}
use Rattle.desk_discovery.proofs.NearLemmas.{near_text_of, line_added}
use Rattle.desk_discovery.proofs.near.add_near_lines.Goals as goal

pub loop-i-init : goal.loop-i-init
loop-i-init c = refl

pub loop-i-preserved : goal.loop-i-preserved
loop-i-preserved c =
    let i = c.loop-i.i in
    let deps = c.args.deps.now in
    let errors = c.args.errors.now in
    let printed = printed_names_of c.args.schema.now in
    let has_error : i < length errors = omega (arith, c.loop-i-test.true, c.requires.one_each) in
    let next : suc i ≡ i + 1 = omega arith in
    let fewer = line_added printed (drop i deps) (drop (suc i) deps) (drop i errors) (drop (suc i) errors) _ (get_or errors i 0)
    c.loop-i.text.items c.add_dep.new.text.items c.add_change.new.text.items c.add.new.text.items
    (drop-cons deps i _ c.loop-i-test.true) (drop-cons errors i 0 has_error)
    c.in_ok-add_dep.ensures.added c.in_ok-add_change.ensures.added c.in_ok-add.ensures.added
    ∙ c.loop-i.invariant in
    subst (λ (k : ℕ). c.add.new.text.items ++ near_text_of printed (drop k deps) (drop k errors)
    ≡ c.args.text.now.items ++ near_text_of printed deps errors) next fewer

pub returns : goal.returns
returns c =
    let printed = printed_names_of c.args.schema.now in
    let none : near_text_of printed (drop c.loop-i.i c.args.deps.now) (drop c.loop-i.i c.args.errors.now) ≡ near_text_of printed [] (drop c.loop-i.i c.args.errors.now) =
    ap (λ (ds : List Dep). near_text_of printed ds (drop c.loop-i.i c.args.errors.now)) (drop_of_length-le c.args.deps.now c.loop-i-test.false) in
    record { added = sym (append-nil c.loop-i.text.items) ∙ sym (ap (λ (t : List ℕ). c.loop-i.text.items ++ t) none) ∙ c.loop-i.invariant }
