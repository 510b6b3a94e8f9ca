-- What is left to prove of `add_schemes`: its clause `added` and that the invariant of its loop
-- holds at first and stays, by `lines_more`.
use Rattle.std.proofs.Common.{◌≡◌, ◌++◌, ◌∷◌, [], List, ℕ, take, take_all, get_or, sym, ap, subst, ◌∙◌, append_assoc}
use Rattle.std.proofs.lemmas.List.{append-nil}
use Rattle.attr_sets.specs.declared.set.AttrSet.{AttrSet}
use Rattle.attr_sets.specs.Sets.{attributes}
use Rattle.dep_model.specs.Plans.{schemes_of}
use Rattle.schema_printer.specs.Spelling.{printed_names_of}
use Rattle.plan_printer.specs.Printing.{scheme_text, plan_text}
use Rattle.plan_printer.proofs.PrintingLemmas.{lines_more}
use Rattle.plan_printer.proofs.printing.add_schemes.Goals as goal

pub loop-scheme-init : goal.loop-scheme-init
loop-scheme-init c = sym (append-nil c.args.text.now.items)

pub loop-scheme-preserved : goal.loop-scheme-preserved
loop-scheme-preserved c =
    let names = printed_names_of c.args.schema.now in
    let i = c.loop-scheme.scheme-index in
    let schemes = c.args.schemes.now in
    let first : AttrSet = record { 0 = 0 } in
    let front = plan_text names (schemes_of (take i schemes)) in
    let line : List ℕ = scheme_text names (attributes (get_or schemes i first)) ++ 10 ∷ [] in
    c.in_ok-add_scheme.ensures.added
    ∙ ap (λ (text : List ℕ). text ++ line) c.loop-scheme.invariant
    ∙ append_assoc c.args.text.now.items front line
    ∙ ap (λ (text : List ℕ). c.args.text.now.items ++ text) (sym (lines_more names schemes i first c.loop-scheme-test.true))

pub returns : goal.returns
returns c = record { added = subst (λ (xs : List AttrSet). c.loop-scheme.text.items ≡ c.args.text.now.items ++ plan_text (printed_names_of c.args.schema.now) (schemes_of xs)) (take_all c.loop-scheme.scheme-index c.args.schemes.now c.loop-scheme-test.false) c.loop-scheme.invariant }
