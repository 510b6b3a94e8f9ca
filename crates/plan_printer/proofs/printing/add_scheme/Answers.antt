-- What is left to prove of `add_scheme`: its clause `added`, by `scheme_line` and `line_added`.
use Rattle.std.proofs.Common.{◌++◌, ◌∷◌, [], List, ℕ, length, sym, subst, ap, ◌∙◌}
use Rattle.std.specs.Prelude.{codes}
use Rattle.attr_sets.specs.Attributes.{IsSubset, below}
use Rattle.attr_sets.specs.Sets.{attributes}
use Rattle.schema_printer.specs.Spelling.{printed_names_of}
use Rattle.schema_printer.specs.Printing.{set_text}
use Rattle.schema_printer.proofs.SpellingLemmas.{length_printed}
use Rattle.plan_printer.specs.Printing.{scheme_text}
use Rattle.plan_printer.proofs.PrintingLemmas.{scheme_line, line_added}
use Rattle.plan_printer.proofs.printing.add_scheme.Goals as goal

pub returns : goal.returns
returns c =
    let names = printed_names_of c.args.schema.now in
    let x = attributes c.args.scheme in
    let words = set_text names x in
    let within : IsSubset x (below (length names)) =
    subst (λ (n : ℕ). IsSubset x (below n)) (sym (length_printed c.args.schema.now)) c.requires.within in
    record {
      added = line_added c.add-2.result c.args.text.now.items (codes "scheme ") words (scheme_text names x) c.add-2.new.text.items c.add_set.new.text.items (10 ∷ [])
          (c.in_ok-add_set.ensures.added ∙ ap (λ (t : List ℕ). t ++ words) c.in_ok-add.ensures.added)
          (scheme_line names x within c.requires.nonempty) c.add-2.ensures.added;
    }
