-- What is left to prove of `print_derivation`: what is required of each line, and that a round of its loop
-- adds a line.
use Rattle.std.proofs.Common.{◌∙◌, ap, sym, List, ℕ, ◌+◌, ◌++◌, get_or}
use Rattle.schema_model.specs.Schemas.{universe_of}
use Rattle.dep_model.specs.declared.dep.Dep.TheVariants.{Fd}
use Rattle.derivation.specs.declared.rule.LeafRule.TheVariants as leaves
use Rattle.schema_printer.specs.Spelling.{printed_names_of}
use Rattle.short_derivations.specs.declared.inference.Inference.{Inference}
use Rattle.short_derivations.specs.declared.inference.Reason.TheVariants as reasons
use Rattle.short_derivations.specs.Views.{line_of}
use Rattle.derivation_printer.specs.Printing.{numbered, derivation_line_text, IsLineWithin}
use Rattle.derivation_printer.proofs.PrintedDerivations.{text_next}
use Rattle.derivation_printer.proofs.WithinLines.{lines_within, line_at}
use Rattle.derivation_printer.proofs.printing.print_derivation.Goals as goal

pub add_inference-requires : goal.add_inference-requires
add_inference-requires c =
    let s = c.args.schema.now in
    record {
      within = line_at (IsLineWithin (universe_of s)) c.args.lines.now c.loop-k.k _ c.loop-k-test.true
          (lines_within s c.args.lines.now c.requires.lines_within_limit c.requires.given);
    }

pub loop-k-preserved : goal.loop-k-preserved
loop-k-preserved c =
    let s = c.args.schema.now in
    let items = c.args.lines.now in
    let k = c.loop-k.k in
    let first : Inference = record { stated = Fd (record { 0 = 0 }) (record { 0 = 0 }); reason = reasons.Leaf (leaves.Given 0) } in
    let next = derivation_line_text (printed_names_of s) (numbered (k + 1) (line_of (get_or items k first))) in
    c.in_ok-add_inference.ensures.added ∙ ap (λ (t : List ℕ). t ++ next) c.loop-k.invariant ∙ sym (text_next s items k first c.loop-k-test.true)
