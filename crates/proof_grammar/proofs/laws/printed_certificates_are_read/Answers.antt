-- The laws `printed_certificates_are_read`, clause by clause.
use Rattle.std.proofs.Common.{true, false}
use Rattle.derivation.specs.Derivs.{tree_of}
use Rattle.proof_grammar.proofs.CountLaws.{lines_count}
use Rattle.proof_grammar.proofs.PrintedLines.{line_printed}
use Rattle.proof_grammar.proofs.PrintedNodes.{printed_nodes}
use Rattle.proof_grammar.proofs.PrintedSpells.{printed_spells}
use Rattle.proof_grammar.proofs.ReadBack.{printed_is_read}
use Rattle.proof_grammar.proofs.laws.printed_certificates_are_read.Goals as goal

pub returns : goal.returns
returns c = record {
  line = λ naming names l are is.
      let here = line_printed naming names l are is in (here.text, here.printed, here.means);
  nodes = λ s p d proves. let are = printed_nodes s (tree_of p) d proves in
      (are, lines_count s _ (tree_of p) are);
  spelled = printed_spells false;
  spelled_after_yes = printed_spells true;
  read = printed_is_read false;
  read_after_yes = printed_is_read true;
}
