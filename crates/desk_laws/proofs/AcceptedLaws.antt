-- What is printed after yes is accepted as a certificate.
use Rattle.std.proofs.Common.{◌≡◌, ◌≤◌, ℕ, List, [], ◌∷◌, ◌++◌, length, Some, inl, inr, sym, ◌∙◌, ap, subst, arith}
use Rattle.std.specs.Prelude.{codes}
use Rattle.schema_model.specs.Schemas.{Schema, theory_in}
use Rattle.dep_model.specs.Dependencies.{Dependency}
use Rattle.implication_laws.proofs.ImplyingLaws.{no_not_yes}
use Rattle.derivation.specs.declared.deriv.Deriv.{Deriv}
use Rattle.derivation.specs.Conclusions.{Proves}
use Rattle.derivation.specs.Derivs.{tree_of}
use Rattle.derivation.specs.Trees.{Tree}
use Rattle.basis_proofs.specs.JoinedProofs.{IsProofOf}
use Rattle.desk_outside.specs.Files.{Files, bytes_of_file}
use Rattle.schema_grammar.proofs.DeclaredNames.{declared_read_back}
use Rattle.schema_grammar.specs.Texts.{declarations_of}
use Rattle.proof_text.specs.declared.text.TheConstants.{MOST_PROOF_BYTES}
use Rattle.proof_grammar.specs.Printing.{canonical_certificate}
use Rattle.proof_grammar.specs.Spelling.{SpellsWithin}
use Rattle.proof_grammar.proofs.PrintedSpells.{answered_spells}
use Rattle.desk_responses.specs.declared.status.Status.TheVariants.{Yes}
use Rattle.desk_responses.specs.ResponseValues.{ResponseValue}
use Rattle.desk_implication.specs.Certificates.{Checked}
use Rattle.desk_words.specs.Forms.{form_of, after_check, schema_and_two, form_over_schema, schema_and_word}
use Rattle.desk_implication.specs.Implication.{Decided}
use Rattle.desk_inputs.specs.FileKinds.{IsFile, WithFile}
use Rattle.desk_inputs.specs.Inputs.{schema_file, proof_file}
use Rattle.desk_arguments.specs.Goals.{IsGoal, WithGoal}
use Rattle.desk_cli.specs.Performs.{Answers, Performs, Does, AnswersSchema}
use Rattle.desk_inputs.specs.Readings.{known_files}
use Rattle.desk_texts.specs.Texts.{yes_text}
use Rattle.desk_laws.specs.AcceptedTexts.{PrintedProofIsAccepted}
use Rattle.desk_laws.proofs.CompleteLaws.{after_goal, after_schema}
use Rattle.desk_laws.proofs.OneFile.{after_file}
use Rattle.desk_laws.proofs.OneText.{proof_text_once}
use Rattle.desk_laws.proofs.StopLemmas.{schema_says, goal_says}
use Rattle.desk_tables.specs.OwnFolders.{Looks}

-- ---- the first answer
-- what stands after an answer yes to whether a schema implies a goal
record SaidYes (files : Files) (schema goal text : List ℕ) : Type 0 where
  of : Schema
  file : IsFile schema_file (known_files files) schema of
  dep : Dependency
  is_goal : IsGoal of goal dep
  proof : Deriv
  is_proof : IsProofOf (theory_in of) dep (tree_of proof)
  printed : text ≡ yes_text ++ canonical_certificate of (tree_of proof)

yes_there : (files : Files) (schema goal : List ℕ) (response : ResponseValue) → response.status ≡ Yes
    → WithFile schema_file (known_files files) schema (λ s. WithGoal s goal (Decided s)) response → SaidYes files schema goal response.text
yes_there files schema goal response says_yes (inl exit) = absurd (schema_says (known_files files) schema response says_yes exit)
yes_there files schema goal response says_yes (inr (of, file, rest)) = asked rest
  where
    decided : (dep : Dependency) → IsGoal of goal dep → Decided of dep response → SaidYes files schema goal response.text
    decided dep is (inl (implied, found)) = record {
      of = of;
      file = file;
      dep = dep;
      is_goal = is;
      proof = found.0;
      is_proof = found.1;
      printed = ap (λ (a : ResponseValue). a.text) found.4;
    }
    decided dep is (inr (broken, found)) = absurd (no_not_yes response says_yes (ap (λ (a : ResponseValue). a.status) found.3))

    asked : WithGoal of goal (Decided of) response → SaidYes files schema goal response.text
    asked (inl exit) = absurd (goal_says of goal response says_yes exit)
    asked (inr (dep, is, rest)) = decided dep is rest

-- ---- the second answer
-- what was printed after yes spells the tree that was found
printed_within : (files : Files) (schema goal text : List ℕ) → (said : SaidYes files schema goal text)
    → SpellsWithin said.of text (tree_of said.proof)
printed_within files schema goal text said =
    let t = tree_of said.proof in
    let read_back = declared_read_back said.file.bytes (declarations_of said.of) said.file.means in
    let printed = answered_spells said.of said.proof said.dep read_back said.is_proof.proves said.is_proof.size.node_bound in
    let within : SpellsWithin said.of (yes_text ++ canonical_certificate said.of t) t = record {
      spells = printed.0;
      lines_fit = omega (arith, printed.1, said.is_proof.size.node_bound);
      levels_fit = said.is_proof.size.level_bound;
    } in
    subst (λ (bytes : List ℕ). SpellsWithin said.of bytes t) (sym said.printed) within

checked_yes : (s : Schema) (t : Tree) (d : Dependency) (response : ResponseValue) → Proves (theory_in s) t d → Checked s t d response → response.status ≡ Yes
checked_yes s t d response proves (inl (proved, implied, says)) = ap (λ (a : ResponseValue). a.status) says
checked_yes s t d response proves (inr (unproved, found)) = absurd (unproved proves)

-- the same schema, what was printed and the same goal are read, and the tree concludes the goal
again_yes : (files after : Files) (schema goal file text : List ℕ) (response : ResponseValue) → (said : SaidYes files schema goal text)
    → bytes_of_file after schema ≡ bytes_of_file files schema → bytes_of_file after file ≡ Some text → length text ≤ MOST_PROOF_BYTES
    → WithFile schema_file (known_files after) schema (λ r. WithFile (proof_file r) (known_files after) file (λ t. WithGoal r goal (Checked r t))) response
    → response.status ≡ Yes
again_yes files after schema goal file text response said same kept within_limit answered =
    let tree = tree_of said.proof in
    let held_schema : IsFile schema_file (known_files after) schema said.of = record {
      bytes = said.file.bytes;
      content = (same ∙ said.file.content.0, said.file.content.1);
      means = said.file.means;
    } in
    let held_proof : IsFile (proof_file said.of) (known_files after) file tree =
    record { bytes = text; content = (kept, within_limit); means = printed_within files schema goal text said } in
    checked_yes said.of tree said.dep response said.is_proof.proves
    (after_goal said.of goal said.dep (Checked said.of tree) response said.is_goal
    (after_file after file (proof_file said.of) (proof_text_once said.of) tree
    (λ t. WithGoal said.of goal (Checked said.of t)) response held_proof
    (after_schema after schema said.of
    (λ r. WithFile (proof_file r) (known_files after) file (λ t. WithGoal r goal (Checked r t))) response held_schema answered)))

implies_answers : (looks : Looks) (files : Files) (schema goal : List ℕ) (response : ResponseValue) → Answers looks (known_files files) (codes "implies" ∷ schema ∷ goal ∷ []) response → WithFile schema_file (known_files files) schema (λ s. WithGoal s goal (Decided s)) response
unfolding form_of form_over_schema schema_and_word Performs Does AnswersSchema
implies_answers looks files schema goal response answered = answered

check_answers : (looks : Looks) (files : Files) (schema goal file : List ℕ) (response : ResponseValue) → Answers looks (known_files files) (codes "check" ∷ codes "proof" ∷ schema ∷ file ∷ goal ∷ []) response
    → WithFile schema_file (known_files files) schema (λ r. WithFile (proof_file r) (known_files files) file (λ t. WithGoal r goal (Checked r t))) response
unfolding form_of form_over_schema after_check schema_and_two Performs Does
check_answers looks files schema goal file response answered = answered

-- what is printed after yes and kept in a file is accepted for the same schema and goal
pub printed_accepted : PrintedProofIsAccepted
printed_accepted schema goal looks later before after file printed response answered says_yes same kept within_limit again =
    let said = yes_there before schema goal printed says_yes (implies_answers looks before schema goal printed answered) in
    again_yes before after schema goal file printed.text response said same kept within_limit (check_answers later after schema goal file response again)
