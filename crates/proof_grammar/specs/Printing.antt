-- The one certificate in which a tree is printed: for `print_proof` and `implies`
-- (`desk_implication/Implication`).
use Rattle.std.specs.Prelude.{ℕ, ◌+◌, List, [], ◌∷◌, ◌++◌, codes, decimal, Result, Ok, Err}
use Rattle.std.specs.List.{flat_map}
use Rattle.attr_sets.specs.Attributes.{Attributes, IsSubset}
use Rattle.schema_model.specs.Schemas.{Schema, theory_in}
use Rattle.dep_model.specs.Dependencies.{Dependency}
use Rattle.derivation.specs.declared.fault.Fault.{Fault}
use Rattle.derivation.specs.Trees.{Leaf, given, reflexivity, mreflexivity, Step, augmentation, complementation}
use Rattle.derivation.specs.Trees.{maugmentation, replication, Pair, transitivity, mtransitivity, coalescence, Tree}
use Rattle.derivation.specs.Trees.{leaf, step, pair, nodes}
use Rattle.derivation.specs.Conclusions.{Proves, conclusion_after}
use Rattle.schema_printer.specs.Printing.{set_text, dependency_text}
use Rattle.schema_printer.specs.Spelling.{printed_names_of}
use Rattle.proof_grammar.specs.Lines.{Body, by_given, by_reflexivity, by_mreflexivity, by_step, by_pair, Line}

-- ---- a line as text: one blank between two tokens, none before the first colon, and a line feed
-- the word of a rule with one premise
unfoldable pub step_word : Step → List ℕ
step_word (augmentation z) = codes "augmentation "
step_word complementation = codes "complementation "
step_word (maugmentation w z) = codes "maugmentation "
step_word replication = codes "replication "

-- its sets, after the number of the premise
abbrev pub sides_text : List (List ℕ) → Step → List ℕ
sides_text names (augmentation z) = codes " with " ++ set_text names z
sides_text names complementation = []
sides_text names (maugmentation w z) = codes " with " ++ set_text names w ++ codes " : " ++ set_text names z
sides_text names replication = []

-- the word of a rule with two premises
unfoldable pub pair_word : Pair → List ℕ
pair_word transitivity = codes "transitivity "
pair_word mtransitivity = codes "mtransitivity "
pair_word coalescence = codes "coalescence "

-- what is printed of a rule with its premises and sets
unfoldable pub body_text : List (List ℕ) → Body → List ℕ
body_text names (by_given k) = codes "given " ++ decimal k
body_text names by_reflexivity = codes "reflexivity"
body_text names by_mreflexivity = codes "mreflexivity"
body_text names (by_step rule p) = step_word rule ++ decimal p ++ sides_text names rule
body_text names (by_pair rule p q) = pair_word rule ++ decimal p ++ codes " " ++ decimal q

-- a line as it is printed
unfoldable pub certificate_line_text : List (List ℕ) → Line → List ℕ
certificate_line_text names l =
    decimal l.number ++ codes ": " ++ dependency_text names l.stated ++ codes " : "
    ++ body_text names l.body ++ codes "\n"

-- ---- the lines of a tree
-- dependencies of the schema are counted from 1
abbrev pub leaf_body : Leaf → Body
leaf_body (given k) = by_given (k + 1)
leaf_body (reflexivity x y) = by_reflexivity
leaf_body (mreflexivity x y) = by_mreflexivity

-- a line of its three parts
abbrev pub numbered_line : ℕ → Dependency → Body → Line
numbered_line n d body = record { number = n; stated = d; body = body }

-- the line of a node, which states what the node concludes
abbrev pub node_line : ℕ → Result Dependency Fault → Body → List Line
node_line n (Ok d) body = numbered_line n d body ∷ []
node_line n (Err fault) body = []

-- the nodes in post-order, numbered after this many others
abbrev pub node_lines_after : Schema → ℕ → Tree → List Line
node_lines_after s n (leaf rule) = node_line (n + 1) (conclusion_after (theory_in s) 0 (leaf rule)) (leaf_body rule)
node_lines_after s n (step rule t) =
    node_lines_after s n t
    ++ node_line (n + nodes t + 1) (conclusion_after (theory_in s) 0 (step rule t)) (by_step rule (n + nodes t))
node_lines_after s n (pair rule t u) =
    node_lines_after s n t ++ node_lines_after s (n + nodes t) u
    ++ node_line (n + nodes t + nodes u + 1) (conclusion_after (theory_in s) 0 (pair rule t u))
    (by_pair rule (n + nodes t) (n + nodes t + nodes u))

-- the text of lines
abbrev pub certificate_lines_text : List (List ℕ) → List Line → List ℕ
certificate_lines_text names lines = flat_map (certificate_line_text names) lines

-- the one certificate in which a tree is printed
abbrev pub canonical_certificate : Schema → Tree → List ℕ
canonical_certificate s t = certificate_lines_text (printed_names_of s) (node_lines_after s 0 t)

-- ---- what can be printed
-- a tree proves some dependency
abbrev pub IsProof : Schema → Tree → Type 0
IsProof s t = (d : Dependency) × Proves (theory_in s) t d

-- the sets of a rule lie within a set
abbrev pub IsStepWithin : Attributes → Step → Type 0
IsStepWithin universe (augmentation z) = IsSubset z universe
IsStepWithin universe complementation = Unit {0}
IsStepWithin universe (maugmentation w z) = IsSubset w universe × IsSubset z universe
IsStepWithin universe replication = Unit {0}

-- the same of what follows the second colon
abbrev pub IsBodyWithin : Attributes → Body → Type 0
IsBodyWithin universe (by_step rule p) = IsStepWithin universe rule
IsBodyWithin universe _ = Unit {0}
