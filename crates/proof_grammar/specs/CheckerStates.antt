-- The certificate lines that were read so far, as nodes, and what is still unused of them: for the
-- reading of certificates (`Texts`). `Desk` does not cite it.
use Rattle.std.specs.Prelude.{ℕ, ◌+◌, ◌-◌, ◌==◌, Bool, ◌&&◌, if◌then◌else◌, nat_lt, nat_le, List, [], ◌∷◌, ◌++◌}
use Rattle.std.specs.Prelude.{length, take, slice_get, slice_set, slice_index, position, Option, None, Some}
use Rattle.std.specs.Prelude.{option_map, is_some, Result, Ok, Err, max}
use Rattle.schema_model.specs.Schemas.{Schema, theory_in}
use Rattle.dep_model.specs.Dependencies.{Dependency, left_of, right_of}
use Rattle.derivation.specs.declared.fault.FaultKind.{FaultKind}
use Rattle.derivation.specs.Trees.{Tree, leaf, step, pair, reflexivity, mreflexivity, Step, Pair, Leaf}
use Rattle.derivation.specs.Table.{leaf_conclusion, step_conclusion, pair_conclusion}
use Rattle.derivation.specs.declared.measures.TheConstants.{MOST_NODES, MOST_LEVELS}
use Rattle.proof_grammar.specs.Diagnostics.{Diagnostic, LineDiagnostic, wrong_number, no_such_line, used_twice}
use Rattle.proof_grammar.specs.Diagnostics.{never_used, too_many_lines, too_deep, unsound, states_other, empty_proof}
use Rattle.proof_grammar.specs.Lines.{Body, by_given, by_reflexivity, by_mreflexivity, by_step, by_pair, Line}
use Rattle.proof_grammar.specs.Nodes.{with_tree, given_outcome, same_dependency}
use Rattle.schema_grammar.specs.Rests.{◌>>=◌}

-- what a line concluded, by a tree that no later line used
pub record Opened : Type 0 where
  pub tree : Tree
  pub levels : ℕ
  pub conclusion : Dependency

-- the certificate lines so far: the line of the text of each, and what is not used of it
pub record CheckerStateValue : Type 0 where
  pub lines : List ℕ
  pub unused : List (Option Opened)

-- two options in one
abbrev pub option_flatten : {A : Type 0} → Option (Option A) → Option A
option_flatten None = None
option_flatten (Some o) = o

-- whether lines have this number
abbrev pub is_earlier : List (Option Opened) → ℕ → Bool
is_earlier unused p = nat_lt 0 p && nat_le p (length unused)

-- what is not used of the line of this number
abbrev pub open_at : List (Option Opened) → ℕ → Option Opened
open_at unused p = option_flatten (slice_get unused (p - 1))

-- the line of this number is used
abbrev pub close_line : List (Option Opened) → ℕ → List (Option Opened)
close_line unused p = slice_set unused (p - 1) None

-- a node, with what its rule concludes, and what is unused after its premises
pub record Prepared : Type 0 where
  pub levels : ℕ
  pub outcome : Result (Tree × Dependency) FaultKind
  pub unused : List (Option Opened)

-- the node of a rule without premises
abbrev pub leaf_node : Schema → Leaf → List (Option Opened) → Result Prepared Diagnostic
leaf_node s rule unused =
    Ok (record { levels = 1; outcome = with_tree (leaf rule) (leaf_conclusion (theory_in s) rule); unused = unused })

-- the node of a rule over what is unused of one line; refused where the line was used before
abbrev pub step_node : Schema → Step → Option Opened → List (Option Opened) → Result Prepared Diagnostic
step_node s rule None unused = Err used_twice
step_node s rule (Some t) unused =
    Ok (record {
      levels = t.levels + 1;
      outcome = with_tree (step rule t.tree)
          (step_conclusion (theory_in s) rule t.conclusion);
      unused = unused;
    })

-- the node of a rule over what is unused of two lines
abbrev pub pair_node : Pair → Option Opened → Option Opened → List (Option Opened) → Result Prepared Diagnostic
pair_node rule (Some t) (Some u) unused =
    Ok (record {
      levels = max t.levels u.levels + 1;
      outcome = with_tree (pair rule t.tree u.tree) (pair_conclusion rule t.conclusion u.conclusion);
      unused = unused;
    })
pair_node rule _ _ unused = Err used_twice

-- the node of a rule over the line of this number, which must be an earlier one
abbrev pub step_of_line : Schema → Step → List (Option Opened) → ℕ → Result Prepared Diagnostic
step_of_line s rule unused p = if is_earlier unused p
    then step_node s rule (open_at unused p) (close_line unused p) else Err no_such_line

-- the node of a rule over the lines of these two numbers
abbrev pub pair_of_line : Pair → List (Option Opened) → ℕ → ℕ → Result Prepared Diagnostic
pair_of_line rule unused p q =
    if is_earlier unused p && is_earlier unused q
    then pair_node rule (open_at unused p) (open_at (close_line unused p) q) (close_line (close_line unused p) q)
    else Err no_such_line

-- the node of a line: its premises are earlier lines that no line used
unfoldable pub prepare_line : Schema → List (Option Opened) → Dependency → Body → Result Prepared Diagnostic
prepare_line s unused stated (by_given k) =
    Ok (record { levels = 1; outcome = given_outcome s k; unused = unused })
prepare_line s unused stated by_reflexivity = leaf_node s (reflexivity (left_of stated) (right_of stated)) unused
prepare_line s unused stated by_mreflexivity =
    leaf_node s (mreflexivity (left_of stated) (right_of stated)) unused
prepare_line s unused stated (by_step rule p) = step_of_line s rule unused p
prepare_line s unused stated (by_pair rule p q) = pair_of_line rule unused p q

-- what a line concludes where its rule applies and it states that
abbrev pub concluded_as : ℕ → Dependency → ℕ → Result (Tree × Dependency) FaultKind → Result Opened Diagnostic
concluded_as n stated levels (Ok x) =
    if same_dependency stated x.1 then Ok (record { tree = x.0; levels = levels; conclusion = x.1 })
    else Err (states_other stated x.1)
concluded_as n stated levels (Err why) = Err (unsound (record { node = n; kind = why }))

-- a node within the limits that concludes what its line states; so many lines stand before
unfoldable pub within_limits : ℕ → Line → ℕ → Result (Tree × Dependency) FaultKind → Result Opened Diagnostic
within_limits before l levels outcome =
    if nat_le MOST_NODES before then Err too_many_lines
    else if nat_lt MOST_LEVELS levels then Err too_deep
    else concluded_as l.number l.stated levels outcome

-- one line more, which stands in this line of the text
abbrev pub add_line : ℕ → List ℕ → List (Option Opened) → Opened → CheckerStateValue
add_line at lines unused o = record { lines = lines ++ at ∷ []; unused = unused ++ Some o ∷ [] }

-- the checker state after one certificate line more
unfoldable pub enter_line : Schema → ℕ → CheckerStateValue → Line → Result CheckerStateValue Diagnostic
enter_line s at state l =
    if l.number == length state.unused + 1
    then (prepare_line s state.unused l.stated l.body
    >>= λ p. within_limits (length state.unused) l p.levels p.outcome
    >>= λ o. Ok (add_line at state.lines p.unused o))
    else Err wrong_number

-- the first line but the last that no line used
abbrev pub first_unused : List (Option Opened) → Option ℕ
first_unused unused = position is_some (take (length unused - 1) unused)

-- what is unused of the last line: in a whole certificate, the root of its tree
abbrev pub root : List (Option Opened) → Option Opened
root unused = option_flatten (slice_get unused (length unused - 1))

-- its tree, and what it concludes
abbrev pub concluded_by : Opened → Tree × Dependency
concluded_by o = (o.tree, o.conclusion)

-- the tree of the last line, and what it concludes
abbrev pub root_conclusion : List (Option Opened) → Option (Tree × Dependency)
root_conclusion unused = option_map concluded_by (root unused)

-- a diagnostic at this line of the text
abbrev pub diagnostic_at : ℕ → Diagnostic → LineDiagnostic
diagnostic_at line why = record { line = line; diagnostic = why }

-- the tree of the last line, unless a line before it is unused or there is none; `last` is the line
-- of the text with which it ends
abbrev pub finished_at : ℕ → List ℕ → Option ℕ → Option Opened → Result Tree LineDiagnostic
finished_at last lines (Some i) root = Err (diagnostic_at (slice_index lines i) never_used)
finished_at last lines None (Some o) = Ok o.tree
finished_at last lines None None = Err (diagnostic_at last empty_proof)

-- the tree of a checker state whose text ends with this line
unfoldable pub finished_certificate : ℕ → CheckerStateValue → Result Tree LineDiagnostic
finished_certificate last state = finished_at last state.lines (first_unused state.unused) (root state.unused)
