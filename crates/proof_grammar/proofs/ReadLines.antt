-- The reader after some lines of a text: what they mean, and at which lines of the text they stand.
use Rattle.std.proofs.Common.{◌≡◌, ◌<◌, ◌≤◌, ◌+◌, ◌-◌, ◌==◌, ⊎_elim, ℕ, Bool, true, false, List, [], ◌∷◌, ◌++◌, length, Option, Some, None, Result, Ok, Err, refl, sym, ◌∙◌, ap, subst, arith, length-append}
use Rattle.std.specs.Prelude.{slice_index}
use Rattle.std.proofs.Math.Seq.{get_or-append_seam}
use Rattle.std.specs.Result.{IfOk}
use Rattle.std.proofs.lemmas.Bool.{cases_lt, cond_both}
use Rattle.std.proofs.lemmas.List.{get_or_append_left}
use Rattle.std.proofs.lemmas.List.Elements.{All-push}
use Rattle.std.proofs.lemmas.Slice.Zip.{AllZip-long, all_zipped_more}
use Rattle.schema_model.specs.Schemas.{Schema}
use Rattle.schema_model.specs.Schemas.{names_of, naming_of}
use Rattle.derivation.specs.declared.measures.TheConstants.{MOST_LEVELS}
use Rattle.derivation.specs.Trees.{Tree, depth}
use Rattle.schema_model.specs.declared.naming.Naming.{Naming}
use Rattle.proof_grammar.specs.declared.line_kind.LineKind.TheVariants.{Certificate}
use Rattle.proof_grammar.specs.CheckerStates.{Opened, CheckerStateValue, prepare_line, within_limits, add_line, enter_line}
use Rattle.proof_grammar.specs.Diagnostics.{Diagnostic, LineDiagnostic, wrong_number}
use Rattle.proof_grammar.specs.Lines.{Line}
use Rattle.proof_grammar.specs.Meanings.{certificate_lines_of, MeansLine, MeanLines}
use Rattle.schema_grammar.specs.Rests.{◌>>=◌}
use Rattle.schema_grammar.proofs.RefusalLemmas.{ok_at}
use Rattle.proof_grammar.specs.Spelling.{uses}
use Rattle.proof_grammar.specs.Texts.{at_line, read_certificate_lines}
use Rattle.proof_grammar.proofs.CheckedLemmas.{bind_each}
use Rattle.proof_grammar.proofs.CountedLines.{lines_to_read, Counts, CountOn, same_lines, count_past, one_line_more, count_after}
use Rattle.proof_grammar.proofs.DepthLemmas.{uses_first, nodes_size}
use Rattle.proof_grammar.proofs.EnteredLaws.{Follows, IsEntered, used_after}
use Rattle.proof_grammar.proofs.NodeLemmas.{AreNodes-append, uses-append}
use Rattle.proof_grammar.proofs.SlotLemmas.{IsSlot, slots_same, slots_size, slot_of_tree, tree_of_slot}
use Rattle.proof_grammar.specs.Refusals.{StandsAt}
use Rattle.proof_grammar.specs.Wrongs.{AreRead}

-- ---- what is read of a line
-- the checker state after a certificate line, after which no `yes` may come
abbrev pub without_more_yes : Result CheckerStateValue Diagnostic
    → Result (Bool × CheckerStateValue) Diagnostic
without_more_yes r = r >>= λ next. Ok (false, next)

-- what is read of a line, and after it
abbrev pub read_from : Schema → ℕ → List (List ℕ) → Result (Bool × CheckerStateValue) Diagnostic
    → Result Tree LineDiagnostic
read_from s number texts r = at_line number r >>= λ next. read_certificate_lines s next.0 (number + 1) next.1 texts

-- ---- what follows lines
-- no line is used twice
follows_once : (s : Schema) (used : ℕ → ℕ) (ts : List Tree) (state : CheckerStateValue) (n : ℕ)
    → Follows s used ts state → 0 < n → used n ≤ 1
follows_once s used ts state n follows low =
    let size = slots_size s used 0 ts state.unused follows.slots in
    ⊎_elim
    (λ (inside : n - 1 < length state.unused).
    let same : 0 + (n - 1) + 1 ≡ n = omega (arith, low) in
    let tree = tree_of_slot s used 0 ts state.unused (n - 1) follows.slots inside in
    let found = slot_of_tree s used 0 ts state.unused (n - 1) tree.0 follows.slots tree.1 in
    let within_limit : used (0 + (n - 1) + 1) ≤ 1 = slot (used (0 + (n - 1) + 1)) tree.0 found.slot found.is in
    omega (arith, within_limit, ap used same))
    (λ (past : length state.unused ≤ n - 1). omega (arith, follows.fresh n (omega (arith, past, low, size))))
    (cases_lt (n - 1) (length state.unused))
  where
    slot : (often : ℕ) (t : Tree) (o : Option Opened) → IsSlot s often t o → often ≤ 1
    slot often t (Some o) is = omega (arith, is.0)
    slot often t None is = omega (arith, is)

-- the line of the text is kept
entered_adds : (s : Schema) (at : ℕ) (state next : CheckerStateValue) (l : Line)
    → enter_line s at state l ≡ Ok next → next.lines ≡ state.lines ++ at ∷ []
unfolding enter_line
entered_adds s at state next l h =
    let os = state.unused in
    let adds : CheckerStateValue → Type 0 = λ b. b.lines ≡ state.lines ++ at ∷ [] in
    let all = prepare_line s os l.stated l.body >>= λ p. within_limits (length os) l p.levels p.outcome
    >>= λ o. Ok (add_line at state.lines p.unused o) in
    ok_at adds _ next h
    (cond_both (l.number == length os + 1) all (Err wrong_number) (λ r. IfOk r adds)
    (λ numbered. bind_each adds (prepare_line s os l.stated l.body) _
    (λ p found. bind_each adds (within_limits (length os) l p.levels p.outcome) _ (λ o ends. refl)))
    (λ other. tt))

-- ---- after some lines
-- where a certificate line after so many others stands in a text
pub record IsPosition (naming : Naming) (text : List ℕ) (at i : ℕ) : Type 0 where
  pub before : List (List ℕ)
  pub here : List ℕ
  pub stands : StandsAt naming text before here at
  pub count : length (certificate_lines_of naming before) ≡ i

pub record HasReadLines (s : Schema) (text : List ℕ) (before : List (List ℕ)) (fresh : Bool) (lines : List Line) (trees : List Tree) (state : CheckerStateValue) : Type 0 where
  pub counts : CountOn (naming_of s) before fresh
  pub mean : MeanLines (naming_of s) (names_of s) (certificate_lines_of (naming_of s) before) lines
  pub read : AreRead s lines trees
  pub follows : Follows s (λ n. uses n lines) trees state
  pub size : length state.lines ≡ length trees
  pub positions : (i : ℕ) → i < length state.lines
      → IsPosition (naming_of s) text (slice_index state.lines i) i

pub at_start : (s : Schema) (text : List ℕ)
    → HasReadLines s text [] true [] [] (record { lines = []; unused = [] })
at_start s text = record {
  counts = λ more. refl;
  mean = tt;
  read = record { nodes = tt; once = λ n h. omega arith; lines_fit = omega arith; levels_fit = λ k t h. absurd (omega (arith, h)) };
  follows = record { slots = tt; fresh = λ n low. refl };
  size = refl;
  positions = λ i h. absurd (omega (arith, h));
}

-- a line that does not count
pub line_passed_over : (s : Schema) (text : List ℕ) (before : List (List ℕ)) (fresh next : Bool) (lines : List Line) (trees : List Tree) (state : CheckerStateValue) (here : List ℕ)
    → HasReadLines s text before fresh lines trees state
    → ((more : List (List ℕ)) → lines_to_read (naming_of s) fresh (here ∷ more) ≡ lines_to_read (naming_of s) next more) → HasReadLines s text (before ++ here ∷ []) next lines trees state
line_passed_over s text before fresh next lines trees state here afterwards skips = record {
  counts = count_past (naming_of s) before fresh here afterwards.counts next skips;
  mean = subst (λ (ls : List (List ℕ)). MeanLines (naming_of s) (names_of s) ls lines) (sym (same_lines (naming_of s) before fresh here afterwards.counts next skips)) afterwards.mean;
  read = afterwards.read;
  follows = afterwards.follows;
  size = afterwards.size;
  positions = afterwards.positions;
}

-- a line is entered
pub one_more : (s : Schema) (text : List ℕ) (before : List (List ℕ)) (fresh : Bool) (lines : List Line) (trees : List Tree) (state : CheckerStateValue) (here : List ℕ) (at : ℕ) (l : Line) (u : Tree)
    (next : CheckerStateValue) → HasReadLines s text before fresh lines trees state → Counts (naming_of s) Certificate fresh here → StandsAt (naming_of s) text before here at → MeansLine (naming_of s) (names_of s) here l
    → enter_line s at state l ≡ Ok next → IsEntered s (λ n. uses n lines) trees l next u
    → HasReadLines s text (before ++ here ∷ []) false (lines ++ l ∷ []) (trees ++ u ∷ []) next
one_more s text before fresh lines trees state here at l u next afterwards counts stands means enter is =
    let so_far = certificate_lines_of (naming_of s) before in
    let whole = one_line_more (naming_of s) before fresh here afterwards.counts counts in
    let adds = entered_adds s at state next l enter in
    let count = nodes_size s [] lines trees afterwards.read.nodes in
    let used : ℕ → ℕ = λ n. uses n (lines ++ l ∷ []) in
    let sums : (n : ℕ) → used_after (λ n. uses n lines) l n ≡ used n =
    λ n. omega (arith, uses-append n lines (l ∷ []), uses_first n l []) in
    let follows : Follows s used (trees ++ u ∷ []) next = record {
      slots = slots_same s (used_after (λ n. uses n lines) l) used 0 (trees ++ u ∷ []) next.unused
          (λ n low. sums n) is.follows.slots;
      fresh = λ n h. sym (sums n) ∙ is.follows.fresh n h;
    } in
    let position : (i : ℕ) → i < length (state.lines ++ at ∷ [])
    → IsPosition (naming_of s) text (slice_index (state.lines ++ at ∷ []) i) i = λ i h.
    ⊎_elim
    (λ (inside : i < length state.lines).
    subst (λ (n : ℕ). IsPosition (naming_of s) text n i) (sym (get_or_append_left state.lines (at ∷ []) 0 i inside))
    (afterwards.positions i inside))
    (λ (past : length state.lines ≤ i).
    let last : length state.lines ≡ i = omega (arith, past, h, length-append state.lines (at ∷ [])) in
    let value : slice_index (state.lines ++ at ∷ []) i ≡ at =
    sym (ap (slice_index (state.lines ++ at ∷ [])) last) ∙ get_or-append_seam state.lines at [] 0 in
    let size = AllZip-long (MeansLine (naming_of s) (names_of s)) so_far lines afterwards.mean in
    subst (λ (n : ℕ). IsPosition (naming_of s) text n i) (sym value)
    (record {
      before = before;
      here = here;
      stands = stands;
      count = omega (arith, size, count, afterwards.size, last);
    }))
    (cases_lt i (length state.lines)) in
    record {
      counts = count_after (naming_of s) before fresh here afterwards.counts counts;
      mean = subst (λ (ls : List (List ℕ)). MeanLines (naming_of s) (names_of s) ls (lines ++ l ∷ [])) (sym whole)
          (all_zipped_more (MeansLine (naming_of s) (names_of s)) so_far lines here l afterwards.mean means);
      read = record {
        nodes = AreNodes-append s [] lines trees (l ∷ []) (u ∷ []) afterwards.read.nodes (is.node, tt);
        once = λ n low. follows_once s used (trees ++ u ∷ []) next n follows low;
        lines_fit = omega (arith, is.lines_fit, count, length-append lines (l ∷ []));
        levels_fit = All-push (λ t. depth t ≤ MOST_LEVELS) trees u afterwards.read.levels_fit is.levels_fit;
      };
      follows = follows;
      size = ap length adds
          ∙ omega (arith, length-append state.lines (at ∷ []), length-append trees (u ∷ []), afterwards.size);
      positions = subst (λ (ls : List ℕ). (i : ℕ) → i < length ls → IsPosition (naming_of s) text (slice_index ls i) i)
          (sym adds) position;
    }
