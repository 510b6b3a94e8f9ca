-- Lines that are read lead to a checker state that follows them.
use Rattle.std.proofs.Common.{◌≡◌, ◌<◌, ◌≤◌, ◌+◌, ℕ, Bool, true, false, List, [], ◌∷◌, ◌++◌, length, get_or, Result, refl, sym, ◌∙◌, ap, subst, arith, length-append, append_assoc}
use Rattle.std.proofs.Math.Seq.{get_or-append_seam}
use Rattle.std.proofs.lemmas.List.{append-nil}
use Rattle.schema_model.specs.Schemas.{Schema}
use Rattle.schema_model.specs.Schemas.{names_of, naming_of}
use Rattle.derivation.specs.declared.measures.TheConstants.{MOST_NODES, MOST_LEVELS}
use Rattle.derivation.specs.Trees.{Tree, depth}
use Rattle.lexer.specs.Modes as mode
use Rattle.lexer.specs.Lines.{line_texts, without_mark}
use Rattle.lexer.specs.Tokens.{lex}
use Rattle.proof_grammar.specs.declared.line_kind.LineKind.{LineKind}
use Rattle.proof_grammar.specs.declared.line_kind.LineKind.TheVariants.{Blank, Opening, Certificate}
use Rattle.proof_grammar.specs.CheckerStates.{CheckerStateValue}
use Rattle.proof_grammar.specs.Diagnostics.{LineDiagnostic}
use Rattle.proof_grammar.specs.Lines.{Line}
use Rattle.proof_grammar.specs.Meanings.{certificate_lines_of, MeanLines}
use Rattle.proof_grammar.specs.Spelling.{AreNodes, uses}
use Rattle.proof_grammar.specs.Texts.{read_as, line_kind, read_one, read_certificate_lines}
use Rattle.proof_grammar.proofs.CountedLines.{lines_to_read, Counts, kind_counts, line_of_attributes, nothing_counts, one_line_more}
use Rattle.proof_grammar.proofs.DepthLemmas.{uses_first, nodes_size}
use Rattle.proof_grammar.proofs.EnteredLaws.{used_after}
use Rattle.proof_grammar.proofs.EnteredRefusals.{entered_back}
use Rattle.proof_grammar.proofs.LineLaws.{line_back}
use Rattle.proof_grammar.proofs.NodeLemmas.{uses-append}
use Rattle.proof_grammar.specs.Refusals.{StandsAt}
use Rattle.proof_grammar.specs.Wrongs.{AreRead}
use Rattle.proof_grammar.proofs.ReadLines.{read_from, HasReadLines, at_start, line_passed_over, one_more}

-- the reader after the lines before, of which it read this
pub record IsWalked (s : Schema) (text : List ℕ) (before after : List (List ℕ)) (lines : List Line) (trees : List Tree)
    (found : Result Tree LineDiagnostic) : Type 0 where
  pub fresh : Bool
  pub state : CheckerStateValue
  pub afterwards : HasReadLines s text before fresh lines trees state
  pub same : found ≡ read_certificate_lines s fresh (length before + 1) state after

-- it has come to these lines of the text; they mean these lines more, and have these trees
record HasCome (s : Schema) (text : List ℕ) (after whole : List (List ℕ)) (all : List Line) (grown : List Tree)
    (number : ℕ) (texts : List (List ℕ)) (more : List Line) (us : List Tree) : Type 0 where
  before : List (List ℕ)
  fresh : Bool
  lines : List Line
  trees : List Tree
  state : CheckerStateValue
  cut : line_texts (without_mark text) ≡ before ++ (texts ++ after)
  front : whole ≡ before ++ texts
  count : number ≡ length before + 1
  afterwards : HasReadLines s text before fresh lines trees state
  mean : MeanLines (naming_of s) (names_of s) (lines_to_read (naming_of s) fresh texts) more
  all_lines : all ≡ lines ++ more
  all_trees : grown ≡ trees ++ us
  nodes : AreNodes s trees more us

-- a line that does not count
Walks-skipped : (s : Schema) (text : List ℕ) (after whole : List (List ℕ)) (all : List Line) (grown : List Tree) (number : ℕ)
    (here : List ℕ) (texts : List (List ℕ)) (more : List Line) (us : List Tree)
    (w : HasCome s text after whole all grown number (here ∷ texts) more us) (fresh : Bool)
    → ((rest : List (List ℕ)) → lines_to_read (naming_of s) w.fresh (here ∷ rest) ≡ lines_to_read (naming_of s) fresh rest)
    → HasCome s text after whole all grown (number + 1) texts more us
Walks-skipped s text after whole all grown number here texts more us w fresh counts = record {
  before = w.before ++ here ∷ [];
  fresh = fresh;
  lines = w.lines;
  trees = w.trees;
  state = w.state;
  cut = w.cut ∙ sym (append_assoc w.before (here ∷ []) (texts ++ after));
  front = w.front ∙ sym (append_assoc w.before (here ∷ []) texts);
  count = omega (arith, w.count, length-append w.before (here ∷ []));
  afterwards = line_passed_over s text w.before w.fresh fresh w.lines w.trees w.state here w.afterwards counts;
  mean = subst (λ (ls : List (List ℕ)). MeanLines (naming_of s) (names_of s) ls more) (counts texts) w.mean;
  all_lines = w.all_lines;
  all_trees = w.all_trees;
  nodes = w.nodes;
}

-- what is walked of lines
abbrev Walks : Schema → List ℕ → List (List ℕ) → List (List ℕ) → List Line → List Tree → ℕ
    → List (List ℕ) → Type 0
Walks s text after whole all grown number texts =
    (more : List Line) (us : List Tree) (w : HasCome s text after whole all grown number texts more us)
    → IsWalked s text whole after all grown (read_certificate_lines s w.fresh number w.state (texts ++ after))

walk_more : (k : LineKind) (s : Schema) (text : List ℕ) (after whole : List (List ℕ)) (all : List Line)
    (grown : List Tree) (number : ℕ) (here : List ℕ) (texts : List (List ℕ)) (more : List Line) (us : List Tree)
    (w : HasCome s text after whole all grown number (here ∷ texts) more us) → AreRead s all grown
    → Counts (naming_of s) k w.fresh here → Walks s text after whole all grown (number + 1) texts
    → IsWalked s text whole after all grown
    (read_from s number (texts ++ after) (read_as k s w.fresh number w.state here))
unfolding Walks-skipped
walk_more Blank s text after whole all grown number here texts more us w read counts on =
    on more us (Walks-skipped s text after whole all grown number here texts more us w w.fresh counts)
walk_more Opening s text after whole all grown number here texts more us w read counts on =
    on more us (Walks-skipped s text after whole all grown number here texts more us w false counts)
walk_more Certificate s text after whole all grown number here texts [] us w read counts on =
    absurd (subst (λ (ls : List (List ℕ)). MeanLines (naming_of s) (names_of s) ls []) (counts texts) w.mean)
walk_more Certificate s text after whole all grown number here texts (l ∷ more) [] w read counts on = absurd w.nodes
walk_more Certificate s text after whole all grown number here texts (l ∷ more) (u ∷ us) w read counts on =
    let means = subst (λ (ls : List (List ℕ)). MeanLines (naming_of s) (names_of s) ls (l ∷ more)) (counts texts) w.mean in
    let size = nodes_size s [] w.lines w.trees w.afterwards.read.nodes in
    let room : length w.trees < MOST_NODES =
    omega (arith, read.lines_fit, ap length w.all_lines, length-append w.lines (l ∷ more), size) in
    let inside : length w.trees < length grown = omega (arith, ap length w.all_trees, length-append w.trees (u ∷ us)) in
    let flat : depth u ≤ MOST_LEVELS = omega (
      arith,
      read.levels_fit (length w.trees) u inside,
      ap depth (get_or-append_seam w.trees u us u),
      ap (λ ts. depth (get_or ts (length w.trees) u)) w.all_trees,
    ) in
    let once : (n : ℕ) → 0 < n → used_after (λ n. uses n w.lines) l n ≤ 1 = λ n low. omega (
      arith,
      read.once n low,
      ap (uses n) w.all_lines,
      uses-append n w.lines (l ∷ more),
      uses_first n l more,
    ) in
    let own = line_of_attributes s here l means.0 in
    let enters = entered_back s number w.lines w.trees w.state l u w.afterwards.follows own w.nodes.0 room flat once in
    let stands : StandsAt (naming_of s) text w.before here number = record {
      after = texts ++ after;
      cut = w.cut;
      number = w.count;
      counts = one_line_more (naming_of s) w.before w.fresh here w.afterwards.counts counts;
    } in
    rw (line_back (naming_of s) (names_of s) number here l means.0, enters.1) (on more us (record {
      before = w.before ++ here ∷ [];
      fresh = false;
      lines = w.lines ++ l ∷ [];
      trees = w.trees ++ u ∷ [];
      state = enters.0;
      cut = w.cut ∙ sym (append_assoc w.before (here ∷ []) (texts ++ after));
      front = w.front ∙ sym (append_assoc w.before (here ∷ []) texts);
      count = omega (arith, w.count, length-append w.before (here ∷ []));
      afterwards = one_more s text w.before w.fresh w.lines w.trees w.state here number l u enters.0 w.afterwards counts
          stands means.0 enters.1 enters.2;
      mean = means.1;
      all_lines = w.all_lines ∙ sym (append_assoc w.lines (l ∷ []) more);
      all_trees = w.all_trees ∙ sym (append_assoc w.trees (u ∷ []) us);
      nodes = w.nodes.1;
    }))

walk : (s : Schema) (text : List ℕ) (after whole : List (List ℕ)) (all : List Line) (grown : List Tree) (number : ℕ)
    (texts : List (List ℕ)) → AreRead s all grown → Walks s text after whole all grown number texts
unfolding read_certificate_lines read_one
walk s text after whole all grown number [] read [] [] w =
    let of : List (List ℕ) → List Line → List Tree → Type 0 =
    λ b ls ts. IsWalked s text b after ls ts (read_certificate_lines s w.fresh number w.state after) in
    let start : of w.before w.lines w.trees = record {
      fresh = w.fresh;
      state = w.state;
      afterwards = w.afterwards;
      same = ap (λ n. read_certificate_lines s w.fresh n w.state after) w.count;
    } in
    let same_front = sym (w.front ∙ append-nil w.before) in
    let same_lines = sym (w.all_lines ∙ append-nil w.lines) in
    let same_trees = sym (w.all_trees ∙ append-nil w.trees) in
    subst (λ b. of b all grown) same_front
    (subst (λ ts. of w.before all ts) same_trees (subst (λ ls. of w.before ls w.trees) same_lines start))
walk s text after whole all grown number [] read [] (u ∷ us) w = absurd w.nodes
walk s text after whole all grown number [] read (l ∷ more) us w =
    absurd (subst (λ (ls : List (List ℕ)). MeanLines (naming_of s) (names_of s) ls (l ∷ more)) (nothing_counts (naming_of s) w.fresh) w.mean)
walk s text after whole all grown number (here ∷ texts) read more us w =
    walk_more (line_kind w.fresh (lex (mode.numbered (naming_of s)) here)) s text after whole all grown number here texts more us w read
    (kind_counts (naming_of s) w.fresh here _ refl) (walk s text after whole all grown (number + 1) texts read)

-- the reader after lines of a text that are read
pub read_lines_walked : (s : Schema) (text : List ℕ) (before after : List (List ℕ)) (lines : List Line) (trees : List Tree)
    → line_texts (without_mark text) ≡ before ++ after
    → MeanLines (naming_of s) (names_of s) (certificate_lines_of (naming_of s) before) lines
    → AreRead s lines trees → IsWalked s text before after lines trees
    (read_certificate_lines s true 1 (record { lines = []; unused = [] }) (before ++ after))
read_lines_walked s text before after lines trees cut mean read =
    walk s text after before lines trees 1 before read lines trees (record {
      before = [];
      fresh = true;
      lines = [];
      trees = [];
      state = record { lines = []; unused = [] };
      cut = cut;
      front = refl;
      count = refl;
      afterwards = at_start s text;
      mean = mean;
      all_lines = refl;
      all_trees = refl;
      nodes = read.nodes;
    })
