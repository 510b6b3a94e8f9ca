-- A text is read as a tree exactly where it spells the tree within the limits.
use Rattle.std.proofs.Common.{◌≡◌, ◌≤◌, inl, inr, ⊎_elim, ◌+◌, ◌-◌, ℕ, Bool, true, false, List, [], ◌∷◌, ◌++◌, length, get_or, Result, Ok, Err, refl, sym, ◌∙◌, ap, subst, arith, length-append, append_assoc}
use Rattle.std.proofs.lemmas.Bool.{cases_lt}
use Rattle.std.proofs.lemmas.List.{append-nil, length_push, nil_from_length}
use Rattle.std.proofs.lemmas.Option.{slice_get-get_or}
use Rattle.schema_model.specs.Schemas.{Schema}
use Rattle.schema_model.specs.Schemas.{names_of, naming_of}
use Rattle.derivation.specs.Trees.{Tree}
use Rattle.lexer.specs.Modes as mode
use Rattle.lexer.specs.Lines.{line_texts, without_mark}
use Rattle.lexer.specs.Tokens.{lex}
use Rattle.schema_grammar.specs.declared.refusal.SchemaRefusal.{SchemaRefusal}
use Rattle.proof_grammar.specs.declared.line_kind.LineKind.{LineKind}
use Rattle.proof_grammar.specs.declared.line_kind.LineKind.TheVariants.{Blank, Opening, Certificate}
use Rattle.proof_grammar.specs.CheckerStates.{CheckerStateValue, enter_line, finished_certificate}
use Rattle.proof_grammar.specs.Diagnostics.{Diagnostic, LineDiagnostic}
use Rattle.proof_grammar.specs.Lines.{Line, certificate_line}
use Rattle.proof_grammar.specs.Meanings.{MeansLine, MeanLines, certificate_lines}
use Rattle.proof_grammar.specs.Refusals.{StandsAt, IsRefusedCertificate}
use Rattle.schema_grammar.specs.Rests.{◌>>=◌, rest_from}
use Rattle.proof_grammar.specs.Spelling.{AreNodes, SpellsWithin, uses}
use Rattle.proof_grammar.specs.Texts.{in_line, read_as, line_kind, read_one, read_certificate_lines, read_proof}
use Rattle.proof_grammar.specs.Wrongs.{AreRead}
use Rattle.proof_grammar.proofs.CheckedLemmas.{read_proof_checked}
use Rattle.proof_grammar.proofs.CountedLines.{Counts, kind_counts, line_of_attributes, one_line_more}
use Rattle.proof_grammar.proofs.DepthLemmas.{uses_first, nodes_size, no_deeper}
use Rattle.proof_grammar.proofs.EnteredLaws.{premises_early}
use Rattle.proof_grammar.proofs.EnteredRefusals.{Enters, enters}
use Rattle.proof_grammar.proofs.FinishedRefusals.{Finishes, finishes, one_end}
use Rattle.proof_grammar.proofs.LineLaws.{line_there}
use Rattle.proof_grammar.proofs.LineRefusals as refusals
use Rattle.proof_grammar.proofs.ReadLines.{without_more_yes, read_from, HasReadLines, at_start, line_passed_over, one_more}
use Rattle.proof_grammar.proofs.WalkedLines.{read_lines_walked}

-- no line uses itself or a later one
pub late_unused : (s : Schema) (prior : List Tree) (ls : List Line) (ts : List Tree) (n : ℕ) → AreNodes s prior ls ts
    → length prior + length ls ≤ n → uses n ls ≡ 0
late_unused s prior [] [] n are late = refl
late_unused s prior (l ∷ ls) (t ∷ ts) n are late =
    let more = late_unused s (prior ++ t ∷ []) ls ts n are.1 (omega (arith, late, length-append prior (t ∷ []))) in
    omega (arith, uses_first n l ls, premises_early prior l l.body t n are.0.tree (omega (arith, late)), more)
late_unused s prior _ _ n are late = absurd are

-- ---- what is read
-- what a text says of the tree or the refusal that is read of it
abbrev pub TextFits : Schema → List ℕ → Result Tree LineDiagnostic → Type 0
TextFits s text (Ok t) = SpellsWithin s text t
TextFits s text (Err e) = IsRefusedCertificate s text e

-- all lines are read
end_fits : (s : Schema) (text : List ℕ) (fresh : Bool) (lines : List Line) (trees : List Tree) (state : CheckerStateValue)
    (last : ℕ) (r : Result Tree LineDiagnostic) → last ≡ length (line_texts (without_mark text))
    → HasReadLines s text (line_texts (without_mark text)) fresh lines trees state
    → Finishes (λ n. uses n lines) trees last state.lines r → read_proof s text ≡ r → TextFits s text r
end_fits s text fresh lines trees state last (Ok t) count afterwards done is =
    let size = nodes_size s [] lines trees afterwards.read.nodes in
    let whole = length_push done.before t in
    record {
      spells = record {
        lines = lines;
        mean = afterwards.mean;
        nodes = record {
          before = done.before;
          nodes = subst (AreNodes s [] lines) done.trees afterwards.read.nodes;
          used = λ n low high. done.each n low (omega (arith, high, size, whole, ap length done.trees));
        };
      };
      lines_fit = afterwards.read.lines_fit;
      levels_fit = (read_proof_checked s text t is).levels_fit;
    }
end_fits s text fresh lines trees state last (Err e) count afterwards (inl none) is =
    let size = nodes_size s [] lines trees afterwards.read.nodes in
    inr (record {
      lines = lines;
      trees = trees;
      mean = afterwards.mean;
      read = afterwards.read;
      why = inl (record {
        none = nil_from_length lines (omega (arith, size, ap length none.0));
        at = ap (λ (c : LineDiagnostic). c.line) none.1 ∙ count;
        is = ap (λ (c : LineDiagnostic). c.diagnostic) none.1;
      });
    })
end_fits s text fresh lines trees state last (Err e) count afterwards (inr first) is =
    let size = nodes_size s [] lines trees afterwards.read.nodes in
    let position = afterwards.positions first.at (omega (arith, first.inside, afterwards.size)) in
    inr (record {
      lines = lines;
      trees = trees;
      mean = afterwards.mean;
      read = afterwards.read;
      why = inr (record {
        number = first.at + 1;
        not_empty = omega arith;
        not_last = omega (arith, first.inside, size);
        unused = first.unused;
        first = λ n low high. first.earlier n low (omega (arith, high));
        before = position.before;
        here = position.here;
        stands = subst (StandsAt (naming_of s) text position.before position.here) (ap (λ (c : LineDiagnostic). c.line) (sym first.is))
            position.stands;
        is_number = omega (arith, position.count);
        is = ap (λ (c : LineDiagnostic). c.diagnostic) first.is;
      });
    })

-- what is read of the lines after some others
abbrev FitsOn : Schema → List ℕ → ℕ → List (List ℕ) → Type 0
FitsOn s text number texts =
    (before : List (List ℕ)) (fresh : Bool) (lines : List Line) (trees : List Tree) (state : CheckerStateValue)
    → line_texts (without_mark text) ≡ before ++ texts → number ≡ length before + 1
    → HasReadLines s text before fresh lines trees state
    → read_proof s text ≡ read_certificate_lines s fresh number state texts
    → TextFits s text (read_certificate_lines s fresh number state texts)

line_fits : (k : LineKind) (s : Schema) (text : List ℕ) (number : ℕ) (here : List ℕ) (texts before : List (List ℕ))
    (fresh : Bool) (lines : List Line) (trees : List Tree) (state : CheckerStateValue)
    → line_texts (without_mark text) ≡ before ++ here ∷ texts → number ≡ length before + 1
    → HasReadLines s text before fresh lines trees state → Counts (naming_of s) k fresh here → FitsOn s text (number + 1) texts
    → read_proof s text ≡ read_from s number texts (read_as k s fresh number state here)
    → TextFits s text (read_from s number texts (read_as k s fresh number state here))
line_fits Blank s text number here texts before fresh lines trees state cut count afterwards counts on is =
    on (before ++ here ∷ []) fresh lines trees state (cut ∙ sym (append_assoc before (here ∷ []) texts))
    (omega (arith, count, length-append before (here ∷ [])))
    (line_passed_over s text before fresh fresh lines trees state here afterwards counts) is
line_fits Opening s text number here texts before fresh lines trees state cut count afterwards counts on is =
    on (before ++ here ∷ []) false lines trees state (cut ∙ sym (append_assoc before (here ∷ []) texts))
    (omega (arith, count, length-append before (here ∷ [])))
    (line_passed_over s text before fresh false lines trees state here afterwards counts) is
line_fits Certificate s text number here texts before fresh lines trees state cut count afterwards counts on is =
    by_cases (certificate_line (names_of s) (rest_from number 1 (lex (mode.numbered (naming_of s)) here))) refl is
  where
    stands : StandsAt (naming_of s) text before here number
    stands = record {
      after = texts;
      cut = cut;
      number = count;
      counts = one_line_more (naming_of s) before fresh here afterwards.counts counts;
    }

    by_cases : (r : Result Line SchemaRefusal)
        → certificate_line (names_of s) (rest_from number 1 (lex (mode.numbered (naming_of s)) here)) ≡ r
        → read_proof s text ≡ read_from s number texts (in_line r >>= λ l. without_more_yes (enter_line s number state l))
        → TextFits s text (read_from s number texts (in_line r >>= λ l. without_more_yes (enter_line s number state l)))
    by_cases (Err refusal) grammar is = inl (record {
      before = before;
      here = here;
      stands = stands;
      lines = lines;
      trees = trees;
      mean = afterwards.mean;
      read = afterwards.read;
      why = inl (record {
        refusal = refusal;
        grammar = (refusals.refusal_law (naming_of s) (names_of s) number here refusal).0 grammar;
        is = refl;
      });
    })
    by_cases (Ok l) grammar is = by_line (enter_line s number state l) refl
        (enters s number lines trees state l afterwards.follows (line_of_attributes s here l means)) is
      where
        means : MeansLine (naming_of s) (names_of s) here l
        means = line_there (naming_of s) (names_of s) number here l grammar

        by_line : (r : Result CheckerStateValue Diagnostic) → enter_line s number state l ≡ r → Enters s lines trees l r
            → read_proof s text ≡ read_from s number texts (without_more_yes r)
            → TextFits s text (read_from s number texts (without_more_yes r))
        by_line (Err c) enter first is = inl (record {
          before = before;
          here = here;
          stands = stands;
          lines = lines;
          trees = trees;
          mean = afterwards.mean;
          read = afterwards.read;
          why = inr (record { line = l; means = means; wrong = first });
        })
        by_line (Ok next) enter enters is =
            on (before ++ here ∷ []) false (lines ++ l ∷ []) (trees ++ enters.0 ∷ []) next
            (cut ∙ sym (append_assoc before (here ∷ []) texts)) (omega (arith, count, length-append before (here ∷ [])))
            (one_more s text before fresh lines trees state here number l enters.0 next afterwards counts stands means
            enter enters.1) is

all_lines_fit : (s : Schema) (text : List ℕ) (number : ℕ) (texts : List (List ℕ)) → FitsOn s text number texts
unfolding read_certificate_lines read_one
all_lines_fit s text number [] before fresh lines trees state cut count afterwards is =
    let whole : line_texts (without_mark text) ≡ before = cut ∙ append-nil before in
    end_fits s text fresh lines trees state (number - 1) (finished_certificate (number - 1) state)
    (omega (arith, count, ap length whole))
    (subst (λ (ls : List (List ℕ)). HasReadLines s text ls fresh lines trees state) (sym whole) afterwards)
    (finishes s (λ n. uses n lines) trees state.unused (number - 1) state.lines afterwards.follows.slots
    afterwards.follows.fresh) is
all_lines_fit s text number (here ∷ texts) before fresh lines trees state cut count afterwards is =
    line_fits (line_kind fresh (lex (mode.numbered (naming_of s)) here)) s text number here texts before fresh lines trees state cut
    count afterwards (kind_counts (naming_of s) fresh here _ refl) (all_lines_fit s text (number + 1) texts) is

pub text_fits : (s : Schema) (text : List ℕ) → TextFits s text (read_proof s text)
unfolding read_proof
text_fits s text =
    all_lines_fit s text 1 (line_texts (without_mark text)) [] true [] [] (record { lines = []; unused = [] })
    refl refl (at_start s text) refl

pub spelled_there : (s : Schema) (text : List ℕ) (t : Tree) → read_proof s text ≡ Ok t → SpellsWithin s text t
spelled_there s text t h = subst (TextFits s text) h (text_fits s text)

-- ---- from what a text spells
-- a text whose lines are read is read as they are finished
pub end_back : (s : Schema) (text : List ℕ) (lines : List Line) (trees : List Tree) (r : Result Tree LineDiagnostic)
    → MeanLines (naming_of s) (names_of s) (certificate_lines (naming_of s) text) lines → AreRead s lines trees
    → ((fresh : Bool) (state : CheckerStateValue) → HasReadLines s text (line_texts (without_mark text)) fresh lines trees state
    → Finishes (λ n. uses n lines) trees (length (line_texts (without_mark text)) + 1 - 1) state.lines r)
    → read_proof s text ≡ r
unfolding read_proof read_certificate_lines
end_back s text lines trees r mean read done =
    let whole = line_texts (without_mark text) in
    let cut : whole ≡ whole ++ [] = sym (append-nil whole) in
    let walk = read_lines_walked s text whole [] lines trees cut mean read in
    let follows = walk.afterwards.follows in
    ap (read_certificate_lines s true 1 (record { lines = []; unused = [] })) cut
    ∙ walk.same
    ∙ one_end (λ n. uses n lines) trees (length whole + 1 - 1) walk.state.lines _ r
    (finishes s (λ n. uses n lines) trees walk.state.unused (length whole + 1 - 1) walk.state.lines follows.slots
    follows.fresh)
    (done walk.fresh walk.state walk.afterwards)

pub spelled_back : (s : Schema) (text : List ℕ) (t : Tree) → SpellsWithin s text t → read_proof s text ≡ Ok t
spelled_back s text t spelled =
    let lines = spelled.spells.lines in
    let are = spelled.spells.nodes in
    let trees = are.before ++ t ∷ [] in
    let size = nodes_size s [] lines trees are.nodes in
    end_back s text lines trees (Ok t) spelled.spells.mean (record {
      nodes = are.nodes;
      once = λ n low. ⊎_elim (λ less. omega (arith, are.used n low less))
          (λ late. omega (arith, late_unused s [] lines trees n are.nodes (omega (arith, late))))
          (cases_lt n (length lines));
      lines_fit = spelled.lines_fit;
      levels_fit = λ k d inside. omega (
        arith,
        spelled.levels_fit,
        no_deeper s lines t are k (get_or trees k d) (slice_get-get_or trees k d inside),
      );
    })
    (λ fresh state afterwards. record {
      before = are.before;
      trees = refl;
      each = λ k low high. are.used k low (omega (arith, high, size, length_push are.before t));
    })
