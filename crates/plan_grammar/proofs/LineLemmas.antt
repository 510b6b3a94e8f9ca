-- A line, and lines: read as the tables that they mean, or refused by the first diagnostic.
use Rattle.std.proofs.Common.{◌≡◌, ◌<◌, ◌≤◌, ◌+◌, ℕ, Bool, true, false, cond, List, [], ◌∷◌, ◌++◌, ◌||◌, suc, length, Option, Some, None, Result, Ok, Err, refl, sym, ap, subst, ◌∙◌, ◌⊎◌, inl, inr, ⊎_elim, arith, append_assoc}
use Rattle.std.specs.Prelude.{nat_le}
use Rattle.std.proofs.lemmas.Bool.{true≢false, leb-true, leb-false}
use Rattle.std.proofs.lemmas.List.{append-nil, length_push}
use Rattle.attr_sets.specs.Attributes.{Attributes, none}
use Rattle.schema_model.specs.declared.naming.Naming.{Naming}
use Rattle.lexer.specs.declared.token.LexError.{LexError}
use Rattle.lexer.specs.Tokens.{Mark}
use Rattle.schema_grammar.specs.declared.format.Format.TheVariants as format
use Rattle.schema_grammar.specs.declared.refusal.SchemaRefusalKind.{SchemaRefusalKind}
use Rattle.schema_grammar.specs.declared.refusal.SchemaRefusalKind.TheVariants as kind
use Rattle.schema_grammar.specs.declared.refusal.What.TheVariants as what
use Rattle.schema_grammar.specs.Diagnostics.{Carries, span_at}
use Rattle.schema_grammar.specs.Refusals.{refusal, refused_by}
use Rattle.schema_grammar.specs.Words.{is_reserved_token}
use Rattle.schema_grammar.specs.Rests.{◌>>=◌}
use Rattle.schema_grammar.proofs.DiagnosticLaws.{flaw_carries, flaw_kind, flaw_least}
use Rattle.schema_grammar.specs.DiagnosticKinds.{DiagnosticKind, reserved_name, expected, too_many_schemes, number_of, diagnostic_kind}
use Rattle.schema_grammar.proofs.DeclaringLaws.{has_tokens}
use Rattle.plan_grammar.specs.declared.refusal.PlanRefusal.{PlanRefusal}
use Rattle.plan_grammar.specs.declared.refusal.PlanRefusal.TheVariants as plan
use Rattle.plans.specs.declared.bounds.TheConstants.{MOST_SCHEMES}
use Rattle.plan_printer.specs.NamedPlans.{NamedSchemes, PlannedTable, led_by_table, no_tables, with_table}
use Rattle.plan_grammar.specs.LineTokens.{is_scheme, is_table, lex_line}
use Rattle.plan_grammar.specs.Meanings.{IsTableLine, MeansTableLines}
use Rattle.plan_grammar.specs.Diagnostics.{FirstTokenDiagnostic, TableLineDiagnostic, SpansPosition, IsFine, IsFirstOf, RefusesLine, RefusesTableLines, RestDiagnostic, line_wanted, name_given, names_with, opens_line, wanted_rest}
use Rattle.plan_grammar.specs.Reading.{no_scheme, read_named, read_opened, read_words, read_table_line, read_table_lines, table_of}
use Rattle.plan_grammar.proofs.FirstLemmas.{first_here, first_later, later_fine, no_flaw}
use Rattle.plan_grammar.proofs.NameLemmas.{NamedFits, named_fits}
use Rattle.plan_grammar.proofs.WordLemmas.{WordsFit, words_fit}

-- ---- one line
-- a line adds nothing, or its table
pub record AddsTable (names : List (List ℕ)) (tables : NamedSchemes) (ms : List Mark) (more : NamedSchemes) : Type 0 where
  pub table : PlannedTable
  pub line : IsTableLine names tables.names ms table
  pub given : names_with tables.names ms ≡ tables.names ++ table.name ∷ []
  pub added : more ≡ with_table tables table
  pub room : length tables.names < MOST_SCHEMES

pub record IsRead (names : List (List ℕ)) (tables : NamedSchemes) (ms : List Mark) (stop : Option LexError) (more : NamedSchemes) : Type 0 where
  pub ended : stop ≡ None
  pub adds : ((ms ≡ []) × (more ≡ tables)) ⊎ AddsTable names tables ms more
  pub fine : IsFine names tables.names ms stop

abbrev pub LineFits : List (List ℕ) → ℕ → NamedSchemes → List Mark → Option LexError → Result NamedSchemes PlanRefusal → Type 0
LineFits names line tables ms stop (Ok more) = IsRead names tables ms stop more
LineFits names line tables ms stop (Err e) = RefusesLine names line tables.names ms stop e

-- why a line can't begin with a token
record IsOther (earlier : ℕ) (m : Mark) (why : SchemaRefusalKind) : Type 0 where
  diagnostic : FirstTokenDiagnostic earlier m (diagnostic_kind why)
  carries : Carries (λ w. w ≡ what.Scheme) why
  least : (n : DiagnosticKind) → FirstTokenDiagnostic earlier m n → number_of (diagnostic_kind why) ≤ number_of n

head_least : (earlier : ℕ) (m : Mark) (low n : DiagnosticKind) → opens_line m.kind m.word ≡ false
    → number_of low ≤ number_of expected
    → (is_reserved_token format.Plain m.kind m.word ≡ true → number_of low ≤ number_of reserved_name)
    → FirstTokenDiagnostic earlier m n → number_of low ≤ number_of n
head_least earlier m low n other most reserved h =
    ⊎_elim
    (λ not_scheme. ⊎_elim (λ three. omega (arith, reserved three.1, ap number_of three.0)) (λ six. omega (arith, most, ap number_of six)) not_scheme.1)
    (λ many. absurd (true≢false (sym many.0 ∙ other)))
    h

other_six : (earlier : ℕ) (m : Mark) → opens_line m.kind m.word ≡ false → (is_reserved_token format.Plain m.kind m.word ≡ true → ⊥) → IsOther earlier m (kind.Expected what.Scheme)
other_six earlier m other not_reserved = record {
  diagnostic = inl (other, inr refl);
  carries = refl;
  least = λ n h. head_least earlier m expected n other (omega arith) (λ reserved. absurd (not_reserved reserved)) h;
}

other_word : (earlier : ℕ) (m : Mark) (b : Bool) → is_reserved_token format.Plain m.kind m.word ≡ b → opens_line m.kind m.word ≡ false
    → IsOther earlier m (cond b kind.ReservedName (kind.Expected what.Scheme))
other_word earlier m true reserved other = record {
  diagnostic = inl (other, inl (refl, reserved));
  carries = tt;
  least = λ n h. head_least earlier m reserved_name n other (omega arith) (λ _. omega arith) h;
}
other_word earlier m false not_reserved other = other_six earlier m other (λ reserved. true≢false (sym reserved ∙ not_reserved))

-- the first token of a scheme line for which there is room
head_fine : (earlier : ℕ) (m : Mark) (n : DiagnosticKind) → opens_line m.kind m.word ≡ true → earlier < MOST_SCHEMES → FirstTokenDiagnostic earlier m n → ⊥
head_fine earlier m n is room h = ⊎_elim (λ other. true≢false (sym is ∙ other.0)) (λ many. omega (arith, many.1, room)) h

head_many : (earlier : ℕ) (m : Mark) (n : DiagnosticKind) → opens_line m.kind m.word ≡ true → FirstTokenDiagnostic earlier m n → number_of too_many_schemes ≤ number_of n
head_many earlier m n is h = ⊎_elim (λ other. absurd (true≢false (sym is ∙ other.0))) (λ many. omega (arith, ap number_of many.2)) h

-- the name that a line without one gives
unnamed_given : (m : Mark) (ms : List Mark) → is_table m.kind m.word ≡ false → name_given (m ∷ ms) ≡ None
unnamed_given m [] other = refl
unnamed_given m (label ∷ ms) other = ap (λ (b : Bool). cond b (Some label.word) None) other

-- a token that begins a line, and is not the word `table`, is the word `scheme`
scheme_opens : (a b : Bool) → (a || b) ≡ true → b ≡ false → a ≡ true
scheme_opens true b opens other = refl
scheme_opens false b opens other = absurd (true≢false (sym opens ∙ other))

-- what is left of a line after its first token
module _ (names : List (List ℕ)) (line : ℕ) (tables : NamedSchemes) (m : Mark) (ms : List Mark) (stop : Option LexError)
    (opens : opens_line m.kind m.word ≡ true) (room : length tables.names < MOST_SCHEMES) where
  scheme_read : (r : Result Attributes PlanRefusal) → is_table m.kind m.word ≡ false
      → WordsFit names line true none (m.column + m.length) ms stop r
      → LineFits names line tables (m ∷ ms) stop (table_of None r >>= (λ table. Ok (with_table tables table)))
  scheme_read (Ok x) other fit = record {
    ended = fit.ended;
    adds = inr (record {
      table = record { name = None; scheme = x };
      line = record {
        words = ms;
        opens = inl (record {
          head = m;
          whole = refl;
          scheme = scheme_opens (is_scheme m.kind m.word) (is_table m.kind m.word) opens other;
          unnamed = refl;
        });
        not_empty = fit.not_empty refl;
        each = fit.each;
        members = fit.members;
      };
      given = ap (λ (name : Option (List ℕ)). tables.names ++ name ∷ []) (unnamed_given m ms other);
      added = refl;
      room = room;
    });
    fine = later_fine (TableLineDiagnostic names tables.names (m ∷ ms) stop)
        (λ n h. head_fine (length tables.names) m n opens room h)
        (λ p n h. fit.fine p n (subst (λ (b : Bool). RestDiagnostic b names tables.names ms stop p n) other h));
  }
  scheme_read (Err e) other fit =
      first_later (TableLineDiagnostic names tables.names (m ∷ ms) stop)
      (SpansPosition line (span_at line 1 (m ∷ ms) stop) (line_wanted (m ∷ ms))) e
      (λ n h. head_fine (length tables.names) m n opens room h)
      (subst (λ (b : Bool). IsFirstOf (RestDiagnostic b names tables.names ms stop)
      (SpansPosition line (span_at line (m.column + m.length) ms stop) (wanted_rest b)) e) (sym other) fit)

  named_read : (r : Result PlannedTable PlanRefusal) → is_table m.kind m.word ≡ true
      → NamedFits names line tables.names (m.column + m.length) ms stop r
      → LineFits names line tables (m ∷ ms) stop (r >>= (λ table. Ok (with_table tables table)))
  named_read (Ok t) is fit = record {
    ended = fit.after.ended;
    adds = inr (record {
      table = t;
      line = record {
        words = fit.after.words;
        opens = inr (record {
          head = m;
          label = fit.label;
          colon = fit.after.colon;
          whole = ap (λ (l : List Mark). m ∷ l) (fit.whole ∙ ap (λ (l : List Mark). fit.label ∷ l) fit.after.whole);
          table = is;
          is_word = fit.name.is_word;
          not_kept = fit.name.not_kept;
          new = fit.name.new;
          is_colon = fit.after.is_colon;
          named = fit.after.named;
        });
        not_empty = fit.after.not_empty;
        each = fit.after.each;
        members = fit.after.members;
      };
      given = ap (λ (name : Option (List ℕ)). tables.names ++ name ∷ [])
          (ap (λ (l : List Mark). name_given (m ∷ l)) fit.whole
          ∙ ap (λ (b : Bool). cond b (Some fit.label.word) None) is ∙ sym fit.after.named);
      added = refl;
      room = room;
    });
    fine = later_fine (TableLineDiagnostic names tables.names (m ∷ ms) stop)
        (λ n h. head_fine (length tables.names) m n opens room h)
        (λ p n h. fit.fine p n (subst (λ (b : Bool). RestDiagnostic b names tables.names ms stop p n) is h));
  }
  named_read (Err e) is fit =
      first_later (TableLineDiagnostic names tables.names (m ∷ ms) stop)
      (SpansPosition line (span_at line 1 (m ∷ ms) stop) (line_wanted (m ∷ ms))) e
      (λ n h. head_fine (length tables.names) m n opens room h)
      (subst (λ (b : Bool). IsFirstOf (RestDiagnostic b names tables.names ms stop)
      (SpansPosition line (span_at line (m.column + m.length) ms stop) (wanted_rest b)) e) (sym is) fit)

  opened_read : (b : Bool) → is_table m.kind m.word ≡ b
      → LineFits names line tables (m ∷ ms) stop
      (read_opened b names tables.names (record { line = line; next_column = m.column + m.length; marks = ms; stop = stop })
      >>= (λ table. Ok (with_table tables table)))
  opened_read true is =
      named_read (read_named names tables.names line (m.column + m.length) ms stop) is
      (named_fits names line tables.names (m.column + m.length) ms stop)
  opened_read false other =
      scheme_read (read_words names line true none ms stop) other
      (words_fit names line true none (m.column + m.length) ms stop)

head_fit : (names : List (List ℕ)) (line : ℕ) (tables : NamedSchemes) (m : Mark) (ms : List Mark) (stop : Option LexError) (b l : Bool)
    → opens_line m.kind m.word ≡ b → nat_le MOST_SCHEMES (length tables.names) ≡ l
    → LineFits names line tables (m ∷ ms) stop
    (cond b (cond l (Err (plan.TooManySchemes line))
    (read_opened (is_table m.kind m.word) names tables.names (record { line = line; next_column = m.column + m.length; marks = ms; stop = stop })))
    (Err (plan.Text (refusal line m.column m.length (no_scheme m.kind m.word))))
    >>= (λ table. Ok (with_table tables table)))
head_fit names line tables m ms stop true true is many =
    first_here (TableLineDiagnostic names tables.names (m ∷ ms) stop) (SpansPosition line (span_at line 1 (m ∷ ms) stop) (line_wanted (m ∷ ms))) (plan.TooManySchemes line)
    (inr (is, leb-true MOST_SCHEMES (length tables.names) many, refl)) refl (λ n h. head_many (length tables.names) m n is h)
head_fit names line tables m ms stop true false is within_limit =
    opened_read names line tables m ms stop is (leb-false MOST_SCHEMES (length tables.names) within_limit)
    (is_table m.kind m.word) refl
head_fit names line tables m ms stop false l other within_limit =
    let fact = other_word (length tables.names) m (is_reserved_token format.Plain m.kind m.word) refl other in
    first_here (TableLineDiagnostic names tables.names (m ∷ ms) stop) (SpansPosition line (span_at line 1 (m ∷ ms) stop) (line_wanted (m ∷ ms)))
    (plan.Text (refusal line m.column m.length (no_scheme m.kind m.word))) fact.diagnostic (refl, fact.carries) fact.least

pub line_fits : (names : List (List ℕ)) (line : ℕ) (tables : NamedSchemes) (ms : List Mark) (stop : Option LexError)
    → LineFits names line tables ms stop (read_table_line names line tables ms stop)
unfolding read_table_line
line_fits names line tables [] None = record { ended = refl; adds = inl (refl, refl); fine = λ p n h. no_flaw n h.1 }
line_fits names line tables [] (Some s) =
    first_here (TableLineDiagnostic names tables.names [] (Some s)) (SpansPosition line (span_at line 1 [] (Some s)) (line_wanted [])) (plan.Text (refused_by line s))
    (refl, (s, refl, flaw_kind s.flaw)) (refl, flaw_carries (λ w. w ≡ line_wanted [] 0) s.flaw) (λ n h. flaw_least s h.1.0 n h.1.1 h.1.2)
line_fits names line tables (m ∷ ms) stop =
    head_fit names line tables m ms stop (opens_line m.kind m.word) (nat_le MOST_SCHEMES (length tables.names)) refl refl

-- ---- all lines
-- tables after others
abbrev pub with_tables : NamedSchemes → NamedSchemes → NamedSchemes
with_tables tables others = record { schemes = tables.schemes ++ others.schemes; names = tables.names ++ others.names }

one_after : (tables others : NamedSchemes) (table : PlannedTable)
    → with_tables (with_table tables table) others ≡ with_tables tables (led_by_table table others)
one_after tables others table =
    ap (λ (schemes : List Attributes). record { schemes = schemes; names = (tables.names ++ table.name ∷ []) ++ others.names })
    (append_assoc tables.schemes (table.scheme ∷ []) others.schemes)
    ∙ ap (λ (names : List (Option (List ℕ))). record { schemes = tables.schemes ++ table.scheme ∷ others.schemes; names = names })
    (append_assoc tables.names (table.name ∷ []) others.names)

none_after : (tables : NamedSchemes) → tables ≡ with_tables tables no_tables
none_after tables =
    ap (λ (schemes : List Attributes). record { schemes = schemes; names = tables.names }) (sym (append-nil tables.schemes))
    ∙ ap (λ (names : List (Option (List ℕ))). record { schemes = tables.schemes ++ []; names = names }) (sym (append-nil tables.names))

-- the lines mean the tables that they add
pub record AreRead (naming : Naming) (names : List (List ℕ)) (tables : NamedSchemes) (lines : List (List ℕ)) (whole : NamedSchemes) : Type 0 where
  pub others : NamedSchemes
  pub means : MeansTableLines naming names tables.names lines others
  pub added : whole ≡ with_tables tables others
  pub within_limit : length tables.names ≤ MOST_SCHEMES → length whole.names ≤ MOST_SCHEMES

abbrev pub LinesFit : Naming → List (List ℕ) → ℕ → NamedSchemes → List (List ℕ) → Result NamedSchemes PlanRefusal → Type 0
LinesFit naming names number tables lines (Ok whole) = AreRead naming names tables lines whole
LinesFit naming names number tables lines (Err e) = RefusesTableLines naming names number tables.names lines e

lines_after : (naming : Naming) (names : List (List ℕ)) (number : ℕ) (tables : NamedSchemes) (line : List ℕ) (lines : List (List ℕ)) (more : NamedSchemes) (r : Result NamedSchemes PlanRefusal)
    → IsRead names tables (lex_line naming line).marks (lex_line naming line).stop more → LinesFit naming names (number + 1) more lines r → LinesFit naming names number tables (line ∷ lines) r
lines_after naming names number tables line lines more (Ok whole) read fit =
    ⊎_elim
    (λ blank. record {
      others = fit.others;
      means = inl (
        has_tokens (lex_line naming line) [] blank.0 read.ended,
        subst (λ (earlier : NamedSchemes). MeansTableLines naming names earlier.names lines fit.others) blank.1 fit.means,
      );
      added = fit.added ∙ ap (λ (earlier : NamedSchemes). with_tables earlier fit.others) blank.1;
      within_limit = λ within_limit. fit.within_limit (subst (λ (earlier : NamedSchemes). length earlier.names ≤ MOST_SCHEMES) (sym blank.1) within_limit);
    })
    (λ adds. record {
      others = led_by_table adds.table fit.others;
      means = inr (
        adds.table,
        fit.others,
        record { marks = (lex_line naming line).marks; tokens = has_tokens (lex_line naming line) (lex_line naming line).marks refl read.ended; is_line = adds.line },
        subst (λ (earlier : NamedSchemes). MeansTableLines naming names earlier.names lines fit.others) adds.added fit.means,
        refl,
      );
      added = fit.added ∙ ap (λ (earlier : NamedSchemes). with_tables earlier fit.others) adds.added ∙ one_after tables fit.others adds.table;
      within_limit = λ within_limit. fit.within_limit (subst (λ (earlier : NamedSchemes). length earlier.names ≤ MOST_SCHEMES) (sym adds.added) (omega (arith, length_push tables.names adds.table.name, adds.room)));
    })
    read.adds
lines_after naming names number tables line lines more (Err e) read fit =
    inr (read.fine, subst (λ (earlier : List (Option (List ℕ))). RefusesTableLines naming names (number + 1) earlier lines e) given fit)
  where
    given : more.names ≡ names_with tables.names (lex_line naming line).marks
    given = ⊎_elim
        (λ blank. ap (λ (earlier : NamedSchemes). earlier.names) blank.1 ∙ sym (ap (λ (ms : List Mark). names_with tables.names ms) blank.0))
        (λ adds. ap (λ (earlier : NamedSchemes). earlier.names) adds.added ∙ sym adds.given)
        read.adds

lines_join : (naming : Naming) (names : List (List ℕ)) (number : ℕ) (tables : NamedSchemes) (line : List ℕ) (lines : List (List ℕ)) (r : Result NamedSchemes PlanRefusal)
    → ((more : NamedSchemes) → LinesFit naming names (number + 1) more lines (read_table_lines naming names (number + 1) more lines))
    → LineFits names number tables (lex_line naming line).marks (lex_line naming line).stop r
    → LinesFit naming names number tables (line ∷ lines) (r >>= (λ more. read_table_lines naming names (number + 1) more lines))
lines_join naming names number tables line lines (Ok more) later fit = lines_after naming names number tables line lines more (read_table_lines naming names (number + 1) more lines) fit (later more)
lines_join naming names number tables line lines (Err e) later fit = inl fit

pub lines_fit : (naming : Naming) (names : List (List ℕ)) (number : ℕ) (tables : NamedSchemes) (lines : List (List ℕ)) → LinesFit naming names number tables lines (read_table_lines naming names number tables lines)
unfolding read_table_lines
lines_fit naming names number tables [] = record { others = no_tables; means = refl; added = none_after tables; within_limit = λ within_limit. within_limit }
lines_fit naming names number tables (line ∷ lines) =
    lines_join naming names number tables line lines (read_table_line names number tables (lex_line naming line).marks (lex_line naming line).stop)
    (λ more. lines_fit naming names (number + 1) more lines) (line_fits names number tables (lex_line naming line).marks (lex_line naming line).stop)

-- beside each scheme stands a name, or none
pub lines_beside : (naming : Naming) (names : List (List ℕ)) (earlier : List (Option (List ℕ))) (lines : List (List ℕ)) (plan : NamedSchemes)
    → MeansTableLines naming names earlier lines plan → length plan.names ≡ length plan.schemes
lines_beside naming names earlier [] plan is =
    ap (λ (p : NamedSchemes). length p.names) is ∙ sym (ap (λ (p : NamedSchemes). length p.schemes) is)
lines_beside naming names earlier (line ∷ lines) plan (inl blank) = lines_beside naming names earlier lines plan blank.1
lines_beside naming names earlier (line ∷ lines) plan (inr adds) =
    ap (λ (p : NamedSchemes). length p.names) adds.4
    ∙ ap (λ (k : ℕ). suc k) (lines_beside naming names (earlier ++ adds.0.name ∷ []) lines adds.1 adds.3)
    ∙ sym (ap (λ (p : NamedSchemes). length p.schemes) adds.4)

-- so what is read of a text is what its lines mean
pub read_means : (naming : Naming) (names : List (List ℕ)) (lines : List (List ℕ)) (whole : NamedSchemes) → read_table_lines naming names 1 no_tables lines ≡ Ok whole
    → MeansTableLines naming names [] lines whole × (length whole.schemes ≤ MOST_SCHEMES)
read_means naming names lines whole is =
    let fit : AreRead naming names no_tables lines whole = subst (λ (r : Result NamedSchemes PlanRefusal). LinesFit naming names 1 no_tables lines r) is (lines_fit naming names 1 no_tables lines) in
    let means : MeansTableLines naming names [] lines whole = subst (λ (p : NamedSchemes). MeansTableLines naming names [] lines p) (sym fit.added) fit.means in
    (means, omega (arith, fit.within_limit (omega arith), lines_beside naming names [] lines whole means))

pub refused_refuses : (naming : Naming) (names : List (List ℕ)) (lines : List (List ℕ)) (e : PlanRefusal) → read_table_lines naming names 1 no_tables lines ≡ Err e → RefusesTableLines naming names 1 [] lines e
refused_refuses naming names lines e is = subst (λ (r : Result NamedSchemes PlanRefusal). LinesFit naming names 1 no_tables lines r) is (lines_fit naming names 1 no_tables lines)
