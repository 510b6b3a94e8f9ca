-- A dependency is read where nothing is wrong, or refused by its first diagnostic.
use Rattle.std.proofs.Common.{◌≡◌, ◌<◌, ◌≤◌, ◌+◌, ◌⊎◌, inl, inr, ℕ, suc, true, false, List, [], ◌∷◌, ◌++◌, length, take, Option, Some, None, Ok, Err, Result, refl, sym, ◌∙◌, ap, subst, arith, ⊎_elim}
use Rattle.std.specs.List.{slice_get}
use Rattle.std.proofs.Math.Seq.{take-length, take-suc}
use Rattle.std.proofs.lemmas.Bool.{cases_order}
use Rattle.std.proofs.lemmas.List.{length-map}
use Rattle.std.proofs.lemmas.Option.{slice_get-map, slice_get_within, get_or_from_slice_get}
use Rattle.schema_model.specs.declared.naming.Naming.{Naming}
use Rattle.dep_model.specs.Dependencies.{Dependency}
use Rattle.lexer.specs.declared.token.Flaw.{Flaw}
use Rattle.lexer.specs.declared.token.Flaw.TheVariants as flaw
use Rattle.lexer.specs.Modes as mode
use Rattle.lexer.specs.declared.token.LexError.{LexError}
use Rattle.lexer.specs.Tokens.{Mark, lex}
use Rattle.schema_grammar.specs.declared.refusal.SchemaRefusal.{SchemaRefusal}
use Rattle.schema_grammar.specs.declared.refusal.SchemaRefusalKind.{SchemaRefusalKind}
use Rattle.schema_grammar.specs.declared.refusal.SchemaRefusalKind.TheVariants as kind
use Rattle.schema_grammar.specs.declared.refusal.Span.{Span}
use Rattle.schema_grammar.specs.declared.refusal.What.{What}
use Rattle.schema_grammar.specs.declared.refusal.What.TheVariants as what
use Rattle.schema_grammar.specs.declared.format.Format.{Format}
use Rattle.schema_grammar.specs.declared.format.Format.TheVariants as format
use Rattle.schema_grammar.specs.DiagnosticKinds.{DiagnosticKind, expected, number_of, diagnostic_kind, diagnostic_of_flaw}
use Rattle.schema_grammar.specs.Diagnostics.{IsStuck, DependencyWants, Carries, DiagnosesOfWord, DependencyDiagnostic, kinds, span_at, IsFirst, FitsDependency, FitsGoal, RefusesGoal}
use Rattle.schema_grammar.specs.Grammar.{Reached, start, finish_dependency}
use Rattle.schema_grammar.specs.Reading.{step, follow, read_goal}
use Rattle.schema_grammar.specs.Refusals.{at, expect, refused_by, refusal, kind_of_flaw}
use Rattle.schema_grammar.specs.Rests.{◌>>=◌}
use Rattle.schema_grammar.proofs.ShapeLemmas.{Shape, at_start, shape_of, advance_shape, is_final, runs, final_line, line_ends, runs-one, wanted_by, wants_from, begins_from, begins_to, StepFits, step_fits, EndFits, end_fits}

pub flaw_kind : (why : Flaw) → diagnostic_kind (kind_of_flaw why) ≡ diagnostic_of_flaw why
flaw_kind flaw.StrangeByte = refl
flaw_kind flaw.BadName = refl

pub Carries-map : (P Q : What → Type 0) → ((w : What) → P w → Q w) → (why : SchemaRefusalKind) → Carries P why → Carries Q why
Carries-map P Q f (kind.Expected w) h = f w h
Carries-map P Q f kind.NoScale h = f what.Number h
Carries-map P Q f kind.NoType h = f what.Type h
Carries-map P Q f why h = tt

pub flaw_carries : (Wanted : What → Type 0) (why : Flaw) → Carries Wanted (kind_of_flaw why)
flaw_carries Wanted flaw.StrangeByte = tt
flaw_carries Wanted flaw.BadName = tt

pub no_mark : (m : Mark) (p : ℕ) → slice_get [] p ≡ Some m → ⊥
no_mark m p e = cc

pub same_mark : (m : Mark) (ms : List Mark) (k : Mark) → slice_get (m ∷ ms) 0 ≡ Some k → m ≡ k
same_mark m ms k e = cc

-- the bytes that are no token have one flaw
pub flaw_least : (s t : LexError) (n : DiagnosticKind) → Some s ≡ Some t → n ≡ diagnostic_of_flaw t.flaw
    → number_of (diagnostic_kind (kind_of_flaw s.flaw)) ≤ number_of n
flaw_least s t n is why =
    let same : s ≡ t = cc in
    let kind = flaw_kind s.flaw ∙ ap (λ (x : LexError). diagnostic_of_flaw x.flaw) same ∙ sym why in
    omega (arith, ap number_of kind)

-- a diagnostic of a position before which there is none is the first
pub first_at : (Diagnostic : ℕ → DiagnosticKind → Type 0) (Wanted : ℕ → What → Type 0) (span : ℕ → Span) (e : SchemaRefusal)
    (position : ℕ)
    → ((p : ℕ) (n : DiagnosticKind) → p < position → Diagnostic p n → ⊥) → Diagnostic position (diagnostic_kind e.kind)
    → Carries (Wanted position) e.kind → e.span ≡ span position
    → ((n : DiagnosticKind) → Diagnostic position n → number_of (diagnostic_kind e.kind) ≤ number_of n) → IsFirst Diagnostic Wanted span e
first_at Diagnostic Wanted span e position before stands carries there least = record {
  position = position;
  stands = stands;
  carries = carries;
  there = there;
  least = λ p n diagnostic. elim (cases_order position p) [
    | inl here ↦ inr (here, least n (subst (λ (q : ℕ). Diagnostic q n) (sym here) diagnostic))
    | inr (inl later) ↦ inl later
    | inr (inr earlier) ↦ absurd (before p n earlier diagnostic)
  ];
}

-- what is left of a line after so many of its tokens
pub record IsLeft (line first : ℕ) (whole : List Mark) (stop : Option LexError) (k from : ℕ)
    (ms : List Mark) : Type 0 where
  pub size : length whole ≡ k + length ms
  pub marks : (p q : ℕ) → q ≡ k + p → slice_get whole q ≡ slice_get ms p
  pub spans : (p q : ℕ) → q ≡ k + p → span_at line first whole stop q ≡ span_at line from ms stop p

pub left_whole : (line first : ℕ) (whole : List Mark) (stop : Option LexError)
    → IsLeft line first whole stop 0 first whole
left_whole line first whole stop = record {
  size = omega arith;
  marks = λ p q is. let same : q ≡ p = omega arith in ap (slice_get whole) same;
  spans = λ p q is. let same : q ≡ p = omega arith in ap (span_at line first whole stop) same;
}

pub left_next : (line first : ℕ) (whole : List Mark) (stop : Option LexError) (k from : ℕ) (m : Mark)
    (ms : List Mark)
    → IsLeft line first whole stop k from (m ∷ ms)
    → IsLeft line first whole stop (suc k) (m.column + m.length) ms
left_next line first whole stop k from m ms rest = record {
  size = let size = rest.size in omega arith;
  marks = λ p q is. rest.marks (suc p) q (omega arith);
  spans = λ p q is. rest.spans (suc p) q (omega arith);
}

-- a diagnostic about tokens: of a word, of the grammar, or of bytes that are no token
abbrev pub LineDiagnostic : (ℕ → Type 0) → Format → List (List ℕ) → List Mark → Option LexError → ℕ → DiagnosticKind → Type 0
LineDiagnostic Stuck f declared ms stop position number =
    (((m : Mark) × (slice_get ms position ≡ Some m) × DiagnosesOfWord f declared m number)
    ⊎ ((number ≡ expected) × Stuck position))
    ⊎ ((s : LexError) × (stop ≡ Some s) × (position ≡ length ms) × (number ≡ diagnostic_of_flaw s.flaw))

-- where the grammar can't go on, and what is wanted: `Stuck` is a position where it can't, and `At` how
-- far the line is read before a position
pub record Judges (ms : List Mark) (stop : Option LexError) (At : ℕ → Shape → Type 0) (Stuck : ℕ → Type 0)
    (Wanted : ℕ → What → Type 0) : Type 0 where
  pub wants : (p : ℕ) (s : Shape) → At p s → Wanted p (wanted_by s)
  pub goes_on : (p : ℕ) (s t : Shape) (m : Mark) → slice_get ms p ≡ Some m → At p s
      → advance_shape s m.kind ≡ Some t → (Stuck p → ⊥) × At (suc p) t
  pub stuck : (p : ℕ) (s : Shape) (m : Mark) → slice_get ms p ≡ Some m → At p s → advance_shape s m.kind ≡ None
      → Stuck p
  pub ends : (p : ℕ) (s : Shape) → p ≡ length ms → At p s → is_final s ≡ true → Stuck p → ⊥
  pub open_end : (p : ℕ) (s : Shape) → p ≡ length ms → stop ≡ None → At p s → is_final s ≡ false → Stuck p
  pub flawed : (p : ℕ) (x : LexError) → p ≡ length ms → stop ≡ Some x → Stuck p → ⊥
  pub inside : (p : ℕ) → Stuck p → p ≤ length ms

-- a diagnostic at a token is of its word, or of the grammar
pub at_token : (Stuck : ℕ → Type 0) (f : Format) (declared : List (List ℕ)) (ms : List Mark)
    (stop : Option LexError) (p : ℕ) (m : Mark) → slice_get ms p ≡ Some m
    → (n : DiagnosticKind) → LineDiagnostic Stuck f declared ms stop p n → DiagnosesOfWord f declared m n ⊎ ((n ≡ expected) × Stuck p)
at_token Stuck f declared ms stop p m is n (inl (inl (k, here, word))) =
    inl (subst (λ (x : Mark). DiagnosesOfWord f declared x n) (let same : k ≡ m = cc in same) word)
at_token Stuck f declared ms stop p m is n (inl (inr six)) = inr six
at_token Stuck f declared ms stop p m is n (inr (s, stops, position, number)) =
    let less = slice_get_within ms p m is in absurd (omega arith)

-- what a step gives in place of a token stands there
pub token_diagnoses : {ms : List Mark} {stop : Option LexError} {At : ℕ → Shape → Type 0} {Stuck : ℕ → Type 0}
    {Wanted : ℕ → What → Type 0}
    (judges : Judges ms stop At Stuck Wanted) (f : Format) (declared : List (List ℕ)) (p : ℕ) (r : Reached)
    (m : Mark) (why : SchemaRefusalKind)
    → slice_get ms p ≡ Some m → At p (shape_of r) → StepFits f declared r m (Err why)
    → LineDiagnostic Stuck f declared ms stop p (diagnostic_kind why)
token_diagnoses judges f declared p r m why is reached fit =
    ⊎_elim (λ word. inl (inl (m, is, word)))
    (λ six. inl (inr (six.0, judges.stuck p (shape_of r) m is reached six.1))) fit.0

-- a reading is refused by the first diagnostic, and has none where it ends well
abbrev pub Judged : {X : Type 0} → (ℕ → DiagnosticKind → Type 0) → (ℕ → What → Type 0) → (ℕ → Span)
    → Result X SchemaRefusal → Type 0
Judged Diagnostic Wanted span (Ok x) = (p : ℕ) (n : DiagnosticKind) → Diagnostic p n → ⊥
Judged Diagnostic Wanted span (Err e) = IsFirst Diagnostic Wanted span e

-- a line is refused by its first diagnostic, and read where there is none
pub judge : {whole : List Mark} {stop : Option LexError} {At : ℕ → Shape → Type 0} {Stuck : ℕ → Type 0}
    {Wanted : ℕ → What → Type 0}
    (judges : Judges whole stop At Stuck Wanted) (f : Format) (declared : List (List ℕ)) (line first : ℕ)
    (ms : List Mark) (k from : ℕ) (r : Reached)
    → IsLeft line first whole stop k from ms → At k (shape_of r)
    → ((p : ℕ) (n : DiagnosticKind) → p < k → LineDiagnostic Stuck f declared whole stop p n → ⊥)
    → Judged (LineDiagnostic Stuck f declared whole stop) Wanted (span_at line first whole stop)
    (follow f declared line r from ms stop)
unfolding follow
judge {whole} {stop} {At} {Stuck} {Wanted} judges f declared line first [] k from r left reached before =
    by_cases stop refl
  where
    all : k ≡ length whole
    all = let size = left.size in omega arith

    there : span_at line first whole stop k ≡ span_at line from [] stop 0
    there = left.spans 0 k (omega arith)

    ended : (n : DiagnosticKind) → LineDiagnostic Stuck f declared whole stop k n
        → ((n ≡ expected) × Stuck k) ⊎ ((s : LexError) × (stop ≡ Some s) × (n ≡ diagnostic_of_flaw s.flaw))
    ended n (inl (inl (m, is, word))) = let less = slice_get_within whole k m is in absurd (omega arith)
    ended n (inl (inr six)) = inl six
    ended n (inr (s, is, position, number)) = inr (s, is, number)

    past : (p : ℕ) (n : DiagnosticKind) → LineDiagnostic Stuck f declared whole stop p n → k < p → ⊥
    past p n (inl (inl (m, is, word))) later = let less = slice_get_within whole p m is in omega arith
    past p n (inl (inr (six, cannot))) later = let within = judges.inside p cannot in omega arith
    past p n (inr (s, is, position, number)) later = omega arith

    ending : stop ≡ None → (o : Result Dependency What) → EndFits r o
        → Judged (LineDiagnostic Stuck f declared whole stop) Wanted (span_at line first whole stop)
        (at line from 0 (expect o))
    ending none (Ok d) final = λ p n diagnostic. elim (cases_order p k) [
      | inl here ↦ ⊎_elim (λ six. judges.ends k (shape_of r) all reached final six.1)
          (λ flaw. let wrong = flaw.1 in cc)
          (ended n (subst (λ (q : ℕ). LineDiagnostic Stuck f declared whole stop q n) here diagnostic))
      | inr (inl earlier) ↦ before p n earlier diagnostic
      | inr (inr later) ↦ past p n diagnostic later
    ]
    ending none (Err w) (open_end, wants) =
        first_at _ Wanted _ (refusal line from 0 (kind.Expected w)) k before
        (inl (inr (refl, judges.open_end k (shape_of r) all none reached open_end)))
        (subst (Wanted k) (sym wants) (judges.wants k (shape_of r) reached))
        (sym (there ∙ ap (λ o. span_at line from [] o 0) none))
        (λ n diagnostic. ⊎_elim (λ six. omega (arith, ap number_of six.0)) (λ flaw. let wrong = flaw.1 in cc)
        (ended n diagnostic))

    by_cases : (o : Option LexError) → stop ≡ o
        → Judged (LineDiagnostic Stuck f declared whole stop) Wanted (span_at line first whole stop)
        (follow f declared line r from [] o)
    by_cases None is = ending is (finish_dependency r) (end_fits r)
    by_cases (Some s) is =
        first_at _ Wanted _ (refused_by line s) k before (inr (s, is, all, flaw_kind s.flaw))
        (flaw_carries (Wanted k) s.flaw)
        (sym (there ∙ ap (λ o. span_at line from [] o 0) is))
        (λ n diagnostic. ⊎_elim (λ six. absurd (judges.flawed k s all is six.1))
        (λ flaw. flaw_least s flaw.0 n (sym is ∙ flaw.1) flaw.2) (ended n diagnostic))
judge {whole} {stop} {At} {Stuck} {Wanted} judges f declared line first (m ∷ ms) k from r left reached before =
    by_cases (step f declared r m.kind m.word) (step_fits f declared r m)
    (λ next there none. judge judges f declared line first ms (suc k) (m.column + m.length) next
    (left_next line first whole stop k from m ms left) there none)
  where
    is : slice_get whole k ≡ Some m
    is = left.marks 0 k (omega arith)

    by_cases : (o : Result Reached SchemaRefusalKind) → StepFits f declared r m o
        → ((next : Reached) → At (suc k) (shape_of next)
        → ((p : ℕ) (n : DiagnosticKind) → p < suc k → LineDiagnostic Stuck f declared whole stop p n → ⊥)
        → Judged (LineDiagnostic Stuck f declared whole stop) Wanted (span_at line first whole stop)
        (follow f declared line next (m.column + m.length) ms stop))
        → Judged (LineDiagnostic Stuck f declared whole stop) Wanted (span_at line first whole stop)
        (at line m.column m.length o
        >>= (λ next. follow f declared line next (m.column + m.length) ms stop))
    by_cases (Ok next) fit rest =
        let on = judges.goes_on k (shape_of r) (shape_of next) m is reached fit.0 in
        rest next on.1 (λ p n less diagnostic. elim (cases_order p k) [
          | inl here ↦ ⊎_elim (fit.1 n) (λ six. on.0 six.1)
              (at_token Stuck f declared whole stop k m is n
              (subst (λ (q : ℕ). LineDiagnostic Stuck f declared whole stop q n) here diagnostic))
          | inr (inl earlier) ↦ before p n earlier diagnostic
          | inr (inr later) ↦ absurd (omega arith)
        ])
    by_cases (Err why) fit rest = first_at _ Wanted _ (refusal line m.column m.length why) k before
        (token_diagnoses judges f declared k r m why is reached fit)
        (Carries-map (λ w. w ≡ wanted_by (shape_of r)) (Wanted k)
        (λ w same. subst (Wanted k) (sym same) (judges.wants k (shape_of r) reached)) why fit.3)
        (sym (left.spans 0 k (omega arith)))
        (λ n diagnostic. ⊎_elim (fit.1 n) (λ six. omega (arith, ap number_of six.0, fit.2))
        (at_token Stuck f declared whole stop k m is n diagnostic))

-- one token more
runs_next : (ms : List Mark) (p : ℕ) (m : Mark) (s : Shape) → slice_get ms p ≡ Some m
    → runs at_start (take p (kinds ms)) ≡ Some s
    → runs at_start (take (suc p) (kinds ms)) ≡ advance_shape s m.kind
runs_next ms p m s is reached =
    let less = slice_get_within ms p m is in
    let size = length-map ms (λ (x : Mark). x.kind) in
    let here : slice_get (kinds ms) p ≡ Some m.kind =
    rw (slice_get-map (λ (x : Mark). x.kind) ms p, is) refl in
    ap (runs at_start) (take-suc (kinds ms) p m.kind (omega arith) ∙ ap (λ k. take p (kinds ms) ++ k ∷ [])
    (get_or_from_slice_get (kinds ms) p m.kind m.kind here))
    ∙ runs-one (take p (kinds ms)) s m.kind reached

pub dependency_judges : (ms : List Mark) (stop : Option LexError)
    → Judges ms stop (λ p s. runs at_start (take p (kinds ms)) ≡ Some s) (IsStuck (kinds ms) stop)
    (DependencyWants ms)
dependency_judges ms stop = record {
  wants = λ p s reached. wants_from (take p (kinds ms)) s reached;
  goes_on = λ p s t m is reached turned.
      let less = slice_get_within ms p m is in
      let next : runs at_start (take (suc p) (kinds ms)) ≡ Some t = runs_next ms p m s is reached ∙ turned in (
        λ stuck. ⊎_elim (λ here. here.1 (begins_from (take (suc p) (kinds ms)) t next))
            (λ here. absurd (omega (arith, size, here.0))) stuck.here,
        next,
      );
  stuck = λ p s m is reached none. record {
    before = begins_from (take p (kinds ms)) s reached;
    here = inl (
      omega (arith, size, slice_get_within ms p m is),
      λ begins.
          let leads = begins_to (take (suc p) (kinds ms)) begins in
          let wrong : None ≡ Some leads.shape =
          sym none ∙ sym (runs_next ms p m s is reached) ∙ leads.leads in cc,
    );
  };
  ends = λ p s all reached final stuck. ⊎_elim (λ here. absurd (omega (arith, size, here.0)))
      (λ here. here.2 (final_line (kinds ms) s (sym (whole p all) ∙ reached) final)) stuck.here;
  open_end = λ p s all none reached open_end. record {
    before = begins_from (take p (kinds ms)) s reached;
    here = inr (
      omega (arith, size),
      none,
      λ line.
          let ends = line_ends (kinds ms) line in
          let last : Some s ≡ Some ends.last = sym reached ∙ whole p all ∙ ends.leads in
          let same : s ≡ ends.last = cc in
          let wrong : false ≡ true = sym open_end ∙ ap is_final same ∙ ends.final in cc,
    );
  };
  flawed = λ p x all is stuck. ⊎_elim (λ here. absurd (omega (arith, size, here.0)))
      (λ here. let wrong = here.1 in cc) stuck.here;
  inside = λ p stuck. ⊎_elim (λ here. omega (arith, size, here.0))
      (λ here. omega (arith, size, here.0)) stuck.here;
}
  where
    size : length (kinds ms) ≡ length ms
    size = length-map ms (λ (x : Mark). x.kind)

    whole : (p : ℕ) → p ≡ length ms → runs at_start (take p (kinds ms)) ≡ runs at_start (kinds ms)
    whole p all = ap (runs at_start) (ap (λ q. take q (kinds ms)) (all ∙ sym size) ∙ take-length (kinds ms))

-- a dependency line is refused by its first diagnostic, and read where there is none
pub line-law : (f : Format) (declared : List (List ℕ)) (line : ℕ) (ms : List Mark) (stop : Option LexError) → FitsDependency f declared line ms stop (follow f declared line start 1 ms stop)
line-law f declared line ms stop =
    fits (follow f declared line start 1 ms stop)
    (judge (dependency_judges ms stop) f declared line 1 ms 0 1 start (left_whole line 1 ms stop) refl
    (λ p n less. absurd (omega arith)))
  where
    fits : (res : Result Dependency SchemaRefusal)
        → Judged (DependencyDiagnostic f declared ms stop) (DependencyWants ms) (span_at line 1 ms stop) res
        → FitsDependency f declared line ms stop res
    fits (Ok d) none = none
    fits (Err e) first = first

pub goal-diagnostic-law : (naming : Naming) (declared : List (List ℕ)) (text : List ℕ) → FitsGoal naming declared text (read_goal naming declared text)
goal-diagnostic-law naming declared text = line-law format.Plain declared 1 (lex (mode.goal naming) text).marks (lex (mode.goal naming) text).stop

pub goal_refused : (naming : Naming) (declared : List (List ℕ)) (text : List ℕ) (e : SchemaRefusal) → read_goal naming declared text ≡ Err e → RefusesGoal naming declared text e
goal_refused naming declared text e h = subst (FitsGoal naming declared text) h (goal-diagnostic-law naming declared text)
