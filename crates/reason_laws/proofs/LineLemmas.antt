-- Texts of lines that all begin with `# `, or of lines none of which does.
use Rattle.std.proofs.Common.{◌≡◌, ℕ, Bool, true, false, List, [], ◌∷◌, ◌++◌, refl, sym, ap, subst, ◌∙◌, append-nil, inl, inr}
use Rattle.std.specs.Prelude.{All, filter, not}
use Rattle.std.specs.List.{flat_map}
use Rattle.std.proofs.lemmas.List.Elements.{All-nil, All-cons, All-head, All-tail, All-append}
use Rattle.std.proofs.lemmas.Grind.{flat_map-append}
use Rattle.schema_model.proofs.PlainLemmas.{IsPlain}
use Rattle.schema_printer.specs.Printing.{lines_text}
use Rattle.desk_texts.specs.Texts.{line}
use Rattle.desk_responses.specs.Reasons.{Explained}
use Rattle.desk_responses.specs.ResponseValues.{Allowed, ResponseValue}
use Rattle.desk_responses.specs.declared.status.Status.TheVariants.{Yes}
use Rattle.reason_laws.specs.ReasonLines.{IsWithoutReasons, LeavesAnswer, has_line_feed, is_reason}

-- lines, all of which begin with `# `, or none
pub record AreLines (told : Bool) (text : List ℕ) : Type 0 where
  pub lines : List (List ℕ)
  pub each : All (λ l. has_line_feed l ≡ false) lines
  pub kind : All (λ l. is_reason l ≡ told) lines
  pub whole : text ≡ lines_text lines

pub no_lines : (told : Bool) → AreLines told []
no_lines told = record {
  lines = [];
  each = All-nil (λ (l : List ℕ). has_line_feed l ≡ false);
  kind = All-nil (λ (l : List ℕ). is_reason l ≡ told);
  whole = refl;
}

pub one_line : (told : Bool) (text : List ℕ) → IsPlain text → is_reason text ≡ told → AreLines told (line text)
one_line told text plain is = record {
  lines = text ∷ [];
  each = All-cons (λ (l : List ℕ). has_line_feed l ≡ false) text [] plain (All-nil (λ (l : List ℕ). has_line_feed l ≡ false));
  kind = All-cons (λ (l : List ℕ). is_reason l ≡ told) text [] is (All-nil (λ (l : List ℕ). is_reason l ≡ told));
  whole = sym (append-nil (line text));
}

pub both_lines : (told : Bool) (one other : List ℕ) → AreLines told one → AreLines told other → AreLines told (one ++ other)
both_lines told one other first second = record {
  lines = first.lines ++ second.lines;
  each = All-append (λ (l : List ℕ). has_line_feed l ≡ false) first.lines second.lines first.each second.each;
  kind = All-append (λ (l : List ℕ). is_reason l ≡ told) first.lines second.lines first.kind second.kind;
  whole = ap (λ (t : List ℕ). t ++ other) first.whole ∙ ap (λ (t : List ℕ). lines_text first.lines ++ t) second.whole
      ∙ sym (flat_map-append (λ (l : List ℕ). l ++ 10 ∷ []) first.lines second.lines);
}

pub each_lines : {X : Type 0} (told : Bool) (f : X → List ℕ) → ((x : X) → AreLines told (f x)) → (xs : List X) → AreLines told (flat_map f xs)
each_lines told f are [] = no_lines told
each_lines told f are (x ∷ xs) = both_lines told (f x) (flat_map f xs) (are x) (each_lines told f are xs)

-- ---- the lines that are left
all_left : (lines : List (List ℕ)) → All (λ l. is_reason l ≡ false) lines → filter (λ l. not (is_reason l)) lines ≡ lines
all_left [] all = refl
all_left (l ∷ lines) all =
    let P : List ℕ → Type 0 = λ (m : List ℕ). is_reason m ≡ false in
    rw (All-head P l lines all) (ap (λ (ls : List (List ℕ)). l ∷ ls) (all_left lines (All-tail P l lines all)))

none_left : (lines others : List (List ℕ)) → All (λ l. is_reason l ≡ true) lines
    → filter (λ l. not (is_reason l)) (lines ++ others) ≡ filter (λ l. not (is_reason l)) others
none_left [] others all = refl
none_left (l ∷ lines) others all =
    let P : List ℕ → Type 0 = λ (m : List ℕ). is_reason m ≡ true in
    rw (All-head P l lines all) (none_left lines others (All-tail P l lines all))

without : (above plain : List ℕ) → AreLines true above → AreLines false plain → IsWithoutReasons (above ++ plain) plain
without above plain reasons own = record {
  lines = reasons.lines ++ own.lines;
  each = All-append (λ (l : List ℕ). has_line_feed l ≡ false) reasons.lines own.lines reasons.each own.each;
  whole = ap (λ (t : List ℕ). t ++ plain) reasons.whole ∙ ap (λ (t : List ℕ). lines_text reasons.lines ++ t) own.whole
      ∙ sym (flat_map-append (λ (l : List ℕ). l ++ 10 ∷ []) reasons.lines own.lines);
  rest = own.whole ∙ ap lines_text (sym (none_left reasons.lines own.lines reasons.kind ∙ all_left own.lines own.kind));
}

-- an explanation whose reasons are such lines, of a command that prints others
pub leaves_answer : (AreReasons : List ℕ → Type 0) (answers : Allowed) → ((text : List ℕ) → AreReasons text → AreLines true text)
    → ((plain : ResponseValue) → answers plain → plain.status ≡ Yes → AreLines false plain.text)
    → (response : ResponseValue) → Explained AreReasons answers response → LeavesAnswer answers response
leaves_answer AreReasons answers reasons own response (plain, is, inl (says_yes, (text, are, reads))) = record {
  plain = plain;
  answered = is;
  status = sym (ap (λ (r : ResponseValue). r.status) reads);
  explained = λ agrees. subst (λ (t : List ℕ). IsWithoutReasons t plain.text) (sym (ap (λ (r : ResponseValue). r.text) reads))
      (without text plain.text (reasons text are) (own plain is says_yes));
  else = λ stops. absurd (stops (ap (λ (r : ResponseValue). r.status) reads ∙ says_yes));
}
leaves_answer AreReasons answers reasons own response (plain, is, inr (stops, same)) = record {
  plain = plain;
  answered = is;
  status = sym (ap (λ (r : ResponseValue). r.status) same);
  explained = λ agrees. absurd (stops (sym (ap (λ (r : ResponseValue). r.status) same) ∙ agrees));
  else = λ other. same;
}
