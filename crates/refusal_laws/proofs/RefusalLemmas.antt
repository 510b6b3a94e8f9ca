-- Texts in which one name stands, and answers that refuse by lines of such texts alone.
use Rattle.std.proofs.Common.{◌≡◌, ◌⊎◌, ℕ, Bool, true, false, List, [], ◌++◌, refl, sym, ap, subst, ◌∙◌, append_assoc, append-nil, inl, inr, true≢false}
use Rattle.std.specs.Prelude.{Contains, codes}
use Rattle.schema_model.proofs.PlainLemmas.{IsPlain, plain_both}
use Rattle.named_tables.specs.Tables.{TableValue}
use Rattle.desk_texts.specs.Texts.{line}
use Rattle.desk_responses.specs.Reasons.{Explained}
use Rattle.desk_responses.specs.ResponseValues.{Allowed, RespondsWithTables, ResponseValue, Says, Unless, With}
use Rattle.desk_responses.specs.declared.status.Status.{Status}
use Rattle.desk_responses.specs.declared.status.Status.TheVariants.{Yes, No, Refused, CannotRead, CannotWrite, DestinationFailed}
use Rattle.refusal_laws.specs.Refusals.{HoldsName, IsRefusal}

-- an answer that is allowed refuses by such a line, if it refuses
abbrev pub RefusesSo : List (List ℕ) → Allowed → Type 0
RefusesSo names allowed =
    (response : ResponseValue) → allowed response → response.status ≡ Refused → IsRefusal names response.text

-- ---- what is no refusal
is_refused : Status → Bool
is_refused Yes = false
is_refused No = false
is_refused Refused = true
is_refused CannotRead = false
is_refused CannotWrite = false
is_refused DestinationFailed = false

not_refused : (other response : ResponseValue) → response ≡ other → is_refused other.status ≡ false → response.status ≡ Refused → ⊥
unfolding is_refused
not_refused other response same is refused =
    true≢false (sym (ap is_refused refused) ∙ ap (λ (r : ResponseValue). is_refused r.status) same ∙ is)

-- ---- texts
module _ (names : List (List ℕ)) where
  -- a text without a name
  pub no_name : (text : List ℕ) → IsPlain text → HoldsName names text
  no_name text plain = record {
    before = [];
    name = [];
    after = text;
    whole = refl;
    named = inl refl;
    before_on_line = refl;
    after_on_line = plain;
  }

  -- a name after a text
  pub named : (text name : List ℕ) → IsPlain text → Contains names name → HoldsName names (text ++ name)
  named text name plain given = record {
    before = text;
    name = name;
    after = [];
    whole = sym (append-nil (text ++ name));
    named = inr given;
    before_on_line = plain;
    after_on_line = refl;
  }

  -- and more after it
  pub more : (text piece : List ℕ) → HoldsName names text → IsPlain piece → HoldsName names (text ++ piece)
  more text piece holds plain = record {
    before = holds.before;
    name = holds.name;
    after = holds.after ++ piece;
    whole = ap (λ (t : List ℕ). t ++ piece) holds.whole ∙ append_assoc (holds.before ++ holds.name) holds.after piece;
    named = holds.named;
    before_on_line = holds.before_on_line;
    after_on_line = plain_both holds.after piece holds.after_on_line plain;
  }

  pub refusal : (said : List ℕ) → HoldsName names said → IsRefusal names (line (codes "refused: " ++ said))
  refusal said holds = record { said = said; whole = refl; holds = holds }

  -- ---- answers
  pub says_refused : (text : List ℕ) → IsRefusal names text → RefusesSo names (Says Refused text)
  says_refused text is response said refused = subst (λ (r : ResponseValue). IsRefusal names r.text) (sym said) is

  -- a refusal in which no name stands
  pub says_plain : (said : List ℕ) → IsPlain said → RefusesSo names (Says Refused (line (codes "refused: " ++ said)))
  says_plain said plain = says_refused (line (codes "refused: " ++ said)) (refusal said (no_name said plain))

  says_other : (other response : ResponseValue) → response ≡ other → is_refused other.status ≡ false
      → response.status ≡ Refused → IsRefusal names response.text
  says_other other response same is refused = absurd (not_refused other response same is refused)

  pub says_yes : (text : List ℕ) → RefusesSo names (Says Yes text)
  unfolding is_refused
  says_yes text response said refused = says_other _ response said refl refused

  pub says_no : (text : List ℕ) → RefusesSo names (Says No text)
  unfolding is_refused
  says_no text response said refused = says_other _ response said refl refused

  pub says_unread : (text : List ℕ) → RefusesSo names (Says CannotRead text)
  unfolding is_refused
  says_unread text response said refused = says_other _ response said refl refused

  pub gives_tables : (text : List ℕ) (tables : List TableValue) → RefusesSo names (RespondsWithTables text tables)
  unfolding is_refused
  gives_tables text tables response said refused = says_other _ response said refl refused

  -- ---- steps
  pub with_refuses : {T : Type 0} (stops : Allowed) (is : T → Type 0) (rest : T → Allowed) → RefusesSo names stops
      → ((x : T) → is x → RefusesSo names (rest x)) → RefusesSo names (With stops is rest)
  with_refuses stops is rest first later response (inl stopped) refused = first response stopped refused
  with_refuses stops is rest first later response (inr (x, found, rests)) refused = later x found response rests refused

  pub unless_refuses : (stops : Allowed) (passed : Type 0) (rest : Allowed) → RefusesSo names stops
      → RefusesSo names rest → RefusesSo names (Unless stops passed rest)
  unless_refuses stops passed rest first later response (inl stopped) refused = first response stopped refused
  unless_refuses stops passed rest first later response (inr (passes, rests)) refused = later response rests refused

  pub explained_refuses : (AreReasons : List ℕ → Type 0) (answers : Allowed) → RefusesSo names answers
      → RefusesSo names (Explained AreReasons answers)
  unfolding is_refused
  explained_refuses AreReasons answers each response (plain, is, inl (says_yes, (reasons, are, same))) refused =
      absurd (not_refused _ response same (ap is_refused says_yes) refused)
  explained_refuses AreReasons answers each response (plain, is, inr (other, same)) refused =
      subst (λ (r : ResponseValue). IsRefusal names r.text) (sym same)
      (each plain is (sym (ap (λ (r : ResponseValue). r.status) same) ∙ refused))
