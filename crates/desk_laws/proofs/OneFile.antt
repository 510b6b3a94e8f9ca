-- A file of a kind has one value, or ends a command in one way, where every text of the kind has one reading.
use Rattle.std.proofs.Common.{◌≡◌, ◌<◌, ℕ, List, length, Some, Option, sym, ap, subst, ◌∙◌, inl, inr}
use Rattle.std.specs.Prelude.{IsSomeAnd}
use Rattle.desk_inputs.specs.FileKinds.{FileKind, FileStops, IsFile, IsRefusedFile, LoadStops, WithFile}
use Rattle.desk_inputs.specs.Readings.{known_files}
use Rattle.desk_laws.proofs.StopLemmas.{With-goes, file_goes, one_content}
use Rattle.desk_laws.specs.OneReading.{HasOneReading}
use Rattle.desk_outside.specs.Files.{Files, bytes_of_file}
use Rattle.desk_responses.specs.ResponseValues.{ResponseValue, Allowed}
use Rattle.desk_responses.specs.declared.status.Status.TheVariants.{Refused}
use Rattle.implication_laws.specs.OneAnswer.{AllowsOne}
use Rattle.implication_laws.proofs.StepLaws.{same_says}

one_load_stop : (files : Files) (name : List ℕ) (limit : ℕ) → AllowsOne (LoadStops (known_files files) name limit)
one_load_stop files name limit one other (inl (unread, says)) (inl (also, said)) = says ∙ sym said
one_load_stop files name limit one other (inl ((inl fails, last), says)) (inr (long, said)) = absurd fails
one_load_stop files name limit one other (inl ((inr missing, last), says)) (inr (long, said)) =
    absurd (subst (λ (o : Option (List ℕ)). IsSomeAnd o (λ bytes. limit < length bytes)) missing long.1)
one_load_stop files name limit one other (inr (long, says)) (inl ((inl fails, last), said)) = absurd fails
one_load_stop files name limit one other (inr (long, says)) (inl ((inr missing, last), said)) =
    absurd (subst (λ (o : Option (List ℕ)). IsSomeAnd o (λ bytes. limit < length bytes)) missing long.1)
one_load_stop files name limit one other (inr (long, says)) (inr (also, said)) = says ∙ sym said

-- values are looked at through a view, which alone the text settles
module _ (files : Files) (name : List ℕ) {Value View Refusal : Type 0} (kind : FileKind Value Refusal)
    (view : Value → View) (Means : List ℕ → View → Type 0)
    (once : (text : List ℕ) → HasOneReading (Means text) (kind.refuses text))
    (seen : (text : List ℕ) (v : Value) → kind.means text v → Means text (view v)) where
  abbrev Is : Value → Type 0
  Is v = IsFile kind (known_files files) name v

  abbrev Refuses : Refusal → Type 0
  Refuses e = IsRefusedFile kind (known_files files) name e

  -- what is said of one text of the file is said of any
  moved : (P : List ℕ → Type 0) (first second : List ℕ) → bytes_of_file files name ≡ Some first
      → bytes_of_file files name ≡ Some second → P second → P first
  moved P first second here there is = subst P (one_content files name second first there here) is

  pub one_stop : AllowsOne (FileStops kind (known_files files) name)
  one_stop one other (inl stops) (inl also) = one_load_stop files name kind.limit one other stops also
  one_stop one other (inl stops) (inr (why, refused, said)) =
      absurd (file_goes files name refused.bytes kind.limit one refused.content.0 refused.content.1 stops)
  one_stop one other (inr (why, refused, says)) (inl stops) =
      absurd (file_goes files name refused.bytes kind.limit other refused.content.0 refused.content.1 stops)
  one_stop one other (inr (why, refused, says)) (inr (because, also, said)) =
      same_says Refused _ _ one other says said
      (ap (kind.refusal_text name)
      ((once refused.bytes).one_refusal why because refused.refused
      (moved (λ text. kind.refuses text because) refused.bytes also.bytes refused.content.0 also.content.0
      also.refused)))

  pub goes : (v : Value) (response : ResponseValue) → Is v → FileStops kind (known_files files) name response → ⊥
  goes v response is (inl stops) =
      file_goes files name is.bytes kind.limit response is.content.0 is.content.1 stops
  goes v response is (inr (why, refused, says)) =
      (once is.bytes).never_both (view v) why (seen is.bytes v is.means)
      (moved (λ text. kind.refuses text why) is.bytes refused.bytes is.content.0 refused.content.0 refused.refused)

  pub one_view : (v w : Value) → Is v → Is w → view v ≡ view w
  one_view v w is also =
      (once is.bytes).one_meaning (view v) (view w) (seen is.bytes v is.means)
      (moved (λ text. Means text (view w)) is.bytes also.bytes is.content.0 also.content.0
      (seen also.bytes w also.means))

-- ---- values
-- a kind of which each text means one value
module _ (files : Files) (name : List ℕ) {Value Refusal : Type 0} (kind : FileKind Value Refusal)
    (once : (text : List ℕ) → HasOneReading (kind.means text) (kind.refuses text)) where
  abbrev IsValue : Value → Type 0
  IsValue v = IsFile kind (known_files files) name v

  pub one_value : (v w : Value) → IsValue v → IsValue w → v ≡ w
  one_value v w is also =
      one_view files name kind (λ (u : Value). u) kind.means once (λ text u means. means) v w is also

  pub value_goes : (v : Value) (response : ResponseValue) → IsValue v → FileStops kind (known_files files) name response → ⊥
  value_goes v response is stops =
      goes files name kind (λ (u : Value). u) kind.means once (λ text u means. means) v response is stops

  -- each answer after the file is one on its value
  pub after_file : (v : Value) (rest : Value → Allowed) (response : ResponseValue) → IsValue v
      → WithFile kind (known_files files) name rest response → rest v response
  after_file v rest response is answered =
      With-goes (FileStops kind (known_files files) name) IsValue rest v response (value_goes v response is)
      (λ w also. one_value w v also is) answered

  -- what is said of any two answers: of equal ones, and of those on the value of the file
  pub two_after_file : (C : ResponseValue → ResponseValue → Type 0) (rest : Value → Allowed)
      → ((one other : ResponseValue) → one ≡ other → C one other)
      → ((v : Value) (one other : ResponseValue) → IsValue v → rest v one → rest v other → C one other)
      → (one other : ResponseValue) → WithFile kind (known_files files) name rest one
      → WithFile kind (known_files files) name rest other → C one other
  two_after_file C rest by_path each one other (inl stops) (inl also) =
      by_path one other
      (one_stop files name kind (λ (u : Value). u) kind.means once (λ text u means. means) one other stops also)
  two_after_file C rest by_path each one other (inl stops) (inr (w, is, remains)) = absurd (value_goes w one is stops)
  two_after_file C rest by_path each one other (inr (v, is, rests)) second =
      each v one other is rests (after_file v rest other is second)

  -- after the file there is one answer, where there is one on its value
  pub one_after_file : (rest : Value → Allowed) → ((v : Value) → IsValue v → AllowsOne (rest v))
      → AllowsOne (WithFile kind (known_files files) name rest)
  one_after_file rest each one other first second =
      two_after_file (λ one other. one ≡ other) rest (λ one other same. same)
      (λ v one other is rests remains. each v is one other rests remains) one other first second
