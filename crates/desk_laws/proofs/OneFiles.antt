-- Several files of a kind, read one after the other, have one list of values, or end a command in one way, where every
-- text of the kind has one reading. Values are looked at through a view, which alone a text settles.
use Rattle.std.proofs.Common.{◌≡◌, ℕ, zero, suc, List, [], ◌∷◌, map, take, Some, inl, inr, refl, sym, ap, subst, ◌∙◌}
use Rattle.std.specs.Prelude.{slice_get}
use Rattle.std.specs.List.{AllZip}
use Rattle.implication_laws.specs.OneAnswer.{AllowsOne}
use Rattle.implication_laws.proofs.StepLaws.{With-alike}
use Rattle.desk_inputs.specs.FileKinds.{FileKind, AreFiles, FileStops, FilesStop, IsFile, WithFiles}
use Rattle.desk_inputs.specs.Readings.{Reading, known_files}
use Rattle.desk_laws.proofs.OneFile.{goes, one_stop, one_view}
use Rattle.desk_laws.specs.OneReading.{HasOneReading}
use Rattle.desk_outside.specs.Files.{Files}
use Rattle.desk_responses.specs.ResponseValues.{ResponseValue, Allowed}

module _ (files : Files) {Value View Refusal : Type 0} (kind : FileKind Value Refusal)
    (view : Value → View) (Means : List ℕ → View → Type 0)
    (once : (text : List ℕ) → HasOneReading (Means text) (kind.refuses text))
    (seen : (text : List ℕ) (v : Value) → kind.means text v → Means text (view v)) where
  abbrev known : Reading
  known = known_files files

  abbrev IsRead : List ℕ → Value → Type 0
  IsRead name value = IsFile kind known name value

  read_goes : (name : List ℕ) (v : Value) (response : ResponseValue) → IsRead name v
      → FileStops kind known name response → ⊥
  read_goes name = goes files name kind view Means once seen

  -- the first of several files, read or not
  abbrev StopsAt : ℕ → List (List ℕ) → List Value → Allowed
  StopsAt position [] earlier response = ⊥
  StopsAt zero (name ∷ names) earlier response = FileStops kind known name response
  StopsAt (suc position) (name ∷ names) [] response = ⊥
  StopsAt (suc position) (name ∷ names) (v ∷ earlier) response = IsRead name v × StopsAt position names earlier response

  stops_at : (names : List (List ℕ)) (position : ℕ) (name : List ℕ) (earlier : List Value) (response : ResponseValue)
      → slice_get names position ≡ Some name → AllZip IsRead (take position names) earlier
      → FileStops kind known name response → StopsAt position names earlier response
  stops_at [] position name earlier response at before stops = cc
  stops_at (n ∷ names) zero name earlier response at before stops =
      let same : n ≡ name = cc in subst (λ (m : List ℕ). FileStops kind known m response) (sym same) stops
  stops_at (n ∷ names) (suc position) name [] response at before stops = absurd before
  stops_at (n ∷ names) (suc position) name (v ∷ earlier) response at before stops =
      (before.0, stops_at names position name earlier response at before.1 stops)

  one_place : (names : List (List ℕ)) (j k : ℕ) (vs ws : List Value) (one other : ResponseValue)
      → StopsAt j names vs one → StopsAt k names ws other → one ≡ other
  one_place [] j k vs ws one other first second = absurd first
  one_place (n ∷ names) zero zero vs ws one other first second =
      one_stop files n kind view Means once seen one other first second
  one_place (n ∷ names) zero (suc k) vs [] one other first second = absurd second
  one_place (n ∷ names) zero (suc k) vs (w ∷ ws) one other first second = absurd (read_goes n w one second.0 first)
  one_place (n ∷ names) (suc j) zero [] ws one other first second = absurd first
  one_place (n ∷ names) (suc j) zero (v ∷ vs) ws one other first second = absurd (read_goes n v other first.0 second)
  one_place (n ∷ names) (suc j) (suc k) [] ws one other first second = absurd first
  one_place (n ∷ names) (suc j) (suc k) (v ∷ vs) [] one other first second = absurd second
  one_place (n ∷ names) (suc j) (suc k) (v ∷ vs) (w ∷ ws) one other first second =
      one_place names j k vs ws one other first.1 second.1

  one_files_stop : (names : List (List ℕ)) → AllowsOne (FilesStop kind known names)
  one_files_stop names one other (first, stops) (second, also) =
      one_place names first.position second.position first.earlier second.earlier one other
      (stops_at names first.position first.name first.earlier one first.stands first.before stops)
      (stops_at names second.position second.name second.earlier other second.stands second.before also)

  all_read : (names : List (List ℕ)) (vs : List Value) (k : ℕ) (earlier : List Value)
      (response : ResponseValue) → AllZip IsRead names vs → StopsAt k names earlier response → ⊥
  all_read [] vs k earlier response are stops = stops
  all_read (n ∷ names) [] k earlier response are stops = are
  all_read (n ∷ names) (v ∷ vs) zero earlier response are stops = read_goes n v response are.0 stops
  all_read (n ∷ names) (v ∷ vs) (suc k) [] response are stops = stops
  all_read (n ∷ names) (v ∷ vs) (suc k) (e ∷ earlier) response are stops =
      all_read names vs k earlier response are.1 stops.1

  -- files that are read do not stop
  files_go : (names : List (List ℕ)) (vs : List Value) (response : ResponseValue)
      → AreFiles kind known names vs → FilesStop kind known names response → ⊥
  files_go names vs response are (first, stops) =
      all_read names vs first.position first.earlier response are
      (stops_at names first.position first.name first.earlier response first.stands first.before stops)

  -- and have the same values, by their view
  same_views : (names : List (List ℕ)) (vs ws : List Value) → AllZip IsRead names vs → AllZip IsRead names ws
      → map view vs ≡ map view ws
  same_views [] [] [] first second = refl
  same_views [] [] (w ∷ ws) first second = absurd second
  same_views [] (v ∷ vs) ws first second = absurd first
  same_views (n ∷ names) [] ws first second = absurd first
  same_views (n ∷ names) (v ∷ vs) [] first second = absurd second
  same_views (n ∷ names) (v ∷ vs) (w ∷ ws) first second =
      ap (λ (u : View). u ∷ map view vs) (one_view files n kind view Means once seen v w first.0 second.0)
      ∙ ap (λ (us : List View). view w ∷ us) (same_views names vs ws first.1 second.1)

  -- after the files there is one answer, where there is one on their views
  pub one_after_files : (names : List (List ℕ)) (rest : List View → Allowed) → ((views : List View) → AllowsOne (rest views))
      → AllowsOne (WithFiles kind known names (λ values. rest (map view values)))
  one_after_files names rest each =
      With-alike (FilesStop kind known names) (AreFiles kind known names) (λ values. rest (map view values))
      (one_files_stop names) (files_go names)
      (λ vs ws one other are also first second.
      each (map view vs) one other first
      (subst (λ (views : List View). rest views other) (sym (same_views names vs ws are also)) second))

  -- each answer after them is one on their views
  pub after_files : (names : List (List ℕ)) (values : List Value) (rest : List View → Allowed) (response : ResponseValue)
      → AreFiles kind known names values → WithFiles kind known names (λ others. rest (map view others)) response
      → rest (map view values) response
  after_files names values rest response are (inl stops) = absurd (files_go names values response are stops)
  after_files names values rest response are (inr (others, also, found)) =
      subst (λ (views : List View). rest views response) (same_views names others values also are) found
