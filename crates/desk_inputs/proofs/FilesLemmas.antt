-- Files of a kind that are opened one after the other: what holds when the first of them are, and what then follows.
use Rattle.std.proofs.Common.{◌≡◌, ◌≤◌, ◌<◌, ◌+◌, ℕ, zero, arith, List, [], ◌∷◌, ◌++◌, length, take, drop, get_or, Ok, Err, refl, sym, subst, ap, ◌∙◌}
use Rattle.std.proofs.lemmas.List.{append_assoc, append-nil, take_all, take_more, take-append-drop}
use Rattle.std.proofs.lemmas.Option.{slice_get_read}
use Rattle.std.specs.List.{AllZip}
use Rattle.desk_outside.specs.Begun.{Begun}
use Rattle.desk_outside.specs.declared.file_source.FileSource.{Ghosts as FileSource}
use Rattle.desk_responses.specs.declared.response.EarlyExit.{EarlyExit}
use Rattle.desk_responses.specs.declared.response.EarlyExit.TheVariants.{OutOfMemory}
use Rattle.desk_inputs.specs.FileCalls.{OpensFile, OpensFiles}
use Rattle.desk_inputs.specs.FileKinds.{FileKind, AreFiles, IsFile}
use Rattle.desk_inputs.specs.FilesBegun.{BeginsAll, BeginsFront}
use Rattle.desk_inputs.specs.Readings.{Reading, files_in}
use Rattle.desk_inputs.proofs.BegunLemmas.{front_longer, front_later}
use Rattle.desk_inputs.proofs.ReadingLemmas.{Shows-later}

zip_push : {X Y : Type 0} (R : X → Y → Type 0) (xs : List X) (ys : List Y) (x : X) (y : Y) → AllZip R xs ys → R x y → AllZip R (xs ++ x ∷ []) (ys ++ y ∷ [])
zip_push R [] [] x y h r = (r, tt)
zip_push R [] (b ∷ ys) x y h r = absurd h
zip_push R (a ∷ xs) [] x y h r = absurd h
zip_push R (a ∷ xs) (b ∷ ys) x y h r = (h.0, zip_push R xs ys x y h.1 r)

-- one file more was begun
begins_more : (names : List (List ℕ)) (i : ℕ) (d : List ℕ) (old mid new : Begun) → i < length names
    → BeginsAll (take i names) old mid → BeginsAll (get_or names i d ∷ []) mid new → BeginsAll (take (i + 1) names) old new
begins_more names i d old mid new low all one = λ begun is.
    let name = get_or names i d in
    let same : (begun ++ take i names) ++ name ∷ [] ≡ begun ++ take (i + 1) names =
    append_assoc begun (take i names) (name ∷ []) ∙ ap (λ (l : List (List ℕ)). begun ++ l) (sym (take_more names i d low)) in
    subst new same (one (begun ++ take i names) (all begun is))

-- after some files at most one more was begun
front_more : (names : List (List ℕ)) (i : ℕ) (d : List ℕ) (old mid new : Begun) → i < length names
    → BeginsAll (take i names) old mid → BeginsFront (get_or names i d ∷ []) mid new → BeginsFront names old new
front_more names i d old mid new low all front =
    let first = take i names ++ get_or names i d ∷ [] in
    let same : first ++ drop (i + 1) names ≡ names =
    ap (λ (l : List (List ℕ)). l ++ drop (i + 1) names) (sym (take_more names i d low)) ∙ take-append-drop (i + 1) names in
    subst (λ (l : List (List ℕ)). BeginsFront l old new) same
    (front_longer first (drop (i + 1) names) old new (front_later (take i names) (get_or names i d ∷ []) old mid new all front))

-- the first of these files were opened, and these are their values
pub record OpenedSome {S Value Refusal : Type 0} (source : FileSource S) (kind : FileKind Value Refusal) (names : List (List ℕ)) (old mid : S) (i : ℕ) (values : List Value) : Type 0 where
  pub files : source.files mid ≡ source.files old
  pub later : source.faults old ≤ source.faults mid
  pub begins : BeginsAll (take i names) (source.begun old) (source.begun mid)
  pub read : (r : Reading) → files_in r ≡ source.files old → AreFiles kind r (take i names) values

pub none_opened : {S Value Refusal : Type 0} {source : FileSource S} {kind : FileKind Value Refusal} {names : List (List ℕ)} {old : S} {values : List Value} → values ≡ []
    → OpenedSome source kind names old old zero values
none_opened {S} {Value} {Refusal} {source} {kind} {names} {old} {values} none = record {
  files = refl;
  later = omega arith;
  begins = λ begun is. subst (source.begun old) (sym (append-nil begun)) is;
  read = λ r same. subst (AreFiles kind r []) (sym none) tt;
}

-- one more is opened
pub one_more_opened : {S V Value Refusal : Type 0} {source : FileSource S} {kind : FileKind Value Refusal} {names : List (List ℕ)} {old mid new : S} {i : ℕ} {values : List Value}
    {view : V → Value} {value : V} (name : List ℕ) → i < length names → name ≡ get_or names i name → OpenedSome source kind names old mid i values
    → OpensFile source mid new kind name view (Ok value) → OpenedSome source kind names old new (i + 1) (values ++ view value ∷ [])
one_more_opened {S} {V} {Value} {Refusal} {source} {kind} {names} {old} {mid} {new} {i} {values} {view} {value} name low is some opens = record {
  files = opens.reads.files ∙ some.files;
  later = omega (arith, some.later, opens.reads.later);
  begins = begins_more names i name (source.begun old) (source.begun mid) (source.begun new) low some.begins
      (subst (λ (n : List ℕ). BeginsAll (n ∷ []) (source.begun mid) (source.begun new)) is opens.begins);
  read = λ r same.
      subst (λ (l : List (List ℕ)). AreFiles kind r l (values ++ view value ∷ [])) (sym (take_more names i name low))
      (zip_push (IsFile kind r) (take i names) values (get_or names i name) (view value) (some.read r same)
      (subst (λ (n : List ℕ). IsFile kind r n (view value)) is (opens.ok r (same ∙ sym some.files))));
}

-- all are opened
pub all_opened : {S V Value Refusal : Type 0} {source : FileSource S} {kind : FileKind Value Refusal} {names : List (List ℕ)} {old new : S} {i : ℕ} {values : List Value}
    {view : V → List Value} {value : V} → length names ≤ i → OpenedSome source kind names old new i values → values ≡ view value
    → OpensFiles source old new kind names view (Ok value)
all_opened {S} {V} {Value} {Refusal} {source} {kind} {names} {old} {new} {i} {values} {view} {value} high some is =
    let whole : take i names ≡ names = take_all i names high in
    record {
      reads = record { files = some.files; later = some.later; begins = λ before begun. (i, some.begins before begun); ends = λ r shows. tt };
      begins = subst (λ (l : List (List ℕ)). BeginsAll l (source.begun old) (source.begun new)) whole some.begins;
      ok = λ r same.
          subst (AreFiles kind r names) is (subst (λ (l : List (List ℕ)). AreFiles kind r l values) whole (some.read r same));
    }

-- one cannot be opened
pub one_stops : {S V W Value Refusal : Type 0} {source : FileSource S} {kind : FileKind Value Refusal} {names : List (List ℕ)} {old mid new : S} {i : ℕ} {values : List Value}
    {view : V → Value} {views : W → List Value} {exit : EarlyExit} (name : List ℕ) → i < length names → name ≡ get_or names i name
    → OpenedSome source kind names old mid i values → OpensFile source mid new kind name view (Err exit) → OpensFiles source old new kind names views (Err exit)
one_stops {S} {V} {W} {Value} {Refusal} {source} {kind} {names} {old} {mid} {new} {i} {values} {view} {views} {exit} name low is some opens = record {
  reads = record {
    files = opens.reads.files ∙ some.files;
    later = omega (arith, some.later, opens.reads.later);
    begins = front_more names i name (source.begun old) (source.begun mid) (source.begun new) low some.begins
        (subst (λ (n : List ℕ). BeginsFront (n ∷ []) (source.begun mid) (source.begun new)) is opens.reads.begins);
    ends = λ r shows response gives. (
      record {
        position = i;
        name = name;
        stands = slice_get_read names (length names) i name refl low is;
        earlier = values;
        before = some.read r shows.same;
      },
      opens.reads.ends r (Shows-later source old mid new r (take i names) shows some.files some.later some.begins) response gives,
    );
  };
  begins = tt;
  ok = λ r same. tt;
}

-- memory runs out once one more is opened
pub none_held : {S V W Value Refusal : Type 0} {source : FileSource S} {kind : FileKind Value Refusal} {names : List (List ℕ)} {old mid new : S} {i : ℕ} {values : List Value}
    {view : V → Value} {views : W → List Value} {value : V} (name : List ℕ) → i < length names → name ≡ get_or names i name
    → OpenedSome source kind names old mid i values → OpensFile source mid new kind name view (Ok value) → OpensFiles source old new kind names views (Err OutOfMemory)
none_held {S} {V} {W} {Value} {Refusal} {source} {kind} {names} {old} {mid} {new} {i} {values} {view} {views} {value} name low is some opens = record {
  reads = record {
    files = opens.reads.files ∙ some.files;
    later = omega (arith, some.later, opens.reads.later);
    begins = front_more names i name (source.begun old) (source.begun mid) (source.begun new) low some.begins
        (subst (λ (n : List ℕ). BeginsFront (n ∷ []) (source.begun mid) (source.begun new)) is opens.reads.begins);
    ends = λ r shows response gives. absurd (cc);
  };
  begins = tt;
  ok = λ r same. tt;
}
