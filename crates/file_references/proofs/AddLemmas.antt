-- References added one after the other.
use Rattle.std.specs.Prelude.{Contains}
use Rattle.std.proofs.Common.{inl, inr, ◌≡◌, ◌⊎◌, ℕ, List, [], ◌∷◌, ◌++◌, length, map, get_or, Result, Ok, Err, OnOk, sym, subst, ap, ◌∙◌, ⊎_elim, ◌<◌, vec_len, arith}
use Rattle.std.proofs.lemmas.List.{get_or-map, map-append}
use Rattle.std.proofs.lemmas.List.Elements.{Contains-append_left, Contains-push, Contains-push_cases}
use Rattle.file_references.specs.Columns.{file_at, no_file}
use Rattle.file_references.specs.Finds.{Adds, AreReferences, IsThis, reference_of, refers_from}
use Rattle.file_references.specs.declared.reference.FoundReference.{FoundReference}
use Rattle.file_references.specs.declared.targets.Target.{Target}
use Rattle.file_references.specs.References.{IsReference, Reference}
use Rattle.headed_rows.specs.Headings.{HeadedRows, headed_of}
use Rattle.headed_rows.specs.declared.headed_rows.Headed.{Headed}

-- the file at a position
pub file_here : (files : List Headed) (i : ℕ) (h : Headed) → i < length files → h ≡ get_or files i h
    → file_at (map headed_of files) i ≡ headed_of h
file_here files i h low is = get_or-map headed_of files i h no_file low ∙ ap headed_of (sym is)

pub file_at_or : (files : List Headed) (i : ℕ) (h : Headed) → i < length files → file_at (map headed_of files) i ≡ headed_of (get_or files i h)
file_at_or files i h low = get_or-map headed_of files i h no_file low

-- its names, counted
pub counted : (files : List Headed) (i : ℕ) (h : Headed) → vec_len (get_or files i h).names ≡ length (get_or files i h).names.items
counted files i h = omega (arith, (get_or files i h).names.ok.0)

-- nothing was to be added
pub adds_none : (files : List HeadedRows) (P : Reference → Type 0) (old : List Reference)
    → ((ref : Reference) → IsReference files ref → P ref → ⊥) → Adds files P old old
adds_none files P old none = record {
  kept = λ ref has. has;
  only = λ ref has. inl has;
  all = λ ref is wanted. absurd (none ref is wanted);
}

-- one after the other
pub adds_then : (files : List HeadedRows) (P Q R : Reference → Type 0) (old mid new : List Reference)
    → ((ref : Reference) → IsReference files ref → R ref → P ref ⊎ Q ref) → Adds files P old mid → Adds files Q mid new
    → Adds files R old new
adds_then files P Q R old mid new parts first then_more = record {
  kept = λ ref has. then_more.kept ref (first.kept ref has);
  only = λ ref has. ⊎_elim (λ earlier. first.only ref earlier) (λ is. inr is) (then_more.only ref has);
  all = λ ref is wanted. ⊎_elim (λ one. then_more.kept ref (first.all ref is one)) (λ other. then_more.all ref is other)
      (parts ref is wanted);
}

-- fewer were wanted
pub adds_fewer : (files : List HeadedRows) (P Q : Reference → Type 0) (old new : List Reference)
    → ((ref : Reference) → IsReference files ref → Q ref → P ref) → Adds files P old new → Adds files Q old new
adds_fewer files P Q old new fewer adds = record {
  kept = adds.kept;
  only = adds.only;
  all = λ ref is wanted. adds.all ref is (fewer ref is wanted);
}

-- one reference
pub adds_one : (files : List HeadedRows) (ref : Reference) (old : List Reference) → IsReference files ref
    → Adds files (IsThis ref) old (old ++ ref ∷ [])
adds_one files ref old is = record {
  kept = λ other has. Contains-append_left old (ref ∷ []) other has;
  only = λ other has. ⊎_elim (λ earlier. inl earlier) (λ same. inr (subst (IsReference files) same is)) (Contains-push_cases old ref other has);
  all = λ other is_one same. subst (Contains (old ++ ref ∷ [])) (sym same) (Contains-push old ref);
}

-- what is none
pub adds_no_one : (files : List HeadedRows) (ref : Reference) (old : List Reference) → (IsReference files ref → ⊥)
    → Adds files (IsThis ref) old old
adds_no_one files ref old never =
    adds_none files (IsThis ref) old (λ other is same. never (subst (IsReference files) same is))

-- what was found is references still
pub still_references : (files : List HeadedRows) (P : Reference → Type 0) (old new : List Reference) → AreReferences files old
    → Adds files P old new → AreReferences files new
still_references files P old new are adds = λ ref has. ⊎_elim (λ earlier. are ref earlier) (λ is. is) (adds.only ref has)

-- a reference of the code was pushed
pub pushed_reference : (old new : List FoundReference) (x : FoundReference) (file : ℕ) (columns : List ℕ) (target : Target)
    → new ≡ old ++ x ∷ [] → x.file ≡ file → x.columns.items ≡ columns → x.target ≡ target.file → x.key.items ≡ target.columns.items
    → map reference_of new ≡ map reference_of old ++ refers_from file columns target ∷ []
pushed_reference old new x file columns target is file_is columns_are target_is key_is =
    ap (map reference_of) is ∙ map-append reference_of old (x ∷ [])
    ∙ ap (λ (ref : Reference). map reference_of old ++ ref ∷ [])
    (λ i. record { file = file_is i; columns = columns_are i; target = target_is i; key = key_is i })

-- what follows where a call ends well
pub when_done : {E : Type 0} (r : Result (Unit {0}) E) (P Q : Type 0) → (P → Q) → OnOk r P → OnOk r Q
when_done (Ok x) P Q f h = f h
when_done (Err e) P Q f h = tt
