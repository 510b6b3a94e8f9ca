-- Lists with something between two are read back from their texts, and so are names of tables.
use Rattle.std.proofs.Common.{◌≡◌, ◌<◌, ◌≤◌, ◌+◌, ℕ, zero, suc, Bool, true, Some, None, List, [], ◌∷◌, ◌++◌, length, drop, refl, sym, ap, ◌∙◌, arith, append_assoc}
use Rattle.std.specs.Prelude.{◌==◌, if◌then◌else◌, codes}
use Rattle.std.specs.List.{flat_map, join_by}
use Rattle.std.proofs.lemmas.Bool.{eq-eqb}
use Rattle.schema_model.specs.Names.{quoted}
use Rattle.script_texts.specs.Queries.{IsTableName}
use Rattle.script_texts.proofs.Follows.{head, mark, next, stops, stops_first, stops_rest, stops_parted, Read, and_then}
use Rattle.script_texts.proofs.Names.{read_quoted, quoted_reads, parted_parts}

-- it is so of each member
abbrev pub Each : {X : Type 0} → (X → Type 0) → List X → Type 0
Each P [] = Unit {0}
Each P (x ∷ xs) = P x × Each P xs

-- what is printed of x is read back, where the text stops after it
abbrev pub ReadsBack : {X : Type 0} → (List ℕ → Read X) → List ℕ → List ℕ → X → Type 0
ReadsBack read stop bytes x = (rest : List ℕ) → stops stop rest ≡ true → read (bytes ++ rest) ≡ Some (x, rest)

-- ---- what stands between two
pub record Between (mark_of width : ℕ) (stop bytes : List ℕ) : Type 0 where
  pub next_is : (rest : List ℕ) → next (bytes ++ rest) ≡ mark_of
  pub past : (rest : List ℕ) → drop width (bytes ++ rest) ≡ rest
  pub ends : (rest : List ℕ) → stops stop (bytes ++ rest) ≡ true

-- further members, each after what stands between two
abbrev pub read_more : {X : Type 0} → (List ℕ → Read X) → ℕ → ℕ → ℕ → List ℕ → Read (List X)
read_more read mark_of width zero text = None
read_more read mark_of width (suc n) text =
    if next text == mark_of then
    and_then (read (drop width text))
    (λ x rest. and_then (read_more read mark_of width n rest) (λ xs after. Some (x ∷ xs, after)))
    else Some ([], text)

abbrev pub read_list : {X : Type 0} → (List ℕ → Read X) → ℕ → ℕ → ℕ → List ℕ → Read (List X)
read_list read mark_of width n text =
    and_then (read text) (λ x rest. and_then (read_more read mark_of width n rest) (λ xs after. Some (x ∷ xs, after)))

module _ (X : Type 0) (read : List ℕ → Read X) (text : X → List ℕ) (mark_of width : ℕ) (stop between : List ℕ)
    (b : Between mark_of width stop between) where
  abbrev more : List X → List ℕ
  more xs = flat_map (λ y. between ++ text y) xs

  more_stops : (xs : List X) (rest : List ℕ) → stops (mark_of ∷ stop) rest ≡ true → stops stop (more xs ++ rest) ≡ true
  more_stops [] rest ends = stops_rest mark_of stop rest ends
  more_stops (x ∷ xs) rest ends =
      ap (λ (t : List ℕ). stops stop t) (append_assoc (between ++ text x) (more xs) rest ∙ append_assoc between (text x) (more xs ++ rest))
      ∙ b.ends (text x ++ (more xs ++ rest))

  abbrev with_more : X → ℕ → Read X → Read (List X)
  with_more x n found = and_then found (λ y rest. and_then (read_more read mark_of width n rest) (λ xs after. Some (y ∷ xs, after)))

  more_reads : (xs : List X) (n : ℕ) (rest : List ℕ) → length xs < n → Each (λ x. ReadsBack read stop (text x) x) xs
      → stops (mark_of ∷ stop) rest ≡ true → read_more read mark_of width n (more xs ++ rest) ≡ Some (xs, rest)
  more_reads xs zero rest fuel each ends = absurd (omega (arith, fuel))
  more_reads [] (suc n) rest fuel each ends =
      ap (λ (t : Bool). if t then with_more_at n (drop width rest) else Some ([], rest)) (stops_first mark_of stop rest ends)
    where
      with_more_at : ℕ → List ℕ → Read (List X)
      with_more_at k after = and_then (read after) (λ y later. and_then (read_more read mark_of width k later) (λ ys last. Some (y ∷ ys, last)))
  more_reads (x ∷ xs) (suc n) rest fuel each ends =
      let tail = more xs ++ rest in
      let go = λ (y : X) (later : List ℕ). and_then (read_more read mark_of width n later) (λ ys last. Some (y ∷ ys, last)) in
      ap (read_more read mark_of width (suc n)) (append_assoc (between ++ text x) (more xs) rest ∙ append_assoc between (text x) tail)
      ∙ ap (λ (t : Bool). if t then and_then (read (drop width (between ++ (text x ++ tail)))) go else Some ([], between ++ (text x ++ tail)))
      (eq-eqb (next (between ++ (text x ++ tail))) mark_of (b.next_is (text x ++ tail)))
      ∙ ap (λ (t : List ℕ). and_then (read t) go) (b.past (text x ++ tail))
      ∙ ap (λ (t : Read X). and_then t go) (each.0 tail (more_stops xs rest ends))
      ∙ ap (λ (t : Read (List X)). and_then t (λ ys last. Some (x ∷ ys, last))) (more_reads xs n rest (omega (arith, fuel)) each.1 ends)

  pub list_reads : (x : X) (xs : List X) (n : ℕ) (rest : List ℕ) → length xs < n → Each (λ y. ReadsBack read stop (text y) y) (x ∷ xs)
      → stops (mark_of ∷ stop) rest ≡ true
      → read_list read mark_of width n ((text x ++ more xs) ++ rest) ≡ Some (x ∷ xs, rest)
  list_reads x xs n rest fuel each ends =
      let go = λ (y : X) (later : List ℕ). and_then (read_more read mark_of width n later) (λ ys last. Some (y ∷ ys, last)) in
      ap (read_list read mark_of width n) (append_assoc (text x) (more xs) rest)
      ∙ ap (λ (t : Read X). and_then t go) (each.0 (more xs ++ rest) (more_stops xs rest ends))
      ∙ ap (λ (t : Read (List X)). and_then t (λ ys last. Some (x ∷ ys, last))) (more_reads xs n rest fuel each.1 ends)

-- ---- names of tables
abbrev pub dot : ℕ
dot = mark 46

dots : Between dot 1 [] (codes ".")
dots = record { next_is = λ rest. refl; past = λ rest. refl; ends = λ rest. refl }

abbrev pub name_of_parts : List (List ℕ) → List ℕ
name_of_parts parts = join_by quoted (codes ".") parts

abbrev pub read_table : ℕ → List ℕ → Read (List ℕ)
read_table n text =
    if head text == 34 then and_then (read_list read_quoted dot 1 n text) (λ parts rest. Some (name_of_parts parts, rest))
    else Some ([], text)

each_quoted : (parts : List (List ℕ)) → Each (λ part. ReadsBack read_quoted [] (quoted part) part) parts
each_quoted [] = tt
each_quoted (part ∷ parts) = (λ rest ends. quoted_reads part rest (parted_parts rest ends).1, each_quoted parts)

parts_read : (parts : List (List ℕ)) (n : ℕ) (rest : List ℕ) → length parts ≤ n → stops (dot ∷ []) rest ≡ true
    → read_table n (name_of_parts parts ++ rest) ≡ Some (name_of_parts parts, rest)
parts_read [] n rest fuel ends =
    ap (λ (t : Bool). if t then and_then (read_list read_quoted dot 1 n rest) (λ parts after. Some (name_of_parts parts, after)) else Some ([], rest))
    (parted_parts rest (stops_parted (dot ∷ []) rest ends)).1
parts_read (part ∷ parts) n rest fuel ends =
    ap (λ (t : Read (List (List ℕ))). and_then t (λ found after. Some (name_of_parts found, after)))
    (list_reads (List ℕ) read_quoted quoted dot 1 [] (codes ".") dots part parts n rest (omega (arith, fuel))
    (each_quoted (part ∷ parts)) ends)

pub table_reads : (name : List ℕ) (is : IsTableName name) (n : ℕ) (rest : List ℕ) → length is.0 ≤ n
    → stops (dot ∷ []) rest ≡ true → read_table n (name ++ rest) ≡ Some (name, rest)
table_reads name is n rest fuel ends =
    ap (λ (t : List ℕ). read_table n (t ++ rest)) is.1 ∙ parts_read is.0 n rest fuel ends
    ∙ ap (λ (t : List ℕ). Some (t, rest)) (sym is.1)

-- ---- with some fuel
-- what is printed of x is read back with so much fuel, or more
pub record Reads (X : Type 0) (read : ℕ → List ℕ → Read X) (stop bytes : List ℕ) (x : X) : Type 0 where
  pub least : ℕ
  pub back : (n : ℕ) → least ≤ n → ReadsBack (read n) stop bytes x

pub by_fuel : {X : Type 0} (read : ℕ → List ℕ → Read X) (stop bytes : List ℕ) (x : X) (least : ℕ)
    → ((n : ℕ) → least ≤ n → ReadsBack (read (suc n)) stop bytes x) → Reads X read stop bytes x
by_fuel read stop bytes x least back = record { least = suc least; back = from_suc }
  where
    from_suc : (n : ℕ) → suc least ≤ n → ReadsBack (read n) stop bytes x
    from_suc zero fuel = absurd (omega (arith, fuel))
    from_suc (suc n) fuel = back n (omega (arith, fuel))

-- the same of each member, with so much fuel, or more
pub record EachReads (X : Type 0) (read : ℕ → List ℕ → Read X) (stop : List ℕ) (text : X → List ℕ) (xs : List X) : Type 0 where
  pub least : ℕ
  pub back : (n : ℕ) → least ≤ n → Each (λ x. ReadsBack (read n) stop (text x) x) xs

pub none_reads : {X : Type 0} (read : ℕ → List ℕ → Read X) (stop : List ℕ) (text : X → List ℕ) → EachReads X read stop text []
none_reads read stop text = record { least = 0; back = λ n fuel. tt }

pub more_read : {X : Type 0} (read : ℕ → List ℕ → Read X) (stop : List ℕ) (text : X → List ℕ) (x : X) (xs : List X)
    → Reads X read stop (text x) x → EachReads X read stop text xs → EachReads X read stop text (x ∷ xs)
more_read read stop text x xs one all = record {
  least = one.least + all.least;
  back = λ n fuel. (one.back n (omega (arith, fuel)), all.back n (omega (arith, fuel)));
}
