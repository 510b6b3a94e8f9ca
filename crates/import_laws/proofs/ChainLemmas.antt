-- The elements of a table are read one after the other, with a comma between two, up to the bracket that closes it.
use Rattle.std.proofs.Common.{◌≡◌, ◌<◌, ◌+◌, ◌==◌, ℕ, suc, true, false, List, [], ◌∷◌, ◌++◌, length, take, drop, refl, sym, ap, subst, ◌∙◌, arith, Ok, append_assoc}
use Rattle.std.proofs.Math.Seq.{drop-append_seam, take-append_seam}
use Rattle.std.proofs.lemmas.Bool.Decides.{nat_tests}
use Rattle.sql_lexemes.specs.declared.dialect.Dialect.{Dialect}
use Rattle.sql_lexemes.specs.Lexemes.{Lexed}
use Rattle.sql_definitions.specs.Elements.{element}
use Rattle.sql_definitions.specs.Facts.{Facts, Outcome, StatedColumn, then_read}
use Rattle.sql_definitions.specs.Tables.{after_element, closed_table, elements, ends_element, place_of}
use Rattle.ddl_pieces.proofs.Cutting.{depth_past}
use Rattle.ddl_pieces.specs.Pieces.{TextPiece, gap, lexemes_from, lines_after, mark}
use Rattle.import_laws.specs.StatedTypes.{stay_within}
use Rattle.import_laws.proofs.ElementLemmas.{IsElement, Known, Reads, States}
use Rattle.import_laws.proofs.PieceLemmas.{lexemes_append, place_after}
use Rattle.import_laws.proofs.WithinLemmas.{within_end}

-- elements lead from what is known to more, one after the other
abbrev pub Leads : Dialect → Known → Known → List (List TextPiece) → Type 0
Leads d before after [] = before ≡ after
Leads d before after (e ∷ es) = (between : Known) × IsElement d before between e × Leads d between after es

pub leads_append : (d : Dialect) (before between after : Known) (xs ys : List (List TextPiece))
    → Leads d before between xs → Leads d between after ys → Leads d before after (xs ++ ys)
leads_append d before between after [] ys first second = subst (λ (k : Known). Leads d k after ys) (sym first) second
leads_append d before between after (x ∷ xs) ys first second =
    let (next, is, rest) = first in (next, is, leads_append d next between after xs ys rest second)

-- ---- one element
-- lexemes that belong to what was before are passed over
passed : (d : Dialect) (end : ℕ) (ls : List Lexed) (x : Lexed) (rest : List Lexed) (f : Facts)
    → elements d end (suc (length ls)) (ls ++ x ∷ rest) f ≡ elements d end 0 rest f
unfolding elements
passed d end [] x rest f = refl
passed d end (l ∷ ls) x rest f = passed d end ls x rest f

-- an element, up to the lexeme that ends it
one_read : (d : Dialect) (end : ℕ) (l : Lexed) (ls : List Lexed) (x : Lexed) (rest : List Lexed) (f g : Facts)
    → stay_within 0 (l ∷ ls) ≡ true → ends_element 0 x ≡ true → element d x.place (l ∷ ls) f ≡ Ok g
    → elements d end 0 (l ∷ (ls ++ x ∷ rest)) f
    ≡ after_element end (x ∷ rest) (elements d end (length (l ∷ ls)) (ls ++ x ∷ rest)) g
unfolding elements
one_read d end l ls x rest f g within ends read =
    ap (λ (n : ℕ). then_read (element d (place_of end (drop n all)) (take n all) f)
    (after_element end (drop n all) (elements d end n later))) (within_end own x rest within ends)
    ∙ ap (λ (t : List Lexed). then_read (element d (place_of end (drop (length own) all)) t f)
    (after_element end (drop (length own) all) (elements d end (length own) later))) (take-append_seam own (x ∷ rest))
    ∙ ap (λ (t : List Lexed). then_read (element d (place_of end t) own f)
    (after_element end t (elements d end (length own) later))) (drop-append_seam own (x ∷ rest))
    ∙ ap (λ (o : Outcome). then_read o (after_element end (x ∷ rest) (elements d end (length own) later))) read
  where
    own : List Lexed
    own = l ∷ ls

    later : List Lexed
    later = ls ++ x ∷ rest

    all : List Lexed
    all = l ∷ (ls ++ x ∷ rest)

-- ---- all elements
-- what stands after the elements
abbrev pub closing : List TextPiece
closing = gap (10 ∷ []) ∷ mark 41 ∷ []

-- the lexemes of an element, and those of what follows
cut_off : (place : ℕ) (e rest : List TextPiece) → depth_past 1 e ≡ 1
    → lexemes_from place 1 (e ++ rest) ≡ lexemes_from place 1 e ++ lexemes_from (place_after place e) 1 rest
cut_off place e rest back =
    lexemes_append place 1 e rest
    ∙ ap (λ (n : ℕ). lexemes_from place 1 e ++ lexemes_from (place_after place e) n rest) back

-- the facts of a table, once it is closed
closed : (known : Known) (place : ℕ) (f : Facts) → 0 < length known.columns → States known f
    → Reads (closed_table place f) known
closed known place f some states =
    let same : length f.columns ≡ length known.columns = ap (λ (cs : List StatedColumn). length cs) states.columns in
    let any : (length f.columns == 0) ≡ false = grind (arith, nat_tests, same, some) in (
      f,
      rw any refl,
      states,
    )

pub elements_read : (d : Dialect) (place end : ℕ) (before after : Known) (e : List TextPiece)
    (es : List (List TextPiece))
    → Leads d before after (e ∷ es) → 0 < length after.columns → (f : Facts) → States before f
    → Reads (elements d end 0 (lexemes_from place 1 (e ++ (lines_after es ++ closing))) f) after
unfolding lexemes_from
elements_read d place end before after e [] leads some f states =
    let (between, is, same) = leads in
    let (l, ls, own) = is.some place in
    let after_all : 0 < length between.columns = subst (λ (k : Known). 0 < length k.columns) (sym same) some in
    let bracket = place_after place e + 1 in
    let (g, read, now) = is.reads place bracket f states in
    let (h, last, known) = closed between bracket g after_all now in
    let within : stay_within 0 (l ∷ ls) ≡ true =
    subst (λ (t : List Lexed). stay_within 0 t ≡ true) own (is.inside place) in
    let whole = cut_off place e closing is.back
    ∙ ap (λ (t : List Lexed). t ++ lexemes_from (place_after place e) 1 closing) own in (
      h,
      ap (λ (t : List Lexed). elements d end 0 t f) whole
          ∙ one_read d end l ls _ [] f g within refl
          (ap (λ (t : List Lexed). element d bracket t f) (sym own) ∙ read) ∙ last,
      subst (λ (k : Known). States k h) same known,
    )
elements_read d place end before after e (next ∷ es) leads some f states =
    let (between, is, rest) = leads in
    let (l, ls, own) = is.some place in
    let comma = place_after place e in
    let (g, read, now) = is.reads place comma f states in
    let (h, later, known) = elements_read d ((comma + 1) + 3) end between after next es rest some g now in
    let within : stay_within 0 (l ∷ ls) ≡ true =
    subst (λ (t : List Lexed). stay_within 0 t ≡ true) own (is.inside place) in
    let tail = lines_after (next ∷ es) ++ closing in
    let whole = cut_off place e tail is.back ∙ ap (λ (t : List Lexed). t ++ lexemes_from comma 1 tail) own in
    let regrouped = ap (lexemes_from ((comma + 1) + 3) 1) (append_assoc next (lines_after es) closing) in
    let after_comma = lexemes_from ((comma + 1) + 3) 1 ((next ++ lines_after es) ++ closing) in (
      h,
      ap (λ (t : List Lexed). elements d end 0 t f) whole
          ∙ one_read d end l ls _ after_comma f g within refl
          (ap (λ (t : List Lexed). element d comma t f) (sym own) ∙ read)
          ∙ passed d end ls _ after_comma g
          ∙ ap (λ (t : List Lexed). elements d end 0 t g) regrouped ∙ later,
      known,
    )
