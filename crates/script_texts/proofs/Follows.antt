-- What may follow a piece of a text so that the piece ends there, and readers of pieces.
use Rattle.std.proofs.Common.{◌≡◌, ◌+◌, ◌*◌, ℕ, Bool, true, false, not, ◌&&◌, Option, Some, None, List, [], ◌∷◌, ◌++◌, length, take, drop, refl, sym, ap, subst, ◌∙◌, ⊎_elim, arith, append_assoc}
use Rattle.std.specs.Prelude.{◌==◌, cond, if◌then◌else◌}
use Rattle.std.specs.List.{list_all, list_any, prefix_len}
use Rattle.std.proofs.lemmas.Bool.{and_from, and_parts, eqb-true, not-true, or_cases, true≢false}
use Rattle.script_texts.specs.Queries.{is_bare_byte}

-- ---- the next byte, and the one after a blank
abbrev pub head : List ℕ → ℕ
head [] = 0
head (b ∷ bytes) = b

abbrev pub after_blank : ℕ → ℕ
after_blank b = 2 * b

abbrev pub mark : ℕ → ℕ
mark b = 2 * b + 1

abbrev pub next : List ℕ → ℕ
next [] = 0
next (b ∷ bytes) = if b == 32 then after_blank (head bytes) else mark b

-- neither a name in quotes nor one without goes on
abbrev pub is_parted : List ℕ → Bool
is_parted text = not (is_bare_byte (head text)) && not (head text == 34)

-- nor does anything that goes on with one of these
abbrev pub stops : List ℕ → List ℕ → Bool
stops [] text = is_parted text
stops (c ∷ cs) text = not (next text == c) && stops cs text

pub stops_first : (c : ℕ) (cs text : List ℕ) → stops (c ∷ cs) text ≡ true → (next text == c) ≡ false
stops_first c cs text is = not-true (next text == c) (and_parts (not (next text == c)) (stops cs text) is).0

pub stops_rest : (c : ℕ) (cs text : List ℕ) → stops (c ∷ cs) text ≡ true → stops cs text ≡ true
stops_rest c cs text is = (and_parts (not (next text == c)) (stops cs text) is).1

pub stops_parted : (cs text : List ℕ) → stops cs text ≡ true → is_parted text ≡ true
stops_parted [] text is = is
stops_parted (c ∷ cs) text is = stops_parted cs text (stops_rest c cs text is)

-- so of some of these
not_next : (cs : List ℕ) (d : ℕ) (text : List ℕ) → list_any (λ c. c == d) cs ≡ true → stops cs text ≡ true
    → (next text == d) ≡ false
not_next [] d text among ends = absurd (true≢false (sym among))
not_next (c ∷ cs) d text among ends =
    ⊎_elim
    (λ (is : (c == d) ≡ true). subst (λ (a : ℕ). (next text == a) ≡ false) (eqb-true c d is) (stops_first c cs text ends))
    (λ later. not_next cs d text later (stops_rest c cs text ends))
    (or_cases (c == d) (list_any (λ a. a == d) cs) among)

pub stops_some : (cs ds text : List ℕ) → list_all (λ d. list_any (λ c. c == d) cs) ds ≡ true → stops cs text ≡ true
    → stops ds text ≡ true
stops_some cs [] text are ends = stops_parted cs text ends
stops_some cs (d ∷ ds) text are ends =
    let parts = and_parts (list_any (λ c. c == d) cs) (list_all (λ a. list_any (λ c. c == a) cs) ds) are in
    and_from (not (next text == d)) (stops ds text) (ap not (not_next cs d text parts.0 ends)) (stops_some cs ds text parts.1 ends)

-- ---- parts of a text
pub three_parts : (a b c rest : List ℕ) → (a ++ b ++ c) ++ rest ≡ a ++ (b ++ (c ++ rest))
three_parts a b c rest = simp append_assoc

pub four_parts : (a b c d rest : List ℕ) → (a ++ b ++ c ++ d) ++ rest ≡ a ++ (b ++ (c ++ (d ++ rest)))
four_parts a b c d rest = simp append_assoc

pub six_parts : (a b c d e f rest : List ℕ)
    → (a ++ b ++ c ++ d ++ e ++ f) ++ rest ≡ a ++ (b ++ (c ++ (d ++ (e ++ (f ++ rest)))))
six_parts a b c d e f rest = simp append_assoc

-- ---- readers
-- what was read, and the text after it
abbrev pub Read : Type 0 → Type 0
Read X = Option (X × List ℕ)

abbrev pub and_then : {X Y : Type 0} → Read X → (X → List ℕ → Read Y) → Read Y
and_then None go = None
and_then (Some p) go = go p.0 p.1

-- bytes that pass a test
abbrev pub read_while : (ℕ → Bool) → List ℕ → Read (List ℕ)
read_while test text = Some (take (prefix_len test text) text, drop (prefix_len test text) text)

prefix_past : (test : ℕ → Bool) (bytes rest : List ℕ) → list_all test bytes ≡ true
    → prefix_len test rest ≡ 0 → prefix_len test (bytes ++ rest) ≡ length bytes
prefix_past test [] rest all stops = stops
prefix_past test (b ∷ bytes) rest all stops =
    let parts = and_parts (test b) (list_all test bytes) all in
    let later = prefix_past test bytes rest parts.1 stops in
    let is : prefix_len test ((b ∷ bytes) ++ rest) ≡ 1 + prefix_len test (bytes ++ rest) =
    ap (λ (t : Bool). cond t (1 + prefix_len test (bytes ++ rest)) 0) parts.0 in
    omega (arith, is, later)

pub prefix_stops : (test : ℕ → Bool) (text : List ℕ) → test (head text) ≡ false → prefix_len test text ≡ 0
prefix_stops test [] fails = refl
prefix_stops test (b ∷ text) fails = ap (λ (t : Bool). cond t (1 + prefix_len test text) 0) fails

take_front : (bytes rest : List ℕ) → take (length bytes) (bytes ++ rest) ≡ bytes
take_front [] rest = refl
take_front (b ∷ bytes) rest = ap (λ (t : List ℕ). b ∷ t) (take_front bytes rest)

drop_front : (bytes rest : List ℕ) → drop (length bytes) (bytes ++ rest) ≡ rest
drop_front [] rest = refl
drop_front (b ∷ bytes) rest = drop_front bytes rest

pub while_reads : (test : ℕ → Bool) (bytes rest : List ℕ) → list_all test bytes ≡ true → test (head rest) ≡ false
    → read_while test (bytes ++ rest) ≡ Some (bytes, rest)
while_reads test bytes rest all fails =
    let long = prefix_past test bytes rest all (prefix_stops test rest fails) in
    ap (λ (n : ℕ). Some (take n (bytes ++ rest), drop n (bytes ++ rest))) long
    ∙ ap (λ (t : List ℕ). Some (t, drop (length bytes) (bytes ++ rest))) (take_front bytes rest)
    ∙ ap (λ (t : List ℕ). Some (bytes, t)) (drop_front bytes rest)
