-- What is left to prove of `replace`: its clause `replaced` and that a round of its loop keeps the
-- invariant.
use Rattle.std.proofs.Common.{◌≡◌, ℕ, ◌+◌, ◌<◌, ◌≤◌, ◌∙◌, ◌++◌, [], ◌∷◌, map, take, drop, length, get_or, sym, ap, arith, append_assoc, append-nil}
use Rattle.std.proofs.Math.ListN.{set}
use Rattle.std.proofs.lemmas.List.{take_more, drop_more, map-append, set_at, length-map, length-take-le, get_or_at, take_all, drop_all}
use Rattle.chase_laws.specs.Tableaux.{SymbolRow, Tableau}
use Rattle.chase_laws.specs.Steps.{replace_in_row}
use Rattle.tableau_chase.proofs.equating.replace.Goals as goal

-- the rows up to i are replaced, and then row i
more : (f : SymbolRow → SymbolRow) (start rows : Tableau) (i : ℕ) (old new : SymbolRow) → i < length start → rows ≡ map f (take i start) ++ drop i start → old ≡ get_or rows i old → new ≡ f old
    → set rows i new ≡ map f (take (i + 1) start) ++ drop (i + 1) start
more f start rows i old new low is old_is new_is =
    let count : length (map f (take i start)) ≡ i = length-map (take i start) f ∙ length-take-le i start (omega (arith, low)) in
    let split : rows ≡ map f (take i start) ++ get_or start i [] ∷ drop (i + 1) start = is ∙ ap (λ (rest : Tableau). map f (take i start) ++ rest) (drop_more start i [] low) in
    let old_start : old ≡ get_or start i [] = old_is ∙ ap (λ (t : Tableau). get_or t i old) split ∙ get_or_at (map f (take i start)) (get_or start i []) (drop (i + 1) start) old i count in
    ap (λ (t : Tableau). set t i new) split
    ∙ set_at (map f (take i start)) (get_or start i []) (drop (i + 1) start) new i count
    ∙ ap (λ (r : SymbolRow). map f (take i start) ++ r ∷ drop (i + 1) start) (new_is ∙ ap f old_start)
    ∙ sym (append_assoc (map f (take i start)) (f (get_or start i []) ∷ []) (drop (i + 1) start))
    ∙ ap (λ (t : Tableau). t ++ drop (i + 1) start) (sym (map-append f (take i start) (get_or start i [] ∷ [])) ∙ ap (map f) (sym (take_more start i [] low)))

pub loop-i-preserved : goal.loop-i-preserved
loop-i-preserved c =
    more (replace_in_row c.args.a c.args.former c.args.later) c.args.rows.now c.loop-i.rows c.loop-i.i c.index-rows-i.result c.replace.new.self c.loop-i-test.true c.loop-i.invariant c.index-rows-i.is
    (c.replace.ensures.replaced ∙ ap (replace_in_row c.args.a c.args.former c.args.later) (sym c.index-rows-i.is))

pub returns : goal.returns
returns c =
    let f = replace_in_row c.args.a c.args.former c.args.later in
    let all : length c.args.rows.now ≤ c.loop-i.i = omega (arith, c.loop-i-test.false) in
    record {
      replaced = c.loop-i.invariant
          ∙ ap (λ (t : Tableau). map f t ++ drop c.loop-i.i c.args.rows.now) (take_all c.loop-i.i c.args.rows.now all)
          ∙ ap (λ (t : Tableau). map f c.args.rows.now ++ t) (drop_all c.loop-i.i c.args.rows.now all) ∙ append-nil (map f c.args.rows.now);
    }
