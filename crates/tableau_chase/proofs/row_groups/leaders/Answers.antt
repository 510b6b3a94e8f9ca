-- What is left to prove of `leaders`: its clause `leaders`, what `symbols_at` requires, and that
-- the invariant of its loop holds at first and stays, by `GroupLemmas` and `RowLemmas`.
use Rattle.std.proofs.Common.{◌≡◌, ℕ, ◌+◌, ◌<◌, ◌≤◌, List, ◌∙◌, ◌++◌, [], ◌∷◌, length, map, take, get_or, inl, inr, sym, ap, subst, arith, take_all}
use Rattle.std.proofs.lemmas.Bool.{cases_eq}
use Rattle.std.proofs.lemmas.List.{get_or_read, take_more, map-append, length-map, length-take-le}
use Rattle.std.specs.Prelude.{Contains}
use Rattle.attr_sets.specs.Attributes.{Attributes}
use Rattle.attr_sets.specs.Sets.{attributes}
use Rattle.dep_model.specs.Projections.{members_below}
use Rattle.chase_laws.specs.Tableaux.{SymbolRow, Tableau, IsTableauOver, symbol_at, SymbolsAgree}
use Rattle.tableau_chase.specs.declared.numbers.RowNumbers.{RowNumbers}
use Rattle.tableau_chase.specs.Groups.{symbol_row_at, AreSymbolLeaders}
use Rattle.tableau_chase.specs.Numbers.{IsNumbering, IsFirstPosition}
use Rattle.tableau_chase.proofs.RowLemmas.{key_on, members-low}
use Rattle.tableau_chase.proofs.GroupLemmas.{leaders_none, leaders_more, fresh_by_key, known_by_key, take_is_over}
use Rattle.tableau_chase.proofs.row_groups.leaders.Goals as goal

pub symbols_at-requires : goal.symbols_at-requires
symbols_at-requires c = λ k l.
    let n = c.args.width in
    let x = attributes c.args.on in
    let is : c.deref.result.now ≡ members_below n x = c.deref.ensures.value ∙ c.in_ok-listed.ensures.members in
    let low : get_or (members_below n x) k 0 < n = members-low n x k (subst (λ (ms : List ℕ). k < length ms) is l) in
    let at : get_or c.deref.result.now k 0 < n = subst (λ (ms : List ℕ). get_or ms k 0 < n) (sym is) low in
    let row : SymbolRow = c.index-rows-i.result in
    let len : length row ≡ n = ap (λ (r : SymbolRow). length r) c.index-rows-i.is ∙ c.requires.over c.loop-i.i row c.loop-i-test.true in
    omega (arith, at, len)

pub loop-i-init : goal.loop-i-init
loop-i-init c = record {
  numbered = c.new-numbers.ensures.numbering;
  are = subst (λ (ls : List ℕ). AreSymbolLeaders (attributes c.args.on) [] ls) (sym c.in_ok-leaders.ensures.items) (leaders_none (attributes c.args.on));
}

-- the numbers and the leaders of one row more
module _ (n : ℕ) (x : Attributes) (rows : Tableau) (i : ℕ) (low : i < length rows) (row : SymbolRow) (row_is : row ≡ get_or rows i row) (over : IsTableauOver n rows) (symbols : List ℕ) (symbols_are : symbols ≡ key_on n x row)
    (leaders : List ℕ) (number : ℕ) (new : RowNumbers) (are : AreSymbolLeaders x (take i rows) leaders)
    (known : (number ≡ i → ⊥) → IsFirstPosition (map (key_on n x) (take i rows)) symbols number)
    (fresh : number ≡ i → Contains (map (key_on n x) (take i rows)) symbols → ⊥)
    (grown : IsNumbering (map (key_on n x) (take i rows) ++ symbols ∷ []) new) where
  longer : take (i + 1) rows ≡ take i rows ++ row ∷ []
  longer = take_more rows i [] low ∙ ap (λ (r : SymbolRow). take i rows ++ r ∷ []) (sym (get_or_read rows i row low row_is []))

  count : length (take i rows) ≡ i
  count = length-take-le i rows (omega (arith, low))

  len : length row ≡ n
  len = ap (λ (r : SymbolRow). length r) row_is ∙ over i row low

  numbered_more : IsNumbering (map (key_on n x) (take (i + 1) rows)) new
  numbered_more =
      let keys : map (key_on n x) (take (i + 1) rows) ≡ map (key_on n x) (take i rows) ++ symbols ∷ [] =
      ap (map (key_on n x)) longer ∙ map-append (key_on n x) (take i rows) (row ∷ []) ∙ ap (λ (key : List ℕ). map (key_on n x) (take i rows) ++ key ∷ []) (sym symbols_are) in
      subst (λ (ks : List (List ℕ)). IsNumbering ks new) (sym keys) grown

  at_row : (number ≡ i → ⊥) → (number < length (take i rows)) × SymbolsAgree x (symbol_row_at (take i rows) number) row × ((j : ℕ) → j < number → SymbolsAgree x (symbol_row_at (take i rows) j) row → ⊥)
  at_row ne = known_by_key n x (take i rows) row number (take_is_over n i rows over) len (subst (λ (key : List ℕ). IsFirstPosition (map (key_on n x) (take i rows)) key number) symbols_are (known ne))

  number_low : number ≤ length (take i rows)
  number_low = elim (cases_eq number i) [
    | inl e ↦ omega (arith, e, count)
    | inr ne ↦ let lt = (at_row ne).0 in omega (arith, lt)
  ]

  are_more : AreSymbolLeaders x (take (i + 1) rows) (leaders ++ number ∷ [])
  are_more = subst (λ (t : Tableau). AreSymbolLeaders x t (leaders ++ number ∷ [])) (sym longer) (leaders_more x (take i rows) leaders row number are number_low
      (λ e. fresh_by_key n x (take i rows) row (λ h. fresh (e ∙ count) (subst (λ (key : List ℕ). Contains (map (key_on n x) (take i rows)) key) (sym symbols_are) h)))
      (λ lt. let at = at_row (λ e. absurd (omega (arith, lt, e, count))) in (at.1, at.2)))

pub loop-i-preserved : goal.loop-i-preserved
loop-i-preserved c =
    let n = c.args.width in
    let x = attributes c.args.on in
    let rows = c.args.rows.now in
    let i = c.loop-i.i in
    let low = c.loop-i-test.true in
    let row : SymbolRow = c.index-rows-i.result in
    let symbols = c.in_ok-symbols.symbols.items in
    let symbols_are : symbols ≡ key_on n x row = c.in_ok-symbols.ensures.symbols ∙ ap (λ (ms : List ℕ). map (symbol_at row) ms) (c.deref.ensures.value ∙ c.in_ok-listed.ensures.members) in
    let keys = map (key_on n x) (take i rows) in
    let keys_count : length keys ≡ i = length-map (take i rows) (key_on n x) ∙ length-take-le i rows (omega (arith, low)) in
    let number = c.in_ok-number.field-0 in
    let known = λ (ne : number ≡ i → ⊥). (c.in_ok-number.ensures.known keys c.loop-i.invariant.numbered keys_count ne).0 in
    let fresh = c.in_ok-number.ensures.fresh keys c.loop-i.invariant.numbered keys_count in
    let grown = c.in_ok-number.ensures.grown keys c.loop-i.invariant.numbered keys_count in
    record {
      numbered = numbered_more n x rows i low row c.index-rows-i.is c.requires.over symbols symbols_are c.loop-i.leaders.items number c.number.new.self c.loop-i.invariant.are known fresh grown;
      are = subst (λ (ls : List ℕ). AreSymbolLeaders x (take (i + 1) rows) ls) (sym c.in_ok-push.ensures.items)
          (are_more n x rows i low row c.index-rows-i.is c.requires.over symbols symbols_are c.loop-i.leaders.items number c.number.new.self c.loop-i.invariant.are known fresh grown);
    }

pub returns : goal.returns
returns c = record { leaders = subst (λ (t : Tableau). AreSymbolLeaders (attributes c.args.on) t c.loop-i.leaders.items) (take_all c.loop-i.i c.args.rows.now c.loop-i-test.false) c.loop-i.invariant.are }
