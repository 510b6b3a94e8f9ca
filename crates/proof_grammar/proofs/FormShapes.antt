-- How far a line is read, by the forms of its tokens.
use Rattle.std.proofs.Common.{◌≡◌, Bool, true, false, List, [], ◌∷◌, ◌++◌, Option, Some, None, refl}
use Rattle.schema_grammar.specs.declared.refusal.What.{What}
use Rattle.schema_grammar.specs.declared.refusal.What.TheVariants as what
use Rattle.proof_grammar.specs.LineDiagnostics.{RuleForm, with_none, with_one, with_two, with_set, with_sets, TokenForm, a_number, a_colon, an_arrow, an_empty, a_with, a_rule, a_word}

-- the parts of a line that a colon, an arrow or the line's end follows: its number, the sides of its
-- dependency, that of an augmentation, those of a wide one, and a rule without sets
pub data Part : Type 0 where
  heading : Part
  lhs : Part
  rhs : Part
  by : Part
  wide : Part
  narrow : Part
  ending : Part

-- what follows a number: that of the line, or that of a premise
pub data After : Type 0 where
  first : After
  nothing : After
  second : After
  sets : Part → After

-- past a part, and whether more words of it may stand there
pub data Shape : Type 0 where
  at_number : After → Shape
  at_side : Part → Shape
  past : Bool → Part → Shape
  at_rule : Shape
  at_with : Part → Shape

abbrev pub at_start : Shape
at_start = at_number first

-- where the token after a part leads
abbrev pub past_arrow : Part → Option Shape
past_arrow lhs = Some (at_side rhs)
past_arrow _ = None

abbrev pub past_colon : Part → Option Shape
past_colon heading = Some (at_side lhs)
past_colon rhs = Some at_rule
past_colon wide = Some (at_side narrow)
past_colon _ = None

abbrev pub past_word : Bool → Part → Option Shape
past_word true k = Some (past true k)
past_word false k = None

abbrev pub shape_after_side : Bool → Part → TokenForm → Option Shape
shape_after_side words k an_arrow = past_arrow k
shape_after_side words k a_colon = past_colon k
shape_after_side words k a_with = past_word words k
shape_after_side words k (a_rule r) = past_word words k
shape_after_side words k a_word = past_word words k
shape_after_side words k _ = None

-- where a token at the start of a side leads
abbrev pub shape_in_side : Part → TokenForm → Option Shape
shape_in_side k an_empty = Some (past false k)
shape_in_side k a_with = Some (past true k)
shape_in_side k (a_rule r) = Some (past true k)
shape_in_side k a_word = Some (past true k)
shape_in_side k _ = None

abbrev pub shape_of_rule : RuleForm → Shape
shape_of_rule with_none = past false ending
shape_of_rule with_one = at_number nothing
shape_of_rule with_two = at_number second
shape_of_rule with_set = at_number (sets by)
shape_of_rule with_sets = at_number (sets wide)

abbrev pub past_number : After → Shape
past_number first = past false heading
past_number nothing = past false ending
past_number second = at_number nothing
past_number (sets k) = at_with k

-- where a token of a form leads
abbrev pub shape_after : Shape → TokenForm → Option Shape
shape_after (at_number a) a_number = Some (past_number a)
shape_after (at_side k) f = shape_in_side k f
shape_after (past words k) f = shape_after_side words k f
shape_after at_rule (a_rule r) = Some (shape_of_rule r)
shape_after (at_with k) a_with = Some (at_side k)
shape_after _ _ = None

-- whether the line ends with a part
abbrev pub is_last : Part → Bool
is_last by = true
is_last narrow = true
is_last ending = true
is_last _ = false

abbrev pub is_final : Shape → Bool
is_final (past words k) = is_last k
is_final _ = false

-- whether any word may stand there
abbrev pub takes_words : Shape → Bool
takes_words (at_side k) = true
takes_words (past words k) = words
takes_words _ = false

abbrev pub wanted_after : Part → What
wanted_after heading = what.Colon
wanted_after lhs = what.Arrow
wanted_after rhs = what.Colon
wanted_after wide = what.Colon
wanted_after _ = what.LineEnd

abbrev pub wanted_by : Shape → What
wanted_by (at_number a) = what.Number
wanted_by (at_side k) = what.Side
wanted_by (past words k) = wanted_after k
wanted_by at_rule = what.Rule
wanted_by (at_with k) = what.With

abbrev pub then_turn : Option Shape → TokenForm → Option Shape
then_turn None f = None
then_turn (Some s) f = shape_after s f

-- where tokens of some forms lead
abbrev pub runs : Option Shape → List TokenForm → Option Shape
runs o [] = o
runs o (f ∷ fs) = runs (then_turn o f) fs

-- they lead to an end of the line
abbrev pub Ends : Shape → List TokenForm → Type 0
Ends s fs = (last : Shape) × (runs (Some s) fs ≡ Some last) × (is_final last ≡ true)

pub runs-append : (o : Option Shape) (fs gs : List TokenForm) → runs o (fs ++ gs) ≡ runs (runs o fs) gs
runs-append o [] gs = refl
runs-append o (f ∷ fs) gs = runs-append (then_turn o f) fs gs

-- what leads somewhere comes from somewhere
pub comes_from : (o : Option Shape) (fs : List TokenForm) (t : Shape) → runs o fs ≡ Some t → (s : Shape) × (o ≡ Some s)
comes_from (Some s) fs t leads = (s, refl)
comes_from None [] t leads = cc
comes_from None (f ∷ fs) t leads = comes_from None fs t leads

-- ---- how a line may go on
abbrev pub MayEnd : Shape → Type 0
MayEnd s = (rest : List TokenForm) × Ends s rest

part_ends : (words : Bool) (k : Part) → MayEnd (past words k)
part_ends words heading = (
  a_colon ∷ an_empty ∷ an_arrow ∷ an_empty ∷ a_colon ∷ a_rule with_none ∷ [],
  (past false ending, refl, refl),
)
part_ends words lhs = (an_arrow ∷ an_empty ∷ a_colon ∷ a_rule with_none ∷ [], (past false ending, refl, refl))
part_ends words rhs = (a_colon ∷ a_rule with_none ∷ [], (past false ending, refl, refl))
part_ends words wide = (a_colon ∷ an_empty ∷ [], (past false narrow, refl, refl))
part_ends words by = ([], (past words by, refl, refl))
part_ends words narrow = ([], (past words narrow, refl, refl))
part_ends words ending = ([], (past words ending, refl, refl))

pub shape_may_end : (s : Shape) → MayEnd s
shape_may_end (at_number first) = let more = part_ends false heading in (a_number ∷ more.0, more.1)
shape_may_end (at_number nothing) = (a_number ∷ [], (past false ending, refl, refl))
shape_may_end (at_number second) = (a_number ∷ a_number ∷ [], (past false ending, refl, refl))
shape_may_end (at_number (sets k)) = let more = part_ends false k in (a_number ∷ a_with ∷ an_empty ∷ more.0, more.1)
shape_may_end (at_side k) = let more = part_ends false k in (an_empty ∷ more.0, more.1)
shape_may_end (past words k) = part_ends words k
shape_may_end at_rule = (a_rule with_none ∷ [], (past false ending, refl, refl))
shape_may_end (at_with k) = let more = part_ends false k in (a_with ∷ an_empty ∷ more.0, more.1)
