-- What the values of the reader and the printer stand for, in the words of the grammar: for
-- proof_text. `Desk` does not cite it.
use Rattle.std.specs.Prelude.{List, map, Option, option_map}
use Rattle.dep_model.specs.Deps.{dependency_of}
use Rattle.derivation.specs.Derivs.{tree_of, step_of, pair_of}
use Rattle.proof_grammar.specs.CheckerStates.{Opened, CheckerStateValue, Prepared}
use Rattle.proof_grammar.specs.Lines.{Body, by_given, by_reflexivity, by_mreflexivity, by_step, by_pair, Line}
use Rattle.proof_text.specs.Outcomes.{concluded_outcome}
use Rattle.proof_text.specs.declared.checker_state.CheckerState as books
use Rattle.proof_text.specs.declared.checker_state.Node as nodes
use Rattle.proof_text.specs.declared.line.Body as bodies
use Rattle.proof_text.specs.declared.line.Line as lines
use Rattle.proof_text.specs.declared.node.Open as opens

-- ---- each value of the code as the value of the grammar that it stands for
abbrev pub body_of : bodies.Body → Body
body_of (bodies.TheVariants.Given k) = by_given k
body_of bodies.TheVariants.Reflexivity = by_reflexivity
body_of bodies.TheVariants.MReflexivity = by_mreflexivity
body_of (bodies.TheVariants.Step r p) = by_step (step_of r) p
body_of (bodies.TheVariants.Pair r p q) = by_pair (pair_of r) p q

abbrev pub line_of : lines.Line → Line
line_of l = record { number = l.number; stated = dependency_of l.stated; body = body_of l.body }

abbrev pub opened_of : opens.Open → Opened
opened_of o = record { tree = tree_of o.deriv.value; levels = o.levels; conclusion = dependency_of o.dep }

abbrev pub opened_all : List (Option opens.Open) → List (Option Opened)
opened_all items = map (option_map opened_of) items

abbrev pub checker_state_of : books.CheckerState → CheckerStateValue
checker_state_of b = record { lines = b.lines.items; unused = opened_all b.unused.items }

abbrev pub prepared_of : nodes.Node → List (Option Opened) → Prepared
prepared_of n unused = record { levels = n.levels; outcome = concluded_outcome n.outcome; unused = unused }
