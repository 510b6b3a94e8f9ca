-- What is left to prove of `put_scheme_keys`: what `put_again` and `put_keyed` require, and its clauses where
-- the lines are known and where they are not, by `KeyLemmas`.
use Rattle.std.proofs.Common.{◌++◌, ◌∙◌, List, ap, sym, subst, arith}
use Rattle.std.proofs.lemmas.List.Elements.{All-contains, All-push, All-weaker}
use Rattle.std.specs.Prelude.{All}
use Rattle.attr_sets.specs.declared.set.AttrSet.{AttrSet}
use Rattle.attr_sets.specs.Attributes.{IsSubset}
use Rattle.attr_sets.specs.Sets.{attributes}
use Rattle.dep_model.specs.Keys.{IsKey}
use Rattle.schema_model.specs.Schemas.{width_of, theory_of, universe_of}
use Rattle.schema_printer.specs.Spelling.{printed_names_of}
use Rattle.desk_keys.specs.Keys.{keyed_text}
use Rattle.desk_keys.specs.KeyedLines.{AddsKeys, StandIn}
use Rattle.desk_keys.specs.declared.scheme_keys.KeyedLines.{KeyedLines}
use Rattle.desk_keys.proofs.KeyLemmas.{keyed_scheme, lines_ordered, lines_within, added_again, all_stand_later, stand_now}
use Rattle.desk_keys.proofs.scheme_keys.put_scheme_keys.Goals as goal
use Rattle.desk_keys.proofs.scheme_keys.put_scheme_keys.Goals.{In-Some, In_ok-put_keyed}

-- the lines that are known stand in the text
stand : (c : In-Some) → StandIn c.args.schema.now c.args.text.now.items c.in-Some.lines
stand c =
    let all : All (StandIn c.args.schema.now c.args.text.now.items) c.deref.result.now =
    subst (λ (known : List KeyedLines). All (StandIn c.args.schema.now c.args.text.now.items) known) (sym c.deref.ensures.value) c.requires.known in
    All-contains (StandIn c.args.schema.now c.args.text.now.items) c.deref.result.now c.in-Some.lines all c.in-Some.ensures.stand

pub put_again-requires-clause-ordered : goal.put_again-requires-clause-ordered
put_again-requires-clause-ordered c =
    let at = (goal.at.put_again-requires-clause-ordered c).In-Some in
    lines_ordered c.args.schema.now c.args.text.now.items c.in-Some.lines (stand at)

pub put_again-requires-clause-within : goal.put_again-requires-clause-within
put_again-requires-clause-within c =
    let at = (goal.at.put_again-requires-clause-within c).In-Some in
    lines_within c.args.schema.now c.args.text.now.items c.in-Some.lines (stand at)

pub returns-in-Some-clause-added : goal.returns-in-Some-clause-added
returns-in-Some-clause-added c =
    let at = (goal.at.returns-in-Some-clause-added c).In-Some in
    added_again c.args.schema.now c.args.text.now.items c.in-Some.lines (stand at) c.args.scheme c.put_again.new.text.items c.in-Some.ensures.equal c.in_ok-put_again.ensures.added

pub returns-in-Some-clause-known : goal.returns-in-Some-clause-known
returns-in-Some-clause-known c =
    let s = c.args.schema.now in
    let text = c.args.text.now.items in
    let more = c.put_again.new.text.items in
    let at = (goal.at.returns-in-Some-clause-known c).In-Some in
    let added = added_again s text c.in-Some.lines (stand at) c.args.scheme more c.in-Some.ensures.equal c.in_ok-put_again.ensures.added in
    all_stand_later s text more (attributes c.args.scheme) c.args.known.now.items added c.requires.known

pub put_keyed-requires-clause-keys : goal.put_keyed-requires-clause-keys
put_keyed-requires-clause-keys c =
    let s = c.args.schema.now in
    subst (λ (keys : List AttrSet). All (λ (k : AttrSet). IsSubset (attributes k) (universe_of s)) keys) (sym c.deref-2.ensures.value)
    (All-weaker (λ (k : AttrSet). IsKey (width_of s) (theory_of s) (attributes c.args.scheme) (attributes k)) (λ (k : AttrSet). IsSubset (attributes k) (universe_of s))
    (λ k key a m. c.requires.within a (key.superkey.within.0 a m)) c.in-Ok.keys.items c.in-Ok.ensures.ok.keys.each)

-- the lines that were added now
added_now : (c : In_ok-put_keyed) → AddsKeys c.args.schema.now (attributes c.args.scheme) c.args.text.now.items c.put_keyed.new.text.items
added_now c = (
  c.in-Ok.keys.items,
  c.in-Ok.ensures.ok,
  c.in_ok-put_keyed.ensures.added ∙ ap (λ (keys : List AttrSet). c.args.text.now.items ++ keyed_text (printed_names_of c.args.schema.now) (keyed_scheme c.args.scheme keys)) c.deref-2.ensures.value,
)

pub returns-clause-added : goal.returns-clause-added
returns-clause-added c = added_now (goal.at.returns-clause-added c).In_ok-put_keyed

pub returns-clause-known : goal.returns-clause-known
returns-clause-known c =
    let s = c.args.schema.now in
    let text = c.args.text.now.items in
    let more = c.put_keyed.new.text.items in
    let added = added_now (goal.at.returns-clause-known c).In_ok-put_keyed in
    let lines : KeyedLines = record { scheme = c.args.scheme; start = c.len-start.result; end = c.len-end.result } in
    subst (λ (known : List KeyedLines). All (StandIn s more) known) (sym c.in_ok-keep_lines.ensures.kept)
    (All-push (StandIn s more) c.args.known.now.items lines
    (all_stand_later s text more (attributes c.args.scheme) c.args.known.now.items added c.requires.known)
    (stand_now s text more lines added (omega (arith, c.args.text.now.ok.0, c.len-start.ensures)) (omega (arith, c.put_keyed.new.text.ok.0, c.len-end.ensures))))
