use Rattle.std.proofs.Common.{arith, take, refl}
use Rattle.iloc_normalize.specs.declared.Mode.TheVariants.{Langid}
use Rattle.iloc_faults.proofs.Walks.{alone_good, all_good, language_came, no_word_else, walk_all, walk_on, walk_stops, walked_behind, word_came, word_stops, words}
use Rattle.iloc_faults.proofs.walk.words_behind.Goals as goal

pub returns-then-is_last-clause-good : goal.returns-then-is_last-clause-good
returns-then-is_last-clause-good g c _ = grind (arith, alone_good)

pub next-at-requires-clause-short : goal.next-at-requires-clause-short
next-at-requires-clause-short g c =
    (language_came Langid (take c.args.len c.args.window.now) c.cursor_in-first.result
    c.cursor_in-first.ensures.at c.cursor_in-first.ensures.rest c.requires.begins).3

pub words-init : goal.words-init
words-init g c = grind (arith, walked_behind)

pub returns-in_default-clause-bad : goal.returns-in_default-clause-bad
returns-in_default-clause-bad g c =
    let w = c.words.invariant in
    walk_stops w
    (grind (arith, word_stops, no_word_else)) _ refl refl c.end_of-end.ensures

pub returns-then-is_last-2-clause-good : goal.returns-then-is_last-2-clause-good
returns-then-is_last-2-clause-good g c _ =
    let w = c.words.invariant in
    all_good
    (walk_all w (words c.in-Some.read c.in-Some.left)
    (word_came w (c.in-Some.read, c.in-Some.left) (c.in-Some.ensures w.variants w.read.variants_are))
    (c.is_last-in-words.ensures.0 c.if-is_last-2.true)) refl

pub words-preserved : goal.words-preserved
words-preserved g c = let w = c.words.invariant in
    walk_on w (words c.in-Some.read c.in-Some.left)
    (word_came w (c.in-Some.read, c.in-Some.left) (c.in-Some.ensures w.variants w.read.variants_are))
    c.next-at-in-words.ensures
