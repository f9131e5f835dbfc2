use Rattle.std.proofs.Common.{◌≡◌, ◌≤◌, ◌<◌, ℕ, true, true≢false, false, length, ap, sym, ◌∙◌, arith}
use Rattle.std.proofs.lemmas.Bool.{false_from_ne_true}
use Rattle.iloc_spec_grammar.specs.Syntax.{is_true}
use Rattle.iloc_subtags.specs.Left.{left}
use Rattle.iloc_memory.proofs.Within.{within_more}
use Rattle.iloc_word_list.specs.Values.{with_subtag}
use Rattle.iloc_word_list.proofs.ReadingLemmas.{valued_more, valued_room}
use Rattle.iloc_word_list.proofs.CollectorLaws.{on_err}
use Rattle.iloc_word_list.proofs.reader.read_words.Goals as goal

pub words-preserved : goal.words-preserved
words-preserved g c =
    valued_more g.K.WordKind.kind (left c.args.iter.now) (left c.words.iter) c.words.value c.words.invariant
    c.in-Some-take_word.word (left c.take_word-in-words.new.iter) c.in-Some-take_word.ensures.word
    c.in-Some-take_word.ensures.rest
    c.push_subtag_in.new.self
    (c.in_ok-push_subtag_in.ensures.ok ∙ ap (with_subtag c.words.value) c.subtag_of-in-Some-take_word.ensures)

refused_not : false ≡ true → ⊥
refused_not h = true≢false (sym h)

not_less : (n : ℕ) → (n < 4 → ⊥) → 4 ≤ n
not_less n h = omega (arith, h)

pub returns-in_err-push_subtag_in-clause-succeeds : goal.returns-in_err-push_subtag_in-clause-succeeds
returns-in_err-push_subtag_in-clause-succeeds g c few =
    let failed = c.in_err-push_subtag_in.ensures in
    let other : is_true c.in-Some-take_word.word ≡ false =
    false_from_ne_true _
    (λ t. refused_not (failed.ignores (ap is_true c.subtag_of-in-Some-take_word.ensures ∙ t))) in
    let many : 4 ≤ length c.words.value = not_less _ (λ l. refused_not (failed.succeeds l)) in
    let room = valued_room g.K.WordKind.kind (left c.args.iter.now) (left c.words.iter) c.words.value
    c.words.invariant c.in-Some-take_word.word (left c.take_word-in-words.new.iter)
    c.in-Some-take_word.ensures.word c.in-Some-take_word.ensures.rest other in
    absurd (omega (arith, few, many, room))

pub returns-in_err-push_subtag_in-clause-out_of_memory :
    goal.returns-in_err-push_subtag_in-clause-out_of_memory
returns-in_err-push_subtag_in-clause-out_of_memory g c =
    let failed = c.in_err-push_subtag_in.ensures in
    let other : is_true c.in-Some-take_word.word ≡ false =
    false_from_ne_true _
    (λ t. refused_not (failed.ignores (ap is_true c.subtag_of-in-Some-take_word.ensures ∙ t))) in
    let room = valued_room g.K.WordKind.kind (left c.args.iter.now) (left c.words.iter) c.words.value
    c.words.invariant c.in-Some-take_word.word (left c.take_word-in-words.new.iter)
    c.in-Some-take_word.ensures.word c.in-Some-take_word.ensures.rest other in
    on_err c.from_residual.result _ (within_more g.M.Memory.refused _ _ room failed.out_of_memory)
