use Rattle.std.proofs.Common.{◌≤◌, ◌<◌, ◌∷◌, ◌++◌, ℕ, true≢false, length, sym, subst, arith}
use Rattle.iloc_spec_grammar.specs.Meaning.{set_of}
use Rattle.iloc_subtags.specs.Left.{left}
use Rattle.iloc_memory.proofs.Within.{within_more}
use Rattle.iloc_word_list.proofs.CollectorLaws.{set_taken, on_err}
use Rattle.iloc_unicode.proofs.AttributeLemmas.{Gathered, gathered_few, gathered_more, gathered_many, gathered_room, taken_length}
use Rattle.iloc_unicode.proofs.reader.read_more_attributes.Goals as goal

pub words-init : goal.words-init
words-init g c = subst (Gathered (c.args.four ++ left c.args.iter.now) (left c.args.iter.now))
    (sym c.from_set-words.ensures) (gathered_few c.args.four (left c.args.iter.now) c.as_slice.ensures.normal)

pub words-preserved : goal.words-preserved
words-preserved g c =
    gathered_more (c.args.four ++ left c.args.iter.now) (left c.words.iter) c.words.words c.words.invariant
    c.in-Some.word (left c.take_word.new.iter) c.in-Some.ensures.word c.in-Some.ensures.rest
    c.push_in.new.self
    (set_taken c.in-Some.word c.words.words c.push_in.new.self c.in_ok-push_in.field-0
    c.in_ok-push_in.ensures.taken)
    (taken_length c.in-Some.word c.words.words c.push_in.new.self c.in_ok-push_in.field-0
    c.in_ok-push_in.ensures.taken)

not_few : (n : ℕ) → (n ≤ 4 → ⊥) → 4 < n
not_few n h = omega (arith, h)

pub returns-in_err-push_in-clause-succeeds : goal.returns-in_err-push_in-clause-succeeds
returns-in_err-push_in-clause-succeeds g c few =
    let many : 4 < length (set_of (c.in-Some.word ∷ c.words.words)) =
    not_few _ (λ l. true≢false (sym (c.in_err-push_in.ensures.succeeds l))) in
    absurd
    (gathered_many (c.args.four ++ left c.args.iter.now) (left c.words.iter) c.words.words c.words.invariant
    c.in-Some.word (left c.take_word.new.iter) c.in-Some.ensures.word c.in-Some.ensures.rest many few)

pub returns-in_err-push_in-clause-out_of_memory : goal.returns-in_err-push_in-clause-out_of_memory
returns-in_err-push_in-clause-out_of_memory g c =
    let room = gathered_room (c.args.four ++ left c.args.iter.now) (left c.words.iter) c.words.words
    c.words.invariant c.in-Some.word (left c.take_word.new.iter) c.in-Some.ensures.word
    c.in-Some.ensures.rest in
    on_err c.from_residual.result _
    (within_more g.M.Memory.refused _ _ room c.in_err-push_in.ensures.out_of_memory)
