use Rattle.std.proofs.Common.{◌≡◌, ℕ, ◌<◌, ◌≤◌, ◌++◌, ◌+◌, length, true≢false, refl, arith, false, true, sym, subst}
use Rattle.std.proofs.lemmas.Result.{err_from_is_err_and}
use Rattle.iloc_spec_grammar.specs.Syntax.{Variant, is_word}
use Rattle.iloc_spec_grammar.specs.Reading.{passing}
use Rattle.iloc_memory.specs.Refusals.{RefusedWithin}
use Rattle.iloc_memory.proofs.Within.{within_more}
use Rattle.iloc_subtags.specs.Left.{left}
use Rattle.iloc_word_list.proofs.RoomLemmas.{allows}
use Rattle.iloc_word_list.proofs.CollectorLaws.{known_there, one_more}
use Rattle.iloc_langid.proofs.TakingLemmas.{Taking, taking_few, takes_new, takes_old, takes_much, more_done, more_twice, takes_within}
use Rattle.iloc_langid.proofs.reader.read_more_variants.Goals as goal

pub words-init : goal.words-init
words-init g c = subst (Taking (c.args.four ++ left c.args.iter.now) (left c.args.iter.now))
    (sym c.from_set-words.ensures) (taking_few c.args.four (left c.args.iter.now) c.as_slice.ensures.normal)

pub returns-then-not-branch-clause-reads : goal.returns-then-not-branch-clause-reads
returns-then-not-branch-clause-reads g c = (
  refl,
  takes_old (c.args.four ++ left c.args.iter.now) (left c.words.iter) c.words.words c.words.invariant
      c.in-Some.variant (left c.take_word.new.iter) c.in-Some.ensures.word c.in-Some.ensures.rest
      (known_there c.in-Some.variant c.words.words c.push_in.new.self c.in_ok-push_in.field-0
      c.in_ok-push_in.ensures.taken c.if-not-branch.true),
)

pub words-preserved : goal.words-preserved
words-preserved g c =
    takes_new (c.args.four ++ left c.args.iter.now) (left c.words.iter) c.words.words c.words.invariant
    c.in-Some.variant (left c.take_word.new.iter) c.in-Some.ensures.word c.in-Some.ensures.rest
    c.push_in.new.self (one_more c.in-Some.variant c.words.words c.push_in.new.self c.in_ok-push_in.field-0
    c.in_ok-push_in.ensures.taken c.if-not-branch.false)

not_few : (n : ℕ) → (n ≤ 4 → false ≡ true) → 4 < n
not_few n h = not_less n (λ l. true≢false (sym (h l)))
  where
    not_less : (n : ℕ) → (n ≤ 4 → ⊥) → 4 < n
    not_less n h = omega (arith, h)

pub returns-in_err-push_in-clause-reads : goal.returns-in_err-push_in-clause-reads
returns-in_err-push_in-clause-reads g c =
    let p = err_from_is_err_and c.from_residual.result c.from_residual.ensures.1 in
    rw (p.1, p.2) (takes_much (c.args.four ++ left c.args.iter.now) (left c.words.iter) c.words.words
    c.words.invariant c.in-Some.variant (left c.take_word.new.iter) c.in-Some.ensures.word
    c.in-Some.ensures.rest (not_few _ c.in_err-push_in.ensures.succeeds))

fewer : (a b m n : ℕ) → a ≡ m → b ≡ n → a < b → m < n
fewer a b m n d e l = omega (arith, d, e, l)

not_fewer : (a b m n : ℕ) → a ≡ m → b ≡ n → b ≤ a → m < n → ⊥
not_fewer a b m n d e l h = omega (arith, d, e, l, h)

pub returns-then-len-taken-clause-reads : goal.returns-then-len-taken-clause-reads
returns-then-len-taken-clause-reads g c = (
  refl,
  more_twice (c.args.four ++ left c.args.iter.now) (left c.words.iter) c.words.words
      c.into_set-variants.result c.words.invariant c.in_default.ensures.word c.into_set-variants.ensures
      (fewer _ _ _ _ c.len.ensures c.len-taken.ensures c.if-len-taken.true),
)

pub returns-clause-reads : goal.returns-clause-reads
returns-clause-reads g c =
    more_done (c.args.four ++ left c.args.iter.now) (left c.words.iter) c.words.words
    (left c.take_word.new.iter) c.into_set-variants.result c.words.invariant c.in_default.ensures.word
    c.in_default.ensures.rest c.into_set-variants.ensures
    (not_fewer _ _ _ _ c.len.ensures c.len-taken.ensures c.if-len-taken.false)

pub returns-in_err-push_in-clause-out_of_memory : goal.returns-in_err-push_in-clause-out_of_memory
returns-in_err-push_in-clause-out_of_memory g c =
    let all = c.args.four ++ left c.args.iter.now in
    allows (RefusedWithin g.M.Memory.refused (length (passing (is_word Variant) all)))
    c.from_residual.result (within_more g.M.Memory.refused (length c.words.words + 1)
    (length (passing (is_word Variant) all))
    (takes_within all (left c.words.iter) c.words.words c.words.invariant c.in-Some.variant
    (left c.take_word.new.iter) c.in-Some.ensures.word c.in-Some.ensures.rest)
    c.in_err-push_in.ensures.out_of_memory)
