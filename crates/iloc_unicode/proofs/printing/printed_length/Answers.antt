use Rattle.std.proofs.Common.{rules, List, ◌≡◌, ◌∙◌, sym, ap, arith, length, drop, zero-add, Some, None}
use Rattle.std.proofs.lemmas.List.{at_drop_all}
use Rattle.iloc_spec_grammar.specs.Syntax.{Text, join, dashes, fields_pieces}
use Rattle.iloc_spec_grammar.proofs.WordsLaws.{length-unicode_key}
use Rattle.iloc_unicode.proofs.LengthLemmas.{fits, does_not_fit, next_pair, rest_length, sum_is, sum_is_not, whole_length}
use Rattle.iloc_unicode.proofs.printing.printed_length.Goals as goal

pub loop-pair-init : goal.loop-pair-init
loop-pair-init c = record {
  all = zero-add (rest_length 0 c.args.pairs.now) ∙ sym (whole_length c.args.pairs.now);
  few = omega arith;
  fits = omega arith;
}

pub returns-in_err-sum : goal.returns-in_err-sum
returns-in_err-sum c =
    let none : c.from_residual.result ≡ None = search rules in
    let given : c.sum_with.result ≡ None = search rules in
    let big = sum_is_not _ (sym given ∙ c.sum_with.ensures) in
    let pair = c.pair-item.result in
    let next = next_pair c.loop-pair.hyphen c.args.pairs.now c.loop-pair.pair-index pair
    c.loop-pair-test.true c.pair-item.is (length-unicode_key pair.0 c.as_str.ensures.normal.0) in
    let words = ap (λ (ws : List Text). length (dashes ws)) c.as_subtags_slice.ensures.subtags in
    none ∙ does_not_fit _ (omega (arith, big, next, words, c.loop-pair.invariant.all))

pub loop-pair-preserved : goal.loop-pair-preserved
loop-pair-preserved c =
    let given : c.sum_with.result ≡ Some c.in_ok-sum.sum = search rules in
    let sum = sum_is _ _ (sym given ∙ c.sum_with.ensures) in
    let pair = c.pair-item.result in
    let next = next_pair c.loop-pair.hyphen c.args.pairs.now c.loop-pair.pair-index pair
    c.loop-pair-test.true c.pair-item.is (length-unicode_key pair.0 c.as_str.ensures.normal.0) in
    let words = ap (λ (ws : List Text). length (dashes ws)) c.as_subtags_slice.ensures.subtags in
    record {
      all = omega (arith, sum.0, next, words, c.loop-pair.invariant.all);
      few = omega arith;
      fits = omega (arith, sum.0, sum.1);
    }

pub returns : goal.returns
returns c =
    let none : rest_length c.loop-pair.hyphen (drop c.loop-pair.pair-index c.args.pairs.now) ≡ 0 =
    at_drop_all (rest_length c.loop-pair.hyphen) c.args.pairs.now c.loop-pair.pair-index (omega arith) in
    let all : c.loop-pair.sum ≡ length (join (fields_pieces c.args.pairs.now)) =
    omega (arith, none, c.loop-pair.invariant.all) in
    ap Some all ∙ fits (length (join (fields_pieces c.args.pairs.now)))
    (omega (arith, all, c.loop-pair.invariant.fits))
