use Rattle.std.proofs.Common.{◌∙◌, ◌++◌, ◌+◌, List, length, refl, ap, subst, Ok, Err}
use Rattle.std.proofs.lemmas.Result.{err_from_is_err_and}
use Rattle.iloc_spec_grammar.specs.Syntax.{Text, Variant, is_word}
use Rattle.iloc_spec_grammar.specs.Reading.{passing}
use Rattle.iloc_memory.specs.Refusals.{RefusedWithin}
use Rattle.iloc_memory.proofs.Within.{within_more}
use Rattle.iloc_subtags.specs.Judging.{RunsOutOnlyIf}
use Rattle.iloc_subtags.specs.Left.{left}
use Rattle.iloc_word_list.proofs.RoomLemmas.{allows}
use Rattle.iloc_langid.specs.Reads.{VariantsReads}
use Rattle.iloc_langid.proofs.TakingLemmas.{few_known, few_new, few_more, few_many, few_old, few_done, takes_within}
use Rattle.iloc_langid.proofs.reader.add_variants.Goals as goal

pub few-init : goal.few-init
few-init g c = few_known c.args.variants.now (left c.args.iter.now) c.as_slice.ensures.normal
    c.as_slice.ensures.ascending c.requires

pub few-preserved : goal.few-preserved
few-preserved g c =
    few_new (c.args.variants.now ++ left c.args.iter.now) (left c.few.iter) c.few.variants c.few.invariant
    c.in-Some.variant (left c.take_word.new.iter) c.in-Some.ensures.word c.in-Some.ensures.rest
    c.push_in.new.self c.in_ok-push_in.field-0 c.in_ok-push_in.ensures.added c.in_ok-push_in.ensures.ok
    c.if-not-branch.false (λ e. c.if-len-eq4.false (c.len.ensures ∙ e))

pub returns-then-not-branch-clause-reads : goal.returns-then-not-branch-clause-reads
returns-then-not-branch-clause-reads g c = (
  refl,
  few_old (c.args.variants.now ++ left c.args.iter.now) (left c.few.iter) c.few.variants c.few.invariant
      c.in-Some.variant (left c.take_word.new.iter) c.in-Some.ensures.word c.in-Some.ensures.rest
      c.push_in.new.self c.in_ok-push_in.field-0 c.in_ok-push_in.ensures.added c.in_ok-push_in.ensures.ok
      c.if-not-branch.true,
)

pub returns-then-len-eq4-clause-reads : goal.returns-then-len-eq4-clause-reads
returns-then-len-eq4-clause-reads g c =
    few_more (c.args.variants.now ++ left c.args.iter.now) (left c.few.iter) c.few.variants c.few.invariant
    c.in-Some.variant (left c.take_word.new.iter) c.in-Some.ensures.word c.in-Some.ensures.rest
    c.push_in.new.self c.in_ok-push_in.field-0 c.in_ok-push_in.ensures.added c.in_ok-push_in.ensures.ok
    c.if-not-branch.false (left c.read_more_variants.new.iter) (Ok c.in_ok-variants.field-0)
    (subst (λ vs. VariantsReads (vs ++ left c.take_word.new.iter) (left c.read_more_variants.new.iter)
    (Ok c.in_ok-variants.field-0)) c.clear-four.ensures.old c.in_ok-variants.ensures.reads)

pub returns-in_err-variants-clause-reads : goal.returns-in_err-variants-clause-reads
returns-in_err-variants-clause-reads g c =
    let p =
    err_from_is_err_and c.from_residual-in_err-variants.result c.from_residual-in_err-variants.ensures.1 in
    rw (p.1, p.2)
    (few_more (c.args.variants.now ++ left c.args.iter.now) (left c.few.iter) c.few.variants c.few.invariant
    c.in-Some.variant (left c.take_word.new.iter) c.in-Some.ensures.word c.in-Some.ensures.rest
    c.push_in.new.self c.in_ok-push_in.field-0 c.in_ok-push_in.ensures.added c.in_ok-push_in.ensures.ok
    c.if-not-branch.false (left c.read_more_variants.new.iter) (Err c.in_err-variants.field-0.0)
    (subst (λ vs. VariantsReads (vs ++ left c.take_word.new.iter) (left c.read_more_variants.new.iter)
    (Err c.in_err-variants.field-0.0)) c.clear-four.ensures.old c.in_err-variants.ensures.reads))

pub returns-clause-reads : goal.returns-clause-reads
returns-clause-reads g c =
    few_done (c.args.variants.now ++ left c.args.iter.now) (left c.few.iter) c.few.variants
    (left c.take_word.new.iter) c.few.invariant c.in_default.ensures.word c.in_default.ensures.rest

pub returns-in_err-push_in-clause-out_of_memory : goal.returns-in_err-push_in-clause-out_of_memory
returns-in_err-push_in-clause-out_of_memory g c =
    let all = c.args.variants.now ++ left c.args.iter.now in
    allows (RefusedWithin g.M.Memory.refused (length (passing (is_word Variant) all)))
    c.from_residual.result (within_more g.M.Memory.refused (length c.few.variants + 1)
    (length (passing (is_word Variant) all))
    (takes_within all (left c.few.iter) c.few.variants c.few.invariant.taking c.in-Some.variant
    (left c.take_word.new.iter) c.in-Some.ensures.word c.in-Some.ensures.rest)
    c.in_err-push_in.ensures.out_of_memory)

pub returns-in_err-variants-clause-out_of_memory : goal.returns-in_err-variants-clause-out_of_memory
returns-in_err-variants-clause-out_of_memory g c =
    let all = c.args.variants.now ++ left c.args.iter.now in
    let p =
    err_from_is_err_and c.from_residual-in_err-variants.result c.from_residual-in_err-variants.ensures.1 in
    rw (p.1, p.2)
    (subst (λ n. RunsOutOnlyIf {X = List Text} (RefusedWithin g.M.Memory.refused n)
    (Err c.in_err-variants.field-0.0))
    (ap (λ vs. length (passing (is_word Variant) (vs ++ left c.take_word.new.iter))) c.clear-four.ensures.old
    ∙ few_many all (left c.few.iter) c.few.variants c.few.invariant c.in-Some.variant
    (left c.take_word.new.iter) c.in-Some.ensures.word c.in-Some.ensures.rest c.push_in.new.self
    c.in_ok-push_in.field-0 c.in_ok-push_in.ensures.added c.in_ok-push_in.ensures.ok c.if-not-branch.false)
    c.in_err-variants.ensures.out_of_memory)
