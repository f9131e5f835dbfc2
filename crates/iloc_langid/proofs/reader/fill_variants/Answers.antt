use Rattle.std.proofs.Common.{Ok, ◌++◌, length, ap, subst, sym, ◌∙◌}
use Rattle.iloc_spec_grammar.specs.Syntax.{Variant, is_word}
use Rattle.iloc_spec_grammar.specs.Reading.{passing}
use Rattle.iloc_memory.specs.Refusals.{RefusedWithin}
use Rattle.iloc_subtags.specs.Judging.{RunsOutOnlyIf}
use Rattle.iloc_subtags.specs.Left.{left}
use Rattle.iloc_subtags.proofs.PeekLemmas.{ends_before}
use Rattle.iloc_langid.specs.Reads.{VariantsReads}
use Rattle.iloc_langid.proofs.TakingLemmas.{one_variant, one_before}
use Rattle.iloc_langid.proofs.reader.fill_variants.Goals as goal

pub returns-clause-reads : goal.returns-clause-reads
returns-clause-reads g c =
    subst (λ vs. VariantsReads (left c.args.iter.now) (left c.take_word.new.iter) (Ok vs))
    (sym c.from_variant.ensures)
    (one_variant (left c.args.iter.now) (left c.take_word.new.iter) c.in-Some.first c.in-Some.ensures.word
    c.in-Some.ensures.rest
    (ends_before Variant _ (sym c.next_has_length.ensures ∙ c.if-next_has_length.false)))

pub returns-then-next_has_length-clause-out_of_memory : goal.returns-then-next_has_length-clause-out_of_memory
returns-then-next_has_length-clause-out_of_memory g c =
    let rest = left c.take_word.new.iter in
    subst (λ n. RunsOutOnlyIf (RefusedWithin g.M.Memory.refused n) c.add_variants.result)
    (ap (λ vs. length (passing (is_word Variant) (vs ++ rest))) c.from_variant.ensures
    ∙ one_before (left c.args.iter.now) rest c.in-Some.first c.in-Some.ensures.word c.in-Some.ensures.rest)
    c.add_variants.ensures.out_of_memory
