use Rattle.std.proofs.Common.{ℕ, List, ◌+◌, length, Err, sym, ◌∙◌, subst, arith}
use Rattle.std.proofs.lemmas.Result.{err_from_is_err_and}
use Rattle.iloc_subtags.specs.declared.parse_error.ParseError.TheVariants.{InvalidExtension}
use Rattle.iloc_spec_grammar.specs.Syntax.{Text}
use Rattle.iloc_subtags.specs.Left.{left}
use Rattle.iloc_extensions.proofs.PartAnswers.{OtherBlock}
use Rattle.iloc_extensions.proofs.PartLemmas.{other_refused, other_over, other_whole}
use Rattle.iloc_extensions.proofs.AnswerLemmas.{other_fails, other_inserted, at_letter, rest_short, on_any}
use Rattle.iloc_word_list.proofs.RoomLemmas.{runs_out_more}
use Rattle.iloc_transform.proofs.RoomLemmas.{passed_on}
use Rattle.iloc_extensions.proofs.RoomLemmas.{once_refused, one_more}
use Rattle.iloc_extensions.proofs.taking.take_other.Goals as goal

pub returns-in_err-other-clause-reads : goal.returns-in_err-other-clause-reads
returns-in_err-other-clause-reads g c =
    let p = err_from_is_err_and c.from_residual.result c.from_residual.ensures.1 in
    let rest = left c.try_from_iter.new.iter in
    let refused = other_refused c.args.ext (left c.args.iter.now) rest rest c.in_err-other.field-0.0
    c.in_err-other.ensures.reads c.in_err-other.ensures.memory in
    rw (p.1, p.2) (λ start b M a e m. other_fails a (at_letter b c.args.ext e c.requires.other) rest rest
    (record M { others = c.args.others.now.items }) c.in_err-other.field-0.0 (subst
    (λ (q : ℕ). OtherBlock q (left c.args.iter.now) rest (Err c.in_err-other.field-0.0)) (sym e) refused))

pub returns-then-not-is_at_block-clause-reads : goal.returns-then-not-is_at_block-clause-reads
returns-then-not-is_at_block-clause-reads g c =
    let rest = left c.try_from_iter.new.iter in
    let over = other_over c.args.ext (left c.args.iter.now) rest rest c.in_ok-other.other
    c.in_ok-other.ensures.reads (sym c.is_at_block.ensures ∙ c.if-not-is_at_block.true) in
    λ start b M a e m. other_fails a (at_letter b c.args.ext e c.requires.other) rest rest
    (record M { others = c.args.others.now.items }) InvalidExtension
    (subst (λ (q : ℕ). OtherBlock q (left c.args.iter.now) rest (Err InvalidExtension)) (sym e) over)

pub returns-clause-reads : goal.returns-clause-reads
returns-clause-reads g c =
    let rest = left c.try_from_iter.new.iter in
    let whole = other_whole c.args.ext (left c.args.iter.now) rest c.in_ok-other.other
    c.in_ok-other.ensures.reads (sym c.is_at_block.ensures ∙ c.if-not-is_at_block.false) in
    λ start b M a e m. other_inserted a c.args.ext e c.requires.other rest c.in_ok-other.other
    c.args.others.now.items c.insert_other.new.others.items c.insert_other.result whole m
    c.insert_other.ensures.ok c.insert_other.ensures.err

pub returns-clause-shorter : goal.returns-clause-shorter
returns-clause-shorter g c =
    let rest = left c.try_from_iter.new.iter in
    on_any c.insert_other.result (rest_short (left c.args.iter.now) rest
    (other_whole c.args.ext (left c.args.iter.now) rest c.in_ok-other.other c.in_ok-other.ensures.reads
    (sym c.is_at_block.ensures ∙ c.if-not-is_at_block.false)).2)

pub returns-in_err-other-clause-out_of_memory : goal.returns-in_err-other-clause-out_of_memory
returns-in_err-other-clause-out_of_memory g c =
    let p = err_from_is_err_and c.from_residual.result c.from_residual.ensures.1 in
    let left_over = length (left c.args.iter.now) in
    rw (p.1, p.2) (passed_on (ℕ × List Text) (Unit {0}) g.M.Memory.refused left_over
    (length c.args.others.now.items + 1 + left_over)
    (omega arith) c.in_err-other.field-0.0 c.in_err-other.ensures.out_of_memory)

pub returns-clause-out_of_memory : goal.returns-clause-out_of_memory
returns-clause-out_of_memory g c =
    let all = length c.args.others.now.items + 1 in
    runs_out_more g.M.Memory.refused all (all + length (left c.args.iter.now)) (omega arith)
    c.insert_other.result (once_refused _ c.insert_other.result c.insert_other.ensures.out_of_memory)

pub returns-clause-more : goal.returns-clause-more
returns-clause-more g c = one_more c.in_ok-other.other c.args.others.now.items c.insert_other.new.others.items
    c.insert_other.result c.insert_other.ensures.ok
