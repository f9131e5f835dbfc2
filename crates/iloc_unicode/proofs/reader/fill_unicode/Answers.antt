use Rattle.std.proofs.Common.{Err, sym, ◌∙◌}
use Rattle.std.proofs.lemmas.Result.{err_from_is_err_and}
use Rattle.iloc_memory.proofs.Within.{within_more}
use Rattle.iloc_spec_grammar.specs.Syntax.{Attribute, is_word}
use Rattle.iloc_spec_parts.proofs.KeptLaws.{passing_short}
use Rattle.iloc_subtags.specs.Left.{left}
use Rattle.iloc_unicode.proofs.RoomLemmas.{runs_out_within, keywords_within}
use Rattle.iloc_unicode.proofs.UnicodeLemmas.{unicode_read, unicode_empty, keywords_refused}
use Rattle.iloc_unicode.proofs.reader.fill_unicode.Goals as goal

pub returns-in_err-fill_keywords-clause-reads : goal.returns-in_err-fill_keywords-clause-reads
returns-in_err-fill_keywords-clause-reads g c =
    let p = err_from_is_err_and c.from_residual-in_err-fill_keywords.result
    c.from_residual-in_err-fill_keywords.ensures.1 in
    rw (p.1, p.2)
    (keywords_refused (left c.args.iter.now) (left c.fill_attributes.new.iter) (left c.fill_keywords.new.iter)
    (left c.fill_keywords.new.iter) _ c.in_ok-fill_attributes.ensures.rest
    c.in_err-fill_keywords.ensures.reads)

pub returns-then-is_empty-clause-reads : goal.returns-then-is_empty-clause-reads
returns-then-is_empty-clause-reads g c =
    unicode_empty (left c.args.iter.now) (left c.fill_attributes.new.iter) (left c.fill_keywords.new.iter)
    c.fill_attributes.new.attributes c.fill_keywords.new.keywords c.in_ok-fill_attributes.ensures.value
    c.in_ok-fill_attributes.ensures.rest c.in_ok-fill_keywords.ensures.reads
    (sym c.is_empty.ensures ∙ c.if-is_empty.true)

pub returns-clause-reads : goal.returns-clause-reads
returns-clause-reads g c =
    unicode_read (left c.args.iter.now) (left c.fill_attributes.new.iter) (left c.fill_keywords.new.iter)
    c.fill_attributes.new.attributes c.fill_keywords.new.keywords c.in_ok-fill_attributes.ensures.value
    c.in_ok-fill_attributes.ensures.rest c.in_ok-fill_keywords.ensures.reads
    (sym c.is_empty.ensures ∙ c.if-is_empty.false)

pub returns-in_err-fill_attributes-clause-out_of_memory :
    goal.returns-in_err-fill_attributes-clause-out_of_memory
returns-in_err-fill_attributes-clause-out_of_memory g c =
    let p = err_from_is_err_and c.from_residual.result c.from_residual.ensures.1 in
    rw (p.1, p.2) (within_more g.M.Memory.refused _ _
    (passing_short (is_word Attribute) (left c.args.iter.now)) c.in_err-fill_attributes.ensures.out_of_memory)

pub returns-in_err-fill_keywords-clause-out_of_memory :
    goal.returns-in_err-fill_keywords-clause-out_of_memory
returns-in_err-fill_keywords-clause-out_of_memory g c =
    let p = err_from_is_err_and c.from_residual-in_err-fill_keywords.result
    c.from_residual-in_err-fill_keywords.ensures.1 in
    let room = keywords_within (left c.args.iter.now) (left c.fill_attributes.new.iter)
    c.in_ok-fill_attributes.ensures.rest in
    rw (p.1, p.2) (runs_out_within {X = Unit {0}} g.M.Memory.refused _ _ room
    (Err c.in_err-fill_keywords.field-0.0) c.in_err-fill_keywords.ensures.out_of_memory)
