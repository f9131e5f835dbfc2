use Rattle.std.proofs.Common.{length, sym, ◌∙◌, arith}
use Rattle.std.proofs.lemmas.Result.{err_from_is_err_and}
use Rattle.iloc_subtags.specs.declared.parse_error.ParseError.TheVariants.{InvalidExtension}
use Rattle.iloc_unicode.specs.UnicodeValue as unicode
use Rattle.iloc_subtags.specs.Left.{left}
use Rattle.iloc_extensions.proofs.PartLemmas.{unicode_refused, unicode_over, unicode_whole}
use Rattle.iloc_extensions.proofs.AnswerLemmas.{unicode_goes, unicode_fails, rest_short}
use Rattle.iloc_transform.proofs.RoomLemmas.{passed_on}
use Rattle.iloc_extensions.proofs.taking.take_unicode.Goals as goal

pub returns-in_err-fill_unicode-clause-reads : goal.returns-in_err-fill_unicode-clause-reads
returns-in_err-fill_unicode-clause-reads g c =
    let p = err_from_is_err_and c.from_residual.result c.from_residual.ensures.1 in
    let rest = left c.fill_unicode.new.iter in
    rw (p.1, p.2) (λ start b M a e.
    unicode_fails a e rest rest (record M { unicode = unicode.value_of c.fill_unicode.new.unicode })
    c.in_err-fill_unicode.field-0.0 (unicode_refused (left c.args.iter.now) rest rest
    c.in_err-fill_unicode.field-0.0 c.in_err-fill_unicode.ensures.reads))

pub returns-then-not-is_at_block-clause-reads : goal.returns-then-not-is_at_block-clause-reads
returns-then-not-is_at_block-clause-reads g c =
    let rest = left c.fill_unicode.new.iter in
    λ start b M a e.
    unicode_fails a e rest rest (record M { unicode = unicode.value_of c.fill_unicode.new.unicode })
    InvalidExtension (unicode_over (left c.args.iter.now) rest rest c.fill_unicode.new.unicode
    c.in_ok-fill_unicode.ensures.reads (sym c.is_at_block.ensures ∙ c.if-not-is_at_block.true))

pub returns-clause-reads : goal.returns-clause-reads
returns-clause-reads g c =
    let rest = left c.fill_unicode.new.iter in
    λ start b M a e. unicode_goes a e rest c.fill_unicode.new.unicode
    (unicode_whole (left c.args.iter.now) rest c.fill_unicode.new.unicode c.in_ok-fill_unicode.ensures.reads
    (sym c.is_at_block.ensures ∙ c.if-not-is_at_block.false))

pub returns-clause-shorter : goal.returns-clause-shorter
returns-clause-shorter g c =
    let rest = left c.fill_unicode.new.iter in
    rest_short (left c.args.iter.now) rest
    (unicode_whole (left c.args.iter.now) rest c.fill_unicode.new.unicode c.in_ok-fill_unicode.ensures.reads
    (sym c.is_at_block.ensures ∙ c.if-not-is_at_block.false)).1

pub returns-in_err-fill_unicode-clause-out_of_memory : goal.returns-in_err-fill_unicode-clause-out_of_memory
returns-in_err-fill_unicode-clause-out_of_memory g c =
    let p = err_from_is_err_and c.from_residual.result c.from_residual.ensures.1 in
    let room = length (left c.args.iter.now) in
    rw (p.1, p.2) (passed_on (Unit {0}) (Unit {0}) g.M.Memory.refused room room (omega arith)
    c.in_err-fill_unicode.field-0.0 c.in_err-fill_unicode.ensures.out_of_memory)
