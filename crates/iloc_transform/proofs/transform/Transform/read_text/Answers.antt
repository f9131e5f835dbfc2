use Rattle.std.proofs.Common.{sym, ap, ◌∙◌, Some}
use Rattle.iloc_spec_grammar.specs.Reading.{rest_of}
use Rattle.iloc_subtags.specs.Left.{left}
use Rattle.iloc_other.specs.Singleton.{singleton_at}
use Rattle.iloc_other.proofs.RoomLemmas.{text_room}
use Rattle.iloc_transform.proofs.TransformLemmas.{text_none, text_other, text_reads, text_memory}
use Rattle.iloc_transform.proofs.transform.Transform.read_text.Goals as goal

pub returns-in_default-clause-reads : goal.returns-in_default-clause-reads
returns-in_default-clause-reads g c =
    text_none c.args.code_units.now (c.in_default.ensures.byte ∙ ap singleton_at c.new-iter.ensures)

pub returns-then-ext-ne116-clause-reads : goal.returns-then-ext-ne116-clause-reads
returns-then-ext-ne116-clause-reads g c = text_other c.args.code_units.now c.in-Some.ext
    (c.in-Some.ensures.byte ∙ ap singleton_at c.new-iter.ensures) c.if-ext-ne116.true

pub returns-clause-reads : goal.returns-clause-reads
returns-clause-reads g c = text_reads c.args.code_units.now
    (ap (λ d. Some d) (sym c.if-ext-ne116.false) ∙ c.in-Some.ensures.byte
    ∙ ap singleton_at c.new-iter.ensures)
    (left c.take_singleton.new.iter) (left c.try_from_iter.new.iter)
    (c.in-Some.ensures.rest ∙ ap rest_of c.new-iter.ensures) c.try_from_iter.result
    c.try_from_iter.ensures.reads

pub returns-clause-memory : goal.returns-clause-memory
returns-clause-memory g c = text_memory c.args.code_units.now
    (ap (λ d. Some d) (sym c.if-ext-ne116.false) ∙ c.in-Some.ensures.byte
    ∙ ap singleton_at c.new-iter.ensures)
    (left c.take_singleton.new.iter) (left c.try_from_iter.new.iter)
    (c.in-Some.ensures.rest ∙ ap rest_of c.new-iter.ensures) c.try_from_iter.result
    c.try_from_iter.ensures.memory

pub returns-clause-out_of_memory : goal.returns-clause-out_of_memory
returns-clause-out_of_memory g c = text_room g.M.Memory.refused c.args.code_units.now
    (left c.take_singleton.new.iter) (c.in-Some.ensures.rest ∙ ap rest_of c.new-iter.ensures)
    c.try_from_iter.result c.try_from_iter.ensures.out_of_memory
