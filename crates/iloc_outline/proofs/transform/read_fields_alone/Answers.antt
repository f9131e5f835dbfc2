-- Fields up to the next block, or what is wrong.
use Rattle.std.proofs.Common.{arith, sym, ◌∙◌}
use Rattle.iloc_outline.proofs.RefusalLemmas.{full_at_block, one_held, refused_before}
use Rattle.iloc_outline.proofs.TransformReading.{alone_read, transform_single}
use Rattle.iloc_outline.proofs.transform.read_fields_alone.Goals as goal

pub returns-then-is_single-clause-read : goal.returns-then-is_single-clause-read
returns-then-is_single-clause-read g c = λ c' e spanned.
    transform_single c' c.args.start c.args.cursor.now e c.requires.alone c.args.cursor.now c.args.spans.now
    c.args.spans.now
    c.args.in_order.now c.args.in_order.now
    (sym c.is_single.ensures ∙ c.if-is_single.true)

pub returns-clause-read : goal.returns-clause-read
returns-clause-read g c = grind (arith, alone_read)

pub returns-clause-refused : goal.returns-clause-refused
returns-clause-refused g c = λ e.
    refused_before _ c.args.spans.now c.put.new.spans _ _
    (omega (arith, one_held c.args.spans.now c.put.new.spans _ (c.put.ensures.put c.if-not-put.false)))
    (c.read_fields.ensures.refused
    (full_at_block c.read_fields.new.cursor c.read_fields.result c.at_block.result c.at_block.ensures e))
