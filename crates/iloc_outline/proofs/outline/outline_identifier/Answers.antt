-- A head that is all of the text is an identifier; one before a block is none.
use Rattle.std.proofs.Common.{take, sym, subst}
use Rattle.std.proofs.lemmas.List.{length-take-le}
use Rattle.iloc_spec_grammar.specs.Syntax.{pieces}
use Rattle.iloc_outline.specs.Outlines.{AreHeadRead}
use Rattle.iloc_outline.specs.declared.outline.Head.TheVariants.{All, Block, Refused}
use Rattle.iloc_outline.proofs.FinishLemmas.{finished_identifier, refused_all, refuses_block}
use Rattle.iloc_outline.proofs.outline.outline_identifier.Goals as goal

pub returns-in-All-clause-outlined : goal.returns-in-All-clause-outlined
returns-in-All-clause-outlined g c =
    let new = c.read_head.new in
    finished_identifier (take c.args.len c.args.window.now) c.in-All.outline new.spans new.in_order
    (subst (λ t. AreHeadRead t new.cursor new.spans new.in_order (All c.in-All.outline))
    c.cursor_in-cursor.ensures.rest c.in-All.ensures.read) c.args.len c.finished.new.spans c.finished.result
    (sym (length-take-le c.args.len c.args.window.now c.requires.inside)) c.finished.ensures

pub returns-in-Block-clause-outlined : goal.returns-in-Block-clause-outlined
returns-in-Block-clause-outlined g c =
    let new = c.read_head.new in
    let h = subst (λ t. AreHeadRead t new.cursor new.spans new.in_order (Block c.in-Block.field-0))
    c.cursor_in-cursor.ensures.rest c.in-Block.ensures.read in
    refuses_block (take c.args.len c.args.window.now) new.cursor c.requires.begins h.3

pub returns-in-Refused-clause-outlined : goal.returns-in-Refused-clause-outlined
returns-in-Refused-clause-outlined g c =
    let new = c.read_head.new in
    refused_all (pieces (take c.args.len c.args.window.now)) c.in-Refused.error
    (subst (λ t. AreHeadRead t new.cursor new.spans new.in_order (Refused c.in-Refused.error))
    c.cursor_in-cursor.ensures.rest c.in-Refused.ensures.read)
