use Rattle.std.proofs.Common.{sym, ap, ◌∙◌, subst}
use Rattle.iloc_spec_grammar.specs.Reading.{rest_of}
use Rattle.iloc_spec_parts.specs.Parts.{begins_part, is_letter}
use Rattle.iloc_subtags.specs.Left.{left}
use Rattle.iloc_unicode.specs.UnicodeReads.{UnicodeFills}
use Rattle.iloc_unicode.proofs.UnicodeLemmas.{no_letter, after_letter, TextAnswers, reads_apart, reads_memory, unicode_joined}
use Rattle.iloc_unicode.proofs.RoomLemmas.{runs_out_within, rest_fits}
use Rattle.iloc_unicode.proofs.unicode.Unicode.read_text.Goals as goal
use Rattle.iloc_spec_grammar.specs.Syntax.{code_u}

pub returns-then-not-takes_u-clause-reads : goal.returns-then-not-takes_u-clause-reads
returns-then-not-takes_u-clause-reads g c =
    no_letter c.args.code_units.now (ap (begins_part (is_letter code_u)) (sym c.new-iter.ensures)
    ∙ sym c.takes_u.ensures.u ∙ c.if-not-takes_u.true)

answers : (g : _) (c : goal.After-try_from_iter g) → TextAnswers c.args.code_units.now c.try_from_iter.result
answers g c =
    after_letter c.args.code_units.now (left c.try_from_iter.new.iter) c.try_from_iter.result
    (ap (begins_part (is_letter code_u)) (sym c.new-iter.ensures) ∙ sym c.takes_u.ensures.u
    ∙ c.if-not-takes_u.false)
    (subst (λ ps. UnicodeFills ps (left c.try_from_iter.new.iter) c.try_from_iter.result)
    (c.takes_u.ensures.rest ∙ ap rest_of c.new-iter.ensures)
    (unicode_joined _ _ c.try_from_iter.result c.try_from_iter.ensures.reads c.try_from_iter.ensures.memory))

pub returns-clause-reads : goal.returns-clause-reads
returns-clause-reads g c = reads_apart c.args.code_units.now c.try_from_iter.result (answers g c)

pub returns-clause-memory : goal.returns-clause-memory
returns-clause-memory g c = reads_memory c.args.code_units.now c.try_from_iter.result (answers g c)

pub returns-clause-out_of_memory : goal.returns-clause-out_of_memory
returns-clause-out_of_memory g c =
    runs_out_within g.M.Memory.refused _ _
    (rest_fits c.args.code_units.now _ (c.takes_u.ensures.rest ∙ ap rest_of c.new-iter.ensures))
    c.try_from_iter.result c.try_from_iter.ensures.out_of_memory
