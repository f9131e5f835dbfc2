use Rattle.std.proofs.Common.{◌≡◌, ◌-◌, List, length, Ok, Err, true, sym, ◌∙◌, ap, subst, arith}
use Rattle.std.proofs.lemmas.Result.{err_from_is_err_and}
use Rattle.iloc_spec_grammar.specs.Syntax.{Text, head}
use Rattle.iloc_spec_grammar.specs.Reading.{starts_block, after_head}
use Rattle.iloc_subtags.specs.Left.{left}
use Rattle.iloc_subtags.specs.Judging.{RunsOutOnlyIf}
use Rattle.iloc_langid.specs.Reads.{IdentifierReads, IdentifierWantsMemory}
use Rattle.iloc_extensions.specs.ExtensionsValue.{value_of}
use Rattle.iloc_extensions.specs.Whole.{BlocksReads}
use Rattle.iloc_locale.proofs.ReadLemmas.{after_head_starts, head_refused, blocks_read}
use Rattle.iloc_word_list.proofs.RoomLemmas.{pieces_fit, runs_out_more}
use Rattle.iloc_transform.proofs.RoomLemmas.{passed_on}
use Rattle.iloc_extensions.proofs.RoomLemmas.{after_head_fits}
use Rattle.iloc_locale.proofs.locale.Locale.fill.Goals as goal

pub returns-in_err-fill_head-clause-reads : goal.returns-in_err-fill_head-clause-reads
returns-in_err-fill_head-clause-reads g c =
    let p = err_from_is_err_and c.from_residual.result c.from_residual.ensures.1 in
    rw (p.1, p.2) (head_refused c.args.code_units.now c.in_err-fill_head.field-0.0
    (subst (λ (ps : List Text). IdentifierReads (head ps) (Err c.in_err-fill_head.field-0.0))
    c.new-iter.ensures c.in_err-fill_head.ensures.reads) (subst (λ (ps : List Text).
    RunsOutOnlyIf {X = Unit {0}} (IdentifierWantsMemory (head ps)) (Err c.in_err-fill_head.field-0.0))
    c.new-iter.ensures c.in_err-fill_head.ensures.memory))

pub read_blocks-requires-clause-starts : goal.read_blocks-requires-clause-starts
read_blocks-requires-clause-starts g c = subst (λ (ps : List Text). starts_block ps ≡ true)
    (sym c.in_ok-fill_head.ensures.rest) (after_head_starts (left c.new-iter.result))

pub returns-in_err-fill_head-clause-out_of_memory : goal.returns-in_err-fill_head-clause-out_of_memory
returns-in_err-fill_head-clause-out_of_memory g c =
    let p = err_from_is_err_and c.from_residual.result c.from_residual.ensures.1 in
    let fits = pieces_fit c.args.code_units.now in
    let same = ap length c.new-iter.ensures in
    rw (p.1, p.2) (passed_on (Unit {0}) (Unit {0}) g.M.Memory.refused (length (left c.new-iter.result) - 1)
    (length c.args.code_units.now) (omega (arith, fits, same)) c.in_err-fill_head.field-0.0
    c.in_err-fill_head.ensures.out_of_memory)

pub returns-clause-out_of_memory : goal.returns-clause-out_of_memory
returns-clause-out_of_memory g c =
    let fits = after_head_fits c.args.code_units.now in
    let same = ap length (c.in_ok-fill_head.ensures.rest ∙ ap after_head c.new-iter.ensures) in
    runs_out_more g.M.Memory.refused (length (left c.fill_head.new.iter)) (length c.args.code_units.now)
    (omega (arith, fits, same)) c.read_blocks.result
    c.read_blocks.ensures.out_of_memory

pub returns-clause-reads : goal.returns-clause-reads
returns-clause-reads g c = blocks_read c.args.code_units.now
    (record { id = c.fill_head.new.identifier; extensions = c.read_blocks.new.extensions })
    c.read_blocks.result
    (subst (λ (ps : List Text). IdentifierReads (head ps) (Ok c.fill_head.new.identifier))
    c.new-iter.ensures c.in_ok-fill_head.ensures.reads)
    (subst
    (λ (ps : List Text). BlocksReads ps (value_of c.read_blocks.new.extensions) c.read_blocks.result)
    (c.in_ok-fill_head.ensures.rest ∙ ap after_head c.new-iter.ensures) c.read_blocks.ensures.reads)
